-- A label with a number added to it or taken away from it, as it is written.
use Rattle.std.proofs.Common.{◌≡◌, ℕ, zero, suc, ◌+◌, ◌<◌, Bool, true, false, ◌&&◌, ◌||◌, List, [], ◌∷◌, length, get_or, refl, ap, ◌∙◌}
use Rattle.std.proofs.Common.{arith, Option, Some, None}
use Rattle.std.specs.Prelude.{◌==◌, nat_lt, not, if◌then◌else◌, take, drop, slice_index, Result, Ok, Err, ℤ, pos}
use Rattle.std.specs.Option.{option_or}
use Rattle.std.specs.List.{prefix_len}
use Rattle.std.proofs.lemmas.Bool.Decides.{nat_tests}
use Rattle.std.proofs.lemmas.List.Sums.{prefix_len_is, prefix_len_passes}
use Rattle.asm_lines.specs.declared.fault.LineFault.{LineFault}
use Rattle.asm_lines.specs.declared.fault.LineFault.TheVariants.{A2}
use Rattle.asm_lines.specs.Text.{begins_name, continues_name, is_name, trimmed_end, trimmed_start}
use Rattle.asm_lines.specs.Number.{Expression, expression, expression_of, is_sign, named_expression, named_minus, named_plus}
use Rattle.asm_lines.specs.Number.{number_of, numbered, sign_place}
use Rattle.symbols.specs.Symbols.{Symbol, address_of, is_label}
use Rattle.debug_commands.specs.Address.{beside_label, moved}

-- without labels there is nothing beside one
pub none-beside : (r : Result Expression LineFault) → beside_label [] r ≡ None
none-beside (Err fault) = refl
none-beside (Ok e) = none e.name
  where
    none : (name : Option (List ℕ)) → beside_label [] (Ok (expression name e.offset)) ≡ None
    none None = refl
    none (Some name) = refl

-- ---- a name has no sign in it

unsigned : (b : ℕ) → continues_name b ≡ true → not (is_sign b) ≡ true
unsigned b h = grind (arith, nat_tests)

and_right : (a b : Bool) → (a && b) ≡ true → b ≡ true
and_right true b h = h
and_right false b h = absurd (cc)

or_left : (a b : Bool) → a ≡ true → (a || b) ≡ true
or_left true b h = refl
or_left false b h = absurd (cc)

and_left : (a b : Bool) → (a && b) ≡ true → a ≡ true
and_left true b h = refl
and_left false b h = absurd (cc)

same : (a b : ℕ) → a == b ≡ true → a ≡ b
same a b h = grind (arith, nat_tests)

goes_on : (name : List ℕ) → is_name name ≡ true → (k : ℕ) → k < length name → continues_name (get_or name k 0) ≡ true
goes_on [] h k below = absurd (cc)
goes_on (b ∷ bs) h zero below = or_left (begins_name b) _ (and_left (begins_name b) _ h)
goes_on (b ∷ bs) h (suc k) below =
    let all = same (prefix_len continues_name bs) (length bs) (and_right (begins_name b) _ h) in
    prefix_len_passes continues_name bs k 0 (omega (arith, all, below))

pub whole-name : (name : List ℕ) → is_name name ≡ true → sign_place name ≡ length name
whole-name name h =
    prefix_len_is (λ b. not (is_sign b)) name (length name) 0 (omega arith)
    (λ k below. unsigned (get_or name k 0) (goes_on name h k below)) (λ below. absurd (omega (arith, below)))

-- ---- a name alone is nothing beside a label that isn't there

cond_beside : (symbols : List Symbol) (b : Bool) (x y : Result Expression LineFault) → beside_label symbols x ≡ None
    → beside_label symbols y ≡ None → beside_label symbols (if b then x else y) ≡ None
cond_beside symbols true x y one other = one
cond_beside symbols false x y one other = other

if_true : {A : Type 0} (b : Bool) (x y : A) → b ≡ true → (if b then x else y) ≡ x
if_true true x y h = refl
if_true false x y h = absurd (cc)

equal : (n m : ℕ) → n ≡ m → n == m ≡ true
equal n m h = grind (arith, nat_tests)

module _ (text : List ℕ) where
  abbrev name : List ℕ
  name = trimmed_end (take (sign_place text) text)

  abbrev amount : Result ℤ LineFault
  amount = number_of (trimmed_start (drop (sign_place text + 1) text))

  abbrev beside : Result Expression LineFault
  beside = if slice_index text (sign_place text) == 43 then named_plus name amount else named_minus name amount

  abbrev alone : Result Expression LineFault
  alone = Ok (expression (Some text) (pos 0))

  name-alone : (symbols : List Symbol) → is_name text ≡ true → address_of symbols text ≡ None
      → beside_label symbols (named_expression text) ≡ None
  unfolding named_expression
  name-alone symbols h none =
      cond_beside symbols (not (is_name name)) (Err A2) (if sign_place text == length text then alone else beside) refl
      (ap (beside_label symbols)
      (if_true (sign_place text == length text) alone beside (equal (sign_place text) (length text) (whole-name text h)))
      ∙ ap (moved (pos 0)) none)

no-number : (symbols : List Symbol) (r : Result ℤ LineFault) → beside_label symbols (numbered r) ≡ None
no-number symbols (Ok n) = refl
no-number symbols (Err fault) = refl

pub label-alone : (symbols : List Symbol) (text : List ℕ) → is_label text ≡ true → (found : Option ℕ) → address_of symbols text ≡ found
    → option_or found (beside_label symbols (expression_of text)) ≡ found
unfolding is_label expression_of
label-alone symbols text h (Some address) e = refl
label-alone symbols text h None e =
    cond_beside symbols (nat_lt 0 (length text) && begins_name (slice_index text 0)) (named_expression text) (numbered (number_of text))
    (name-alone text symbols (and_left (is_name text) _ h) e) (no-number symbols (number_of text))
