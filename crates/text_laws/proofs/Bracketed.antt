-- Operands in brackets and targets, as they are read.
use Rattle.std.proofs.Common.{◌≡◌, ℕ, ◌-◌, ◌<◌, true, false, not, ◌&&◌, cond, List, [], ◌∷◌, ◌++◌, refl, ap, ◌∙◌, arith, length, take}
use Rattle.std.proofs.Common.{length-append}
use Rattle.std.specs.Prelude.{Err, ◌==◌, nat_lt, slice_index}
use Rattle.std.specs.List.{prefix_len}
use Rattle.std.proofs.lemmas.Bool.Decides.{nat_tests}
use Rattle.isa_rows.specs.declared.slots.Naming.{Naming}
use Rattle.isa_rows.specs.declared.slots.Slot.TheVariants.{Address, Authority}
use Rattle.asm_names.specs.Registers.{register_named}
use Rattle.asm_lines.specs.declared.fault.LineFault.TheVariants.{A2}
use Rattle.asm_lines.specs.Text.{trimmed, trimmed_start}
use Rattle.asm_lines.specs.Number.{number_of, named_plus, named_minus, named_expression, expression_of}
use Rattle.asm_lines.specs.Operand.{Draft, signed_12, with_rs1, with_address, before_bracket, in_brackets, has_brackets, displacement}
use Rattle.asm_lines.specs.Operand.{filled_slot}
use Rattle.text_laws.proofs.Cut.{every, every_at, prefix_stop, before_stop, after_stop, take_front, last, last-append, trimmed_start_back}
use Rattle.text_laws.proofs.Cut.{trimmed_back, is_plain, plain_blank, IsPlain}

-- a text, and another in brackets after it
abbrev pub bracketed : List ℕ → List ℕ → List ℕ
bracketed s r = s ++ 40 ∷ (r ++ 41 ∷ [])

brackets_there : (s r : List ℕ) → every (λ b. not (b == 40)) s ≡ true → has_brackets (bracketed s r) ≡ true
brackets_there s r h =
    let place = prefix_stop (λ b. not (b == 40)) s 40 (r ++ 41 ∷ []) h refl in
    let size = length-append s (40 ∷ (r ++ 41 ∷ [])) in
    let inner = length-append r (41 ∷ []) in
    let end : last (bracketed s r) ≡ 41 =
    last-append s (40 ∷ (r ++ 41 ∷ [])) (omega arith) ∙ last-append (40 ∷ []) (r ++ 41 ∷ []) (omega arith)
    ∙ last-append r (41 ∷ []) (omega arith) in
    let open_there : nat_lt (prefix_len (λ b. not (b == 40)) (bracketed s r)) (length (bracketed s r)) ≡ true = grind (arith, nat_tests) in
    let close_there : (slice_index (bracketed s r) (length (bracketed s r) - 1) == 41) ≡ true = grind (arith, nat_tests) in
    rw (open_there, close_there) refl

bracket_before : (s r : List ℕ) → every (λ b. not (b == 40)) s ≡ true → before_bracket (bracketed s r) ≡ trimmed s
bracket_before s r h = ap trimmed (before_stop (λ b. b == 40) s 40 (r ++ 41 ∷ []) h refl)

bracket_inside : (s r : List ℕ) → every (λ b. not (b == 40)) s ≡ true → IsPlain r → in_brackets (bracketed s r) ≡ r
bracket_inside s r h k =
    let after = after_stop (λ b. b == 40) s 40 (r ++ 41 ∷ []) h refl in
    let size : length (r ++ 41 ∷ []) - 1 ≡ length r = omega (arith, length-append r (41 ∷ [])) in
    ap (λ t. trimmed (take (length t - 1) t)) after ∙ ap (λ j. trimmed (take j (r ++ 41 ∷ []))) size ∙ ap trimmed (take_front r (41 ∷ []))
    ∙ trimmed_back r k

displacement_some : (s : List ℕ) → 0 < length s → displacement s ≡ number_of s
displacement_some [] h = absurd (omega arith)
displacement_some (b ∷ bs) h = refl

pub address_filled : (naming : Naming) (s r : List ℕ) (d : Draft) → every (λ b. not (b == 40)) s ≡ true → IsPlain s → IsPlain r
    → filled_slot (Address naming) (bracketed s r) d ≡ with_address d (register_named r) (signed_12 (number_of s))
unfolding filled_slot
address_filled naming s r d h p q =
    ap (λ t. cond t
    (with_address d (register_named (in_brackets (bracketed s r))) (signed_12 (displacement (before_bracket (bracketed s r))))) (Err A2))
    (brackets_there s r h)
    ∙ ap (λ x. with_address d (register_named x) (signed_12 (displacement (before_bracket (bracketed s r))))) (bracket_inside s r h q)
    ∙ ap (λ x. with_address d (register_named r) (signed_12 (displacement x))) (bracket_before s r h ∙ trimmed_back s p)
    ∙ ap (λ x. with_address d (register_named r) (signed_12 x)) (displacement_some s p.some)

pub authority_filled : (naming : Naming) (r : List ℕ) (d : Draft) → IsPlain r
    → filled_slot (Authority naming) (bracketed [] r) d ≡ with_rs1 d (register_named r)
unfolding filled_slot
authority_filled naming r d q =
    ap (λ t. cond (t && (length (before_bracket (bracketed [] r)) == 0)) (with_rs1 d (register_named (in_brackets (bracketed [] r))))
    (Err A2)) (brackets_there [] r refl)
    ∙ ap (λ x. cond (length x == 0) (with_rs1 d (register_named (in_brackets (bracketed [] r)))) (Err A2)) (bracket_before [] r refl)
    ∙ ap (λ x. with_rs1 d (register_named x)) (bracket_inside [] r refl q)

start_back : (text : List ℕ) → IsPlain text → trimmed_start text ≡ text
start_back [] h = absurd (omega (arith, h.some))
start_back (b ∷ bs) h = trimmed_start_back b bs (plain_blank b (every_at is_plain (b ∷ bs) 0 0 h.bytes h.some))

-- the place of the statement with a number added, and taken away
pub expression_plus : (ds : List ℕ) → IsPlain ds → expression_of (46 ∷ 43 ∷ ds) ≡ named_plus (46 ∷ []) (number_of ds)
unfolding expression_of named_expression
expression_plus ds h =
    let some : nat_lt 0 (length (46 ∷ 43 ∷ ds)) ≡ true = grind (arith, nat_tests) in
    let more : (1 == length (46 ∷ 43 ∷ ds)) ≡ false = grind (arith, nat_tests) in
    let same = start_back ds h in
    rw (some, more, same) refl

pub expression_minus : (ds : List ℕ) → IsPlain ds → expression_of (46 ∷ 45 ∷ ds) ≡ named_minus (46 ∷ []) (number_of ds)
unfolding expression_of named_expression
expression_minus ds h =
    let some : nat_lt 0 (length (46 ∷ 45 ∷ ds)) ≡ true = grind (arith, nat_tests) in
    let more : (1 == length (46 ∷ 45 ∷ ds)) ≡ false = grind (arith, nat_tests) in
    let same = start_back ds h in
    rw (some, more, same) refl
