-- Registers that are shown are read as themselves.
use Rattle.std.proofs.Common.{◌≡◌, ℕ, zero, suc, ◌<◌, ◌≤◌, inl, inr, Bool, true, false, ◌&&◌, List, [], ◌∷◌, Option, Some, None, refl, sym}
use Rattle.std.proofs.Common.{ap, subst, ◌∙◌, arith, length}
use Rattle.std.specs.Prelude.{pos, Ok, nat_lt, is_none, slice_get, decimal}
use Rattle.std.specs.Fmt.{digits}
use Rattle.std.proofs.lemmas.Bool.Decides.{nat_tests}
use Rattle.std.proofs.Math.Nat.{eq-or-lt_of_le}
use Rattle.isa_rows.specs.declared.slots.Naming.{Naming}
use Rattle.asm_names.specs.Registers.{register_name, register_named, integer_names, capability_names}
use Rattle.base.specs.Registers.{csrs, special_registers}
use Rattle.asm_names.specs.SpecialNames.{name_in, csr_name, csr_named, scr_name, scr_named}
use Rattle.asm_names.specs.NameLaws.{register_named-register_name, csr_named-csr_name, scr_named-scr_name}
use Rattle.asm_lines.specs.Number.{number_of}
use Rattle.asm_lines.specs.Operand.{up_to, named_or}
use Rattle.texts.specs.Hex.{short_hex}
use Rattle.disassembler.specs.Shown.{is_capability, name_or, shown_register}
use Rattle.text_laws.proofs.Cut.{every, is_plain, IsPlain}
use Rattle.disassembler.specs.LengthLaws.{register_name_short, csr_name_short, scr_name_short}
use Rattle.texts.specs.HexLaws.{length_hex_16}
use Rattle.text_laws.proofs.Numbers.{number_decimal, number_short_hex, plain_decimal, plain_short_hex, short_decimal}

abbrev is_plain_name : List ℕ → Bool
is_plain_name text = nat_lt 0 (length text) && every is_plain text

plain_name : (text : List ℕ) → is_plain_name text ≡ true → IsPlain text
plain_name text h = record { some = grind (arith, nat_tests); bytes = grind (arith, nat_tests) }

-- a name of a list
record NameAt (name : Option (List ℕ)) : Type 0 where
  text : List ℕ
  is : name ≡ Some text
  plain : IsPlain text

abbrev are_plain_names : List (List ℕ) → Bool
are_plain_names [] = true
are_plain_names (name ∷ names) = is_plain_name name && are_plain_names names

name_at : (names : List (List ℕ)) (n : ℕ) → are_plain_names names ≡ true → n < length names → NameAt (slice_get names n)
name_at [] n h l = absurd (omega arith)
name_at (name ∷ names) zero h l = record { text = name; is = refl; plain = plain_name name (grind (arith, nat_tests)) }
name_at (name ∷ names) (suc n) h l = name_at names n (grind (arith, nat_tests)) (omega arith)

register_at : (capability : Bool) (n : ℕ) → n < 32 → NameAt (register_name capability n)
register_at true n h = name_at capability_names n refl h
register_at false n h = name_at integer_names n refl h

pub register_back : (mode : Bool) (naming : Naming) (n : ℕ) → n < 32 → register_named (shown_register mode naming n) ≡ Some n
register_back mode naming n h =
    let r = register_at (is_capability mode naming) n h in
    ap (λ o. register_named (name_or [] o)) r.is ∙ register_named-register_name (is_capability mode naming) n r.text r.is

pub plain_register : (mode : Bool) (naming : Naming) (n : ℕ) → n < 32 → IsPlain (shown_register mode naming n)
plain_register mode naming n h =
    let r = register_at (is_capability mode naming) n h in
    subst (λ o. IsPlain (name_or [] o)) (sym r.is) r.plain

pub short_register : (mode : Bool) (naming : Naming) (n : ℕ) → n < 32 → length (shown_register mode naming n) ≤ 5
short_register mode naming n h =
    let r = register_at (is_capability mode naming) n h in
    subst (λ o. length (name_or [] o) ≤ 5) (sym r.is) (register_name_short (is_capability mode naming) n r.text r.is)

-- a number in range
pub up_to_back : (most n : ℕ) → n ≤ most → up_to most (Ok (pos n)) ≡ Ok (pos n)
up_to_back most n h = grind (arith, nat_tests)

abbrev are_plain_pairs : List (ℕ × List ℕ) → Bool
are_plain_pairs [] = true
are_plain_pairs (p ∷ ps) = is_plain_name p.1 && are_plain_pairs ps

plain_in : (names : List (ℕ × List ℕ)) (n : ℕ) (text : List ℕ) → are_plain_pairs names ≡ true → name_in names n ≡ Some text
    → is_plain_name text ≡ true
plain_in [] n text h e = cc
plain_in (p ∷ ps) n text h e =
    let here : is_plain_name p.1 ≡ true = grind (arith, nat_tests) in
    let rest : are_plain_pairs ps ≡ true = grind (arith, nat_tests) in
    let later = plain_in ps n text rest in
    grind (arith, nat_tests, here, later)

plain_csr_name : (n : ℕ) (text : List ℕ) → csr_name n ≡ Some text → IsPlain text
unfolding csr_name
plain_csr_name n text e = plain_name text (plain_in csrs n text refl e)

plain_scr_name : (n : ℕ) (text : List ℕ) → scr_name n ≡ Some text → IsPlain text
unfolding scr_name
plain_scr_name n text e = plain_name text (plain_in special_registers n text refl e)

-- no name begins with a digit
csr_named_hex : (ds : List ℕ) → csr_named (48 ∷ 120 ∷ ds) ≡ None
unfolding csr_named
csr_named_hex ds = refl

abbrev all_below : (ℕ → Bool) → ℕ → Bool
all_below p zero = true
all_below p (suc n) = p n && all_below p n

below_passes : (p : ℕ → Bool) (m n : ℕ) → all_below p m ≡ true → n < m → p n ≡ true
below_passes p zero n h l = absurd (omega arith)
below_passes p (suc m) n h l =
    let here : p m ≡ true = grind (arith, nat_tests) in
    let rest = below_passes p m n (grind (arith, nat_tests)) in
    elim (eq-or-lt_of_le {n = n} {m = m} (omega arith)) [
      | inl e ↦ ap p e ∙ here
      | inr k ↦ rest k
    ]

is_none-None : (o : Option ℕ) → is_none o ≡ true → o ≡ None
is_none-None (Some n) h = cc
is_none-None None h = refl

scrs_begin_with_no_digit : all_below (λ n. is_none (scr_named (decimal n))) 32 ≡ true
unfolding scr_named digits
scrs_begin_with_no_digit = refl

scr_named_decimal : (n : ℕ) → n < 32 → scr_named (decimal n) ≡ None
scr_named_decimal n h =
    is_none-None (scr_named (decimal n)) (below_passes (λ n. is_none (scr_named (decimal n))) 32 n scrs_begin_with_no_digit h)

-- control and status registers, special capability registers
pub csr_back : (n : ℕ) → n < 4096
    → named_or (csr_named (name_or (short_hex n) (csr_name n))) (up_to 4095 (number_of (name_or (short_hex n) (csr_name n)))) ≡ Ok (pos n)
csr_back n h =
    elim (csr_name n) as
    (λ o. csr_name n ≡ o → named_or (csr_named (name_or (short_hex n) o)) (up_to 4095 (number_of (name_or (short_hex n) o))) ≡ Ok (pos n)) [
      | Some text ↦ λ e. ap (λ o. named_or o (up_to 4095 (number_of text))) (csr_named-csr_name n text e)
      | None ↦ λ e.
          ap (λ o. named_or o (up_to 4095 (number_of (short_hex n)))) (csr_named_hex (digits 16 false n))
          ∙ ap (up_to 4095) (number_short_hex n (omega arith)) ∙ up_to_back 4095 n (omega arith)
    ] refl

pub plain_csr : (n : ℕ) → n < 4096 → IsPlain (name_or (short_hex n) (csr_name n))
plain_csr n h =
    elim (csr_name n) as (λ o. csr_name n ≡ o → IsPlain (name_or (short_hex n) o)) [
      | Some text ↦ λ e. plain_csr_name n text e
      | None ↦ λ e. plain_short_hex n (omega arith)
    ] refl

pub short_csr : (n : ℕ) → n < 4096 → length (name_or (short_hex n) (csr_name n)) ≤ 18
short_csr n h =
    elim (csr_name n) as (λ o. csr_name n ≡ o → length (name_or (short_hex n) o) ≤ 18) [
      | Some text ↦ λ e. csr_name_short n text e
      | None ↦ λ e. let k = length_hex_16 n (omega arith) in omega arith
    ] refl

pub scr_back : (n : ℕ) → n < 32
    → named_or (scr_named (name_or (decimal n) (scr_name n))) (up_to 31 (number_of (name_or (decimal n) (scr_name n)))) ≡ Ok (pos n)
scr_back n h =
    elim (scr_name n) as
    (λ o. scr_name n ≡ o → named_or (scr_named (name_or (decimal n) o)) (up_to 31 (number_of (name_or (decimal n) o))) ≡ Ok (pos n)) [
      | Some text ↦ λ e. ap (λ o. named_or o (up_to 31 (number_of text))) (scr_named-scr_name n text e)
      | None ↦ λ e.
          ap (λ o. named_or o (up_to 31 (number_of (decimal n)))) (scr_named_decimal n h)
          ∙ ap (up_to 31) (number_decimal n (omega arith)) ∙ up_to_back 31 n (omega arith)
    ] refl

pub plain_scr : (n : ℕ) → n < 32 → IsPlain (name_or (decimal n) (scr_name n))
plain_scr n h =
    elim (scr_name n) as (λ o. scr_name n ≡ o → IsPlain (name_or (decimal n) o)) [
      | Some text ↦ λ e. plain_scr_name n text e
      | None ↦ λ e. plain_decimal n (omega arith)
    ] refl

pub short_scr : (n : ℕ) → n < 32 → length (name_or (decimal n) (scr_name n)) ≤ 20
short_scr n h =
    elim (scr_name n) as (λ o. scr_name n ≡ o → length (name_or (decimal n) o) ≤ 20) [
      | Some text ↦ λ e. scr_name_short n text e
      | None ↦ λ e. short_decimal n (omega arith)
    ] refl
