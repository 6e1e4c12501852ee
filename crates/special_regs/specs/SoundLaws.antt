-- Special registers that are sound and in range give what is sound and in range, and stay so.
use Rattle.std.proofs.Common.{◌≡◌, ℕ, ◌+◌, ◌*◌, ◌/◌, ◌%◌, ◌^◌, ◌<◌, Bool, true, false, eqb, ltb}
use Rattle.std.proofs.Common.{cond, List, [], ◌∷◌, Some, arith, lit<, refl, ◌∙◌, length}
use Rattle.std.proofs.lemmas.List.{length-set}
use Rattle.std.specs.Prelude.{IfSome, bit_and, zero, suc, None, Option, option_map, slice_index, slice_set, replicate}
use Rattle.std.specs.List.{list_all}
use Rattle.std.specs.Option.{option_or}
use Rattle.base.specs.Registers.{held}
use Rattle.base.specs.declared.registers.Holds.{Holds}
use Rattle.base.specs.declared.registers.Holds.TheVariants.{Written, Fixed, Part}
use Rattle.base.specs.declared.registers.TheConstants.{CSRS}
use Rattle.std.proofs.lemmas.Nat.{and_le_l, mod_below, pow_pos}
use Rattle.std.proofs.lemmas.Bool.{and_parts, cond_both, eqb-true, ltb-true}
use Rattle.base.specs.declared.fault.Fault.{Fault}
use Rattle.base.specs.FaultLaws.{IsInRange}
use Rattle.base.specs.declared.registers.csr.TheConstants.{MIE, MTVEC, MEPC, MCAUSE, MTVAL, MCYCLE, MINSTRET}
use Rattle.base.specs.declared.registers.scr.TheConstants.{DDC, MTCC, MTDC, MSCRATCHC, MEPCC}
use Rattle.cap_bounds.specs.CapValue.{CapValue, IsSound, value_address}
use Rattle.cap_bounds.specs.WordLaws.{bit-small}
use Rattle.cap_bounds.specs.SetAddress.{at_address}
use Rattle.cap_bounds.specs.AddressLaws.{value_address-at_address}
use Rattle.cap_bounds.specs.SoundLaws.{value_address-below, IsSound-at_address}
use Rattle.cap_rights.specs.Opened.{opened}
use Rattle.cap_rights.specs.DerivationLaws.{IsSound-opened}
use Rattle.special_regs.specs.declared.csrs.Csrs.{Csrs}
use Rattle.special_regs.specs.declared.interrupts.Interrupt.{Interrupt}
use Rattle.special_regs.specs.declared.interrupts.Interrupt.TheVariants.{External, Timer}
use Rattle.special_regs.specs.Csrs.{zero_csrs, holds_at, place_of, bits_at, cycle_counted, instruction_counted}
use Rattle.special_regs.specs.CsrValues.{mstatus, csr_values, csr_value, read_by, listed_value}
use Rattle.special_regs.specs.Interrupts.{cause_of}
use Rattle.special_regs.specs.Numbered.{value_at}
use Rattle.special_regs.specs.Scrs.{Scrs, IsAligned, scr_values, scr_value}
use Rattle.special_regs.specs.Mtvec.{is_vectored, mtvec_of}
use Rattle.special_regs.specs.Traps.{is_sentry, sentry_opened, aligned, target, trapped_scrs, trapped_csrs, returned_scrs, returned_csrs}
use Rattle.special_regs.specs.Traps.{vector_of, entry_address, placed_at}
use Rattle.special_regs.specs.Writes.{interrupt_bits, kept_by, csrs_written, views_written, scr_written}
use Rattle.special_regs.specs.Sound.{AreSound, AreInRange}

-- ---- what they give

-- what is true of each value of a list
abbrev OfEach : {X : Type 0} → (X → Type 0) → List (ℕ × X) → Type 0
OfEach P [] = Unit {0}
OfEach P (entry ∷ entries) = P entry.1 × OfEach P entries

value_at-each : {X : Type 0} (P : X → Type 0) (n : ℕ) (entries : List (ℕ × X)) → OfEach P entries → IfSome (value_at n entries) P
value_at-each P n [] each = tt
value_at-each P n (entry ∷ entries) each =
    elim (eqb entry.0 n) as (λ b. IfSome (cond b (Some entry.1) (value_at n entries)) P)
    [ true ↦ each.0 | false ↦ value_at-each P n entries each.1 ]

pub IsSound-scr_value : (s : Scrs) (n : ℕ) → AreSound s → IfSome (scr_value s n) IsSound
unfolding scr_value
IsSound-scr_value s n sound =
    value_at-each IsSound n (scr_values s) (sound.pcc, (sound.ddc, (sound.mtcc, (sound.mtdc, (sound.mscratchc, (sound.mepcc, tt))))))

mstatus-below : (c : Csrs) → mstatus c < 2 ^ 64
mstatus-below c = omega (arith, bit-small c.mstatus_mpie, bit-small c.mstatus_mie)

view-below : (v : CapValue) → IsSound v → value_address v / 4 * 4 < 2 ^ 64
view-below v sound = let fits = value_address-below v sound in omega arith

mtvec_of-below : (n : ℕ) → n < 2 ^ 64 → mtvec_of n < 2 ^ 64
unfolding mtvec_of
mtvec_of-below n fits = cond_both (is_vectored n) n (n / 4 * 4) (λ m. m < 2 ^ 64) (λ _. fits) (λ _. omega arith)

-- a test that each value of a list passes, the one of a number passes
passes : {X : Type 0} (test : X → Bool) (n : ℕ) (entries : List (ℕ × X)) → list_all (λ e. test e.1) entries ≡ true
    → IfSome (value_at n entries) (λ x. test x ≡ true)
passes test n [] all = tt
passes test n (entry ∷ entries) all =
    let both = and_parts _ _ all in
    elim (eqb entry.0 n) as (λ b. IfSome (cond b (Some entry.1) (value_at n entries)) (λ x. test x ≡ true))
    [ true ↦ both.0 | false ↦ passes test n entries both.1 ]

-- a number that a line of the listing fixes has 64 bits
abbrev fits : Holds → Bool
fits (Written bits) = true
fits (Fixed number) = ltb number (2 ^ 64)
fits Part = true

read-below : (holds : Holds) (kept : ℕ) → fits holds ≡ true → kept < 2 ^ 64 → read_by holds kept < 2 ^ 64
read-below (Written bits) kept small below = below
read-below (Fixed number) kept small below = ltb-true number (2 ^ 64) small
read-below Part kept small below = lit< tt

map-below : (a : Option Holds) (kept : ℕ) → IfSome a (λ holds. fits holds ≡ true) → kept < 2 ^ 64
    → IfSome (option_map (λ holds. read_by holds kept) a) (λ v. v < 2 ^ 64)
map-below (Some holds) kept small below = read-below holds kept small below
map-below None kept small below = tt

either : {X : Type 0} (P : X → Type 0) (a b : Option X) → IfSome a P → IfSome b P → IfSome (option_or a b) P
either P None b here there = there
either P (Some x) b here there = here

pub csr_value-below : (c : Csrs) (s : Scrs) (mip n : ℕ) → AreInRange c → AreSound s → mip < 2 ^ 64
    → IfSome (csr_value c s mip n) (λ v. v < 2 ^ 64)
unfolding csr_value
csr_value-below c s mip n range sound small =
    either (λ v. v < 2 ^ 64) (value_at n (csr_values c s mip)) (listed_value c n)
    (value_at-each (λ v. v < 2 ^ 64) n (csr_values c s mip) (
      mstatus-below c,
      (
        range.mie,
        (
          mtvec_of-below _ (value_address-below s.mtcc sound.mtcc),
          (view-below s.mepcc sound.mepcc, (range.mcause, (range.mtval, (small, (range.mcycle, (range.minstret, tt)))))),
        ),
      ),
    ))
    (map-below (holds_at n) (slice_index c.kept (place_of n)) (passes fits n held refl) (range.kept (place_of n)))

pub IsInRange-cause_of : (interrupt : Interrupt) → IsInRange (cause_of interrupt)
IsInRange-cause_of External = record { mcause = lit< tt; mtval = lit< tt }
IsInRange-cause_of Timer = record { mcause = lit< tt; mtval = lit< tt }

-- ---- special capability registers

IsSound-sentry_opened : (v : CapValue) → IsSound v → IsSound (sentry_opened v)
unfolding sentry_opened
IsSound-sentry_opened v sound = cond_both (is_sentry v) (opened v) v IsSound (λ _. IsSound-opened v sound) (λ _. sound)

IsSound-aligned : (v : CapValue) → IsSound v → IsSound (aligned v)
unfolding aligned
IsSound-aligned v sound =
    cond_both (eqb (value_address v % 4) 0) v (at_address v (value_address v / 4 * 4)) IsSound (λ _. sound)
    (λ _. IsSound-at_address v _ sound (view-below v sound))

-- an address that is set to a multiple of 4 is one
pub IsAligned-at_address : (v : CapValue) (address : ℕ) → address < 2 ^ 64 → address % 4 ≡ 0 → IsAligned (at_address v address)
IsAligned-at_address v address fits multiple = rw (value_address-at_address v address fits) multiple

IsAligned-aligned : (v : CapValue) → IsSound v → IsAligned (aligned v)
unfolding aligned
IsAligned-aligned v sound =
    cond_both (eqb (value_address v % 4) 0) v (at_address v (value_address v / 4 * 4)) IsAligned (λ e. eqb-true _ _ e)
    (λ _. IsAligned-at_address v (value_address v / 4 * 4) (view-below v sound) (omega arith))

pub AreSound-pcc : (s : Scrs) (v : CapValue) → AreSound s → IsSound v → IsAligned v → AreSound (record s { pcc = v })
AreSound-pcc s v sound value multiple = record {
  pcc = value;
  ddc = sound.ddc;
  mtcc = sound.mtcc;
  mtdc = sound.mtdc;
  mscratchc = sound.mscratchc;
  mepcc = sound.mepcc;
  aligned = multiple;
}

-- a trap begins at an address of 64 bits that is a multiple of 4
pub entry_address-below : (f : Fault) (mtvec : ℕ) → entry_address f mtvec < 2 ^ 64
unfolding entry_address
entry_address-below f mtvec = mod_below (mtvec / 4 * 4 + cond (is_vectored mtvec) (4 * vector_of f) 0) (2 ^ 64) (pow_pos 64)

entry-aligned : (b : Bool) (base k : ℕ) → (base * 4 + cond b (4 * k) 0) % 2 ^ 64 % 4 ≡ 0
entry-aligned true base k = omega arith
entry-aligned false base k = omega arith

pub entry_address-aligned : (f : Fault) (mtvec : ℕ) → entry_address f mtvec % 4 ≡ 0
unfolding entry_address
entry_address-aligned f mtvec = entry-aligned (is_vectored mtvec) (mtvec / 4) (vector_of f)

IsSound-placed_at : (a : ℕ) (v : CapValue) → a < 2 ^ 64 → IsSound v → IsSound (placed_at a v)
unfolding placed_at
IsSound-placed_at a v fits sound =
    cond_both (eqb (value_address v) a) v (at_address v a) IsSound (λ _. sound) (λ _. IsSound-at_address v a sound fits)

-- a value that is placed at a multiple of 4 is there
pub IsAligned-placed_at : (a : ℕ) (v : CapValue) → a < 2 ^ 64 → a % 4 ≡ 0 → IsAligned (placed_at a v)
unfolding placed_at
IsAligned-placed_at a v fits multiple =
    cond_both (eqb (value_address v) a) v (at_address v a) IsAligned (λ e. rw (eqb-true _ _ e) multiple)
    (λ _. IsAligned-at_address v a fits multiple)

pub AreSound-trapped : (f : Fault) (s : Scrs) → AreSound s → AreSound (trapped_scrs f s)
AreSound-trapped f s sound = record {
  pcc = IsSound-placed_at _ _ (entry_address-below f (value_address s.mtcc)) (IsSound-sentry_opened s.mtcc sound.mtcc);
  ddc = sound.ddc;
  mtcc = sound.mtcc;
  mtdc = sound.mtdc;
  mscratchc = sound.mscratchc;
  mepcc = sound.pcc;
  aligned =
      IsAligned-placed_at _ _ (entry_address-below f (value_address s.mtcc)) (entry_address-aligned f (value_address s.mtcc));
}

pub AreSound-returned : (s : Scrs) → AreSound s → AreSound (returned_scrs s)
AreSound-returned s sound =
    AreSound-pcc s (target s.mepcc) sound (IsSound-aligned _ (IsSound-sentry_opened s.mepcc sound.mepcc))
    (IsAligned-aligned _ (IsSound-sentry_opened s.mepcc sound.mepcc))

written_if : (b : Bool) (v old : CapValue) → IsSound v → IsSound old → IsSound (cond b v old)
written_if true v old new kept = new
written_if false v old new kept = kept

pub AreSound-scr_written : (n : ℕ) (v : CapValue) (s : Scrs) → IsSound v → AreSound s → AreSound (scr_written n v s)
unfolding scr_written
AreSound-scr_written n v s value sound = record {
  pcc = sound.pcc;
  ddc = written_if (eqb n DDC) v s.ddc value sound.ddc;
  mtcc = written_if (eqb n MTCC) v s.mtcc value sound.mtcc;
  mtdc = written_if (eqb n MTDC) v s.mtdc value sound.mtdc;
  mscratchc = written_if (eqb n MSCRATCHC) v s.mscratchc value sound.mscratchc;
  mepcc = written_if (eqb n MEPCC) v s.mepcc value sound.mepcc;
  aligned = sound.aligned;
}

pub AreSound-views_written : (n value : ℕ) (s : Scrs) → value < 2 ^ 64 → AreSound s → AreSound (views_written n value s)
unfolding views_written
AreSound-views_written n value s fits sound =
    let low : value / 4 * 4 < 2 ^ 64 = omega arith in
    let mtvec = mtvec_of-below value fits in
    record {
      pcc = sound.pcc;
      ddc = sound.ddc;
      mtcc = written_if (eqb n MTVEC) (at_address s.mtcc (mtvec_of value)) s.mtcc (IsSound-at_address s.mtcc _ sound.mtcc mtvec) sound.mtcc;
      mtdc = sound.mtdc;
      mscratchc = sound.mscratchc;
      mepcc = written_if (eqb n MEPC) (at_address s.mepcc (value / 4 * 4)) s.mepcc (IsSound-at_address s.mepcc _ sound.mepcc low)
          sound.mepcc;
      aligned = sound.aligned;
    }

-- ---- control and status registers

nought-below : (n k : ℕ) → slice_index (replicate n 0) k < 2 ^ 64
nought-below zero k = lit< tt
nought-below (suc n) zero = lit< tt
nought-below (suc n) (suc k) = nought-below n k

pub AreInRange-zero : AreInRange zero_csrs
AreInRange-zero = record {
  mie = lit< tt;
  kept = nought-below (length CSRS);
  count = refl;
  mcause = lit< tt;
  mtval = lit< tt;
  mcycle = lit< tt;
  minstret = lit< tt;
}

one_more-below : (n : ℕ) → (n + 1) % 2 ^ 64 < 2 ^ 64
one_more-below n = mod_below (n + 1) (2 ^ 64) (pow_pos 64)

pub AreInRange-cycle_counted : (c : Csrs) → AreInRange c → AreInRange (cycle_counted c)
AreInRange-cycle_counted c range = record {
  mie = range.mie;
  kept = range.kept;
  count = range.count;
  mcause = range.mcause;
  mtval = range.mtval;
  mcycle = one_more-below c.mcycle;
  minstret = range.minstret;
}

pub AreInRange-instruction_counted : (c : Csrs) → AreInRange c → AreInRange (instruction_counted c)
AreInRange-instruction_counted c range = record {
  mie = range.mie;
  kept = range.kept;
  count = range.count;
  mcause = range.mcause;
  mtval = range.mtval;
  mcycle = range.mcycle;
  minstret = one_more-below c.minstret;
}

pub AreInRange-trapped : (f : Fault) (c : Csrs) → IsInRange f → AreInRange c → AreInRange (trapped_csrs f c)
AreInRange-trapped f c fault range = record {
  mie = range.mie;
  kept = range.kept;
  count = range.count;
  mcause = fault.mcause;
  mtval = fault.mtval;
  mcycle = range.mcycle;
  minstret = range.minstret;
}

pub AreInRange-returned : (c : Csrs) → AreInRange c → AreInRange (returned_csrs c)
AreInRange-returned c range = record {
  mie = range.mie;
  kept = range.kept;
  count = range.count;
  mcause = range.mcause;
  mtval = range.mtval;
  mcycle = range.mcycle;
  minstret = range.minstret;
}

number_if : (b : Bool) (v old : ℕ) → v < 2 ^ 64 → old < 2 ^ 64 → cond b v old < 2 ^ 64
number_if true v old new kept = new
number_if false v old new kept = kept

set-below : (kept : List ℕ) (i k value : ℕ) → value < 2 ^ 64 → slice_index kept k < 2 ^ 64 → slice_index (slice_set kept i value) k < 2 ^ 64
set-below [] i k value new old = old
set-below (v ∷ vs) zero zero value new old = new
set-below (v ∷ vs) zero (suc k) value new old = old
set-below (v ∷ vs) (suc i) zero value new old = old
set-below (v ∷ vs) (suc i) (suc k) value new old = set-below vs i k value new old

kept-below : (bits : Option ℕ) (place value : ℕ) (kept : List ℕ) → value < 2 ^ 64 → ((k : ℕ) → slice_index kept k < 2 ^ 64)
    → (k : ℕ) → slice_index (kept_by bits place value kept) k < 2 ^ 64
kept-below (Some bits) place value kept new old k =
    let low = and_le_l value bits in set-below kept place k (bit_and value bits) (omega arith) (old k)
kept-below None place value kept new old k = old k

kept-count : (bits : Option ℕ) (place value : ℕ) (kept : List ℕ) → length (kept_by bits place value kept) ≡ length kept
kept-count (Some bits) place value kept = length-set kept place (bit_and value bits)
kept-count None place value kept = refl

pub AreInRange-written : (n value : ℕ) (c : Csrs) → value < 2 ^ 64 → AreInRange c → AreInRange (csrs_written n value c)
unfolding csrs_written
AreInRange-written n value c fits range =
    let low = and_le_l value interrupt_bits in
    let bits : bit_and value interrupt_bits < 2 ^ 64 = omega arith in
    record {
      mie = number_if (eqb n MIE) (bit_and value interrupt_bits) c.mie bits range.mie;
      kept = kept-below (bits_at n) (place_of n) value c.kept fits range.kept;
      count = kept-count (bits_at n) (place_of n) value c.kept ∙ range.count;
      mcause = number_if (eqb n MCAUSE) value c.mcause fits range.mcause;
      mtval = number_if (eqb n MTVAL) value c.mtval fits range.mtval;
      mcycle = number_if (eqb n MCYCLE) value c.mcycle fits range.mcycle;
      minstret = number_if (eqb n MINSTRET) value c.minstret fits range.minstret;
    }
