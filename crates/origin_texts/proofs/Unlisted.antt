-- A step writes no place but those that its effect may write.
use Rattle.std.proofs.Common.{◌≡◌, ℕ, ◌+◌, ◌*◌, ◌/◌, ◌%◌, ◌<◌, Bool, true, false}
use Rattle.std.proofs.Common.{not, ◌&&◌, ◌||◌, Option, Some, None, refl, sym, ap, ◌∙◌, arith}
use Rattle.std.proofs.lemmas.Bool.Decides.{nat_tests}
use Rattle.std.specs.Prelude.{if◌then◌else◌, ◌==◌, nat_lt}
use Rattle.base.specs.Size.{bytes_of}
use Rattle.base.specs.declared.size.Size.{Size}
use Rattle.base.specs.declared.size.Size.TheVariants as size
use Rattle.base.specs.declared.registers.scr.TheConstants.{PCC, MTCC, MEPCC}
use Rattle.cap_bounds.specs.CapValue.{CapValue}
use Rattle.isa_rows.specs.declared.operands.Insn.{Insn}
use Rattle.tagged_memory.specs.Memory.{touches}
use Rattle.steps.specs.Applying.{CanApply, IsPlanned, meant}
use Rattle.steps.specs.State.{State}
use Rattle.steps.specs.Step.{insn_fetched, step_fetched}
use Rattle.steps.specs.declared.effect.Effect.{Effect}
use Rattle.steps.specs.declared.effect.Effect.TheVariants as effect
use Rattle.origins.specs.Made.{granule_made, if_written, insn_made, made_by, made_by_insn}
use Rattle.origins.specs.Made.{made_unless, other_made, pcc_made, register_making, step_made}
use Rattle.origins.specs.Made.{trap_made, view_made, written_register}
use Rattle.origins.specs.declared.making.Making.TheVariants.{Number, Copied, Moved, Resumed}
use Rattle.special_regs.specs.Mtvec.{mtvec_of}
use Rattle.special_regs.specs.Traps.{entry_address}
use Rattle.cap_bounds.specs.CapValue.{value_address}
use Rattle.base.specs.declared.fault.Fault.{Fault}
use Rattle.base.specs.declared.registers.csr.TheConstants.{MTVEC, MEPC}
use Rattle.isa_rows.specs.Kind.{kind_of}
use Rattle.tagged_memory.specs.AccessLaws.{aligned-place_fault}
use Rattle.std.proofs.Common.{[], ◌∷◌}
use Rattle.origins.specs.Places.{IsHolder, pcc, mtcc, mepcc}
use Rattle.origins.specs.declared.making.Making.{Making}
use Rattle.origins.specs.declared.place.Place.{Place}
use Rattle.origins.specs.declared.place.Place.TheVariants.{Register, Special, Granule}
use Rattle.origin_texts.specs.Writes.{is_among, nowhere, written_by}

neither : (a b : Bool) → (a || b) ≡ false → (a ≡ false) × (b ≡ false)
neither true b e = absurd (cc)
neither false b e = (refl, e)

other_way : (n m : ℕ) → (n == m) ≡ false → (m == n) ≡ false
other_way n m e = grind (arith, nat_tests)

-- ---- registers

unwritten : (n rd : ℕ) (making : Making) → (rd == n) ≡ false → if_written n (Some rd) making ≡ None
unwritten n rd making e =
    ap (λ b. if b && not (n == 0) then Some making else None) (other_way rd n e)

-- what is neither PCC nor another special register that is written
not_pcc : (n : ℕ) (made other : Option Making) → (PCC == n) ≡ false → other ≡ None → (if n == PCC then made else other) ≡ None
not_pcc n made other e none = ap (λ b. if b then made else other) (other_way PCC n e) ∙ none

no_view : (n csr value : ℕ) → (MTCC == n) ≡ false → (MEPCC == n) ≡ false → view_made n csr value ≡ None
no_view n csr value not_mtcc not_mepcc =
    ap (λ b. if b && csr == MTVEC then Some (Moved mtcc (mtvec_of value))
    else (if n == MEPCC && csr == MEPC then Some (Moved mepcc (value / 4 * 4)) else None)) (other_way MTCC n not_mtcc)
    ∙ ap (λ b. if b && csr == MEPC then Some (Moved mepcc (value / 4 * 4)) else None) (other_way MEPCC n not_mepcc)

-- ---- granules: a store lies in one, since its address is a multiple of its size

lies_there : (address a : ℕ) (size : Size) → address % bytes_of size ≡ 0 → a % 16 ≡ 0 → a < address + bytes_of size → address < a + 16
    → address / 16 * 16 ≡ a
lies_there address a size.Byte aligned granule low high = omega (arith, aligned, granule, low, high)
lies_there address a size.Half aligned granule low high = omega (arith, aligned, granule, low, high)
lies_there address a size.Word aligned granule low high = omega (arith, aligned, granule, low, high)
lies_there address a size.Double aligned granule low high = omega (arith, aligned, granule, low, high)

both_hold : (a b : Bool) → (a && b) ≡ true → (a ≡ true) × (b ≡ true)
both_hold true b e = (refl, e)
both_hold false b e = absurd (cc)

is_less : (n m : ℕ) → nat_lt n m ≡ true → n < m
is_less n m e = grind (arith, nat_tests)

not_equal : (n m : ℕ) → (n == m) ≡ false → n ≡ m → ⊥
not_equal n m e same = grind (arith, nat_tests)

apart : (address a : ℕ) (size : Size) → address % bytes_of size ≡ 0 → a % 16 ≡ 0 → (address / 16 * 16 == a) ≡ false
    → touches address (bytes_of size) a ≡ false
apart address a size aligned granule elsewhere = by (touches address (bytes_of size) a) refl
  where
    by : (b : Bool) → touches address (bytes_of size) a ≡ b → touches address (bytes_of size) a ≡ false
    by false e = e
    by true e =
        let inside = both_hold (nat_lt a (address + bytes_of size)) (nat_lt address (a + 16))
        (both_hold (nat_lt 0 (bytes_of size)) (nat_lt a (address + bytes_of size) && nat_lt address (a + 16)) e).1 in
        absurd (not_equal (address / 16 * 16) a elsewhere (lies_there address a size aligned granule
        (is_less a (address + bytes_of size) inside.0) (is_less address (a + 16) inside.1)))

not_there : (address a : ℕ) → a % 16 ≡ 0 → (address / 16 * 16 == a) ≡ false → (a == address) ≡ false
not_there address a granule elsewhere = by (a == address) refl
  where
    by : (b : Bool) → (a == address) ≡ b → (a == address) ≡ false
    by false e = e
    by true e =
        let same : a ≡ address = grind (arith, nat_tests) in
        absurd (not_equal (address / 16 * 16) a elsewhere (omega (arith, same, granule)))

-- ---- by the place

module _ (e : Effect CapValue) (s : State) where
  at_register : (n : ℕ) (insn : Option Insn) → ((making : Making) → if_written n (written_register e) making ≡ None)
      → made_by_insn (Register n) e insn s ≡ None
  unfolding insn_made
  at_register n None h = refl
  at_register n (Some insn) h = h (register_making (kind_of insn.row) insn s)

  at_special : (n : ℕ) (insn : Option Insn) → (PCC == n) ≡ false → ((i : Insn) → other_made n e i ≡ None)
      → made_by_insn (Special n) e insn s ≡ None
  unfolding insn_made
  at_special n None other h = refl
  at_special n (Some insn) other h = not_pcc n (pcc_made e insn s) (other_made n e insn) other (h insn)

  at_granule : (a : ℕ) (insn : Option Insn) → ((i : Insn) → granule_made a e i ≡ None) → made_by_insn (Granule a) e insn s ≡ None
  unfolding insn_made
  at_granule a None h = refl
  at_granule a (Some insn) h = h insn

trap_nowhere : (p : Place) (fault : Fault) (s : State) → is_among p (pcc ∷ mepcc ∷ nowhere ∷ nowhere ∷ []) ≡ false
    → trap_made p fault s ≡ None
unfolding trap_made
trap_nowhere (Register n) fault s out = refl
trap_nowhere (Granule a) fault s out = refl
trap_nowhere (Special n) fault s out =
    let first = neither (PCC == n) _ out in
    let second = neither (MEPCC == n) _ first.1 in
    not_pcc n (Some (Resumed mtcc (entry_address fault (value_address s.scrs.mtcc)))) (if n == MEPCC then Some (Copied pcc) else None)
    first.0 (ap (λ b. if b then Some (Copied pcc) else None) (other_way MEPCC n second.0))

module _ {C : Type 0} (value : C → CapValue) (s : State) where
  insn : Option Insn
  insn = insn_fetched (step_fetched s)

  of_register : (e : Effect C) (n : ℕ) → is_among (Register n) (written_by e) ≡ false → made_by (Register n) (meant value e) s ≡ None
  of_register (effect.Trap fault) n out = trap_nowhere (Register n) fault s out
  of_register (effect.Write w) n out = at_register (meant value (effect.Write w)) s n (insn_fetched (step_fetched s))
      (λ making. unwritten n w.rd making (neither (w.rd == n) _ out).0)
  of_register (effect.Unseal w) n out = at_register (meant value (effect.Unseal w)) s n (insn_fetched (step_fetched s))
      (λ making. unwritten n w.rd making (neither (w.rd == n) _ out).0)
  of_register (effect.DeviceLoad w) n out = at_register (meant value (effect.DeviceLoad w)) s n (insn_fetched (step_fetched s))
      (λ making. unwritten n w.rd making (neither (w.rd == n) _ out).0)
  of_register (effect.Link w) n out = at_register (meant value (effect.Link w)) s n (insn_fetched (step_fetched s))
      (λ making. unwritten n w.rd making (neither (w.rd == n) _ out).0)
  of_register (effect.Enter w) n out = at_register (meant value (effect.Enter w)) s n (insn_fetched (step_fetched s))
      (λ making. unwritten n w.rd making (neither (w.rd == n) _ out).0)
  of_register (effect.Special w) n out = at_register (meant value (effect.Special w)) s n (insn_fetched (step_fetched s))
      (λ making. unwritten n w.rd making (neither (w.rd == n) _ out).0)
  of_register (effect.Csr w) n out = at_register (meant value (effect.Csr w)) s n (insn_fetched (step_fetched s))
      (λ making. unwritten n w.rd making (neither (w.rd == n) _ out).0)
  of_register effect.Nothing n out = at_register (meant value effect.Nothing) s n (insn_fetched (step_fetched s)) (λ making. refl)
  of_register (effect.Store w) n out = at_register (meant value (effect.Store w)) s n (insn_fetched (step_fetched s)) (λ making. refl)
  of_register (effect.StoreCapability w) n out =
      at_register (meant value (effect.StoreCapability w)) s n (insn_fetched (step_fetched s)) (λ making. refl)
  of_register (effect.DeviceStore w) n out =
      at_register (meant value (effect.DeviceStore w)) s n (insn_fetched (step_fetched s)) (λ making. refl)
  of_register (effect.Jump target) n out =
      at_register (meant value (effect.Jump target)) s n (insn_fetched (step_fetched s)) (λ making. refl)
  of_register (effect.Return sealed) n out =
      at_register (meant value (effect.Return sealed)) s n (insn_fetched (step_fetched s)) (λ making. refl)

  plain_special : (e : Effect C) (n : ℕ) (others : Bool) → (PCC == n || others) ≡ false → ((i : Insn)
      → other_made n (meant value e) i ≡ None)
      → made_by_insn (Special n) (meant value e) (insn_fetched (step_fetched s)) s ≡ None
  plain_special e n others out none =
      at_special (meant value e) s n (insn_fetched (step_fetched s)) (neither (PCC == n) others out).0 none

  of_special : (e : Effect C) (n : ℕ) → is_among (Special n) (written_by e) ≡ false → made_by (Special n) (meant value e) s ≡ None
  of_special (effect.Trap fault) n out = trap_nowhere (Special n) fault s out
  of_special (effect.Write w) n out = plain_special (effect.Write w) n _ out (λ i. refl)
  of_special (effect.Unseal w) n out = plain_special (effect.Unseal w) n _ out (λ i. refl)
  of_special (effect.DeviceLoad w) n out = plain_special (effect.DeviceLoad w) n _ out (λ i. refl)
  of_special (effect.Link w) n out = plain_special (effect.Link w) n _ out (λ i. refl)
  of_special (effect.Enter w) n out = plain_special (effect.Enter w) n _ out (λ i. refl)
  of_special (effect.Special w) n out =
      let here = neither (w.number == n) _ (neither (PCC == n) _ out).1 in
      plain_special (effect.Special w) n _ out
      (λ i. ap (λ b. if b then Some (Copied (Register i.rs1)) else None) (other_way w.number n here.0))
  of_special (effect.Csr w) n out =
      let first = neither (MTCC == n) _ (neither (PCC == n) _ out).1 in
      let second = neither (MEPCC == n) _ first.1 in
      plain_special (effect.Csr w) n _ out (λ i. no_view n w.number w.value first.0 second.0)
  of_special effect.Nothing n out = plain_special effect.Nothing n _ out (λ i. refl)
  of_special (effect.Store w) n out = plain_special (effect.Store w) n _ out (λ i. refl)
  of_special (effect.StoreCapability w) n out = plain_special (effect.StoreCapability w) n _ out (λ i. refl)
  of_special (effect.DeviceStore w) n out = plain_special (effect.DeviceStore w) n _ out (λ i. refl)
  of_special (effect.Jump target) n out = plain_special (effect.Jump target) n _ out (λ i. refl)
  of_special (effect.Return sealed) n out = plain_special (effect.Return sealed) n _ out (λ i. refl)

  of_granule : (e : Effect C) (a : ℕ) → CanApply e s → a % 16 ≡ 0 → is_among (Granule a) (written_by e) ≡ false
      → made_by (Granule a) (meant value e) s ≡ None
  unfolding CanApply
  of_granule (effect.Store w) a can granule out =
      let elsewhere = (neither (w.address / 16 * 16 == a) _ out).0 in
      let aligned = aligned-place_fault s.memory w.address (bytes_of w.size) can in
      at_granule (effect.Store w) s a (insn_fetched (step_fetched s))
      (λ i. ap (λ b. if b then Some Number else None) (apart w.address a w.size aligned granule elsewhere))
  of_granule (effect.StoreCapability w) a can granule out =
      let elsewhere = (neither (w.address / 16 * 16 == a) _ out).0 in
      at_granule (meant value (effect.StoreCapability w)) s a (insn_fetched (step_fetched s))
      (λ i. ap (λ b. if b then Some (Copied (Register i.rs2)) else None) (not_there w.address a granule elsewhere))
  of_granule (effect.Trap fault) a can granule out = trap_nowhere (Granule a) fault s refl
  of_granule (effect.Write w) a can granule out = at_granule (meant value (effect.Write w)) s a (insn_fetched (step_fetched s)) (λ i. refl)
  of_granule (effect.Unseal w) a can granule out =
      at_granule (meant value (effect.Unseal w)) s a (insn_fetched (step_fetched s)) (λ i. refl)
  of_granule (effect.DeviceLoad w) a can granule out =
      at_granule (meant value (effect.DeviceLoad w)) s a (insn_fetched (step_fetched s)) (λ i. refl)
  of_granule (effect.Link w) a can granule out = at_granule (meant value (effect.Link w)) s a (insn_fetched (step_fetched s)) (λ i. refl)
  of_granule (effect.Enter w) a can granule out = at_granule (meant value (effect.Enter w)) s a (insn_fetched (step_fetched s)) (λ i. refl)
  of_granule (effect.Special w) a can granule out =
      at_granule (meant value (effect.Special w)) s a (insn_fetched (step_fetched s)) (λ i. refl)
  of_granule (effect.Csr w) a can granule out = at_granule (meant value (effect.Csr w)) s a (insn_fetched (step_fetched s)) (λ i. refl)
  of_granule effect.Nothing a can granule out = at_granule effect.Nothing s a (insn_fetched (step_fetched s)) (λ i. refl)
  of_granule (effect.DeviceStore w) a can granule out = at_granule (effect.DeviceStore w) s a (insn_fetched (step_fetched s)) (λ i. refl)
  of_granule (effect.Jump target) a can granule out = at_granule (effect.Jump target) s a (insn_fetched (step_fetched s)) (λ i. refl)
  of_granule (effect.Return sealed) a can granule out = at_granule (effect.Return sealed) s a (insn_fetched (step_fetched s)) (λ i. refl)

  unlisted : (e : Effect C) (p : Place) → CanApply e s → IsHolder p → is_among p (written_by e) ≡ false → made_by p (meant value e) s ≡ None
  unlisted e (Register n) can holder out = of_register e n out
  unlisted e (Special n) can holder out = of_special e n out
  unlisted e (Granule a) can holder out = of_granule e a can holder out

  pub step_unlisted : (e : Effect C) (p : Place) → IsPlanned value e s → IsHolder p → is_among p (written_by e) ≡ false
      → step_made p s ≡ None
  unfolding step_made
  step_unlisted e p planned holder out = halted (s.devices.halted)
    where
      halted : (h : Option ℕ) → made_unless h p s ≡ None
      halted (Some number) = refl
      halted None = ap (λ x. made_by p x s) (sym planned.0) ∙ unlisted e p planned.1 holder out
