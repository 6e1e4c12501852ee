-- What is shown of a step is what the state after it has.
use Rattle.std.proofs.Common.{◌≡◌, ℕ, zero, suc, ◌+◌, ◌-◌, ◌*◌, ◌/◌, ◌%◌, ◌^◌, ◌<◌, ◌≤◌, Bool, true, false, not, ◌&&◌, ◌||◌, cond, eqb}
use Rattle.std.proofs.Common.{List, [], ◌∷◌, ◌++◌, length, take, drop, None, Some, refl, sym, ap, subst, ◌∙◌, arith, append-nil}
use Rattle.std.proofs.Common.{append_assoc}
use Rattle.std.specs.Prelude.{codes, decimal, is_some}
use Rattle.std.proofs.lemmas.List.{get_or-set_same}
use Rattle.std.proofs.lemmas.Bool.{true≢false, and_parts, not-true, eq-eqb, ne_eqb, eqb-true, cond_both}
use Rattle.std.specs.List.{list_all, list_any}
use Rattle.std.specs.Option.{option_or}
use Rattle.std.proofs.Math.Nat.{add-mul, add_assoc, div-add-mod', mod-eq_of_lt, mod-lt, mul-add-mod_self_right, mul-le-mul_right}
use Rattle.std.proofs.Math.Nat.{mul_assoc, one-le-pow, pow-suc}
use Rattle.std.specs.Fmt.{digit_glyph}
use Rattle.byteorder.specs.Endian.{little_bytes, little_from}
use Rattle.byteorder.specs.Numbers.{little_from-bytes, little_from-take, length-bytes_low_first}
use Rattle.base.specs.Ram.{ram_base}
use Rattle.base.specs.Registers.{is_csr, is_scr}
use Rattle.base.specs.declared.registers.TheConstants.{CSRS}
use Rattle.base.specs.Size.{bytes_of}
use Rattle.base.specs.declared.size.Size.{Size}
use Rattle.base.specs.declared.size.Size.TheVariants.{Byte, Half, Word, Double}
use Rattle.cap_bounds.specs.AddressLaws.{value_address-at_address}
use Rattle.cap_bounds.specs.CapValue.{CapValue, IsSound, is_tagged, value_address, value_flag, value_of, word_of}
use Rattle.cap_bounds.specs.RecordLaws.{value_of-word_of}
use Rattle.cap_bounds.specs.SetAddress.{at_address}
use Rattle.cap_bounds.specs.SoundLaws.{word_of-below}
use Rattle.tagged_memory.specs.AccessLaws.{stored_is_loaded}
use Rattle.tagged_memory.specs.Memory.{Memory, is_in_ram, number_at, word_at, has_tag, data_written, capability_written, place_fault}
use Rattle.tagged_memory.specs.MemoryLaws.{in_ram}
use Rattle.tagged_memory.specs.Replaced.{part-new}
use Rattle.devices.specs.Devices.{interrupts_of}
use Rattle.special_regs.specs.Csrs.{bits_at}
use Rattle.special_regs.specs.CsrValues.{csr_value, csr_values, listed_value}
use Rattle.special_regs.specs.ListingLaws.{written-listed_value}
use Rattle.special_regs.specs.Mtvec.{is_vectored, mtvec_of}
use Rattle.special_regs.specs.Numbered.{value_at}
use Rattle.special_regs.specs.Refusals.{is_read_only}
use Rattle.special_regs.specs.Writes.{csrs_written, views_written, scr_written}
use Rattle.texts.specs.Hex.{hex_of}
use Rattle.disassembler.specs.Shown.{shown_word}
use Rattle.registers.specs.Registers.{null, register, with_register, AreRegisters}
use Rattle.steps.specs.AppliedLaws.{IsSoundEffect}
use Rattle.symbols.specs.Symbols.{Symbol}
use Rattle.symbols.specs.Labels.{labelled}
use Rattle.symbols.specs.Sources.{source_of}
use Rattle.steps.specs.declared.effect.CsrWrite.{CsrWrite}
use Rattle.steps.specs.declared.effect.SpecialWrite.{SpecialWrite}
use Rattle.steps.specs.declared.effect.Effect.{Effect}
use Rattle.steps.specs.declared.effect.Effect.TheVariants.{Trap, Nothing, Write, Unseal, Store, StoreCapability, DeviceLoad, DeviceStore}
use Rattle.steps.specs.declared.effect.Effect.TheVariants.{Jump, Link, Enter, Special, Csr, Return}
use Rattle.steps.specs.Effect.{applied, sent_by}
use Rattle.steps.specs.EventLaws.{step_effect-sound}
use Rattle.steps.specs.IsState.{IsState}
use Rattle.steps.specs.State.{State, pc_of}
use Rattle.steps.specs.Step.{fetched_by, word_unless, step_effect, stepped_unless, stepped, step_sent_unless, step_sent}
use Rattle.explain.specs.EffectText.{register_text, value_part, written_or, written_first, jump_part, effect_text}
use Rattle.explain.specs.EffectText.{shown_size, shown_special, shown_csr, return_part}
use Rattle.explain.specs.TraceLine.{word_part, step_word}
use Rattle.explain.specs.ValueText.{shown_value}
use Rattle.text_laws.specs.Says.{held, word_here}
use Rattle.explain.specs.WhyText.{instruction_text, stages_text, why_unless, why_text}
use Rattle.text_laws.specs.After.{register_or, register_first, text_after, bits_kept, kept, ShowsTheStateAfter, ShowsTheWord}
use Rattle.text_laws.specs.After.{CsrsKeepWhatIsShown, DevicesAreGivenWhatIsShown}
use Rattle.text_laws.specs.FitsLaws.{Fits, step-fits}

-- ---- numbers and their digits

-- the two low digits of n, to the bases c and then m
mod-split : (n m c : ℕ) → 0 < m → 0 < c → n % (m * c) ≡ (n / c % m) * c + n % c
mod-split n m c some other =
    let a = mod-lt (n / c) some in
    let b = mod-lt n other in
    let top : (n / c % m + 1) * c ≤ m * c = mul-le-mul_right c (omega arith) in
    let expand : (n / c % m + 1) * c ≡ n / c % m * c + 1 * c = add-mul (n / c % m) 1 c in
    let split : n ≡ n / c / m * (m * c) + (n / c % m * c + n % c) =
    sym (div-add-mod' n c)
    ∙ ap (λ (x : ℕ). x * c + n % c) (sym (div-add-mod' (n / c) m))
    ∙ ap (λ (x : ℕ). x + n % c) (add-mul (n / c / m * m) (n / c % m) c ∙ ap (λ (x : ℕ). x + n / c % m * c) (mul_assoc (n / c / m) m c))
    ∙ add_assoc (n / c / m * (m * c)) (n / c % m * c) (n % c) in
    ap (λ (x : ℕ). x % (m * c)) split ∙ mul-add-mod_self_right (n / c / m) (m * c) (n / c % m * c + n % c) ∙ mod-eq_of_lt (omega arith)

-- the lowest digits are those of the number's lowest part
low-digits : (k n : ℕ) → hex_of k (n % 16 ^ k) ≡ hex_of k n
unfolding hex_of
low-digits zero n = refl
low-digits (suc k) n =
    let split = mod-split n (16 ^ k) 16 (one-le-pow k 16 (omega arith)) (omega arith) in
    let high : n % 16 ^ suc k / 16 ≡ n / 16 % 16 ^ k = rw (pow-suc 16 k, split) (omega arith) in
    let low : n % 16 ^ suc k % 16 ≡ n % 16 = rw (pow-suc 16 k, split) (omega arith) in
    ap (λ m. hex_of k m ++ digit_glyph false (n % 16 ^ suc k % 16) ∷ []) high
    ∙ ap (λ m. m ++ digit_glyph false (n % 16 ^ suc k % 16) ∷ []) (low-digits k (n / 16))
    ∙ ap (λ m. hex_of k (n / 16) ++ digit_glyph false m ∷ []) low

-- two digits a byte
digits-of_bytes : (size : Size) (n : ℕ) → hex_of (2 * bytes_of size) (n % 256 ^ bytes_of size) ≡ hex_of (2 * bytes_of size) n
digits-of_bytes Byte n = low-digits 2 n
digits-of_bytes Half n = low-digits 4 n
digits-of_bytes Word n = low-digits 8 n
digits-of_bytes Double n = low-digits 16 n

-- ---- memory

-- the bytes of a number that are stored are its lowest
number-stored : (m : Memory) (address size number : ℕ) → is_in_ram m address size ≡ true
    → number_at (data_written m address (little_bytes size number)) address size ≡ number % 256 ^ size
unfolding data_written
number-stored m address size number inside =
    let new : List ℕ = little_bytes size number in
    let count : length new ≡ size = length-bytes_low_first 0 size number in
    let place = in_ram m address size inside in
    let fits : address - ram_base + length new ≤ length m.bytes = omega (arith, place.1, count) in
    let there : take size (drop (address - ram_base) (data_written m address new).bytes) ≡ new =
    ap (λ n. take n (drop (address - ram_base) (data_written m address new).bytes)) (sym count)
    ∙ part-new m.bytes (address - ram_base) new fits in
    sym (little_from-take 0 size size (drop (address - ram_base) (data_written m address new).bytes) (omega arith))
    ∙ ap (little_from 0 size) (there ∙ sym (append-nil new))
    ∙ little_from-bytes size 0 number []
    ∙ ap (λ n. n % 256 ^ size) (omega arith)

-- a value that is stored is there
value-stored : (m : Memory) (address : ℕ) (v : CapValue) → place_fault m address 16 ≡ None → IsSound v
    → value_of (word_at (capability_written m address (word_of v) (is_tagged v)) address)
    (has_tag (capability_written m address (word_of v) (is_tagged v)) address)
    ≡ v
value-stored m address v none sound =
    let loaded = stored_is_loaded m address (word_of v) (is_tagged v) none (word_of-below v sound) in
    ap (λ w. value_of w (has_tag (capability_written m address (word_of v) (is_tagged v)) address)) loaded.0
    ∙ ap (λ b. value_of (word_of v) b) loaded.1
    ∙ value_of-word_of v sound

-- ---- registers

written-there : (registers : List CapValue) (rd : ℕ) (v : CapValue) → AreRegisters registers → rd < 32 → eqb rd 0 ≡ false
    → register (with_register registers rd v) rd ≡ v
unfolding with_register
written-there registers rd v are small other =
    let inside : rd < length registers = omega (arith, small, are.count) in
    rw other (get_or-set_same registers rd v null inside)

module _ (registers : List CapValue) (rd : ℕ) (v : CapValue) (t : State) (are : AreRegisters registers) (small : rd < 32)
    (after : t.registers ≡ with_register registers rd v) where
  there : eqb rd 0 ≡ false → v ≡ register t.registers rd
  there other = sym (written-there registers rd v are small other) ∙ ap (λ rs. register rs rd) (sym after)

  or-there : (other : List ℕ) → written_or other rd v ≡ register_or other rd t
  unfolding written_or
  or-there other =
      elim (eqb rd 0) as
      (λ b. eqb rd 0 ≡ b
      → cond b other (value_part (register_text rd) v) ≡ cond b other (value_part (register_text rd) (register t.registers rd))) [
        | true ↦ λ e. refl
        | false ↦ λ e. ap (value_part (register_text rd)) (there e)
      ] refl

  first-there : written_first rd v ≡ register_first rd t
  unfolding written_first
  first-there =
      elim (eqb rd 0) as
      (λ b. eqb rd 0 ≡ b → cond b [] (value_part (register_text rd) v ++ codes ", ")
      ≡ cond b [] (value_part (register_text rd) (register t.registers rd) ++ codes ", ")) [
        | true ↦ λ e. refl
        | false ↦ λ e. ap (λ u. value_part (register_text rd) u ++ codes ", ") (there e)
      ] refl

-- ---- one of the listed numbers

listed : (P : ℕ → Type 0) (k n : ℕ) (others : Bool) → (eqb k n || others) ≡ true → (k ≡ n → P n) → (others ≡ true → P n) → P n
listed P k n others is here rest =
    elim (eqb k n) as (λ b. eqb k n ≡ b → (b || others) ≡ true → P n) [
      | true ↦ λ e _. here (eqb-true k n e)
      | false ↦ λ _ e. rest e
    ] refl is

-- a special capability register that can be written
each-scr : (P : ℕ → Type 0) (n : ℕ) → (is_scr n && not (eqb n 0)) ≡ true → P 1 → P 28 → P 29 → P 30 → P 31 → P n
each-scr P n is ddc mtcc mtdc mscratchc mepcc =
    let both = and_parts _ _ is in
    listed P 0 n _ both.0 (λ e. absurd (true≢false (sym (eq-eqb n 0 (sym e)) ∙ not-true _ both.1))) (λ others.
    listed P 1 n _ others (λ e. subst P e ddc) (λ others.
    listed P 28 n _ others (λ e. subst P e mtcc) (λ others.
    listed P 29 n _ others (λ e. subst P e mtdc) (λ others.
    listed P 30 n _ others (λ e. subst P e mscratchc) (λ others.
    listed P 31 n _ others (λ e. subst P e mepcc) (λ none. cc))))))

-- a number that is not among those listed differs from each
not-listed : (k n : ℕ) (others : Bool) → (eqb k n || others) ≡ false → (eqb k n ≡ false) × (eqb n k ≡ false) × (others ≡ false)
not-listed k n others is =
    elim (eqb k n) as (λ b. eqb k n ≡ b → (b || others) ≡ false → (eqb k n ≡ false) × (eqb n k ≡ false) × (others ≡ false)) [
      | true ↦ λ _ e. absurd (true≢false e)
      | false ↦ λ e rest. (e, ne_eqb n k (λ same. true≢false (sym (eq-eqb k n (sym same)) ∙ e)), rest)
    ] refl is

-- what holds of all numbers of a list holds of one that is listed
all-listed : {X : Type 0} (number : X → ℕ) (test : ℕ → Bool) (xs : List X) (n : ℕ) → list_all (λ x. test (number x)) xs ≡ true
    → list_any (λ x. eqb (number x) n) xs ≡ true → test n ≡ true
all-listed number test [] n all any = cc
all-listed number test (x ∷ xs) n all any =
    let parts = and_parts _ _ all in
    listed (λ m. test m ≡ true) (number x) n _ any (λ is. subst (λ m. test m ≡ true) is parts.0)
    (λ others. all-listed number test xs n parts.1 others)

-- the registers that can be written and have a meaning of their own
abbrev own : List ℕ
own = 0x300 ∷ 0x301 ∷ 0x304 ∷ 0x305 ∷ 0x341 ∷ 0x342 ∷ 0x343 ∷ 0x344 ∷ 0xb00 ∷ 0xb02 ∷ []

abbrev is_own : ℕ → Bool
is_own n = list_any (λ k. eqb k n) own

-- a control and status register is only read, holds what was written last, or has a meaning of its own
abbrev is_known : ℕ → Bool
is_known n = is_read_only n || (is_some (bits_at n) || is_own n)

own-apart : (n bits : ℕ) → bits_at n ≡ Some bits → is_own n ≡ false
own-apart n bits at =
    elim (is_own n) as (λ b. is_own n ≡ b → b ≡ false) [
      | true ↦ λ e.
          let none : not (is_some (bits_at n)) ≡ true = all-listed (λ k. k) (λ k. not (is_some (bits_at k))) own n refl e in
          absurd (true≢false (sym none ∙ ap (λ o. not (is_some o)) at))
      | false ↦ λ _. refl
    ] refl

-- a control and status register that can be written
each-csr : (P : ℕ → Type 0) (n : ℕ) → (is_csr n && not (is_read_only n)) ≡ true → ((bits : ℕ) → bits_at n ≡ Some bits → P n)
    → P 0x300 → P 0x301 → P 0x304 → P 0x305 → P 0x341 → P 0x342 → P 0x343 → P 0x344 → P 0xb00 → P 0xb02 → P n
each-csr P n is keeps mstatus misa mie mtvec mepc mcause mtval mip mcycle minstret =
    let both = and_parts _ _ is in
    let known : (is_read_only n || (is_some (bits_at n) || is_own n)) ≡ true = all-listed (λ r. r.0) is_known CSRS n refl both.0 in
    let other : (is_some (bits_at n) || is_own n) ≡ true =
    sym (ap (λ b. b || (is_some (bits_at n) || is_own n)) (not-true _ both.1)) ∙ known in
    elim (bits_at n) as (λ at. bits_at n ≡ at → (is_some at || is_own n) ≡ true → P n) [
      | Some bits ↦ λ at _. keeps bits at
      | None ↦ λ _ is.
          listed P 0x300 n _ is (λ e. subst P e mstatus) (λ others.
          listed P 0x301 n _ others (λ e. subst P e misa) (λ others.
          listed P 0x304 n _ others (λ e. subst P e mie) (λ others.
          listed P 0x305 n _ others (λ e. subst P e mtvec) (λ others.
          listed P 0x341 n _ others (λ e. subst P e mepc) (λ others.
          listed P 0x342 n _ others (λ e. subst P e mcause) (λ others.
          listed P 0x343 n _ others (λ e. subst P e mtval) (λ others.
          listed P 0x344 n _ others (λ e. subst P e mip) (λ others.
          listed P 0xb00 n _ others (λ e. subst P e mcycle) (λ others.
          listed P 0xb02 n _ others (λ e. subst P e minstret) (λ none. cc))))))))))
    ] refl other

-- ---- effects

special-there : (s : State) (w : SpecialWrite CapValue) → (is_scr w.number && not (eqb w.number 0)) ≡ true
    → w.value ≡ held (applied (Special w) s) (32 + w.number)
unfolding applied scr_written
special-there s w is =
    each-scr (λ n. w.value ≡ held (applied (Special (record w { number = n })) s) (32 + n)) w.number is refl refl refl refl refl

module _ (s : State) (is : IsState s) where
  jump-there : (v : CapValue) (target : ℕ) → target < 2 ^ 64 → target ≡ value_address (at_address v target)
  jump-there v target fits = sym (value_address-at_address v target fits)

  text-after : (symbols : List Symbol) (e : Effect CapValue) → IsSoundEffect e s → Fits e s
      → effect_text symbols e ≡ text_after symbols e (applied e s)
  unfolding effect_text applied
  text-after symbols (Trap fault) sound fits = refl
  text-after symbols Nothing sound fits = refl
  text-after symbols (Write w) sound fits = or-there s.registers w.rd w.value (applied (Write w) s) is.registers fits refl (codes "nothing")
  text-after symbols (Unseal w) sound fits =
      or-there s.registers w.rd w.value (applied (Unseal w) s) is.registers fits refl (codes "nothing")
  text-after symbols (Store w) sound fits =
      ap (λ d. codes "store " ++ shown_size w.size ++ codes " at " ++ labelled symbols w.address ++ codes ": " ++ d)
      (sym (ap (hex_of (2 * bytes_of w.size)) (number-stored s.memory w.address (bytes_of w.size) w.number sound)
      ∙ digits-of_bytes w.size w.number))
  text-after symbols (StoreCapability w) sound fits =
      ap (λ v. codes "store capability at " ++ labelled symbols w.address ++ codes ": " ++ shown_value v)
      (sym (value-stored s.memory w.address w.value sound.0 sound.1))
  text-after symbols (DeviceLoad l) sound fits =
      ap (λ k. k ++ codes " from device " ++ labelled symbols l.address)
      (or-there s.registers l.rd l.value (applied (DeviceLoad l) s) is.registers fits refl (codes "load"))
  text-after symbols (DeviceStore w) sound fits = refl
  text-after symbols (Jump target) sound fits = ap (jump_part symbols) (jump-there s.scrs.pcc target sound.0)
  text-after symbols (Link l) sound fits =
      ap (λ k. k ++ jump_part symbols l.target) (first-there s.registers l.rd l.link (applied (Link l) s) is.registers fits refl)
      ∙ ap (λ n. register_first l.rd (applied (Link l) s) ++ jump_part symbols n) (jump-there s.scrs.pcc l.target sound.1.0)
  text-after symbols (Enter e) sound fits =
      ap (λ k. k ++ jump_part symbols e.target ++ codes ", " ++ value_part (codes "pcc") (at_address e.code e.target))
      (first-there s.registers e.rd e.link (applied (Enter e) s) is.registers fits refl)
      ∙ ap (λ n. register_first e.rd (applied (Enter e) s) ++ jump_part symbols n ++ codes ", "
      ++ value_part (codes "pcc") (at_address e.code e.target))
      (jump-there e.code e.target sound.2.0)
  text-after symbols (Special w) sound fits =
      ap (λ k. k ++ value_part (shown_special w.number) w.value)
      (first-there s.registers w.rd w.old (applied (Special w) s) is.registers fits.0 refl)
      ∙ ap (λ v. register_first w.rd (applied (Special w) s) ++ value_part (shown_special w.number) v) (special-there s w fits.1)
  text-after symbols (Csr w) sound fits =
      ap (λ k. k ++ shown_csr w.number ++ codes " = " ++ hex_of 16 w.value)
      (first-there s.registers w.rd w.old (applied (Csr w) s) is.registers fits.0 refl)
  text-after symbols (Return sealed) sound fits = ap return_part fits

  -- ---- control and status registers

  mtvec-kept : (n : ℕ) → mtvec_of (mtvec_of n) ≡ mtvec_of n
  unfolding mtvec_of
  mtvec-kept n =
      elim (is_vectored n) as (λ b. is_vectored n ≡ b → mtvec_of (cond b n (n / 4 * 4)) ≡ cond b n (n / 4 * 4)) [
        | true ↦ λ e. rw e refl
        | false ↦ λ e. rw (ne_eqb (n / 4 * 4 % 4) 1 (λ is. omega arith)) (omega arith)
      ] refl

  mtvec-below : (n : ℕ) → n < 2 ^ 64 → mtvec_of n < 2 ^ 64
  unfolding mtvec_of
  mtvec-below n fits = cond_both (is_vectored n) n (n / 4 * 4) (λ m. m < 2 ^ 64) (λ _. fits) (λ _. omega arith)

  -- a register that holds what was written last has the bits that the write sets
  keeps-written : (w : CsrWrite CapValue) (bits : ℕ) → bits_at w.number ≡ Some bits
      → csr_value (applied (Csr w) s).csrs (applied (Csr w) s).scrs (interrupts_of (applied (Csr w) s).devices) w.number
      ≡ Some (kept w.number w.value s)
  unfolding applied csr_value csrs_written views_written
  keeps-written w bits at =
      let a = not-listed 0x300 w.number _ (own-apart w.number bits at) in
      let b = not-listed 0x301 w.number _ a.2 in
      let c = not-listed 0x304 w.number _ b.2 in
      let d = not-listed 0x305 w.number _ c.2 in
      let e = not-listed 0x341 w.number _ d.2 in
      let f = not-listed 0x342 w.number _ e.2 in
      let g = not-listed 0x343 w.number _ f.2 in
      let h = not-listed 0x344 w.number _ g.2 in
      let k = not-listed 0xb00 w.number _ h.2 in
      let l = not-listed 0xb02 w.number _ k.2 in
      let t = applied (Csr w) s in
      let apart : value_at w.number (csr_values t.csrs t.scrs (interrupts_of t.devices)) ≡ None =
      rw (a.0, c.0, d.0, e.0, f.0, g.0, h.0, k.0, l.0) refl in
      let shown : kept w.number w.value s ≡ bits_kept (bits_at w.number) w.value = rw (a.1, b.1, c.1, d.1, e.1, h.1) refl in
      ap (λ o. option_or o (listed_value t.csrs w.number)) apart
      ∙ written-listed_value s.csrs t.csrs w.number w.value bits is.csrs.count refl at
      ∙ ap Some (ap (λ o. bits_kept o w.value) (sym at) ∙ sym shown)

  csr-kept : (w : CsrWrite CapValue) → w.value < 2 ^ 64 → (is_csr w.number && not (is_read_only w.number)) ≡ true
      → csr_value (applied (Csr w) s).csrs (applied (Csr w) s).scrs (interrupts_of (applied (Csr w) s).devices) w.number
      ≡ Some (kept w.number w.value s)
  unfolding applied csr_value csrs_written views_written
  csr-kept w fits listed =
      let view : value_address (at_address s.scrs.mtcc (mtvec_of w.value)) ≡ mtvec_of w.value =
      value_address-at_address s.scrs.mtcc (mtvec_of w.value) (mtvec-below w.value fits) in
      let low : value_address (at_address s.scrs.mepcc (w.value / 4 * 4)) ≡ w.value / 4 * 4 =
      value_address-at_address s.scrs.mepcc (w.value / 4 * 4) (omega arith) in
      each-csr (λ n. csr_value (applied (Csr (record w { number = n })) s).csrs (applied (Csr (record w { number = n })) s).scrs
      (interrupts_of (applied (Csr (record w { number = n })) s).devices) n
      ≡ Some (kept n w.value s)) w.number listed
      (keeps-written w)
      refl
      refl
      refl
      (ap Some (ap mtvec_of view ∙ mtvec-kept w.value))
      (ap Some (ap (λ n. n / 4 * 4) low ∙ omega arith))
      refl
      refl
      refl
      refl
      refl

-- ---- the laws

word-line : (address word text source : List ℕ)
    → address ++ codes " " ++ word ++ codes " " ++ text ++ source ++ codes "\n"
    ≡ address ++ codes " " ++ (word ++ codes " " ++ text) ++ source ++ codes "\n"
word-line address word text source =
    ap (λ k. k ++ source ++ codes "\n")
    (ap (λ k. k ++ text) (append_assoc (address ++ codes " ") word (codes " "))
    ∙ append_assoc (address ++ codes " ") (word ++ codes " ") text)

stepped-applied : (s : State) → s.devices.halted ≡ None → stepped s ≡ applied (step_effect s) s
unfolding stepped
stepped-applied s running = ap (λ halted. stepped_unless halted s) running

effect-after : (symbols : List Symbol) (s : State) → IsState s → s.devices.halted ≡ None
    → effect_text symbols (step_effect s) ≡ text_after symbols (step_effect s) (stepped s)
effect-after symbols s is running =
    text-after s is symbols (step_effect s) (step_effect-sound s is) (step-fits s)
    ∙ ap (text_after symbols (step_effect s)) (sym (stepped-applied s running))

pub shows-the_state_after : ShowsTheStateAfter
unfolding why_text
shows-the_state_after symbols s is running =
    let same = effect-after symbols s is running in (
      λ number.
          ap (λ text. decimal number ++ codes " " ++ labelled symbols (pc_of s) ++ codes " " ++ step_word s ++ codes ": " ++ text
          ++ source_of symbols (pc_of s) ++ codes "\n")
          same,
      ap (λ halted. why_unless symbols halted s) running
          ∙ ap (λ text. instruction_text symbols s ++ stages_text symbols s ++ codes "effect: " ++ text ++ codes "\n") same,
    )

pub shows-the_word : ShowsTheWord
unfolding instruction_text step_word
shows-the_word symbols s = (
  λ inside. rw inside (word-line (labelled symbols (pc_of s)) (hex_of 8 (word_here s)) (shown_word (value_flag s.scrs.pcc) (word_here s))
      (source_of symbols (pc_of s))),
  λ uninterrupted fetched. rw uninterrupted (ap (λ f. word_part (value_flag s.scrs.pcc) (fetched_by None (word_unless f s))) fetched),
)

-- a step's effect that is this one
module _ (s : State) (e : Effect CapValue) (is : step_effect s ≡ e) (running : s.devices.halted ≡ None) where
  pub stepped-by : stepped s ≡ applied e s
  stepped-by = stepped-applied s running ∙ ap (λ e. applied e s) is

pub csrs-keep_what_is_shown : CsrsKeepWhatIsShown
csrs-keep_what_is_shown s is running w effect =
    ap (λ t. csr_value t.csrs t.scrs (interrupts_of t.devices) w.number) (stepped-by s (Csr w) effect running)
    ∙ csr-kept s is w (subst (λ e. IsSoundEffect e s) effect (step_effect-sound s is)).1 (subst (λ e. Fits e s) effect (step-fits s)).1

pub devices-are_given_what_is_shown : DevicesAreGivenWhatIsShown
unfolding applied step_sent sent_by
devices-are_given_what_is_shown s running w effect = (
  ap (λ t. t.devices) (stepped-by s (DeviceStore w) effect running),
  ap (λ halted. step_sent_unless halted s) running ∙ ap sent_by effect,
)
