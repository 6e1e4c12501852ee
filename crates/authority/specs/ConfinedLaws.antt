-- Confined code reaches its two capabilities alone.
use Rattle.std.proofs.Common.{◌≡◌, ℕ, ◌+◌, ◌<◌, ◌≤◌, true, false, ◌⊎◌, inl, inr, sym, ap, subst, ◌∙◌, arith, List, [], lit<}
use Rattle.std.proofs.lemmas.Bool.{true≢false}
use Rattle.base.specs.Ram.{ram_base}
use Rattle.cap_bounds.specs.CapValue.{CapValue, is_tagged, is_sealed, value_base, value_top}
use Rattle.cap_rights.specs.Permission.{permits}
use Rattle.cap_rights.specs.Rights.{IsInRightsOf, OpensSystem, OpensGranule, OpensStore, OpensByte, OpensType}
use Rattle.cap_rights.specs.declared.permission.Permission.TheVariants as permission
use Rattle.tagged_memory.specs.Memory.{has_tag}
use Rattle.devices.specs.Devices.{halt, kept_place, control_register, transmit}
use Rattle.devices.specs.KeptLaws.{kept_place-below}
use Rattle.steps.specs.State.{State}
use Rattle.authority.specs.Reachable.{IsRoot, in_register, in_pcc, in_ddc, IsReachable, from_root, from_special, from_granule}
use Rattle.authority.specs.Authority.{Not, NoNewRights, NewSealsAllowed, IsSealAllowed, held, sentry, sealed_by, IsWritable, HasSystem}
use Rattle.authority.specs.Authority.{LeavesAlone, IsSilent}
use Rattle.authority.specs.Worlds.{IsReadable, Agree}
use Rattle.authority.specs.Confined.{Spans, IsConfined, IsOfTheTwo, IsSealedAsTheTwo, StaysOutside, LooksTheSame}

module _ (s : State) (confined : IsConfined s) where
  -- it is PCC, or DDC
  abbrev IsOne : CapValue → Type 0
  IsOne v = (v ≡ s.scrs.pcc) ⊎ (v ≡ s.scrs.ddc)

  no_system : (c : CapValue) → IsOne c → OpensSystem c → ⊥
  no_system c (inl same) opens =
      true≢false (sym opens.system ∙ ap (λ v. permits v permission.AccessSystemRegisters) same ∙ confined.narrow.code_system)
  no_system c (inr same) opens =
      true≢false (sym opens.system ∙ ap (λ v. permits v permission.AccessSystemRegisters) same ∙ confined.narrow.data_system)

  no_granule : (c : CapValue) (granule : ℕ) → IsOne c → OpensGranule c granule → has_tag s.memory granule ≡ false
  no_granule c granule (inl same) opens = confined.code_granules granule (subst (λ v. OpensGranule v granule) same opens)
  no_granule c granule (inr same) opens = confined.data_granules granule (subst (λ v. OpensGranule v granule) same opens)

  root : (v : CapValue) → is_tagged v ≡ true → IsRoot s v → IsOne v
  root v tagged (in_register n same) = absurd (true≢false (sym tagged ∙ ap is_tagged same ∙ confined.registers n))
  root v tagged (in_pcc same) = inl same
  root v tagged (in_ddc same) = inr same

  pub reached : (v : CapValue) → IsReachable s v → IsOne v
  reached v (from_root tagged is) = root v tagged is
  reached v (from_special {c = c} reachable opens tagged special) = absurd (no_system c (reached c reachable) opens)
  reached v (from_granule {c = c} granule reachable opens here) =
      absurd (true≢false (sym here.tagged ∙ no_granule c granule (reached c reachable) opens))

  -- ---- what it opens

  stored : (c : CapValue) (address : ℕ) → IsOne c → OpensStore c address → Spans s.scrs.ddc address
  stored c address (inl same) opens =
      absurd (true≢false (sym opens.stores ∙ ap (λ v. permits v permission.Store) same ∙ confined.narrow.stores))
  stored c address (inr same) opens =
      let there : OpensStore s.scrs.ddc address = subst (λ v. OpensStore v address) same opens in
      (there.base, there.top)

  pub writable : (address : ℕ) → IsWritable s address → Spans s.scrs.ddc address
  writable address is = stored is.source address (reached is.source is.reachable) is.opens

  read : (c : CapValue) (address : ℕ) → IsOne c → OpensByte c address → Spans s.scrs.pcc address ⊎ Spans s.scrs.ddc address
  read c address (inl same) opens =
      let there : OpensByte s.scrs.pcc address = subst (λ v. OpensByte v address) same opens in
      inl (there.base, there.top)
  read c address (inr same) opens =
      let there : OpensByte s.scrs.ddc address = subst (λ v. OpensByte v address) same opens in
      inr (there.base, there.top)

  pub readable : (address : ℕ) → IsReadable s address → Spans s.scrs.pcc address ⊎ Spans s.scrs.ddc address
  readable address is = read is.source address (reached is.source is.reachable) is.opens

  tags-read : (c : CapValue) (granule : ℕ) → IsOne c → OpensGranule c granule
      → OpensGranule s.scrs.pcc granule ⊎ OpensGranule s.scrs.ddc granule
  tags-read c granule (inl same) opens = inl (subst (λ v. OpensGranule v granule) same opens)
  tags-read c granule (inr same) opens = inr (subst (λ v. OpensGranule v granule) same opens)

  pub system : Not (HasSystem s)
  system has = no_system has.source (reached has.source has.reachable) has.opens

  pub below_ram : (address : ℕ) → address < ram_base → Not (IsWritable s address)
  below_ram address below is =
      let spans = writable address is in
      let from : ram_base ≤ value_base s.scrs.ddc = confined.in_ram in
      let low : value_base s.scrs.ddc ≤ address = spans.0 in
      let never : ram_base < ram_base = omega arith in
      omega arith

  no_types : (c : CapValue) (otype : ℕ) → IsOne c → OpensType c otype → ⊥
  no_types c otype (inl same) opens =
      true≢false (sym opens.seals ∙ ap (λ v. permits v permission.Seal) same ∙ confined.narrow.code_seals)
  no_types c otype (inr same) opens =
      true≢false (sym opens.seals ∙ ap (λ v. permits v permission.Seal) same ∙ confined.narrow.data_seals)

  -- ---- a later state

  module _ (later : State) where
    one : (v c : CapValue) → IsOne c → IsInRightsOf v c → IsOfTheTwo s v
    one v c (inl same) within = inl (subst (IsInRightsOf v) same within)
    one v c (inr same) within = inr (subst (IsInRightsOf v) same within)

    pub rights : NoNewRights s later → (v : CapValue) → IsReachable later v → IsOfTheTwo s v
    rights none v reachable =
        let covered = none v reachable in
        one v covered.source (reached covered.source covered.reachable) covered.within

    sealed-as : (v : CapValue) → IsSealAllowed s v → IsSealedAsTheTwo s v
    sealed-as v (held reachable) = inr (reached v reachable)
    sealed-as v (sentry entry) = inl entry
    sealed-as v (sealed_by c reachable opens) = absurd (no_types c _ (reached c reachable) opens)

    pub seals : NewSealsAllowed s later → (v : CapValue) → IsReachable later v → is_sealed v ≡ true → IsSealedAsTheTwo s v
    seals allowed v reachable closed = sealed-as v (allowed v reachable closed)

    outside : (a : ℕ) → (a < value_base s.scrs.ddc) ⊎ (value_top s.scrs.ddc ≤ a) → Not (IsWritable s a)
    outside a (inl below) is = let low : value_base s.scrs.ddc ≤ a = (writable a is).0 in omega arith
    outside a (inr past) is = let high : a < value_top s.scrs.ddc = (writable a is).1 in omega arith

    granule-outside : (granule : ℕ) → (granule + 16 ≤ value_base s.scrs.ddc) ⊎ (value_top s.scrs.ddc ≤ granule) → (a : ℕ) → granule ≤ a
        → a < granule + 16 → Not (IsWritable s a)
    granule-outside granule (inl below) a low high = outside a (inl (omega arith))
    granule-outside granule (inr past) a low high = outside a (inr (omega arith))

    pub stays : LeavesAlone s later → StaysOutside s later
    stays leaves = record {
      size = leaves.memory.size;
      bytes = λ a low far. leaves.memory.bytes a low (outside a far);
      tags = λ granule far. leaves.memory.tags granule (granule-outside granule far);
      halted = leaves.devices.halt (below_ram halt (lit< tt));
      kept = λ k. leaves.devices.kept k (below_ram (kept_place k) (kept_place-below k));
      control = leaves.devices.control (below_ram control_register (lit< tt));
      scrs = leaves.scrs system;
      csrs = leaves.csrs system;
    }

  pub silent : (bytes : List ℕ) → IsSilent s bytes → bytes ≡ []
  silent bytes is = is (below_ram transmit (lit< tt))

  -- ---- another state

  pub agrees : (t : State) → LooksTheSame s t → Agree s t
  agrees t looks = record {
    registers = looks.registers;
    pcc = looks.pcc;
    ddc = looks.ddc;
    csrs = looks.csrs;
    devices = looks.devices;
    memory = record {
      size = looks.size;
      bytes = λ a low is. looks.bytes a low (readable a is);
      tags = λ granule is.
          let opens = tags-read is.source granule (reached is.source is.reachable) is.opens in
          looks.tags granule opens ∙ sym (no_granule is.source granule (reached is.source is.reachable) is.opens);
    };
    scrs = λ has. absurd (system has);
  }
