-- What the members' answers mean in the words of authority.
use Rattle.std.proofs.Common.{ℕ, ◌+◌, ◌<◌, ◌≤◌, List, ap, inl, inr, ◌⊎◌, arith}
use Rattle.std.proofs.lemmas.Bool.{cases_lt}
use Rattle.cap_bounds.specs.CapValue.{CapValue}
use Rattle.cap_rights.specs.Rights.{OpensSystem, OpensGranule, OpensKeeping, OpensStore, OpensByte, OpensType}
use Rattle.steps.specs.State.{State}
use Rattle.authority.specs.Authority.{IsWritable, HasSystem}
use Rattle.authority.specs.Worlds.{IsReadable, Agree}
use Rattle.reach.specs.declared.right.Right.TheVariants.{Store, Load, Execute, Capabilities, Keep, Seal, Unseal}
use Rattle.reach.specs.Differs.{DiffersWithin}
use Rattle.reach.specs.First.{HoldsOfNone}
use Rattle.reach.specs.Opens.{Opens, OpensSome, OpensUnsealing}
use Rattle.reach.specs.Ranges.{IsOpen}
use Rattle.reach.specs.Reach.{AreReachable}

-- ---- rights

pub store-opens : (c : CapValue) (a : ℕ) → OpensStore c a → Opens Store c a
store-opens c a opens = record {
  allows = record { unsealed = opens.unsealed; permitted = opens.stores };
  base = opens.base;
  top = opens.top;
}

pub opens-store : (c : CapValue) (a : ℕ) → Opens Store c a → OpensStore c a
opens-store c a opens = record {
  unsealed = opens.allows.unsealed;
  stores = opens.allows.permitted;
  base = opens.base;
  top = opens.top;
}

pub byte-opens : (c : CapValue) (a : ℕ) → OpensByte c a → Opens Load c a ⊎ Opens Execute c a
byte-opens c a opens = elim opens.reads [
  | inl loads ↦ inl (record { allows = record { unsealed = opens.unsealed; permitted = loads }; base = opens.base; top = opens.top })
  | inr fetches ↦ inr (record { allows = record { unsealed = opens.unsealed; permitted = fetches }; base = opens.base; top = opens.top })
]

pub opens-byte : (c : CapValue) (a : ℕ) → Opens Load c a ⊎ Opens Execute c a → OpensByte c a
opens-byte c a (inl loads) = record {
  unsealed = loads.allows.unsealed;
  reads = inl loads.allows.permitted;
  base = loads.base;
  top = loads.top;
}
opens-byte c a (inr fetches) = record {
  unsealed = fetches.allows.unsealed;
  reads = inr fetches.allows.permitted;
  base = fetches.base;
  top = fetches.top;
}

pub granule-opens : (c : CapValue) (g : ℕ) → OpensGranule c g → (a : ℕ) → g ≤ a → a < g + 16 → Opens Capabilities c a
granule-opens c g opens a low high =
    let base = opens.base in
    let top = opens.top in
    record {
      allows = record { unsealed = opens.unsealed; permitted = (opens.loads, opens.capabilities) };
      base = omega arith;
      top = omega arith;
    }

pub keeping-opens : (c : CapValue) (g : ℕ) → OpensKeeping c g → (a : ℕ) → g ≤ a → a < g + 16 → Opens Keep c a
keeping-opens c g opens a low high =
    let base = opens.store.base in
    let top = opens.store.top in
    record {
      allows = record { unsealed = opens.store.unsealed; permitted = (opens.store.stores, opens.store.capabilities, opens.locals) };
      base = omega arith;
      top = omega arith;
    }

pub opens-type : (c : CapValue) (otype : ℕ) → Opens Seal c otype → OpensType c otype
opens-type c otype opens = record {
  unsealed = opens.allows.unsealed;
  seals = opens.allows.permitted;
  base = opens.base;
  top = opens.top;
}

pub type-opens : (c : CapValue) (otype : ℕ) → OpensType c otype → Opens Seal c otype
type-opens c otype opens = record {
  allows = record { unsealed = opens.unsealed; permitted = opens.seals };
  base = opens.base;
  top = opens.top;
}

pub opens-unsealing : (c : CapValue) (otype : ℕ) → Opens Unseal c otype → OpensUnsealing c otype
opens-unsealing c otype opens = record {
  unsealed = opens.allows.unsealed;
  unseals = opens.allows.permitted;
  base = opens.base;
  top = opens.top;
}

pub unsealing-opens : (c : CapValue) (otype : ℕ) → OpensUnsealing c otype → Opens Unseal c otype
unsealing-opens c otype opens = record {
  allows = record { unsealed = opens.unsealed; permitted = opens.unseals };
  base = opens.base;
  top = opens.top;
}

-- ---- answers

module _ (s : State) (vs : List CapValue) (are : AreReachable s vs) where
  pub open-writable : (a : ℕ) → IsOpen Store vs a → IsWritable s a
  open-writable a o = record {
    source = o.value;
    reachable = are.sound o.value o.is_one;
    opens = opens-store o.value a o.opens;
  }

  pub writable-open : (a : ℕ) → IsWritable s a → IsOpen Store vs a
  writable-open a w = record {
    value = w.source;
    is_one = are.complete w.source w.reachable;
    opens = store-opens w.source a w.opens;
  }

  pub open-readable : (a : ℕ) → IsOpen Load vs a ⊎ IsOpen Execute vs a → IsReadable s a
  open-readable a (inl o) = record {
    source = o.value;
    reachable = are.sound o.value o.is_one;
    opens = opens-byte o.value a (inl o.opens);
  }
  open-readable a (inr o) = record {
    source = o.value;
    reachable = are.sound o.value o.is_one;
    opens = opens-byte o.value a (inr o.opens);
  }

  pub readable-open : (a : ℕ) → IsReadable s a → IsOpen Load vs a ⊎ IsOpen Execute vs a
  readable-open a r = elim (byte-opens r.source a r.opens) [
    | inl loads ↦ inl (record { value = r.source; is_one = are.complete r.source r.reachable; opens = loads })
    | inr fetches ↦ inr (record { value = r.source; is_one = are.complete r.source r.reachable; opens = fetches })
  ]

  pub not_stored : (address size : ℕ) → HoldsOfNone (λ v. OpensSome Store v address size) vs → (a : ℕ) → address ≤ a
      → a < address + size → IsWritable s a → ⊥
  not_stored address size none a low high w =
      none w.source (are.complete w.source w.reachable)
      (record { byte = a; low = low; high = high; opens = store-opens w.source a w.opens })

  pub not_stored_at : (register : ℕ) → HoldsOfNone (λ v. OpensStore v register) vs → IsWritable s register → ⊥
  not_stored_at register none w = none w.source (are.complete w.source w.reachable) w.opens

  pub no_system : HoldsOfNone OpensSystem vs → HasSystem s → ⊥
  no_system none h = none h.source (are.complete h.source h.reachable) h.opens

  not_read : (address size : ℕ) → HoldsOfNone (λ v. OpensSome Load v address size) vs
      → HoldsOfNone (λ v. OpensSome Execute v address size) vs → (a : ℕ) → address ≤ a → a < address + size → IsReadable s a → ⊥
  not_read address size no_load no_fetch a low high r = elim (byte-opens r.source a r.opens) [
    | inl loads ↦ no_load r.source (are.complete r.source r.reachable)
        (record { byte = a; low = low; high = high; opens = loads })
    | inr fetches ↦ no_fetch r.source (are.complete r.source r.reachable)
        (record { byte = a; low = low; high = high; opens = fetches })
  ]

  -- states that differ in bytes alone that no member reads agree
  pub agree-hidden : (t : State) (address size : ℕ) → HoldsOfNone (λ v. OpensSome Load v address size) vs
      → HoldsOfNone (λ v. OpensSome Execute v address size) vs → DiffersWithin s t address size → Agree s t
  agree-hidden t address size no_load no_fetch differs = record {
    registers = differs.registers;
    pcc = ap (λ x. x.pcc) differs.scrs;
    ddc = ap (λ x. x.ddc) differs.scrs;
    csrs = differs.csrs;
    devices = differs.devices;
    memory = record {
      size = differs.ram;
      bytes = λ a in_ram readable. elim (cases_lt a address) [
        | inl before ↦ differs.outside a in_ram (inl before)
        | inr from ↦ elim (cases_lt a (address + size)) [
          | inl inside ↦ absurd (not_read address size no_load no_fetch a from inside readable)
          | inr past ↦ differs.outside a in_ram (inr past)
        ]
      ];
      tags = λ granule readable. differs.tags granule;
    };
    scrs = λ _. record {
      mtcc = ap (λ x. x.mtcc) differs.scrs;
      mtdc = ap (λ x. x.mtdc) differs.scrs;
      mscratchc = ap (λ x. x.mscratchc) differs.scrs;
      mepcc = ap (λ x. x.mepcc) differs.scrs;
    };
  }
