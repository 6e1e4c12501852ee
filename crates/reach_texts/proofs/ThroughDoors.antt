-- What it means in the words of doors that no value does, where the values are those that are reachable through doors.
use Rattle.std.proofs.Common.{ℕ, ◌+◌, ◌<◌, ◌≤◌, List, ap, inl, inr}
use Rattle.std.proofs.lemmas.Bool.{cases_lt}
use Rattle.cap_bounds.specs.CapValue.{CapValue}
use Rattle.cap_rights.specs.Rights.{OpensSystem, OpensStore}
use Rattle.steps.specs.State.{State}
use Rattle.doors.specs.Doors.{IsReachableThroughDoors}
use Rattle.doors.specs.Sets.{IsWritableBy, HasSystemBy}
use Rattle.doors.specs.Through.{AreReachableThroughDoors}
use Rattle.doors.specs.Worlds.{IsReadableBy, AgreeThroughDoors}
use Rattle.reach.specs.declared.right.Right.TheVariants.{Store, Load, Execute}
use Rattle.reach.specs.Differs.{DiffersWithin}
use Rattle.reach.specs.First.{HoldsOfNone}
use Rattle.reach.specs.Opens.{OpensSome}
use Rattle.reach.proofs.Meaning.{store-opens, byte-opens}

-- ---- values

module _ (s : State) (vs : List CapValue) (are : AreReachableThroughDoors s vs) where
  pub not_stored : (address size : ℕ) → HoldsOfNone (λ v. OpensSome Store v address size) vs → (a : ℕ) → address ≤ a
      → a < address + size → IsWritableBy (IsReachableThroughDoors s) a → ⊥
  not_stored address size none a low high w =
      none w.source (are.complete w.source w.member) (record { byte = a; low = low; high = high; opens = store-opens w.source a w.opens })

  pub not_stored_at : (register : ℕ) → HoldsOfNone (λ v. OpensStore v register) vs → IsWritableBy (IsReachableThroughDoors s) register → ⊥
  not_stored_at register none w = none w.source (are.complete w.source w.member) w.opens

  pub not_system : HoldsOfNone OpensSystem vs → HasSystemBy (IsReachableThroughDoors s) → ⊥
  not_system none h = none h.source (are.complete h.source h.member) h.opens

  not_read : (address size : ℕ) → HoldsOfNone (λ v. OpensSome Load v address size) vs
      → HoldsOfNone (λ v. OpensSome Execute v address size) vs → (a : ℕ) → address ≤ a
      → a < address + size → IsReadableBy (IsReachableThroughDoors s) a → ⊥
  not_read address size no_load no_fetch a low high r = elim (byte-opens r.source a r.opens) [
    | inl loads ↦ no_load r.source (are.complete r.source r.member) (record { byte = a; low = low; high = high; opens = loads })
    | inr fetches ↦ no_fetch r.source (are.complete r.source r.member) (record { byte = a; low = low; high = high; opens = fetches })
  ]

  -- states that differ only in bytes that no value reads agree through doors
  pub agree-hidden : (t : State) (address size : ℕ) → HoldsOfNone (λ v. OpensSome Load v address size) vs
      → HoldsOfNone (λ v. OpensSome Execute v address size) vs → DiffersWithin s t address size → AgreeThroughDoors s t
  agree-hidden t address size no_load no_fetch differs = record {
    registers = differs.registers;
    pcc = ap (λ x. x.pcc) differs.scrs;
    ddc = ap (λ x. x.ddc) differs.scrs;
    csrs = differs.csrs;
    devices = differs.devices;
    memory = record {
      size = differs.ram;
      bytes = λ a in_ram readable. elim (cases_lt a address) [
        | inl before ↦ differs.outside a in_ram (inl before)
        | inr from ↦ elim (cases_lt a (address + size)) [
          | inl inside ↦ absurd (not_read address size no_load no_fetch a from inside readable)
          | inr past ↦ differs.outside a in_ram (inr past)
        ]
      ];
      tags = λ granule readable. differs.tags granule;
    };
    scrs = λ _. record {
      mtcc = ap (λ x. x.mtcc) differs.scrs;
      mtdc = ap (λ x. x.mtdc) differs.scrs;
      mscratchc = ap (λ x. x.mscratchc) differs.scrs;
      mepcc = ap (λ x. x.mepcc) differs.scrs;
    };
  }
