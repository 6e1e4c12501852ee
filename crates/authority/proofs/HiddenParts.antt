-- Agreement leaves something open: what no reachable capability opens may be anything in the other state.
use Rattle.std.proofs.Common.{◌≡◌, ℕ, ◌+◌, ◌-◌, ◌≤◌, inl, inr, refl, arith}
use Rattle.std.specs.Prelude.{slice_index, slice_set}
use Rattle.std.proofs.lemmas.Bool.{cases_eq}
use Rattle.std.proofs.lemmas.List.{get_or-set_other, length-set}
use Rattle.std.proofs.Common.{subst}
use Rattle.base.specs.Ram.{ram_base}
use Rattle.special_regs.specs.Scrs.{Scrs}
use Rattle.steps.specs.State.{State}
use Rattle.authority.specs.Authority.{Not, HasSystem}
use Rattle.authority.specs.Worlds.{IsReadable, Agree}

other-byte : (s : State) (k b : ℕ) → Not (IsReadable s (ram_base + k)) → (a : ℕ) → ram_base ≤ a → IsReadable s a
    → slice_index (slice_set s.memory.bytes k b) (a - ram_base) ≡ slice_index s.memory.bytes (a - ram_base)
other-byte s k b hidden a low read =
    elim (cases_eq (a - ram_base) k) [
      | inl same ↦
          let here : a ≡ ram_base + k = omega arith in
          absurd (hidden (subst (IsReadable s) here read))
      | inr apart ↦ get_or-set_other s.memory.bytes k (a - ram_base) b 0 apart
    ]

pub hidden-byte : (s : State) (k b : ℕ) → Not (IsReadable s (ram_base + k))
    → Agree s (record s { memory = record s.memory { bytes = slice_set s.memory.bytes k b } })
hidden-byte s k b hidden = record {
  registers = refl;
  pcc = refl;
  ddc = refl;
  csrs = refl;
  devices = refl;
  memory = record {
    size = length-set s.memory.bytes k b;
    bytes = other-byte s k b hidden;
    tags = λ granule readable. refl;
  };
  scrs = λ has. record { mtcc = refl; mtdc = refl; mscratchc = refl; mepcc = refl };
}

pub hidden-registers : (s : State) (x : Scrs) → Not (HasSystem s)
    → Agree s (record s { scrs = record x { pcc = s.scrs.pcc; ddc = s.scrs.ddc } })
hidden-registers s x none = record {
  registers = refl;
  pcc = refl;
  ddc = refl;
  csrs = refl;
  devices = refl;
  memory = record { size = refl; bytes = λ a low readable. refl; tags = λ granule readable. refl };
  scrs = λ has. absurd (none has);
}
