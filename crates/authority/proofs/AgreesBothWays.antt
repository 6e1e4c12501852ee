-- Agreeing states have the same reachable values, so agreement goes both ways, and over a third state.
use Rattle.std.proofs.Common.{◌≡◌, ℕ, ◌+◌, ◌<◌, ◌≤◌, true, inl, refl, sym, ap, ◌∙◌, arith}
use Rattle.base.specs.Ram.{ram_base}
use Rattle.cap_bounds.specs.CapValue.{CapValue, value_of}
use Rattle.cap_rights.specs.Rights.{OpensSystem, OpensGranule}
use Rattle.tagged_memory.specs.Memory.{IsMemory, has_tag, word_at}
use Rattle.tagged_memory.specs.MemoryLaws.{in_ram}
use Rattle.special_regs.specs.Scrs.{Scrs}
use Rattle.registers.specs.Registers.{register}
use Rattle.steps.specs.State.{State}
use Rattle.authority.specs.Authority.{HasSystem, SameScrs}
use Rattle.authority.specs.Reachable.{IsRoot, in_register, in_pcc, in_ddc, IsSpecial, in_mtcc, in_mtdc, in_mscratchc, in_mepcc, IsHeldAt}
use Rattle.authority.specs.Reachable.{IsReachable, from_root, from_special, from_granule}
use Rattle.authority.specs.SameBytesLaws.{word_at-same}
use Rattle.authority.specs.Worlds.{IsReadable, IsTagReadable, Agree}

SameScrs-sym : (x y : Scrs) → SameScrs x y → SameScrs y x
SameScrs-sym x y same = record {
  mtcc = sym same.mtcc;
  mtdc = sym same.mtdc;
  mscratchc = sym same.mscratchc;
  mepcc = sym same.mepcc;
}

SameScrs-trans : (x y z : Scrs) → SameScrs x y → SameScrs y z → SameScrs x z
SameScrs-trans x y z first then = record {
  mtcc = then.mtcc ∙ first.mtcc;
  mtdc = then.mtdc ∙ first.mtdc;
  mscratchc = then.mscratchc ∙ first.mscratchc;
  mepcc = then.mepcc ∙ first.mepcc;
}

-- ---- roots and special registers

module _ (s t : State) (agree : Agree s t) (v : CapValue) where
  root-there : IsRoot s v → IsRoot t v
  root-there (in_register n same) = in_register n (same ∙ sym (ap (λ rs. register rs n) agree.registers))
  root-there (in_pcc same) = in_pcc (same ∙ sym agree.pcc)
  root-there (in_ddc same) = in_ddc (same ∙ sym agree.ddc)

  root-back : IsRoot t v → IsRoot s v
  root-back (in_register n same) = in_register n (same ∙ ap (λ rs. register rs n) agree.registers)
  root-back (in_pcc same) = in_pcc (same ∙ agree.pcc)
  root-back (in_ddc same) = in_ddc (same ∙ agree.ddc)

  special-there : SameScrs s.scrs t.scrs → IsSpecial s v → IsSpecial t v
  special-there scrs (in_mtcc same) = in_mtcc (same ∙ sym scrs.mtcc)
  special-there scrs (in_mtdc same) = in_mtdc (same ∙ sym scrs.mtdc)
  special-there scrs (in_mscratchc same) = in_mscratchc (same ∙ sym scrs.mscratchc)
  special-there scrs (in_mepcc same) = in_mepcc (same ∙ sym scrs.mepcc)

  special-back : SameScrs s.scrs t.scrs → IsSpecial t v → IsSpecial s v
  special-back scrs (in_mtcc same) = in_mtcc (same ∙ scrs.mtcc)
  special-back scrs (in_mtdc same) = in_mtdc (same ∙ scrs.mtdc)
  special-back scrs (in_mscratchc same) = in_mscratchc (same ∙ scrs.mscratchc)
  special-back scrs (in_mepcc same) = in_mepcc (same ∙ scrs.mepcc)

-- ---- granules

module _ (s t : State) (is : IsMemory s.memory) (agree : Agree s t) (c : CapValue) (reachable : IsReachable s c) where
  system-same : OpensSystem c → SameScrs s.scrs t.scrs
  system-same opens = agree.scrs (record { source = c; reachable = reachable; opens = opens })

  module _ (granule : ℕ) (opens : OpensGranule c granule) where
    tag-same : has_tag t.memory granule ≡ has_tag s.memory granule
    tag-same = agree.memory.tags granule (record { source = c; reachable = reachable; opens = opens })

    -- each byte of the granule is readable
    readable : (a : ℕ) → granule ≤ a → a < granule + 16 → IsReadable s a
    readable a low high =
        let base = opens.base in
        let top = opens.top in
        record {
          source = c;
          reachable = reachable;
          opens = record { unsealed = opens.unsealed; reads = inl opens.loads; base = omega arith; top = omega arith };
        }

    granule-word : has_tag s.memory granule ≡ true → word_at t.memory granule ≡ word_at s.memory granule
    granule-word tagged =
        let place = in_ram s.memory granule 16 (is.granules_in_ram granule tagged) in
        let base : ram_base ≤ granule = place.0 in
        word_at-same s.memory t.memory granule (record {
          inside = is.granules_in_ram granule tagged;
          length = agree.memory.size;
          bytes = λ a low high. agree.memory.bytes a (omega arith) (readable a low high);
        })

    held-there : (v : CapValue) → IsHeldAt s.memory granule v → IsHeldAt t.memory granule v
    held-there v held = record {
      tagged = tag-same ∙ held.tagged;
      value = held.value ∙ sym (ap (λ w. value_of w true) (granule-word held.tagged));
    }

    held-back : (v : CapValue) → IsHeldAt t.memory granule v → IsHeldAt s.memory granule v
    held-back v held =
        let tagged : has_tag s.memory granule ≡ true = sym tag-same ∙ held.tagged in
        record { tagged = tagged; value = held.value ∙ ap (λ w. value_of w true) (granule-word tagged) }

-- ---- reachable values

pub reachable-there : (s t : State) → IsMemory s.memory → Agree s t → (v : CapValue) → IsReachable s v → IsReachable t v
reachable-there s t is agree v (from_root tagged root) = from_root tagged (root-there s t agree v root)
reachable-there s t is agree v (from_special {c = c} reachable opens tagged special) =
    from_special (reachable-there s t is agree c reachable) opens tagged
    (special-there s t agree v (system-same s t is agree c reachable opens) special)
reachable-there s t is agree v (from_granule {c = c} granule reachable opens held) =
    from_granule granule (reachable-there s t is agree c reachable) opens (held-there s t is agree c reachable granule opens v held)

pub reachable-back : (s t : State) → IsMemory s.memory → Agree s t → (v : CapValue) → IsReachable t v → IsReachable s v
reachable-back s t is agree v (from_root tagged root) = from_root tagged (root-back s t agree v root)
reachable-back s t is agree v (from_special {c = c} reachable opens tagged special) =
    let before : IsReachable s c = reachable-back s t is agree c reachable in
    from_special before opens tagged (special-back s t agree v (system-same s t is agree c before opens) special)
reachable-back s t is agree v (from_granule {c = c} granule reachable opens held) =
    let before : IsReachable s c = reachable-back s t is agree c reachable in
    from_granule granule before opens (held-back s t is agree c before granule opens v held)

-- ---- agreement

pub Agree-refl : (s : State) → Agree s s
Agree-refl s = record {
  registers = refl;
  pcc = refl;
  ddc = refl;
  csrs = refl;
  devices = refl;
  memory = record { size = refl; bytes = λ a low readable. refl; tags = λ granule readable. refl };
  scrs = λ has. record { mtcc = refl; mtdc = refl; mscratchc = refl; mepcc = refl };
}

module _ (s t : State) (is : IsMemory s.memory) (agree : Agree s t) where
  -- what is readable in one is readable in the other
  readable-there : (a : ℕ) → IsReadable s a → IsReadable t a
  readable-there a read = record {
    source = read.source;
    reachable = reachable-there s t is agree read.source read.reachable;
    opens = read.opens;
  }

  readable-back : (a : ℕ) → IsReadable t a → IsReadable s a
  readable-back a read = record {
    source = read.source;
    reachable = reachable-back s t is agree read.source read.reachable;
    opens = read.opens;
  }

  tag_readable-there : (granule : ℕ) → IsTagReadable s granule → IsTagReadable t granule
  tag_readable-there granule read = record {
    source = read.source;
    reachable = reachable-there s t is agree read.source read.reachable;
    opens = read.opens;
  }

  tag_readable-back : (granule : ℕ) → IsTagReadable t granule → IsTagReadable s granule
  tag_readable-back granule read = record {
    source = read.source;
    reachable = reachable-back s t is agree read.source read.reachable;
    opens = read.opens;
  }

  system-there : HasSystem s → HasSystem t
  system-there has = record {
    source = has.source;
    reachable = reachable-there s t is agree has.source has.reachable;
    opens = has.opens;
  }

  system-back : HasSystem t → HasSystem s
  system-back has = record {
    source = has.source;
    reachable = reachable-back s t is agree has.source has.reachable;
    opens = has.opens;
  }

  pub Agree-sym : Agree t s
  Agree-sym = record {
    registers = sym agree.registers;
    pcc = sym agree.pcc;
    ddc = sym agree.ddc;
    csrs = sym agree.csrs;
    devices = sym agree.devices;
    memory = record {
      size = sym agree.memory.size;
      bytes = λ a low read. sym (agree.memory.bytes a low (readable-back a read));
      tags = λ granule read. sym (agree.memory.tags granule (tag_readable-back granule read));
    };
    scrs = λ has. SameScrs-sym s.scrs t.scrs (agree.scrs (system-back has));
  }

  pub Agree-trans : (u : State) → Agree t u → Agree s u
  Agree-trans u then = record {
    registers = then.registers ∙ agree.registers;
    pcc = then.pcc ∙ agree.pcc;
    ddc = then.ddc ∙ agree.ddc;
    csrs = then.csrs ∙ agree.csrs;
    devices = then.devices ∙ agree.devices;
    memory = record {
      size = then.memory.size ∙ agree.memory.size;
      bytes = λ a low read. then.memory.bytes a low (readable-there a read) ∙ agree.memory.bytes a low read;
      tags = λ granule read. then.memory.tags granule (tag_readable-there granule read) ∙ agree.memory.tags granule read;
    };
    scrs = λ has. SameScrs-trans s.scrs t.scrs u.scrs (agree.scrs has) (then.scrs (system-there has));
  }
