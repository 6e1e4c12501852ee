-- Agreeing states have the same looks: each place that a step looks at is one that a reachable capability opens. And what can be read
-- later could be read before.
use Rattle.std.proofs.Common.{◌≡◌, ℕ, ◌+◌, ◌<◌, ◌≤◌, true, inl, inr, arith, refl}
use Rattle.base.specs.Ram.{ram_base}
use Rattle.base.specs.Size.{bytes_of}
use Rattle.cap_checks.specs.declared.access.Access.TheVariants as access
use Rattle.cap_rights.specs.Permission.{permits}
use Rattle.cap_rights.specs.RightsLaws.{OpensByte-outer, OpensGranule-outer}
use Rattle.cap_rights.specs.declared.permission.Permission.TheVariants as permission
use Rattle.isa_rows.specs.declared.operands.Insn.{Insn}
use Rattle.tagged_memory.specs.Memory.{is_in_ram}
use Rattle.tagged_memory.specs.MemoryLaws.{in_ram}
use Rattle.steps.specs.Accesses.{size_of}
use Rattle.steps.specs.MemoryRows.{place_of, authority_of, authority_number_of}
use Rattle.steps.specs.State.{State, pc_of}
use Rattle.authority.specs.Reachable.{from_root, in_pcc}
use Rattle.authority.specs.Grounded.{GrowsNot}
use Rattle.authority.specs.RowLaws.{IsAllowed, allowed, IsFetched, fetched-pcc, system-pcc, reachable-authority}
use Rattle.authority.specs.SameBytesLaws.{HasSameBytes, number_at-same, word_at-same}
use Rattle.authority.specs.Worlds.{IsReadable, IsTagReadable, Agree}
use Rattle.authority.specs.WorldLooks.{Loads, LoadsCapability, SameLooks}

-- ---- what is looked at is readable

readable-fetched : (s : State) → IsFetched s → (a : ℕ) → pc_of s ≤ a → a < pc_of s + 4 → IsReadable s a
readable-fetched s fetched a low high =
    let base = fetched.base in
    let top = fetched.top in
    record {
      source = s.scrs.pcc;
      reachable = from_root fetched.tagged (in_pcc refl);
      opens = record { unsealed = fetched.unsealed; reads = inr fetched.executes; base = omega arith; top = omega arith };
    }

module _ (s : State) (insn : Insn) (address size : ℕ) (allows : IsAllowed (authority_of insn s) permission.Load address size) where
  readable-loaded : (a : ℕ) → address ≤ a → a < address + size → IsReadable s a
  readable-loaded a low high =
      let base = allows.base in
      let top = allows.top in
      record {
        source = authority_of insn s;
        reachable = reachable-authority s insn allows.tagged;
        opens = record { unsealed = allows.unsealed; reads = inl allows.permitted; base = omega arith; top = omega arith };
      }

readable-tag : (s : State) (insn : Insn) (granule : ℕ) → IsAllowed (authority_of insn s) permission.Load granule 16
    → permits (authority_of insn s) permission.LoadCapability ≡ true → IsTagReadable s granule
readable-tag s insn granule allows keeps = record {
  source = authority_of insn s;
  reachable = reachable-authority s insn allows.tagged;
  opens = record {
    unsealed = allows.unsealed;
    loads = allows.permitted;
    capabilities = keeps;
    base = allows.base;
    top = allows.top;
  };
}

-- ---- agreeing states have the same looks

module _ (s t : State) (agree : Agree s t) where
  -- readable bytes in RAM are the same
  same-bytes : (address size : ℕ) → is_in_ram s.memory address size ≡ true
      → ((a : ℕ) → address ≤ a → a < address + size → IsReadable s a)
      → HasSameBytes s.memory t.memory address size
  same-bytes address size inside readable =
      let place = in_ram s.memory address size inside in
      let base : ram_base ≤ address = place.0 in
      record {
        inside = inside;
        length = agree.memory.size;
        bytes = λ a low high. agree.memory.bytes a (omega arith) (readable a low high);
      }

  data-allowed : (insn : Insn) → Loads s insn
      → IsAllowed (authority_of insn s) permission.Load (place_of insn s) (bytes_of (size_of insn.row))
  data-allowed insn loads =
      allowed (authority_of insn s) (authority_number_of insn s) (access.Load (size_of insn.row)) (place_of insn s) loads.allowed

  capability-allowed : (insn : Insn) → LoadsCapability s insn → IsAllowed (authority_of insn s) permission.Load (place_of insn s) 16
  capability-allowed insn loads =
      allowed (authority_of insn s) (authority_number_of insn s) access.LoadCapability (place_of insn s) loads.allowed

  pub looks-agree : SameLooks s t
  looks-agree = record {
    registers = agree.registers;
    pcc = agree.pcc;
    ddc = agree.ddc;
    csrs = agree.csrs;
    devices = agree.devices;
    size = agree.memory.size;
    word = λ passes inside. number_at-same s.memory t.memory (pc_of s) 4
        (same-bytes (pc_of s) 4 inside (readable-fetched s (fetched-pcc s passes)));
    number = λ insn loads. number_at-same s.memory t.memory (place_of insn s) (bytes_of (size_of insn.row))
        (same-bytes (place_of insn s) (bytes_of (size_of insn.row)) loads.inside
        (readable-loaded s insn (place_of insn s) (bytes_of (size_of insn.row)) (data-allowed insn loads)));
    granule = λ insn loads. word_at-same s.memory t.memory (place_of insn s)
        (same-bytes (place_of insn s) 16 loads.inside
        (readable-loaded s insn (place_of insn s) 16 (capability-allowed insn loads)));
    tag = λ insn loads keeps. agree.memory.tags (place_of insn s)
        (readable-tag s insn (place_of insn s) (capability-allowed insn loads) keeps);
    scrs = λ passes access. agree.scrs (system-pcc s (fetched-pcc s passes) access);
  }

-- ---- what can be read later could be read before

module _ (s later : State) (grows : GrowsNot s later) where
  pub IsReadable-before : (address : ℕ) → IsReadable later address → IsReadable s address
  IsReadable-before address readable =
      let g = (grows.grounded readable.source readable.reachable).covered in
      record {
        source = g.source;
        reachable = g.reachable;
        opens = OpensByte-outer readable.source g.source address g.within readable.opens;
      }

  pub IsTagReadable-before : (granule : ℕ) → IsTagReadable later granule → IsTagReadable s granule
  IsTagReadable-before granule readable =
      let g = (grows.grounded readable.source readable.reachable).covered in
      record {
        source = g.source;
        reachable = g.reachable;
        opens = OpensGranule-outer readable.source g.source granule g.within readable.opens;
      }
