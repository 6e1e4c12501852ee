-- Over what is reachable, the words over a set say what *authority* says.
use Rattle.std.proofs.Common.{ℕ, List}
use Rattle.cap_bounds.specs.CapValue.{CapValue}
use Rattle.steps.specs.State.{State}
use Rattle.authority.specs.Authority.{NoNewRights, IsSealAllowed, held, sentry, sealed_by, NewSealsAllowed, IsWritable}
use Rattle.authority.specs.Authority.{HasSystem, LeavesAlone, IsSilent}
use Rattle.authority.specs.Reachable.{IsReachable, from_root, from_special, from_granule}
use Rattle.doors.specs.Sets.{NoRightsBeyond, IsSealAllowedBy, as_member, as_sentry, by_member, NoSealsBeyond, IsWritableBy}
use Rattle.doors.specs.Sets.{HasSystemBy, LeavesAloneBeyond, IsSilentBeyond}
use Rattle.doors.specs.Closed.{IsClosed}

module _ (s : State) where
  abbrev R : CapValue → Type 0
  R = IsReachable s

  pub reachable-closed : IsClosed (IsReachable s) s
  reachable-closed = record {
    roots = λ v tagged root. from_root tagged root;
    specials = λ c v before opens tagged special. from_special before opens tagged special;
    granules = λ c v granule before opens here. from_granule granule before opens here;
  }

  -- ---- rights

  pub rights-there : (later : State) → NoRightsBeyond R later → NoNewRights s later
  rights-there later none = λ v reachable.
      let c = none v reachable in
      record { source = c.source; reachable = c.member; within = c.within }

  pub rights-back : (later : State) → NoNewRights s later → NoRightsBeyond R later
  rights-back later none = λ v reachable.
      let c = none v reachable in
      record { source = c.source; member = c.reachable; within = c.within }

  -- ---- seals

  seal-there : (v : CapValue) → IsSealAllowedBy R v → IsSealAllowed s v
  seal-there v (as_member reachable) = held reachable
  seal-there v (as_sentry entry) = sentry entry
  seal-there v (by_member c reachable opens) = sealed_by c reachable opens

  seal-back : (v : CapValue) → IsSealAllowed s v → IsSealAllowedBy R v
  seal-back v (held reachable) = as_member reachable
  seal-back v (sentry entry) = as_sentry entry
  seal-back v (sealed_by c reachable opens) = by_member c reachable opens

  pub seals-there : (later : State) → NoSealsBeyond R later → NewSealsAllowed s later
  seals-there later none = λ v reachable closed. seal-there v (none v reachable closed)

  pub seals-back : (later : State) → NewSealsAllowed s later → NoSealsBeyond R later
  seals-back later none = λ v reachable closed. seal-back v (none v reachable closed)

  -- ---- what is left alone

  writable-there : (a : ℕ) → IsWritableBy R a → IsWritable s a
  writable-there a w = record { source = w.source; reachable = w.member; opens = w.opens }

  writable-back : (a : ℕ) → IsWritable s a → IsWritableBy R a
  writable-back a w = record { source = w.source; member = w.reachable; opens = w.opens }

  system-there : HasSystemBy R → HasSystem s
  system-there has = record { source = has.source; reachable = has.member; opens = has.opens }

  system-back : HasSystem s → HasSystemBy R
  system-back has = record { source = has.source; member = has.reachable; opens = has.opens }

  pub left-there : (later : State) → LeavesAloneBeyond R s later → LeavesAlone s later
  left-there later left = record {
    memory = record {
      size = left.memory.size;
      bytes = λ a low none. left.memory.bytes a low (λ writable. none (writable-there a writable));
      tags = λ granule none. left.memory.tags granule (λ a low high. λ writable. none a low high (writable-there a writable));
    };
    devices = record {
      halt = λ none. left.devices.halt (λ writable. none (writable-there _ writable));
      kept = λ k none. left.devices.kept k (λ writable. none (writable-there _ writable));
      control = λ none. left.devices.control (λ writable. none (writable-there _ writable));
    };
    scrs = λ none. left.scrs (λ has. none (system-there has));
    csrs = λ none. left.csrs (λ has. none (system-there has));
  }

  pub left-back : (later : State) → LeavesAlone s later → LeavesAloneBeyond R s later
  left-back later left = record {
    memory = record {
      size = left.memory.size;
      bytes = λ a low none. left.memory.bytes a low (λ writable. none (writable-back a writable));
      tags = λ granule none. left.memory.tags granule (λ a low high. λ writable. none a low high (writable-back a writable));
    };
    devices = record {
      halt = λ none. left.devices.halt (λ writable. none (writable-back _ writable));
      kept = λ k none. left.devices.kept k (λ writable. none (writable-back _ writable));
      control = λ none. left.devices.control (λ writable. none (writable-back _ writable));
    };
    scrs = λ none. left.scrs (λ has. none (system-back has));
    csrs = λ none. left.csrs (λ has. none (system-back has));
  }

  pub silent-there : (bytes : List ℕ) → IsSilentBeyond R bytes → IsSilent s bytes
  silent-there bytes silent = λ none. silent (λ writable. none (writable-there _ writable))

  pub silent-back : (bytes : List ℕ) → IsSilent s bytes → IsSilentBeyond R bytes
  silent-back bytes silent = λ none. silent (λ writable. none (writable-back _ writable))
