-- Where a conversation stands: the session, what is left of the input, and what the output holds.
use Rattle.std.specs.Prelude.{ℕ, List, Option}
use Rattle.debugger.specs.SessionState.{SessionState}

pub record Standing : Type 0 where
  pub state : SessionState
  -- the bytes that the source has left, where they are known
  pub left : Option (List ℕ)
  -- the bytes that the sink holds, where they are known
  pub held : Option (List ℕ)

abbrev pub standing_with : SessionState → Option (List ℕ) → Option (List ℕ) → Standing
standing_with state left held = record { state = state; left = left; held = held }
