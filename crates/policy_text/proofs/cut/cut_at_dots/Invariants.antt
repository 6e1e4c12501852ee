use Rattle.std.proofs.Common.{◌≡◌, ◌-◌, ◌≤◌, length}
use Rattle.policy_text.specs.Policy.{cut_at_dots}
use Rattle.policy_text.proofs.Cuts.{rest_of}
use Rattle.policy_text.proofs.cut.cut_at_dots.Given as goal

-- the cut of the text is that of what is left of it
abbrev pub invariant-loop-place : goal.invariant-loop-place
invariant-loop-place l = record { cut : rest_of l.text l.place ≡ cut_at_dots l.text; within : l.place ≤ length l.text }

abbrev pub decreases-loop-place : goal.decreases-loop-place
decreases-loop-place l = length l.text - l.place
