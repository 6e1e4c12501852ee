-- What a sound plan of a session says of its gap.
use Rattle.std.proofs.Common.{ℕ, ◌≤◌, Bool, Option, None, Some}
use Rattle.std.specs.Prelude.{IfSome}
use Rattle.std.specs.Borrow.{Bor}
use Rattle.clap.specs.Words.{Text}
use Rattle.command_line.specs.declared.plans.Plan.TheVariants.{Debug}
use Rattle.command_line.specs.CommandLine.{IsSound, commands}

pub gap_of : (image : Bor Text) (symbols lines input : Option (Bor Text)) (gap tick : Option ℕ) (quiet : Bool)
    → IsSound (Debug image symbols lines input gap tick quiet) → IfSome gap (λ gap. 1 ≤ gap)
unfolding commands
gap_of image symbols lines input None tick quiet sound = tt
gap_of image symbols lines input (Some gap) tick quiet sound = sound.1.1.1.1.1.0.0
