-- The run of the first image.
use Rattle.std.proofs.Common.{◌≡◌, ℕ, List, [], subst}
use Rattle.std.specs.Prelude.{false, Option, Some, None, Result, Ok, Err, IfOk}
use Rattle.base.specs.Ram.{ram_base}
use Rattle.image.specs.declared.fault.ImageFault.{ImageFault}
use Rattle.image.specs.declared.fault.ImageFault.TheVariants.{L11}
use Rattle.image.specs.Image.{Builds, Image, build_fault, is_good_header, span_fault}
use Rattle.symbols.specs.Symbols.{Symbol}
use Rattle.commands.specs.declared.running.Ended.{Ended}
use Rattle.commands.specs.Loading.{Run}
use Rattle.commands.specs.Running.{Runs, first_image, first_run}

pub built : (fault : Option ImageFault) (image made : Image) → Builds fault image (Ok made) → made ≡ image
built None image made is = is
built (Some fault) image made is = cc

-- the first image has no fault
pub first_unbuilt : (found : ImageFault)
    → Builds (build_fault 1 1 ram_base 0 first_image.sections []) first_image (Err found) → found ≡ L11
unfolding build_fault is_good_header span_fault
first_unbuilt found builds = builds

abbrev five_steps : Image → List Symbol → List ℕ → Run
five_steps image table input =
    record { image = image; table = table; schedule = record { steps = 5; gap = 1000; tick = 100 }; input = input }

pub ran_first : (image : Image) (table : List Symbol) (input : List ℕ) (ended : Ended) (old new : Option (List ℕ))
    → image ≡ first_image → table ≡ [] → input ≡ [] → Runs (five_steps image table input) None false false ended old new
    → Runs first_run None false false ended old new
ran_first image table input ended old new first none empty runs =
    subst (λ i. Runs (five_steps i [] []) None false false ended old new) first
    (subst (λ xs. Runs (five_steps image [] xs) None false false ended old new) empty
    (subst (λ t. Runs (five_steps image t input) None false false ended old new) none runs))

pub on_ok : {T E : Type 0} (r : Result T E) (P Q : T → Type 0) → ((x : T) → P x → Q x) → IfOk r P → IfOk r Q
on_ok (Ok x) P Q next p = next x p
on_ok (Err e) P Q next p = tt
