use Rattle.std.proofs.Common.{rules, ◌≡◌, ℕ, ◌+◌, ◌<◌, List, ◌∷◌, length, get_or, drop, None, sym, ap, ◌∙◌, add-one, drop-cons}
use Rattle.std.specs.Option.{option_or}
use Rattle.image.specs.declared.cap_entry.CapEntry.{CapEntry}
use Rattle.image.specs.Image.{capability_fault, capabilities_fault}
use Rattle.image.specs.ImageLaws.{capabilities_fault-cons}
use Rattle.image.proofs.image.fault_of_capabilities.Goals as goal

abbrev nowhere : CapEntry
nowhere = record { place = 0; base = 0; length = 0; perms = 0; flag = 0 }

-- the fault of the capabilities from one on is its own, or else that of those after it
rest_fault : (pages before i : ℕ) (cs : List CapEntry) → i < length cs
    → capabilities_fault pages before (drop i cs)
    ≡ option_or (capability_fault pages before (get_or cs i nowhere))
    (capabilities_fault pages (get_or cs i nowhere).place (drop (i + 1) cs))
rest_fault pages before i cs below =
    let rest : drop i cs ≡ get_or cs i nowhere ∷ drop (i + 1) cs = rw add-one (drop-cons cs i nowhere below) in
    ap (capabilities_fault pages before) rest
    ∙ capabilities_fault-cons pages before (get_or cs i nowhere) (drop (i + 1) cs)

pub returns-in-Some : goal.returns-in-Some
returns-in-Some c =
    let cs = c.args.capabilities.now in
    let i = c.loop-capability.capability-index in
    let past = capabilities_fault c.args.pages (get_or cs i nowhere).place (drop (i + 1) cs) in
    ap (λ f. option_or f past) c.in-Some.ensures.value
    ∙ sym (rest_fault c.args.pages c.loop-capability.before i cs c.loop-capability-test.true) ∙ c.loop-capability.invariant

pub loop-capability-preserved : goal.loop-capability-preserved
loop-capability-preserved c =
    let cs = c.args.capabilities.now in
    let i = c.loop-capability.capability-index in
    let past = capabilities_fault c.args.pages (get_or cs i nowhere).place (drop (i + 1) cs) in
    let none : capability_fault c.args.pages c.loop-capability.before (get_or cs i nowhere) ≡ None = search rules in
    sym (ap (λ f. option_or f past) none)
    ∙ sym (rest_fault c.args.pages c.loop-capability.before i cs c.loop-capability-test.true) ∙ c.loop-capability.invariant
