use Rattle.std.proofs.Common.{arith, rules, ◌≡◌, ◌⊎◌, ℕ, ◌≤◌, true, false, leb, inl, inr, length, None, sym, ap, ◌∙◌, refl}
use Rattle.std.proofs.lemmas.Bool.{le-leb, lt-leb}
use Rattle.std.proofs.lemmas.List.{length-map}
use Rattle.std.specs.Option.{option_or}
use Rattle.std.specs.Prelude.{if◌then◌else◌, Some}
use Rattle.image.specs.declared.fault.ImageFault.TheVariants.{L15}
use Rattle.image.specs.Image.{is_version, is_good_header, sections_fault, capabilities_fault, most_capabilities_of, lent_section}
use Rattle.image.specs.Image.{lent_sections}
use Rattle.image.specs.ImageLaws.{build_fault-sections}
use Rattle.image.proofs.image.fault_of_parts.Goals as goal

-- a version is 1 or 2
is_one : (v : ℕ) → (v ≡ 1) ⊎ (v ≡ 2) → is_version v ≡ true
is_one v (inl one) = rw one refl
is_one v (inr two) = rw two refl

pub returns-in-Some : goal.returns-in-Some
returns-in-Some c =
    let ss = lent_sections c.args.sections.now in
    let cs = c.args.capabilities.now in
    let few : length ss ≤ 64 = omega (arith, length-map c.args.sections.now lent_section) in
    let good : is_good_header c.args.version c.args.pages c.args.entry c.args.mode ≡ true = search rules in
    let past = if leb (length cs) (most_capabilities_of c.args.version) then capabilities_fault c.args.pages 0 cs else Some L15 in
    ap (λ f. option_or f past) c.in-Some.ensures
    ∙ sym (build_fault-sections c.args.version c.args.pages c.args.entry c.args.mode ss cs (is_one _ c.requires) good few)

pub returns-then-capabilities-most_capabilities : goal.returns-then-capabilities-most_capabilities
returns-then-capabilities-most_capabilities c =
    let ss = lent_sections c.args.sections.now in
    let cs = c.args.capabilities.now in
    let few : length ss ≤ 64 = omega (arith, length-map c.args.sections.now lent_section) in
    let good : is_good_header c.args.version c.args.pages c.args.entry c.args.mode ≡ true = search rules in
    let none : sections_fault c.args.pages 0 ss ≡ None = search rules in
    let many : leb (length cs) (most_capabilities_of c.args.version) ≡ false =
    lt-leb _ _ (omega (arith, c.most_capabilities.ensures.value)) in
    rw (build_fault-sections c.args.version c.args.pages c.args.entry c.args.mode ss cs (is_one _ c.requires) good few, none, many) refl

pub returns : goal.returns
returns c =
    let ss = lent_sections c.args.sections.now in
    let cs = c.args.capabilities.now in
    let few : length ss ≤ 64 = omega (arith, length-map c.args.sections.now lent_section) in
    let good : is_good_header c.args.version c.args.pages c.args.entry c.args.mode ≡ true = search rules in
    let none : sections_fault c.args.pages 0 ss ≡ None = search rules in
    let all : leb (length cs) (most_capabilities_of c.args.version) ≡ true =
    le-leb _ _ (omega (arith, c.most_capabilities.ensures.value)) in
    rw (build_fault-sections c.args.version c.args.pages c.args.entry c.args.mode ss cs (is_one _ c.requires) good few, none, all)
    c.fault_of_capabilities.ensures
