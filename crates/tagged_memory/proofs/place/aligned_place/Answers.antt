use Rattle.std.proofs.Common.{◌≡◌, ◌-◌, ◌%◌, true, false, eqb, [], ap, sym, ◌∙◌}
use Rattle.std.proofs.lemmas.Bool.{eqb-true, eqb-false}
use Rattle.base.specs.Ram.{ram_base}
use Rattle.base.specs.FirstFault.{unless}
use Rattle.tagged_memory.specs.Layout.{memory_of}
use Rattle.tagged_memory.proofs.Faults.{place_fault-aligned, place_fault-misaligned}
use Rattle.tagged_memory.proofs.place.aligned_place.Goals as goal

pub returns-then-not-is_aligned-clause-value : goal.returns-then-not-is_aligned-clause-value
returns-then-not-is_aligned-clause-value c =
    let test : eqb (c.args.address % c.args.size) 0 ≡ false = cc in
    sym (ap (λ f. unless f (c.args.address - ram_base))
    (place_fault-misaligned (memory_of c.args.bytes.now []) c.args.address c.args.size (eqb-false _ _ test)))

pub returns-clause-value : goal.returns-clause-value
returns-clause-value c =
    let test : eqb (c.args.address % c.args.size) 0 ≡ true = cc in
    c.ram_place.ensures.value
    ∙ sym (ap (λ f. unless f (c.args.address - ram_base))
    (place_fault-aligned (memory_of c.args.bytes.now []) c.args.address c.args.size (eqb-true _ _ test)))
