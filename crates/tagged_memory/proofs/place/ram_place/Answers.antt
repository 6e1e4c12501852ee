use Rattle.std.proofs.Common.{◌≡◌, ◌-◌, [], Ok, Some, None, ap, sym, ◌∙◌, arith, inl, inr, rules}
use Rattle.std.proofs.lemmas.Bool.{cases_lt}
use Rattle.tagged_memory.specs.declared.fault.MemoryFault.TheVariants.{M3}
use Rattle.base.specs.Ram.{ram_base}
use Rattle.base.specs.FirstFault.{unless}
use Rattle.tagged_memory.specs.Memory.{fill_fault}
use Rattle.tagged_memory.specs.Layout.{memory_of}
use Rattle.tagged_memory.proofs.Faults.{fill_fault-below, fill_fault-past, fill_fault-inside}
use Rattle.tagged_memory.proofs.place.ram_place.Goals as goal

pub returns-then-place-bytes-clause-value : goal.returns-then-place-bytes-clause-value
returns-then-place-bytes-clause-value c =
    let m = memory_of c.args.bytes.now [] in
    let refused : fill_fault m c.args.address c.args.size ≡ Some M3 = elim (cases_lt c.args.address ram_base) [
      | inl below ↦ fill_fault-below m c.args.address c.args.size below
      | inr above ↦ fill_fault-past m c.args.address c.args.size (omega arith)
    ] in
    sym (ap (λ f. unless f (c.args.address - ram_base)) refused)

pub returns-clause-value : goal.returns-clause-value
returns-clause-value c =
    let m = memory_of c.args.bytes.now [] in
    let given : fill_fault m c.args.address c.args.size ≡ None =
    fill_fault-inside m c.args.address c.args.size (omega arith) (omega arith) in
    ap Ok (omega arith) ∙ sym (ap (λ f. unless f (c.args.address - ram_base)) given)

pub returns-clause-within : goal.returns-clause-within
returns-clause-within c = search rules
