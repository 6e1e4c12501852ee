use Rattle.std.proofs.Common.{length, arith, rules}
use Rattle.tagged_memory.specs.MemoryLaws.{in_ram}
use Rattle.tagged_memory.specs.AccessLaws.{in_ram-fill_fault}
use Rattle.tagged_memory.proofs.memory.Memory.store_bytes.Goals as goal

pub overflow_sub-address : goal.overflow_sub-address
overflow_sub-address c =
    let inside =
    in_ram c.args.self.now c.args.address (length c.args.contents.now)
    (in_ram-fill_fault c.args.self.now c.args.address (length c.args.contents.now) c.requires) in
    omega arith

pub put_bytes-requires : goal.put_bytes-requires
put_bytes-requires c =
    let inside =
    in_ram c.args.self.now c.args.address (length c.args.contents.now)
    (in_ram-fill_fault c.args.self.now c.args.address (length c.args.contents.now) c.requires) in
    record { from_base = omega arith; within = omega arith }

pub returns-clause-value : goal.returns-clause-value
returns-clause-value c = search rules

pub returns-clause-was_sound : goal.returns-clause-was_sound
returns-clause-was_sound c = search rules
