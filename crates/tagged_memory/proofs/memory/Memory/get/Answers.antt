use Rattle.std.proofs.Common.{◌∙◌}
use Rattle.base.specs.Size.{bytes_of}
use Rattle.tagged_memory.proofs.Written.{number_here}
use Rattle.tagged_memory.proofs.memory.Memory.get.Goals as goal

pub returns-clause-value : goal.returns-clause-value
returns-clause-value c =
    c.read_number.ensures.value
    ∙ number_here c.self.inside.bytes.items c.self.inside.planes.items c.deref.result.now c.args.address
    (bytes_of c.args.size) c.args.place c.self.view_is c.deref.ensures.value c.requires.from_base
