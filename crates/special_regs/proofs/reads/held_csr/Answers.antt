use Rattle.std.proofs.Common.{rules}
use Rattle.special_regs.specs.NumberedLaws.{IsSome-csr_value}
use Rattle.special_regs.proofs.reads.held_csr.Goals as goal

pub unwrap-requires : goal.unwrap-requires
unwrap-requires g c =
    rw c.csr_value.ensures (IsSome-csr_value c.args.csrs.now c.args.scrs.now c.args.mip c.args.number c.requires)

pub returns : goal.returns
returns g c = search rules
