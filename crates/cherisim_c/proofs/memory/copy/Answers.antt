use Rattle.std.proofs.Common.{length, sym, ap, ◌∙◌}
use Rattle.cherisim_c.proofs.RamBytes.{length-bytes_at}
use Rattle.cherisim_c.proofs.memory.copy.Goals as goal

pub copy_from_slice-requires : goal.copy_from_slice-requires
copy_from_slice-requires c =
    sym (ap length c.in-Ok.ensures.value ∙ length-bytes_at c.args.memory.now c.args.address _ c.in-Ok.ensures.inside)
