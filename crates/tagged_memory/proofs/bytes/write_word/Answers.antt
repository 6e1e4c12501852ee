use Rattle.std.proofs.Common.{length, sym, ap, ◌∙◌}
use Rattle.std.proofs.lemmas.List.{length-take-le}
use Rattle.tagged_memory.proofs.bytes.write_word.Goals as goal

pub copy_from_slice-requires : goal.copy_from_slice-requires
copy_from_slice-requires c = length-take-le 16 c.args.bytes.now c.requires ∙ sym (ap length c.to_memory.ensures)
