use Rattle.tagged_memory.specs.Memory.{tagged_between}
use Rattle.tagged_memory.specs.Tagged.{tagged_rest}
use Rattle.every_run.proofs.Checked.{tagged-none, first-none}
use Rattle.every_run.proofs.enclosure.tagged_in.Goals as goal

pub returns : goal.returns
returns c =
    let m = c.args.memory.now in
    tagged-none m c.is_sound.ensures c.args.range.now c.saturating_sub-from.result c.min-to.result c.from.result
    c.saturating_sub-from.ensures c.from.ensures c.min-to.ensures c.next.result
    (first-none tagged_rest c.tagged.result c.next.new.self (tagged_between m c.saturating_sub-from.result c.min-to.result) c.next.result
    c.next.ensures.steps c.tagged.ensures)
