use Rattle.std.proofs.Common.{◌∙◌, ap}
use Rattle.std.specs.Prelude.{string_bytes}
use Rattle.origin_texts.specs.Held.{as_told, newest_first}
use Rattle.origin_texts.proofs.Telling.{newest_first-snoc, one_met}
use Rattle.origin_texts.proofs.links.put_told.Goals as goal

pub loop-newest-preserved : goal.loop-newest-preserved
loop-newest-preserved c = λ first is.
    let l = c.loop-newest in
    let left = c.pop.new.self.items in
    one_met (string_bytes c.args.text.now) (string_bytes l.text) (string_bytes c.meet.new.text) l.stretch c.meet.new.self first
    (newest_first c.args.told.items) (newest_first left) (newest_first l.left.items) (as_told c.in-Some.newest)
    (ap newest_first c.in-Some.ensures.items ∙ newest_first-snoc left c.in-Some.newest) (l.invariant first is)
    c.in_ok-meet.ensures.stretch c.in_ok-meet.ensures.text
