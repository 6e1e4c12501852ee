use Rattle.policy_text.proofs.Cuts.{no_dots}
use Rattle.policy_text.proofs.cut.cut_at_dots.Goals as goal

pub returns : goal.returns
returns c =
    let place = c.loop-place.place in
    let none = no_dots c.args.text.now place c.loop-place-test.false in
    rw none at c.loop-place.invariant.cut
