use Rattle.every_run.specs.Handled.{by_among}
use Rattle.every_run.proofs.following.followed.Goals as goal

pub returns-then-gives_among : goal.returns-then-gives_among
returns-then-gives_among g c = by_among (c.gives_among.ensures c.if-gives_among.true) c.marked.ensures
