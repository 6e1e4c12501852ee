use Rattle.std.proofs.Common.{rules, ap}
use Rattle.std.specs.Prelude.{option_copied}
use Rattle.past.specs.Given.{count_of}
use Rattle.past.proofs.Anchors.{nearest_lies}
use Rattle.past.proofs.past.Past.machine_by.Goals as goal

pub lead_near-requires : goal.lead_near-requires
lead_near-requires g c =
    let past = c.args.self.now in
    let from = c.in_ok-there.ensures in
    let near =
    nearest_lies c.args.n (count_of past.given) c.args.anchor.now c.nearest.new.anchor c.in_ok-there.there c.self.inside.image
    past (option_copied c.args.replay) (ap (λ p. p.image) c.self.view_is) from.few c.requires from.from in
    (search rules, near)
