use Rattle.std.proofs.Common.{rules, sym, subst}
use Rattle.std.specs.Prelude.{option_copied}
use Rattle.past.specs.Position.{MayGive}
use Rattle.past.proofs.OneByOne.{may_begin}
use Rattle.past.proofs.giving.give_from_beginning.Goals as goal

pub give_first-requires : goal.give_first-requires
give_first-requires g c = (
  search rules,
  subst (MayGive c.args.n) (sym c.at_beginning-player.ensures)
      (may_begin c.args.n (option_copied c.args.replay) c.ranges.n.fits),
)
