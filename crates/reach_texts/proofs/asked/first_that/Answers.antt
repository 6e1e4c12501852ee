use Rattle.std.proofs.Common.{rules, sym, ◌∙◌}
use Rattle.std.proofs.lemmas.Iterator.{YieldsList-from_slice}
use Rattle.std.proofs.lemmas.Iterator.Search.{position_from_yields_List}
use borrow.Author.Tests.{tests}
use Rattle.reach_texts.specs.Asked.{lets}
use Rattle.reach_texts.proofs.Seen.{seen_position}
use Rattle.reach_texts.proofs.asked.first_that.Goals as goal

pub returns-clause-first : goal.returns-clause-first
returns-clause-first g c =
    position_from_yields_List (λ m. lets c.args.may (g.C.CapRep.value m.cap)) _ _ c.position.result c.position.ensures.ran
    (YieldsList-from_slice c.args.members.now cc) (λ x b q k. search (rules, tests))
    ∙ sym (seen_position g.C.CapRep.value (λ x. lets c.args.may x.value) c.args.members.now)
