use Rattle.std.proofs.Common.{ap, sym, subst, ◌∙◌}
use Rattle.std.specs.Prelude.{IfSome}
use Rattle.steps.specs.FetchedLaws.{registers_fetched}
use Rattle.steps.specs.Looks.{HasRegisters}
use Rattle.steps.specs.Step.{insn_fetched}
use Rattle.origin_texts.proofs.copied.next_stored.Goals as goal

pub stored_by-requires : goal.stored_by-requires
stored_by-requires g c =
    subst (λ o. IfSome o HasRegisters) (sym (c.insn.ensures ∙ ap insn_fetched c.next-planned.ensures.fetched)) (registers_fetched _ _)
