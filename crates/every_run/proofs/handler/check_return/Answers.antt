use Rattle.std.proofs.Common.{ap, ◌∙◌, subst}
use Rattle.std.specs.List.{Contains}
use Rattle.reached.specs.Links.{values}
use Rattle.every_run.specs.Handled.{IsOfSet}
use Rattle.every_run.proofs.handler.check_return.Goals as goal

pub returns : goal.returns
returns g c = λ o same.
    let P = Contains (values g.C.CapRep.value c.args.members.now) in
    record {
      registers = c.in_ok-check_registers.ensures;
      mepcc = subst (IsOfSet P c.args.marks.mepcc) (c.mepcc.ensures ∙ ap (λ x. x.mepcc) c.scrs.ensures.value)
          (c.is_of_set.ensures c.if-not-is_of_set.false);
      exact = c.is_given_back.ensures.exact c.if-not-is_given_back.false;
      mscratchc = c.is_given_back.ensures.same c.if-not-is_given_back.false ∙ same;
    }
