use Rattle.std.proofs.Common.{ap, length, sym, ◌∙◌, arith}
use Rattle.std.proofs.lemmas.List.{length-map}
use Rattle.std.proofs.lemmas.Result.{err_from_is_err_and}
use Rattle.steps.specs.State.{pc_of}
use Rattle.policy.specs.Terms.{terms, terms_of}
use Rattle.policy.specs.Watch.{values_in}
use Rattle.policy.specs.Lending.{next_door}
use Rattle.policy.specs.Known.{said_by}
use Rattle.policy.proofs.Forced.{each-length}
use Rattle.policy.proofs.in_force.InForce.pass.Goals as goal

pub returns-in-Some-clause-paired : goal.returns-in-Some-clause-paired
returns-in-Some-clause-paired g c =
    let f = c.args.self.now in
    let s = c.args.machine.now in
    let rules = c.in-Some.rules in
    let now = c.deref.result.now in
    let before =
    length-map f.said.now terms ∙ c.requires.paired ∙ ap length (sym c.deref.ensures.value) ∙ sym (length-map now terms) in
    sym (sym (length-map rules.items terms)
    ∙ ap length (rw c.in-Some.is at c.in_ok-rules.ensures.some)
    ∙ each-length (values_in s) (pc_of s) (next_door s) (said_by f) (terms_of now) before
    ∙ length-map f.said.now terms)

pub returns-in_err-rules-clause-room : goal.returns-in_err-rules-clause-room
returns-in_err-rules-clause-room g c =
    let p = err_from_is_err_and c.from_residual.result c.from_residual.ensures.1 in
    rw p.1 (omega (arith, c.in_err-rules.ensures.room, length-map c.args.self.now.said.now terms))
