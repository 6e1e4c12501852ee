use Rattle.std.proofs.Common.{rules, ◌≡◌, ap, sym, ◌∙◌}
use Rattle.std.specs.Prelude.{Some, None, string_bytes}
use Rattle.steps.specs.Step.{step_effect}
use Rattle.sim_run.specs.Watched.{trap_in}
use Rattle.sim_run.proofs.LeftTraps.{few-before, few-still, none-taken, trap-of, trap-taken}
use Rattle.sim_run.proofs.notes.Notes.look.Goals as goal

pub opened-requires : goal.opened-requires
opened-requires g c =
    let s = c.args.machine.now in
    let is : trap_in (step_effect s) ≡ Some c.in-Some.fault = ap trap_in (sym c.requires.planned.0) ∙ sym c.trap_in.ensures
    ∙ c.in-Some.is in (
      search rules,
      (
        few-before (λ one. one.inner) c.args.number c.args.self.now.first c.requires.some c.requires.few.0,
        (c.requires.running, (c.requires.fetched, trap-of (step_effect s) c.in-Some.fault is)),
      ),
    )

pub last_of-requires : goal.last_of-requires
last_of-requires g c =
    let s = c.args.machine.now in
    let is : trap_in (step_effect s) ≡ Some c.in-Some.fault = ap trap_in (sym c.requires.planned.0) ∙ sym c.trap_in.ensures
    ∙ c.in-Some.is in (
      search rules,
      (
        few-before (λ one. one.unfetched) c.args.number c.args.self.now.last c.requires.some c.requires.few.1,
        (c.requires.running, (c.requires.fetched, trap-of (step_effect s) c.in-Some.fault is)),
      ),
    )

pub returns-in_ok-last-in-Some-clause-told : goal.returns-in_ok-last-in-Some-clause-told
returns-in_ok-last-in-Some-clause-told g c = λ left told.
    let s = c.args.machine.now in
    let is : trap_in (step_effect s) ≡ Some c.in-Some.fault = ap trap_in (sym c.requires.planned.0) ∙ sym c.trap_in.ensures
    ∙ c.in-Some.is in
    rw (trap-taken s c.requires.running c.args.number left c.in-Some.fault is)
    (c.in_ok-first-in-Some.ensures.told left.first told.0, c.in_ok-last-in-Some.ensures.told left.last told.1)

pub returns-in-None-clause-told : goal.returns-in-None-clause-told
returns-in-None-clause-told g c = λ left told.
    let s = c.args.machine.now in
    let is : trap_in (step_effect s) ≡ None = ap trap_in (sym c.requires.planned.0) ∙ sym c.trap_in.ensures ∙ c.in-None.is in
    rw (none-taken s c.requires.running c.args.number left is)
    (c.gone_on-self.ensures.told c.args.symbols.now (string_bytes c.args.self.now.first_words) left.first told.0, tt)

pub returns-in-None-clause-few : goal.returns-in-None-clause-few
returns-in-None-clause-few g c =
    (c.gone_on-self.ensures.few c.args.number (few-still (λ one. one.inner) c.args.number c.args.self.now.first c.requires.few.0), tt)
