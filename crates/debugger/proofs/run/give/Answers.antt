use Rattle.std.proofs.Common.{◌++◌, length, ap, ◌∙◌}
use Rattle.machine.specs.Run.{run_after, run_sent}
use Rattle.std.specs.Prelude.{is_some, not}
use Rattle.debugger.specs.Marked.{seen}
use Rattle.debugger.proofs.Gives.{not_both, other_own, own_given, paid_owed, paid_replay, changed_replay, changed_owed}
use Rattle.debugger.proofs.run.give.Goals as goal

pub returns-in_default-clause-state : goal.returns-in_default-clause-state
returns-in_default-clause-state g c =
    let marks = seen g.C.CapRep.value c.args.marks.now in
    let own =
    other_own c.args.events (λ n. c.in_default.not-Ticks n) (λ b. c.in_default.not-Byte b) (λ p n. c.in_default.not-Changed p n) in
    c.give_paid.ensures.state
    ∙ ap (λ es. run_after es c.args.machine.now)
    (own_given c.args.events c.args.replay.now c.args.owed.now marks c.args.machine.now own)

pub returns-in_default-clause-bytes : goal.returns-in_default-clause-bytes
returns-in_default-clause-bytes g c =
    let marks = seen g.C.CapRep.value c.args.marks.now in
    let own =
    other_own c.args.events (λ n. c.in_default.not-Ticks n) (λ b. c.in_default.not-Byte b) (λ p n. c.in_default.not-Changed p n) in
    c.give_paid.ensures.bytes ∙ ap (λ es. c.args.sent.now.items ++ run_sent es c.args.machine.now)
    (own_given c.args.events c.args.replay.now c.args.owed.now marks c.args.machine.now own)

pub returns-in_default-clause-replay : goal.returns-in_default-clause-replay
returns-in_default-clause-replay g c =
    let marks = seen g.C.CapRep.value c.args.marks.now in
    let own =
    other_own c.args.events (λ n. c.in_default.not-Ticks n) (λ b. c.in_default.not-Byte b) (λ p n. c.in_default.not-Changed p n) in
    c.give_paid.ensures.replay ∙ paid_replay c.args.events c.args.replay.now c.args.owed.now marks c.args.machine.now own

pub returns-in_default-clause-owed : goal.returns-in_default-clause-owed
returns-in_default-clause-owed g c =
    let marks = seen g.C.CapRep.value c.args.marks.now in
    let own =
    other_own c.args.events (λ n. c.in_default.not-Ticks n) (λ b. c.in_default.not-Byte b) (λ p n. c.in_default.not-Changed p n) in
    c.give_paid.ensures.owed ∙ paid_owed c.args.events c.args.replay.now c.args.owed.now marks c.args.machine.now own

pub returns-in_default-clause-count : goal.returns-in_default-clause-count
returns-in_default-clause-count g c =
    let marks = seen g.C.CapRep.value c.args.marks.now in
    let own =
    other_own c.args.events (λ n. c.in_default.not-Ticks n) (λ b. c.in_default.not-Byte b) (λ p n. c.in_default.not-Changed p n) in
    c.give_paid.ensures.count
    ∙ ap length (own_given c.args.events c.args.replay.now c.args.owed.now marks c.args.machine.now own)

pub returns-then-owed-clause-replay : goal.returns-then-owed-clause-replay
returns-then-owed-clause-replay g c =
    let marks = seen g.C.CapRep.value c.args.marks.now in
    changed_replay c.args.events c.in-Changed.place c.in-Changed.most c.args.replay.now c.args.owed.now marks c.args.machine.now
    c.in-Changed.is c.steps_holding-count.new.replay c.steps_holding-count.new.owed c.steps_holding-count.ensures.position

pub returns-else-owed-clause-replay : goal.returns-else-owed-clause-replay
returns-else-owed-clause-replay g c =
    let marks = seen g.C.CapRep.value c.args.marks.now in
    changed_replay c.args.events c.in-Changed.place c.in-Changed.most c.args.replay.now c.args.owed.now marks c.args.machine.now
    c.in-Changed.is c.steps_holding-count.new.replay c.steps_holding-count.new.owed c.steps_holding-count.ensures.position

pub returns-then-owed-clause-owed : goal.returns-then-owed-clause-owed
returns-then-owed-clause-owed g c =
    let marks = seen g.C.CapRep.value c.args.marks.now in
    not_both (is_some c.halted.result) c.is_none.result c.is_none.ensures ∙ ap (λ halted. not (is_some halted)) c.halted.ensures.value
    ∙ changed_owed c.args.events c.in-Changed.place c.in-Changed.most c.args.replay.now c.args.owed.now marks c.args.machine.now
    c.in-Changed.is c.steps_holding-count.new.replay c.steps_holding-count.new.owed c.steps_holding-count.ensures.position
    c.steps_holding-count.new.machine c.steps_holding-count.ensures.state c.if-owed.true
