use Rattle.std.proofs.Common.{subst, sym, map}
use Rattle.std.specs.Prelude.{IsSomeAnd}
use Rattle.clap.specs.Words.{found_of, rows_of}
use Rattle.command_line.specs.CommandLine.{AreFit, line_of}
use Rattle.command_line.proofs.Found.{if_err, no_plan, sound}
use Rattle.command_line.proofs.reading.plan_of_lines.Goals as goal

pub read-requires : goal.read-requires
read-requires c = subst (λ o. IsSomeAnd o (AreFit (rows_of (found_of c.args.found.now)))) (sym c.requires) c.in_ok-check.ensures.fit

pub returns-clause-sound : goal.returns-clause-sound
returns-clause-sound c =
    sound c.args.name.now (rows_of (found_of c.args.found.now)) c.read.result (map line_of c.args.lines.now) c.requires c.read.ensures
    c.in_ok-check.ensures.apart

pub returns-in_err-check-clause-none : goal.returns-in_err-check-clause-none
returns-in_err-check-clause-none c =
    if_err c.from_residual.result _
    (no_plan c.args.name.now (rows_of (found_of c.args.found.now)) (map line_of c.args.lines.now) c.requires c.in_err-check.ensures.err)
