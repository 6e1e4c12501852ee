use Rattle.std.proofs.Common.{sym}
use Rattle.debugger.proofs.Answered.{answered}
use Rattle.debugger.proofs.session.Session+WordCap.command_bytes.Goals as goal

pub returns-clause-ok : goal.returns-clause-ok
returns-clause-ok g c =
    answered c.args.line.now c.args.self.now _ _ (sym c.self.view_is) c.in_ok-command.ensures.value c.answer.result c.answer.ensures.stop
    c.answer.ensures.reply
