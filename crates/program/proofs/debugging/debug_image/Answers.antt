use Rattle.std.proofs.Common.{IfOk, IfSome, subst}
use Rattle.std.specs.Io.KnownBytes.{Appends}
use Rattle.debugger.specs.Conversation.{conversation}
use Rattle.debugger.specs.Talk.{heard}
use Rattle.program.proofs.debugging.debug_image.Goals as goal

pub returns-clause-ok : goal.returns-clause-ok
returns-clause-ok g c =
    subst
    (λ s. IfOk c.talk_with.result (λ out. IfSome (g.I.Read.remaining c.args.input) (λ typed.
    Appends (g.O.Write.contents c.args.output) (g.O.Write.contents out) (conversation (heard typed) s))))
    c.with_past-session.ensures c.talk_with.ensures.ok
