use Rattle.std.proofs.Common.{rules}
use Rattle.debugger.proofs.session.Session.new.Goals as goal

pub returns : goal.returns
returns g c = search rules
