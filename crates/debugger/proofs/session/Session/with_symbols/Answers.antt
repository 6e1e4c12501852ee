use Rattle.debugger.proofs.session.Session.with_symbols.Goals as goal

pub returns : goal.returns
returns g c = c.begun.ensures
