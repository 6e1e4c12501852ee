use Rattle.std.proofs.Common.{Some, ap}
use Rattle.assembler.specs.Faults.{Assembled}
use Rattle.assembler.proofs.builder.Builder.set.Goals as goal

pub returns-in-Pages : goal.returns-in-Pages
returns-in-Pages c =
    rw c.in-Pages.is (ap (λ (s : Assembled). record s { pages = Some c.in-Pages.pages }) c.self.view_is)

pub returns-in-Mode : goal.returns-in-Mode
returns-in-Mode c = rw c.in-Mode.is (ap (λ (s : Assembled). record s { mode = Some c.in-Mode.mode }) c.self.view_is)
