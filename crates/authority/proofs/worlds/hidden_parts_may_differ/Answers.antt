use Rattle.authority.proofs.HiddenParts.{hidden-byte, hidden-registers}
use Rattle.authority.proofs.worlds.hidden_parts_may_differ.Goals as goal

pub returns-clause-byte : goal.returns-clause-byte
returns-clause-byte c = hidden-byte

pub returns-clause-registers : goal.returns-clause-registers
returns-clause-registers c = hidden-registers
