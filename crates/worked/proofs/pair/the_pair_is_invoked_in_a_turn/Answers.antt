use Rattle.worked.proofs.Invoking.{behind, code-opened, data-opened, hidden, in-a-turn, jump, stores}
use Rattle.worked.proofs.pair.the_pair_is_invoked_in_a_turn.Goals as goal

pub returns-clause-code : goal.returns-clause-code
returns-clause-code c = code-opened

pub returns-clause-data : goal.returns-clause-data
returns-clause-data c = data-opened

pub returns-clause-behind : goal.returns-clause-behind
returns-clause-behind c = behind

pub returns-clause-hidden : goal.returns-clause-hidden
returns-clause-hidden c = hidden

pub returns-clause-jump : goal.returns-clause-jump
returns-clause-jump c = jump

pub returns-clause-turn : goal.returns-clause-turn
returns-clause-turn c = in-a-turn

pub returns-clause-stores : goal.returns-clause-stores
returns-clause-stores c = stores
