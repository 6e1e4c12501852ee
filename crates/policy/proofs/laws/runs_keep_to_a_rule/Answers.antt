use Rattle.policy.proofs.Whole.{bytes-stay, tags-stay, nothing-kept, system-stays, nothing-sent}
use Rattle.policy.proofs.Whole.{console-stays, leads-inside, traps-enter}
use Rattle.policy.proofs.Whole.{halted-stays, compare-stays, fetched-inside, types-allowed, none-unseals, sends-same, ends-same}
use Rattle.policy.proofs.laws.runs_keep_to_a_rule.Goals as goal

pub returns-clause-bytes : goal.returns-clause-bytes
returns-clause-bytes c = λ rules rule events done s some keep there about. bytes-stay rules rule events there s done some keep about

pub returns-clause-tags : goal.returns-clause-tags
returns-clause-tags c = λ rules rule events done s some keep there about. tags-stay rules rule events there s done some keep about

pub returns-clause-kept : goal.returns-clause-kept
returns-clause-kept c = λ rules rule events done s some keep there about. nothing-kept rules rule events there s done some keep about

pub returns-clause-system : goal.returns-clause-system
returns-clause-system c = λ rules rule events done s some keep there about. system-stays rules rule events there s done some keep about

pub returns-clause-silent : goal.returns-clause-silent
returns-clause-silent c = λ rules rule events done s some keep there about. nothing-sent rules rule events there s done some keep about

pub returns-clause-halt : goal.returns-clause-halt
returns-clause-halt c = λ rules rule events done s some keep there about. halted-stays rules rule events there s done some keep about

pub returns-clause-timer : goal.returns-clause-timer
returns-clause-timer c = λ rules rule events done s some keep there about. compare-stays rules rule events there s done some keep about

pub returns-clause-fetched : goal.returns-clause-fetched
returns-clause-fetched c = λ rules rule events done s some keep there about.
    fetched-inside rules rule events there s done some keep about

pub returns-clause-types : goal.returns-clause-types
returns-clause-types c = λ rules rule events done s some keep there about. types-allowed rules rule events there s done some keep about

pub returns-clause-unseals : goal.returns-clause-unseals
returns-clause-unseals c = λ rules rule events done s some keep there about. none-unseals rules rule events there s done some keep about

pub returns-clause-same_bytes : goal.returns-clause-same_bytes
returns-clause-same_bytes c = λ rules rule events done s t some keep there about.
    sends-same rules rule events there s done some keep about t

pub returns-clause-same_state : goal.returns-clause-same_state
returns-clause-same_state c = λ rules rule events done s t some keep there about.
    ends-same rules rule events there s done some keep about t

pub returns-clause-console : goal.returns-clause-console
returns-clause-console c = λ rules rule events done s some keep there about. console-stays rules rule events there s done some keep about

pub returns-clause-leads : goal.returns-clause-leads
returns-clause-leads c = λ rules rule events done s some keep there about. leads-inside rules rule events there s done some keep about

pub returns-clause-traps : goal.returns-clause-traps
returns-clause-traps c = λ rules rule events done s some keep there about. traps-enter rules rule events there s done some keep about
