-- What opens a door, as the code asks for it: whether CInvoke accepts a pair in registers 0 and 0 is whether it does in some two registers.
use Rattle.std.proofs.Common.{◌≡◌, ◌∙◌, ℕ, Bool, true, List, [], ◌∷◌, Option, None, Some, cond, refl, ap}
use Rattle.std.specs.Prelude.{Result, Ok, Err, OnOk, IfErr, is_ok}
use Rattle.base.specs.declared.fault.Fault.{Fault}
use Rattle.base.specs.FirstFault.{first_fault}
use Rattle.base.specs.FirstFaultLaws.{EachHolds, first_fault-none}
use Rattle.cap_bounds.specs.CapValue.{CapValue}
use Rattle.cap_checks.specs.FirstFault.{invoke_checks, invoke_fault}
use Rattle.cap_checks.specs.Question.{judged}
use Rattle.doors.specs.Closed.{IsPair}

-- where each condition is true, there is no fault
first_fault-all : {F : Type 0} (checks : List (Bool × F)) → EachHolds checks → first_fault checks ≡ None
first_fault-all [] all = refl
first_fault-all (check ∷ checks) all =
    ap (λ b. cond b (first_fault checks) (Some check.1)) all.0 ∙ first_fault-all checks all.1

pub pair-accepted : (code datum : CapValue) → IsPair code datum → invoke_fault code 0 datum 0 ≡ None
unfolding invoke_fault
pair-accepted code datum pair =
    let all : EachHolds (judged (invoke_checks code pair.code_register datum pair.data_register)) =
    first_fault-none (judged (invoke_checks code pair.code_register datum pair.data_register)) pair.accepted in
    first_fault-all (judged (invoke_checks code 0 datum 0)) all

pub accepted-pair : (code datum : CapValue) → invoke_fault code 0 datum 0 ≡ None → IsPair code datum
accepted-pair code datum accepted = record { code_register = 0; data_register = 0; accepted = accepted }

-- a check that is refused exactly where there is a fault
pub accepted-ok : (r : Result ℕ Fault) (fault : Option Fault) → OnOk r (fault ≡ None) → is_ok r ≡ true → fault ≡ None
accepted-ok (Ok target) fault allowed ok = allowed
accepted-ok (Err found) fault allowed ok = cc

pub ok-accepted : (r : Result ℕ Fault) (fault : Option Fault) → IfErr r (λ f. fault ≡ Some f) → fault ≡ None → is_ok r ≡ true
ok-accepted (Ok target) fault refused accepted = refl
ok-accepted (Err found) fault refused accepted = cc
