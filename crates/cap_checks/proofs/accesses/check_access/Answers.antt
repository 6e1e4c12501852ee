use Rattle.std.proofs.Common.{◌≡◌, Bool, true, false, Result, Ok, Err, refl, rules}
use Rattle.std.specs.Prelude.{if◌then◌else◌}
use Rattle.base.specs.declared.fault.Fault.{Fault}
use Rattle.cap_checks.specs.FirstFault.{access_fault}
use Rattle.cap_checks.proofs.accesses.check_access.Goals as goal
use Rattle.cap_checks.proofs.accesses.check_access.Goals.{then-stores_capability+in_ok-check-4, else-stores_capability}
use Rattle.cap_checks.proofs.accesses.check_access.Goals.{then-stores_local+in_ok-check-5, else-stores_local}

-- a check that passed had a true condition
passed : (condition : Bool) (fault : Fault) (result : Result (Unit {0}) Fault) (unit : Unit {0})
    → result ≡ (if condition then Ok tt else Err fault) → result ≡ Ok unit → condition ≡ true
passed true fault result unit is was = refl
passed false fault result unit is was = cc

pub returns-clause-allowed : goal.returns-clause-allowed
unfolding access_fault
returns-clause-allowed g c =
    let tagged = passed _ _ _ _ (c.check.ensures) (c.in_ok-check.was) in
    let unsealed = passed _ _ _ _ (c.check-2.ensures) (c.in_ok-check-2.was) in
    let permitted = passed _ _ _ _ (c.check-3.ensures) (c.in_ok-check-3.was) in
    let bounded = passed _ _ _ _ (c.check-4.ensures) (c.in_ok-check-6.was) in
    let aligned = passed _ _ _ _ (c.check-5.ensures) (c.in_ok-check-7.was) in
    elim c.if-stores_capability.branch [
      | then-stores_capability+in_ok-check-4 w ↦
          let storing = passed _ _ _ _ (w.check-then-stores_capability.ensures) (w.in_ok-check-4.was) in
          elim c.if-stores_local.branch [
            | then-stores_local+in_ok-check-5 l ↦
                let local = passed _ _ _ _ (l.check-then-stores_local.ensures) (l.in_ok-check-5.was) in
                search rules
            | else-stores_local l ↦ search rules
          ]
      | else-stores_capability w ↦ elim c.if-stores_local.branch [
        | then-stores_local+in_ok-check-5 l ↦
            let local = passed _ _ _ _ (l.check-then-stores_local.ensures) (l.in_ok-check-5.was) in
            search rules
        | else-stores_local l ↦ search rules
      ]
    ]
