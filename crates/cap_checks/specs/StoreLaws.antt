-- What the checks of a store ask its authority for where a capability is stored, and where one without Global is.
use Rattle.std.proofs.Common.{◌≡◌, ℕ, Bool, true, false, cond, List, ◌++◌, None, refl, ap}
use Rattle.base.specs.FirstFaultLaws.{EachHolds, first_fault-none}
use Rattle.cap_bounds.specs.CapValue.{CapValue, Cap, Data, is_tagged}
use Rattle.cap_rights.specs.declared.permission.Permission.TheVariants as permission
use Rattle.cap_rights.specs.Permission.{permits}
use Rattle.cap_checks.specs.Access.{stored_of, stores_capability, stores_local}
use Rattle.cap_checks.specs.declared.access.Access.{Access}
use Rattle.cap_checks.specs.declared.access.Access.TheVariants as access
use Rattle.cap_checks.specs.declared.access.Stored.TheVariants as stored
use Rattle.cap_checks.specs.declared.question.Condition.{Condition}
use Rattle.cap_checks.specs.FirstFault.{access_checks, access_fault, asked_if}
use Rattle.cap_checks.specs.Question.{judged}
use Rattle.cap_checks.specs.QuestionLaws.{others-hold}

-- ---- what is asked

tagged-asked : (global : Bool) → stores_capability (access.StoreCapability (cond global stored.Global stored.Local)) ≡ true
tagged-asked true = refl
tagged-asked false = refl

tagged-asks : (v : CapValue) → is_tagged v ≡ true → stores_capability (access.StoreCapability (stored_of v)) ≡ true
tagged-asks (Cap r) tagged = tagged-asked (permits (Cap r) permission.Global)
tagged-asks (Data n) tagged = cc

local-asks : (v : CapValue) → is_tagged v ≡ true → permits v permission.Global ≡ false
    → stores_local (access.StoreCapability (stored_of v)) ≡ true
local-asks (Cap r) tagged local = ap (λ b. stores_local (access.StoreCapability (cond b stored.Global stored.Local))) local
local-asks (Data n) tagged local = cc

-- ---- what holds where it is asked

asked-holds : (is_asked : Bool) (c : Condition) (others : List Condition) → EachHolds (judged (asked_if is_asked c ++ others))
    → is_asked ≡ true → c.holds ≡ true
asked-holds true c others all asked = all.0
asked-holds false c others all asked = cc

module _ (authority : CapValue) (register : ℕ) (a : Access) (address : ℕ) where
  both-hold : access_fault authority register a address ≡ None
      → (stores_capability a ≡ true → permits authority permission.StoreCapability ≡ true)
      × (stores_local a ≡ true → permits authority permission.StoreLocalCapability ≡ true)
  unfolding access_fault
  both-hold none =
      let all : EachHolds (judged (access_checks authority register a address)) =
      first_fault-none (judged (access_checks authority register a address)) none in (
        asked-holds (stores_capability a) _ _ all.1.1.1,
        asked-holds (stores_local a) _ _ (others-hold (stores_capability a) _ _ all.1.1.1),
      )

module _ (authority v : CapValue) (register address : ℕ)
    (none : access_fault authority register (access.StoreCapability (stored_of v)) address ≡ None) (tagged : is_tagged v ≡ true) where
  pub stored-capability : permits authority permission.StoreCapability ≡ true
  stored-capability = (both-hold authority register (access.StoreCapability (stored_of v)) address none).0 (tagged-asks v tagged)

  pub stored-local : permits v permission.Global ≡ false → permits authority permission.StoreLocalCapability ≡ true
  stored-local local = (both-hold authority register (access.StoreCapability (stored_of v)) address none).1 (local-asks v tagged local)
