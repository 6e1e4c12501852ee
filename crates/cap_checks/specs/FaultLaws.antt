-- The faults of checks have numbers of 64 bits, and a jump that passes its checks goes to a multiple of 4.
use Rattle.std.proofs.Common.{◌≡◌, ℕ, true, ◌%◌, ◌^◌, ◌<◌, None, arith, lit<}
use Rattle.std.specs.Prelude.{IfSome, not, ◌==◌}
use Rattle.std.proofs.lemmas.Bool.{eqb-true}
use Rattle.base.specs.declared.cause.Cause.TheVariants as cause
use Rattle.base.specs.declared.cause.CheriCause.{CheriCause}
use Rattle.base.specs.declared.cause.CheriCause.TheVariants as forbids
use Rattle.base.specs.FaultLaws.{IsInRange, IsInRange-fault, IsInRange-cheri}
use Rattle.base.specs.FirstFaultLaws.{EachHolds, first_fault-each, first_fault-none}
use Rattle.base.specs.Registers.{pcc_register}
use Rattle.cap_bounds.specs.CapValue.{CapValue, is_tagged, is_sealed, value_address}
use Rattle.cap_rights.specs.Permission.{permits}
use Rattle.cap_checks.specs.declared.access.Access.{Access}
use Rattle.cap_checks.specs.Access.{width_of, needed, lacking, stores_capability, stores_local, misaligned}
use Rattle.cap_checks.specs.Question.{judged}
use Rattle.cap_checks.specs.QuestionLaws.{others-hold, each-asked}
use Rattle.cap_checks.specs.FirstFault.{holds, access_checks, access_fault, fetch_checks, fetch_fault, jump_target, target_checks}
use Rattle.cap_checks.specs.FirstFault.{target_fault}
use Rattle.cap_checks.specs.FirstFault.{jump_checks, jump_fault, invoke_target, invoke_checks, invoke_fault}

-- a target has 64 bits
pub jump_target-below : (address offset : ℕ) → jump_target address offset < 2 ^ 64
unfolding jump_target
jump_target-below address offset = omega arith

pub access_fault-range : (authority : CapValue) (register : ℕ) (access : Access) (address : ℕ) → register < 64 → address < 2 ^ 64
    → IfSome (access_fault authority register access address) IsInRange
unfolding access_fault
access_fault-range authority register access address exists fits =
    let at = λ (what : CheriCause). IsInRange-cheri register what exists in
    first_fault-each IsInRange (judged (access_checks authority register access address)) (
      at forbids.Tag,
      (
        at forbids.Seal,
        (
          at (lacking access),
          each-asked (stores_capability access) _ _ IsInRange (at forbids.StoreCapability)
              (
              each-asked (stores_local access) _ _ IsInRange (at forbids.StoreLocalCapability)
              (at forbids.Length, (IsInRange-fault (misaligned access) address fits, tt))
              ),
        ),
      ),
    )

module _ (authority : CapValue) (register : ℕ) (access : Access) (address : ℕ) where
  -- the first three conditions, and the last two
  pub access_fault-holds : access_fault authority register access address ≡ None
      → ((is_tagged authority ≡ true) × ((not (is_sealed authority) ≡ true) × (permits authority (needed access) ≡ true)))
      × ((holds authority address (width_of access) ≡ true) × ((address % width_of access == 0) ≡ true))
  unfolding access_fault
  access_fault-holds none =
      let all : EachHolds (judged (access_checks authority register access address)) =
      first_fault-none (judged (access_checks authority register access address)) none in
      let last = others-hold (stores_local access) _ _ (others-hold (stores_capability access) _ _ all.1.1.1) in
      ((all.0, (all.1.0, all.1.1.0)), (last.0, last.1.0))

  pub access_fault-aligned : access_fault authority register access address ≡ None → address % width_of access ≡ 0
  access_fault-aligned none = eqb-true (address % width_of access) 0 (access_fault-holds none).1.1

pub fetch_fault-range : (pcc : CapValue) → IfSome (fetch_fault pcc) IsInRange
unfolding fetch_fault
fetch_fault-range pcc =
    let at = λ (what : CheriCause). IsInRange-cheri pcc_register what (lit< tt) in
    first_fault-each IsInRange (judged (fetch_checks pcc))
    (at forbids.Tag, (at forbids.Seal, (at forbids.Execute, (at forbids.Length, tt))))

-- ---- jumps

module _ (pcc : CapValue) (target : ℕ) where
  pub target_fault-range : target < 2 ^ 64 → IfSome (target_fault pcc target) IsInRange
  unfolding target_fault
  target_fault-range fits =
      first_fault-each IsInRange (judged (target_checks pcc target))
      (IsInRange-cheri pcc_register forbids.Length (lit< tt), (IsInRange-fault cause.MisalignedJump target fits, tt))

  pub target_fault-aligned : target_fault pcc target ≡ None → target % 4 ≡ 0
  unfolding target_fault
  target_fault-aligned none =
      let all : EachHolds (judged (target_checks pcc target)) = first_fault-none (judged (target_checks pcc target)) none in
      eqb-true (target % 4) 0 all.1.0

module _ (v : CapValue) (register offset : ℕ) where
  pub jump_fault-range : register < 64 → IfSome (jump_fault v register offset) IsInRange
  unfolding jump_fault
  jump_fault-range exists =
      let at = λ (what : CheriCause). IsInRange-cheri register what exists in
      first_fault-each IsInRange (judged (jump_checks v register offset)) (
        at forbids.Tag,
        (
          at forbids.Seal,
          (
            at forbids.Execute,
            (
              at forbids.Length,
              (
                IsInRange-fault cause.MisalignedJump (jump_target (value_address v) offset) (jump_target-below (value_address v) offset),
                tt,
              ),
            ),
          ),
        ),
      )

  pub jump_fault-aligned : jump_fault v register offset ≡ None → jump_target (value_address v) offset % 4 ≡ 0
  unfolding jump_fault
  jump_fault-aligned none =
      let all : EachHolds (judged (jump_checks v register offset)) = first_fault-none (judged (jump_checks v register offset)) none in
      eqb-true (jump_target (value_address v) offset % 4) 0 all.1.1.1.1.0

module _ (code datum : CapValue) (code_register data_register : ℕ) where
  pub invoke_fault-range : code_register < 64 → data_register < 64 → IfSome (invoke_fault code code_register datum data_register) IsInRange
  unfolding invoke_fault
  invoke_fault-range code_exists data_exists =
      let at_code = λ (what : CheriCause). IsInRange-cheri code_register what code_exists in
      let at_data = λ (what : CheriCause). IsInRange-cheri data_register what data_exists in
      first_fault-each IsInRange (judged (invoke_checks code code_register datum data_register)) (
        at_code forbids.Tag,
        (
          at_data forbids.Tag,
          (
            at_code forbids.Seal,
            (
              at_data forbids.Seal,
              (
                at_code forbids.Type,
                (
                  at_code forbids.CInvoke,
                  (
                    at_data forbids.CInvoke,
                    (
                      at_code forbids.Execute,
                      (
                        at_data forbids.Execute,
                        (
                          at_code forbids.Length,
                          (IsInRange-fault cause.MisalignedJump (invoke_target code) (jump_target-below (value_address code) 0), tt),
                        ),
                      ),
                    ),
                  ),
                ),
              ),
            ),
          ),
        ),
      )

  pub invoke_fault-aligned : invoke_fault code code_register datum data_register ≡ None → invoke_target code % 4 ≡ 0
  unfolding invoke_fault
  invoke_fault-aligned none =
      let all : EachHolds (judged (invoke_checks code code_register datum data_register)) =
      first_fault-none (judged (invoke_checks code code_register datum data_register)) none in
      eqb-true (invoke_target code % 4) 0 all.1.1.1.1.1.1.1.1.1.1.0
