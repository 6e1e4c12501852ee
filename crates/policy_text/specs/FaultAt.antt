-- The fault of a text by that of its line.
use Rattle.std.specs.Prelude.{ℕ}
use Rattle.policy_text.specs.declared.fault.Fault.{Fault}
use Rattle.policy_text.specs.declared.fault.Fault.TheVariants.{Code, Memory}
use Rattle.policy_text.specs.declared.fault.PolicyTextFault.{PolicyTextFault}
use Rattle.policy_text.specs.declared.fault.PolicyTextFault.TheVariants as text_fault

-- the fault of a text whose line of this number has a fault
abbrev pub fault_at : Fault → ℕ → PolicyTextFault
fault_at (Code code) line = text_fault.Line line code
fault_at Memory line = text_fault.Memory
