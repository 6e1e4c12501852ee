-- A faulty line ends the reading.
use Rattle.std.proofs.Common.{◌≡◌, ℕ, Result, refl, sym, ◌∙◌}
use Rattle.policy_text.specs.declared.fault.PolicyCode.{PolicyCode}
use Rattle.policy_text.specs.declared.fault.Fault.{Fault}
use Rattle.policy_text.specs.declared.fault.Fault.TheVariants.{Code, Memory}
use Rattle.policy_text.specs.Policy.{at_line}
use Rattle.policy_text.specs.FaultAt.{fault_at}
use Rattle.policy_text.specs.Seen.{Fails, IsFaultOf}

pub faulty_line : {A B : Type 0} (fault : Fault) (number : ℕ) (line : Result A PolicyCode)
    (more : A → Result B (ℕ × PolicyCode)) (text : Result B (ℕ × PolicyCode)) → Fails fault line → at_line number line more ≡ text
    → IsFaultOf text (fault_at fault number)
faulty_line Memory number line more text h e = tt
faulty_line (Code code) number line more text h e = sym e ∙ rw h refl
