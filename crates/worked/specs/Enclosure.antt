-- The counter with its trap entry in its own code: the special registers are its two capabilities too.
use Rattle.std.specs.Prelude.{◌≡◌, ◌⊎◌, ℕ}
use Rattle.cap_bounds.specs.CapValue.{CapValue}
use Rattle.steps.specs.State.{State}
use Rattle.worked.specs.Counter.{code_capability, counter, data_capability}

unfoldable pub enclosed_counter : ℕ → State
enclosed_counter secret =
    record (counter secret) {
      scrs = record {
        pcc = code_capability;
        ddc = data_capability;
        mtcc = code_capability;
        mtdc = data_capability;
        mscratchc = data_capability;
        mepcc = code_capability;
      };
    }

-- it is one of the two
abbrev pub IsOneOfTheTwo : CapValue → Type 0
IsOneOfTheTwo v = (v ≡ code_capability) ⊎ (v ≡ data_capability)
