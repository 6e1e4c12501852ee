use Rattle.std.proofs.Common.{subst}
use Rattle.steps.specs.IsState.{IsState}
use Rattle.hart.proofs.hart.Hart.is_state.Goals as goal

pub returns : goal.returns
returns g c =
    subst IsState c.self.view_is (record {
      registers = c.are_sound.ensures.registers;
      values = c.are_sound.ensures.values;
      scrs = c.are_sound-2.ensures;
      csrs = c.are_in_range.ensures;
      memory = c.is_sound.ensures;
      capabilities = c.self.invariant;
      devices = c.are_sound-3.ensures;
    })
