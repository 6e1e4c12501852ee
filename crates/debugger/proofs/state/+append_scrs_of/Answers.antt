use Rattle.std.proofs.Common.{[], rules, arith}
use Rattle.base.specs.Registers.{is_scr}
use Rattle.base.specs.declared.registers.Holds.TheVariants.{Written}
use Rattle.debugger.proofs.AllListed.{all-first, all-rest}
use Rattle.debugger.proofs.Scrs.{first-below}
use Rattle.debugger.proofs.state.+append_scrs_of.Goals as goal

pub overflow_cast-first : goal.overflow_cast-first
overflow_cast-first g t c =
    let below =
    first-below (0, record { ref_ptr = (0, 0); now = [] }, Written 0) c.args.registers.now c.in-len1-up.len_at_least c.requires in
    omega (arith, below)

pub scr-requires : goal.scr-requires
scr-requires g t c = (
  search rules,
  all-first (λ r. is_scr r.0) (0, record { ref_ptr = (0, 0); now = [] }, Written 0)
      c.args.registers.now c.in-len1-up.len_at_least c.requires,
)

pub append_scrs_of-requires : goal.append_scrs_of-requires
append_scrs_of-requires g t c κs within =
    (search rules, (search rules, (search rules, all-rest (λ r. is_scr r.0) _ c.args.registers.now c.requires)))
