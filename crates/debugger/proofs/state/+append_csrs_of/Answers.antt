use Rattle.std.proofs.Common.{[], rules}
use Rattle.base.specs.Registers.{is_csr}
use Rattle.base.specs.declared.registers.Holds.TheVariants.{Written}
use Rattle.debugger.proofs.AllListed.{all-first, all-rest}
use Rattle.debugger.proofs.state.+append_csrs_of.Goals as goal

pub csr-requires : goal.csr-requires
csr-requires g t c = (
  search rules,
  all-first (λ r. is_csr r.0) (0, record { ref_ptr = (0, 0); now = [] }, Written 0)
      c.args.registers.now c.in-len1-up.len_at_least c.requires,
)

pub append_csrs_of-requires : goal.append_csrs_of-requires
append_csrs_of-requires g t c κs within =
    (search rules, (search rules, (search rules, all-rest (λ r. is_csr r.0) _ c.args.registers.now c.requires)))
