use Rattle.std.proofs.Common.{◌≡◌, ℕ, ◌<◌, Some, None, refl, sym, ◌∙◌}
use Rattle.std.specs.Prelude.{Option, IfSome}
use Rattle.asm_names.specs.NameLaws.{csr_named-below}
use Rattle.asm_names.specs.SpecialNames.{csr_named}
use Rattle.asm_names.proofs.special_names.csr_named.Goals as goal

if_some : (found : Option ℕ) → ((n : ℕ) → found ≡ Some n → n < 4096) → IfSome found (λ n. n < 4096)
if_some (Some n) below = below n refl
if_some None below = tt

pub returns-clause-below : goal.returns-clause-below
unfolding csr_named
returns-clause-below c = if_some c.number_in.result (λ n e. csr_named-below c.args.text.now n (sym c.number_in.ensures ∙ e))
