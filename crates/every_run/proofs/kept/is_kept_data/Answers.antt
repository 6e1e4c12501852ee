use Rattle.std.proofs.Common.{sym, ap, ◌∙◌}
use Rattle.tagged_memory.specs.Memory.{is_in_ram}
use Rattle.every_run.proofs.kept.is_kept_data.Goals as goal

pub returns-then-is_in_ram : goal.returns-then-is_in_ram
returns-then-is_in_ram g c = λ kept. record {
  inside = sym (ap (λ m. is_in_ram m c.args.address c.args.size) c.memory.ensures.value) ∙ (sym c.is_in_ram.ensures ∙ c.if-is_in_ram.true);
  known = c.are_kept.ensures kept;
}
