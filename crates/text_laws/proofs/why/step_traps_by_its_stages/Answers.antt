use Rattle.explain.specs.AskedLaws.{traps-by_its_stages}
use Rattle.text_laws.proofs.why.step_traps_by_its_stages.Goals as goal

pub returns : goal.returns
returns c = traps-by_its_stages
