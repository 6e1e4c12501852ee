use Rattle.std.proofs.Common.{rules}
use Rattle.assembler.proofs.builder.Builder.misplaced_bytes.Goals as goal

pub returns-then-place-from : goal.returns-then-place-from
returns-then-place-from c = search rules
