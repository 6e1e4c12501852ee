use Rattle.std.proofs.Common.{length}
use Rattle.explain.proofs.stages.+append_tag_lines.Given as goal

abbrev pub decreases-append_tag_lines : goal.decreases-append_tag_lines
decreases-append_tag_lines g l = length l.conditions.now
