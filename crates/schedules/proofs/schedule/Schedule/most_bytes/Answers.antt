use Rattle.std.proofs.Common.{rules}
use Rattle.schedules.proofs.schedule.Schedule.most_bytes.Goals as goal

pub returns-clause-used : goal.returns-clause-used
returns-clause-used c = search rules
