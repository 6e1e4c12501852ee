use Rattle.std.proofs.Common.{rules}
use Rattle.cap_bounds.specs.PlainCap.{plain_value, plain_sound}
use Rattle.cap_bounds.specs.RecordLaws.{word_of-well_formed}
use Rattle.cap_bounds.proofs.plain_cap.PlainCapCapRep.word.Goals as goal

pub returns-in-Tagged-clause-well_formed : goal.returns-in-Tagged-clause-well_formed
returns-in-Tagged-clause-well_formed c = word_of-well_formed (plain_value c.args.self) (plain_sound c.args.self)

pub returns-in-Tagged-clause-value : goal.returns-in-Tagged-clause-value
returns-in-Tagged-clause-value c = search rules
