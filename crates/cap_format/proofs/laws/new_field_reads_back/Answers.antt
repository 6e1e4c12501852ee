use Rattle.cap_format.specs.WordLaws.{field-with_field}
use Rattle.cap_format.proofs.laws.new_field_reads_back.Goals as goal

pub returns : goal.returns
returns c = field-with_field
