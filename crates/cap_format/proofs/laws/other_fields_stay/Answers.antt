use Rattle.cap_format.specs.WordLaws.{field-with_field_other}
use Rattle.cap_format.proofs.laws.other_fields_stay.Goals as goal

pub returns : goal.returns
returns c = field-with_field_other
