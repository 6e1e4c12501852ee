use Rattle.symbols.proofs.PlaceLemmas.{first_name}
use Rattle.symbols.specs.Symbols.{labels_in}
use Rattle.text_laws.proofs.tables.the_name_is_the_first.Goals as goal

pub returns : goal.returns
returns c = λ symbols address. first_name (labels_in symbols) address
