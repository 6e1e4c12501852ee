use Rattle.std.proofs.Common.{refl}
use Rattle.text_laws.proofs.listings.lines_without_names.Goals as goal

pub returns-clause-words : goal.returns-clause-words
returns-clause-words c = λ mode address word. refl

pub returns-clause-bytes : goal.returns-clause-bytes
returns-clause-bytes c = λ address byte. refl
