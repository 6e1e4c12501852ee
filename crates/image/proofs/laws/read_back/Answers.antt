use Rattle.image.proofs.Format.{reading_again, reading_back}
use Rattle.image.proofs.laws.read_back.Goals as goal

pub returns-clause-read : goal.returns-clause-read
returns-clause-read c = λ bytes image spelt. reading_again bytes image spelt.0 spelt.1

pub returns-clause-spelt : goal.returns-clause-spelt
returns-clause-spelt c = reading_back
