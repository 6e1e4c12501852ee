-- What is written of a word is such a text.
use Rattle.std.specs.Prelude.{ℕ, Bool, List, Result, Ok, Err, IfOk}
use Rattle.commands.specs.Bounding.{TellsWord}

pub such_a_text : {T E : Type 0} (r : Result T E) (writes : T → List ℕ → Type 0) (json : Bool) (word : ℕ) (text : List ℕ)
    → TellsWord json word text → IfOk r (λ out. writes out text)
    → IfOk r (λ out. (t : List ℕ) × TellsWord json word t × writes out t)
such_a_text (Ok out) writes json word text tells written = (text, tells, written)
such_a_text (Err e) writes json word text tells written = tt
