-- A fact that holds of a result whatever it is.
use Rattle.std.proofs.Common.{OnOk, OnErr}
use Rattle.std.specs.Prelude.{Result, Ok, Err}

pub on_ok : {A B P : Type 0} (r : Result A B) → P → OnOk r P
on_ok (Ok x) p = p
on_ok (Err e) p = tt

pub on_err : {A B P : Type 0} (r : Result A B) → P → OnErr r P
on_err (Ok x) p = tt
on_err (Err e) p = p
