-- Reading goes on word by word: what was read so far, and what the words that are left say.
use Rattle.std.proofs.Common.{◌≡◌, List, ◌++◌, Result, Ok, Err, refl, append_assoc}
use Rattle.policy_text.specs.declared.fault.PolicyCode.{PolicyCode}
use Rattle.policy_text.specs.Policy.{◌>>=◌}

-- what is read, after what was
abbrev pub onto : {A : Type 0} → List A → Result (List A) PolicyCode → Result (List A) PolicyCode
onto front read = read >>= λ more. Ok (front ++ more)

-- the first and then the others
abbrev pub joined : {A : Type 0} → Result (List A) PolicyCode → Result (List A) PolicyCode → Result (List A) PolicyCode
joined first others = first >>= λ f. others >>= λ o. Ok (f ++ o)

pub onto_joined : {A : Type 0} (old new : List A) (first others : Result (List A) PolicyCode) → onto old first ≡ Ok new
    → onto old (joined first others) ≡ onto new others
onto_joined old new (Ok f) (Ok o) h = let e : old ++ f ≡ new = cc in rw (← e, append_assoc) refl
onto_joined old new (Ok f) (Err code) h = refl
onto_joined old new (Err code) others h = cc
