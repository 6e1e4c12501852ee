-- What reading to the end answers.
use Rattle.std.proofs.Common.{◌≡◌, ℕ, suc, List, [], ◌∷◌, ◌++◌, length, Option, Some, None, IfSome, Ok, Err, refl, arith}
use Rattle.std.specs.Prelude.{◌≢◌}
use Rattle.std.proofs.lemmas.Bool.{ne_eqb}
use Rattle.std.specs.Io.KnownBytes.{IsAtEnd}
use Rattle.image.specs.declared.fault.ImageFault.{ImageFault}
use Rattle.image.specs.declared.fault.ImageFault.TheVariants.{L9}
use Rattle.image.specs.Image.{Image}
use Rattle.image.specs.Grammar.{image_at, reading}
use Rattle.image.specs.Reads.{IsOfBytes, IsNotAtEnd, Answers}
use Rattle.image.proofs.Taking.{Got, Stopped, after_known}

if_known : (a : Option (List ℕ)) (P Q : List ℕ → Type 0) → ((bytes : List ℕ) → P bytes → Q bytes) → IfSome a P → IfSome a Q
if_known None P Q h p = tt
if_known (Some bytes) P Q h p = h bytes p

premise_out : (a : Option (List ℕ)) (A : Type 0) (P : List ℕ → Type 0) → (A → IfSome a P) → IfSome a (λ bytes. A → P bytes)
premise_out None A P h = tt
premise_out (Some bytes) A P h = h

stops : (bytes : List ℕ) (fault : ImageFault) → image_at bytes ≡ Err fault → reading bytes ≡ Err fault
unfolding reading
stops bytes fault e = rw e refl

pub value_stopped : (a b : Option (List ℕ)) (fault : ImageFault) → Stopped image_at a b fault
    → IfSome a (λ bytes. Answers (reading bytes) (Err fault))
value_stopped a b fault stopped =
    premise_out a (IsOfBytes fault) (λ bytes. reading bytes ≡ Err fault)
    (λ of_bytes. if_known a (λ bytes. image_at bytes ≡ Err fault) (λ bytes. reading bytes ≡ Err fault) (λ bytes e. stops bytes fault e)
    (stopped.1 of_bytes))

more : (bytes rest : List ℕ) (image : Image) → image_at bytes ≡ Ok (image, rest) → rest ≢ [] → reading bytes ≡ Err L9
unfolding reading
more bytes [] image e some = absurd (some refl)
more bytes (x ∷ rest) image e some = rw (e, ne_eqb (suc (length rest)) 0 (λ z. omega arith)) refl

pub value_more : (a b : Option (List ℕ)) (image : Image) (fault : ImageFault) → Got image_at a b image
    → (IsOfBytes fault → (fault ≡ L9) × IsNotAtEnd b) → IfSome a (λ bytes. Answers (reading bytes) (Err fault))
value_more a b image fault got h =
    premise_out a (IsOfBytes fault) (λ bytes. reading bytes ≡ Err fault) (λ of_bytes.
    let p = h of_bytes in
    after_known a b got.0 (λ rest. rest ≢ []) (λ all. reading all ≡ Err fault) got.1
    (λ rest some. rw p.0 (more (got.0 ++ rest) rest image (got.2 rest) some)) p.1)

whole : (bytes rest : List ℕ) (image : Image) → image_at bytes ≡ Ok (image, rest) → rest ≡ [] → reading bytes ≡ Ok image
unfolding reading
whole bytes rest image e none = rw (e, none) refl

end_known : (b : Option (List ℕ)) → IsAtEnd b → IfSome b (λ rest. rest ≡ [])
end_known None end = tt
end_known (Some rest) end = end

pub value_read : (a b : Option (List ℕ)) (image : Image) → Got image_at a b image → IsAtEnd b
    → IfSome a (λ bytes. Answers (reading bytes) (Ok image))
value_read a b image got end =
    after_known a b got.0 (λ rest. rest ≡ []) (λ all. reading all ≡ Ok image) got.1
    (λ rest none. whole (got.0 ++ rest) rest image (got.2 rest) none) (end_known b end)
