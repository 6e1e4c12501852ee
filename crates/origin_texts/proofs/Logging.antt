-- What a step logs is what it writes.
use Rattle.std.proofs.Common.{◌≡◌, ℕ, ◌<◌, ◌%◌, Bool, true, false, List, ◌++◌, Option, Some, None, sym, ap, ◌∙◌, arith}
use Rattle.std.proofs.Common.{[], append-nil}
use Rattle.std.proofs.lemmas.Bool.Decides.{nat_tests}
use Rattle.std.specs.Prelude.{◌==◌, ◌&&◌, nat_lt, IfSome, if◌then◌else◌}
use Rattle.cap_bounds.specs.CapValue.{CapValue}
use Rattle.tagged_memory.specs.Memory.{is_in_ram}
use Rattle.steps.specs.Applying.{IsPlanned}
use Rattle.steps.specs.State.{State}
use Rattle.steps.specs.declared.effect.Effect.{Effect}
use Rattle.steps.specs.declared.event.Event.TheVariants.{Step, Tick, Byte}
use Rattle.origins.proofs.Stays.{place-stays}
use Rattle.origins.proofs.There.{event-there}
use Rattle.origins.specs.Made.{made_at, step_made}
use Rattle.origins.specs.Making.{source}
use Rattle.origins.specs.Places.{IsThere}
use Rattle.origins.specs.declared.making.Making.{Making}
use Rattle.origins.specs.declared.place.Place.{Place}
use Rattle.origins.specs.declared.place.Place.TheVariants.{Register, Special, Granule}
use Rattle.past.specs.Giving.{HasSameSize}
use Rattle.origin_texts.specs.Chain.{History}
use Rattle.origin_texts.specs.Log.{IsIn, IsLogged}
use Rattle.origin_texts.specs.Writes.{IsGrown, is_in, made_there, noted, written_by}
use Rattle.origin_texts.specs.declared.log.Link.{Link}
use Rattle.origin_texts.proofs.Growing.{none_logged, noted_logged}
use Rattle.origin_texts.proofs.There.{holder}
use Rattle.origin_texts.proofs.Unlisted.{step_unlisted}

equal_test : (n m : ℕ) → n ≡ m → (n == m) ≡ true
equal_test n m e = grind (arith, nat_tests)

less_test : (n m : ℕ) → n < m → nat_lt n m ≡ true
less_test n m e = grind (arith, nat_tests)

pub there_in : (s : State) (p : Place) → IsThere p s → is_in s p ≡ true
there_in s (Register n) there = less_test n 32 there
there_in s (Special n) there = there
there_in s (Granule address) there =
    ap (λ b. b && is_in_ram s.memory address 16) (equal_test (address % 16) 0 there.0) ∙ there.1

module _ {C : Type 0} (value : C → CapValue) (e : Effect C) (s : State) (k : ℕ) (planned : IsPlanned value e s) where
  if_some : (b : Bool) (o : Option Making) (m : Making) → (if b then o else None) ≡ Some m → o ≡ Some m
  if_some true o m h = h
  if_some false o m h = absurd (cc)

  back : (h : History) → HasSameSize h.opening s → (o : Option Place) → IfSome o (λ p. IsThere p s) → IfSome o (λ p. IsIn p h)
  back h size (Some p) there = place-stays s h.opening (sym size) p there
  back h size None there = tt

  logs : (h : History) → HasSameSize h.opening s → IsLogged h k (λ p. made_at p Step s) (noted (made_there s) k (written_by e))
  logs h size =
      noted_logged (made_there s) k h
      (λ p m made. back h size (source m) (event-there s p Step m (if_some (is_in s p) (step_made p s) m made)).0)
      (written_by e) (λ p. made_at p Step s)
      (λ p there. ap (λ b. if b then step_made p s else None) (there_in s p (place-stays h.opening s size p there)))
      (λ p there out. step_unlisted value s e p planned (holder p s (place-stays h.opening s size p there)) out)

  pub step_grown : (old new : List Link) → new ≡ old ++ noted (made_there s) k (written_by e) → IsGrown k Step s old new
  step_grown old new grown = record { more = noted (made_there s) k (written_by e); grown = grown; logged = logs }

pub tick_grown : (k : ℕ) (s : State) (log : List Link) → IsGrown k Tick s log log
tick_grown k s log = record { more = []; grown = sym (append-nil log); logged = λ h size. none_logged h k }

pub byte_grown : (k b : ℕ) (s : State) (log : List Link) → IsGrown k (Byte b) s log log
byte_grown k b s log = record { more = []; grown = sym (append-nil log); logged = λ h size. none_logged h k }
