-- What two watches were told of some events, and of more after them.
use Rattle.std.specs.Prelude.{◌⊎◌, List, ◌++◌}
use Rattle.std.proofs.Common.{inl, inr, sym, ap, ◌∙◌, append_assoc}
use Rattle.steps.specs.declared.event.Event.{Event}
use Rattle.steps.specs.State.{State}
use Rattle.machine.specs.Run.{run_after}
use Rattle.schedules.specs.declared.both.Either.{Either}
use Rattle.schedules.specs.declared.both.Either.TheVariants.{First, Second}
use Rattle.schedules.specs.Both.{BarredBoth, LostBoth, WasAsked}
use Rattle.schedules.specs.OutputLaws.{after-append}

module _ {W : Type 0} (Saw : List Event → State → W → W → Type 0) (Asked : State → W → W → Type 0)
    (goes_on : (xs ys : List Event) (s : State) (u v w : W) → Saw xs s u v → Saw ys (run_after xs s) v w → Saw (xs ++ ys) s u w)
    (xs ys : List Event) (s : State) (u v w : W) (first : Saw xs s u v) where
  asked_later : WasAsked Saw Asked ys (run_after xs s) v w → WasAsked Saw Asked (xs ++ ys) s u w
  asked_later was = record {
    there = was.there;
    saw = goes_on xs ys s u v was.there first was.saw;
    asked = rw (after-append xs ys s) was.asked;
  }

  told_or_asked : Saw ys (run_after xs s) v w ⊎ WasAsked Saw Asked ys (run_after xs s) v w
      → Saw (xs ++ ys) s u w ⊎ WasAsked Saw Asked (xs ++ ys) s u w
  told_or_asked (inl saw) = inl (goes_on xs ys s u v w first saw)
  told_or_asked (inr was) = inr (asked_later was)

module _ {A B F G : Type 0} (SawA : List Event → State → A → A → Type 0) (LostA BarredA : F → List Event → State → A → A → Type 0)
    (AskedA : State → A → A → Type 0) (SawB : List Event → State → B → B → Type 0) (LostB BarredB : G → List Event → State → B → B → Type 0)
    (AskedB : State → B → B → Type 0)
    (goes_onA : (xs ys : List Event) (s : State) (u v w : A) → SawA xs s u v → SawA ys (run_after xs s) v w → SawA (xs ++ ys) s u w)
    (failsA : (fault : F) (xs ys : List Event) (s : State) (u v w : A)
    → SawA xs s u v → LostA fault ys (run_after xs s) v w → LostA fault (xs ++ ys) s u w)
    (barsA : (fault : F) (xs ys : List Event) (s : State) (u v w : A)
    → SawA xs s u v → BarredA fault ys (run_after xs s) v w → BarredA fault (xs ++ ys) s u w)
    (goes_onB : (xs ys : List Event) (s : State) (u v w : B) → SawB xs s u v → SawB ys (run_after xs s) v w → SawB (xs ++ ys) s u w)
    (failsB : (fault : G) (xs ys : List Event) (s : State) (u v w : B)
    → SawB xs s u v → LostB fault ys (run_after xs s) v w → LostB fault (xs ++ ys) s u w)
    (barsB : (fault : G) (xs ys : List Event) (s : State) (u v w : B)
    → SawB xs s u v → BarredB fault ys (run_after xs s) v w → BarredB fault (xs ++ ys) s u w)
    (xs ys : List Event) (s : State) (a c e : A) (b d f : B) (firstA : SawA xs s a c) (firstB : SawB xs s b d) where
  pub both_lost : (fault : Either F G) → LostBoth SawA LostA SawB LostB AskedB fault ys (run_after xs s) c e d f
      → LostBoth SawA LostA SawB LostB AskedB fault (xs ++ ys) s a e b f
  both_lost (First fault) lost = (
    failsA fault xs ys s a c e firstA lost.0,
    record {
      done = xs ++ lost.1.done;
      more = lost.1.more;
      order = ap (λ es. xs ++ es) lost.1.order ∙ sym (append_assoc xs lost.1.done lost.1.more);
      saw = told_or_asked SawB AskedB goes_onB xs lost.1.done s b d f firstB lost.1.saw;
    },
  )
  both_lost (Second fault) lost = (failsB fault xs ys s b d f firstB lost.0, goes_onA xs ys s a c e firstA lost.1)

  pub both_barred : (fault : Either F G) → BarredBoth SawA BarredA AskedA SawB BarredB fault ys (run_after xs s) c e d f
      → BarredBoth SawA BarredA AskedA SawB BarredB fault (xs ++ ys) s a e b f
  both_barred (First fault) lost = (barsA fault xs ys s a c e firstA lost.0, goes_onB xs ys s b d f firstB lost.1)
  both_barred (Second fault) lost = (barsB fault xs ys s b d f firstB lost.0, asked_later SawA AskedA goes_onA xs ys s a c e firstA lost.1)
