-- Events that were met, and more after them.
use Rattle.std.proofs.Common.{◌≡◌, ℕ, ◌+◌, ◌<◌, Bool, false, List, [], ◌∷◌, ◌++◌, replicate, refl, sym, ap, ◌∙◌}
use Rattle.std.proofs.Common.{append_assoc}
use Rattle.std.specs.Prelude.{if◌then◌else◌}
use Rattle.devices.specs.Devices.{received}
use Rattle.steps.specs.declared.event.Event.{Event}
use Rattle.steps.specs.declared.event.Event.TheVariants.{Step, Tick, Byte}
use Rattle.steps.specs.State.{State}
use Rattle.steps.specs.Event.{after}
use Rattle.machine.specs.Run.{run_after}
use Rattle.schedules.specs.declared.pace.How.{How}
use Rattle.schedules.specs.declared.pace.How.TheVariants.{Done, Halted, Stopped, Failed}
use Rattle.schedules.specs.declared.pace.How.TheVariants as how
use Rattle.schedules.specs.declared.schedule.Schedule.{Schedule}
use Rattle.schedules.specs.declared.position.Position.{Position}
use Rattle.schedules.specs.Schedule.{is_halted, up_to_halt}
use Rattle.schedules.specs.Walk.{coming, rest, ticking, IsBeforeStep, Ends, EndsBlock, EndsSteps, Met, Walked, WentBy}
use Rattle.schedules.proofs.Events.{all_are_met, no_more, run_after-append, up_to_halt-append}
use Rattle.schedules.proofs.Steps.{tells_more}

pub one_met : (e : Event) (s : State) → up_to_halt (e ∷ []) s ≡ e ∷ []
one_met e s = ap (λ es. e ∷ es) (no_more (is_halted (after e s)))

pub keeps_at_byte : (b : ℕ) (s : State) → is_halted (after (Byte b) s) ≡ is_halted s
unfolding received
keeps_at_byte b s = refl

pub keeps_at_tick : (s : State) → is_halted (after Tick s) ≡ is_halted s
keeps_at_tick s = refl

module _ {W F : Type 0} (Saw : List Event → State → W → W → Type 0) (Lost Barred : F → List Event → State → W → W → Type 0) where
  pub as_met : (how : How F) (n : ℕ) (s t : State) (v w : W) → WentBy Saw Lost Barred how n s t v w
      → Met Saw Lost Barred how (replicate n Step) s t v w
  as_met how n s t v w went = record { state = went.state; all = all_are_met n s went.running; told = went.told }

  module _ (goes_on : (xs ys : List Event) (s : State) (u v w : W) → Saw xs s u v → Saw ys (run_after xs s) v w → Saw (xs ++ ys) s u w)
      (fails_later : (fault : F) (xs ys : List Event) (s : State) (u v w : W)
      → Saw xs s u v → Lost fault ys (run_after xs s) v w → Lost fault (xs ++ ys) s u w)
      (bars_later : (fault : F) (xs ys : List Event) (s : State) (u v w : W)
      → Saw xs s u v → Barred fault ys (run_after xs s) v w → Barred fault (xs ++ ys) s u w) where
    pub met_more : (how : How F) (xs ys : List Event) (s t r : State) (u v w : W) → is_halted s ≡ false
        → Met Saw Lost Barred Done xs s t u v
        → is_halted t ≡ false → Met Saw Lost Barred how ys t r v w → Met Saw Lost Barred how (xs ++ ys) s r u w
    met_more how xs ys s t r u v w running first still later = record {
      state = later.state ∙ ap (λ x. run_after ys x) first.state ∙ sym (run_after-append xs ys s);
      all = up_to_halt-append xs ys s running
          ∙ ap (λ es. es ++ (if is_halted (run_after es s) then [] else up_to_halt ys (run_after es s))) first.all
          ∙ ap (λ x. xs ++ (if is_halted x then [] else up_to_halt ys x)) (sym first.state)
          ∙ rw still (ap (λ es. xs ++ es) later.all);
      told = tells_more Saw Lost Barred goes_on fails_later bars_later how xs ys s t u v w first.state first.told later.told;
    }

    pub walked_more : (schedule : Schedule) (input : List ℕ) (how : How F) (p q o : Position) (s t r : State) (u v w : W)
        → is_halted s ≡ false → Walked Saw Lost Barred schedule input Done p q s t u v → is_halted t ≡ false
        → Walked Saw Lost Barred schedule input how q o t r v w → Walked Saw Lost Barred schedule input how p o s r u w
    walked_more schedule input how p q o s t r u v w running first still later = record {
      events = first.events ++ later.events;
      order = first.order ∙ ap (λ es. first.events ++ es) later.order
          ∙ sym (append_assoc first.events later.events (rest schedule input o));
      met = met_more how first.events later.events s t r u v w running first.met still later.met;
    }

    module _ (schedule : Schedule) (input : List ℕ) (how : How F) (n : ℕ) (p q : Position) (s t r : State) (u v w : W)
        (running : is_halted s ≡ false) (still : is_halted t ≡ is_halted s)
        (byte : Met Saw Lost Barred Done (coming schedule input p.brought (p.done + 1)) s t u v)
        (left : rest schedule input p
        ≡ coming schedule input p.brought (p.done + 1) ++ (replicate n Step ++ rest schedule input q)) where
      pub block_walked : WentBy Saw Lost Barred how n t r v w → Walked Saw Lost Barred schedule input how p q s r u w
      block_walked went = record {
        events = coming schedule input p.brought (p.done + 1) ++ replicate n Step;
        order = left ∙ sym (append_assoc (coming schedule input p.brought (p.done + 1)) (replicate n Step) (rest schedule input q));
        met = met_more how (coming schedule input p.brought (p.done + 1)) (replicate n Step) s t r u v w running byte (still ∙ running)
            (as_met how n t r v w went);
      }

    -- the tick that is owed came
    pub tick_walked : (schedule : Schedule) (input : List ℕ) (p q : Position) (s t r : State) (u v w : W) → is_halted s ≡ false
        → Walked Saw Lost Barred schedule input Done p q s t u v → is_halted t ≡ false → Met Saw Lost Barred Done (ticking q.owed) t r v w
        → Walked Saw Lost Barred schedule input Done p (record q { owed = false }) s r u w
    tick_walked schedule input p q s t r u v w running first still tick =
        walked_more schedule input Done p q (record q { owed = false }) s t r u v w running first still
        (record { events = ticking q.owed; order = refl; met = tick })

    -- the tick that is owed at the start came
    pub owed_walked : (schedule : Schedule) (input : List ℕ) (how : How F) (p q : Position) (s t r : State) (u v w : W)
        → is_halted s ≡ false → Met Saw Lost Barred Done (ticking p.owed) s t u v → is_halted t ≡ false
        → Walked Saw Lost Barred schedule input how (record p { owed = false }) q t r v w
        → Walked Saw Lost Barred schedule input how p q s r u w
    owed_walked schedule input how p q s t r u v w running tick still later =
        walked_more schedule input how p (record p { owed = false }) q s t r u v w running
        (record { events = ticking p.owed; order = refl; met = tick }) still later

pub block_ends : {W F : Type 0} (stops : W → State → Bool) (schedule : Schedule) (how : How F) (count n : ℕ) (p q : Position) (t : State)
    (w : W) → (how ≡ Done → ⊥) → (n < count → IsBeforeStep schedule q) → EndsSteps stops count how n t w
    → EndsBlock stops schedule how p q t w
block_ends stops schedule Done count n p q t w off next ends = absurd (off refl)
block_ends stops schedule Halted count n p q t w off next ends = ends
block_ends stops schedule Stopped count n p q t w off next ends = (ends.0, ends.1, next ends.2)
block_ends stops schedule (how.Barred fault) count n p q t w off next ends = (ends.0, next ends.1)
block_ends stops schedule (Failed fault) count n p q t w off next ends = ends

pub walk_ends : {W F : Type 0} (stops : W → State → Bool) (schedule : Schedule) (input : List ℕ) (how : How F) (p q : Position) (t : State)
    (w : W) → (how ≡ Done → ⊥) → EndsBlock stops schedule how p q t w → Ends stops schedule input how q t w
walk_ends stops schedule input Done p q t w off ends = absurd (off refl)
walk_ends stops schedule input Halted p q t w off ends = ends
walk_ends stops schedule input Stopped p q t w off ends = ends
walk_ends stops schedule input (how.Barred fault) p q t w off ends = ends
walk_ends stops schedule input (Failed fault) p q t w off ends = ends
