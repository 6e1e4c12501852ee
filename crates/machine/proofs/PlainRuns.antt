-- A plain run keeps authority, and is the same in both worlds: by each of its events in turn.
use Rattle.std.proofs.Common.{ℕ, zero, suc, List, [], ◌∷◌, ◌++◌, take, refl, sym, ap, subst, ◌∙◌, append_assoc}
use Rattle.std.proofs.lemmas.List.{append-nil}
use Rattle.std.specs.Prelude.{option_to_list}
use Rattle.steps.specs.declared.event.Event.{Event}
use Rattle.steps.specs.Event.{after, sent}
use Rattle.steps.specs.EventLaws.{IsState-after}
use Rattle.steps.specs.IsState.{IsState}
use Rattle.steps.specs.State.{State}
use Rattle.authority.specs.TwoWorldsLaws.{event-agrees, outcome-same, sent-same}
use Rattle.authority.specs.Worlds.{Agree}
use Rattle.machine.specs.Run.{run_after, run_sent}
use Rattle.machine.specs.Stretch.{AreEvents, ArePlain, IsPlainRun, IsTwin}
use Rattle.machine.proofs.Stretches.{KeepsAuthority, KeepsAuthority-none, KeepsAuthority-after}

-- from a state that was reached with authority kept, a plain run keeps it
keeps-on : (events : List Event) (s t : State) (bytes : List ℕ) → KeepsAuthority s t bytes → IsState t → AreEvents events
    → ArePlain events t → KeepsAuthority s (run_after events t) (bytes ++ run_sent events t)
keeps-on [] s t bytes keeps is are plain = subst (KeepsAuthority s t) (sym (append-nil bytes)) keeps
keeps-on (e ∷ es) s t bytes keeps is are plain =
    subst (KeepsAuthority s (run_after es (after e t))) (append_assoc bytes (option_to_list (sent e t)) (run_sent es (after e t)))
    (keeps-on es s (after e t) (bytes ++ option_to_list (sent e t)) (KeepsAuthority-after s t bytes e keeps is plain.0)
    (IsState-after t is e are.0) are.1 plain.1)

pub plain-keeps : (events : List Event) (s : State) → IsPlainRun events s → KeepsAuthority s (run_after events s) (run_sent events s)
plain-keeps events s run = keeps-on events s s [] (KeepsAuthority-none s) run.state run.are_events run.are_plain

-- ---- beginnings

events-beginning : (k : ℕ) (events : List Event) → AreEvents events → AreEvents (take k events)
events-beginning zero events are = tt
events-beginning (suc k) [] are = tt
events-beginning (suc k) (e ∷ es) are = (are.0, events-beginning k es are.1)

plain-beginning : (k : ℕ) (events : List Event) (s : State) → ArePlain events s → ArePlain (take k events) s
plain-beginning zero events s plain = tt
plain-beginning (suc k) [] s plain = tt
plain-beginning (suc k) (e ∷ es) s plain = (plain.0, plain-beginning k es (after e s) plain.1)

pub beginning : (events : List Event) (s : State) (k : ℕ) → IsPlainRun events s → IsPlainRun (take k events) s
beginning events s k run = record {
  state = run.state;
  are_events = events-beginning k events run.are_events;
  are_plain = plain-beginning k events s run.are_plain;
}

-- ---- two worlds

pub plain-there : (events : List Event) (s t : State) → IsState s → AreEvents events → ArePlain events s → Agree s t → ArePlain events t
plain-there [] s t is are plain agree = tt
plain-there (e ∷ es) s t is are plain agree = (
  outcome-same s t agree e ∙ plain.0,
  plain-there es (after e s) (after e t) (IsState-after s is e are.0) are.1 plain.1 (event-agrees e s t is plain.0 agree),
)

twin-on : (events : List Event) (s t : State) → IsState s → AreEvents events → ArePlain events s → Agree s t → IsTwin events s t
twin-on [] s t is are plain agree = record { bytes = refl; agree = agree }
twin-on (e ∷ es) s t is are plain agree =
    let rest : IsTwin es (after e s) (after e t) =
    twin-on es (after e s) (after e t) (IsState-after s is e are.0) are.1 plain.1 (event-agrees e s t is plain.0 agree) in
    record {
      bytes = ap (λ byte. option_to_list byte ++ run_sent es (after e t)) (sent-same s t agree e)
          ∙ ap (λ bytes. option_to_list (sent e s) ++ bytes) rest.bytes;
      agree = rest.agree;
    }

pub twin : (events : List Event) (s t : State) → IsPlainRun events s → Agree s t → IsTwin events s t
twin events s t run agree = twin-on events s t run.state run.are_events run.are_plain agree
