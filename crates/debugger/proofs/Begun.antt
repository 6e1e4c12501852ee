-- A past that has one command more, which is kept in place of the last.
use Rattle.std.proofs.Common.{◌≡◌, ℕ, ◌+◌, ◌-◌, ◌^◌, ◌≤◌, Bool, List, [], ◌∷◌, ◌++◌, length, length-append, take, refl, sym}
use Rattle.std.proofs.Common.{ap, ap₂, ◌∙◌, subst, arith}
use Rattle.std.specs.Prelude.{Option, None, Some, IfSome, option_map}
use Rattle.debug_commands.specs.declared.command.Events.{Events}
use Rattle.debug_commands.specs.declared.command.Events.TheVariants.{Steps, Ticks, Byte, Until, Go, Changed}
use Rattle.debugger.specs.Stops.{Mark}
use Rattle.steps.specs.State.{State}
use Rattle.steps.specs.declared.event.Event.{Event}
use Rattle.machine.specs.Run.{run_after}
use Rattle.past.specs.Given.{PastState, but_last, count_of, count_of_one}
use Rattle.past.specs.Replay.{ReplayState}
use Rattle.past.specs.declared.given.Given.{Given}
use Rattle.past.specs.declared.given.Given.TheVariants as gave
use Rattle.past.proofs.Anchors.{kept_more}
use Rattle.past.specs.Anchor.{AnchorState}
use Rattle.debugger.specs.Keeping.{HasBegun, IsAnchored, begun_past, kept_last, timeline}
use Rattle.debugger.specs.Reply.{after_events, given, given_of, owed_after, past_after, replay_after}
use Rattle.debugger.specs.SessionState.{StandsThere}
use Rattle.debugger.proofs.Keeps.{beginning_after, keeps}

first_all : (gs hs : List Given) → take (length gs) (gs ++ hs) ≡ gs
first_all [] hs = refl
first_all (g ∷ gs) hs = ap (λ l. g ∷ l) (first_all gs hs)

one_less : (n m : ℕ) → n ≡ m + 1 → n - 1 ≡ m
one_less n m e = omega (arith, e)

last_off : (gs : List Given) (g : Given) → but_last (gs ++ g ∷ []) ≡ gs
last_off gs g =
    ap (λ n. take n (gs ++ g ∷ [])) (one_less (length (gs ++ g ∷ [])) (length gs) (length-append gs (g ∷ [])))
    ∙ first_all gs (g ∷ [])

one_at_least : (gs : List Given) (g : Given) → 1 ≤ length (gs ++ g ∷ [])
one_at_least gs g = omega (arith, length-append gs (g ∷ []))

pub has_begun : (past : Option PastState) → IfSome past (λ p. count_of p.given ≤ 2 ^ 63) → HasBegun (option_map begun_past past)
has_begun None few = tt
has_begun (Some past) few =
    (one_at_least past.given (gave.Steps 0), subst (λ gs. count_of gs ≤ 2 ^ 63) (sym (last_off past.given (gave.Steps 0))) few)

pub given_few : (events : Events) (count : ℕ) → count ≤ 4000000000001 → count_of_one (given_of events count) ≤ 4000000000001
given_few (Steps n) count few = few
given_few (Ticks n) count few = few
given_few (Byte b) count few = omega arith
given_few (Until stop n) count few = few
given_few (Go n) count few = few
given_few (Changed place n) count few = few

pub kept_begun : (past : Option PastState) (events : Events) (es : List Event) (count : ℕ) → count ≡ length es
    → option_map (kept_last (given_of events count)) (option_map begun_past past) ≡ past_after events es past
kept_begun None events es count e = refl
kept_begun (Some past) events es count e =
    ap (λ n. Some (kept_last (given_of events n) (begun_past past))) e
    ∙ ap (λ gs. Some (record past { given = gs ++ given_of events (length es) ∷ [] })) (last_off past.given (gave.Steps 0))

pub stays_there : (past : Option PastState) (replay : Option ReplayState) (owed : Bool) (s : State) (events : Events) (marks : List Mark)
    → StandsThere past replay owed s
    → StandsThere (past_after events (given events replay owed marks s) past)
    (replay_after events (given events replay owed marks s) replay)
    (owed_after events (given events replay owed marks s) replay owed s) (run_after (given events replay owed marks s) s)
stays_there None replay owed s events marks stands = tt
stays_there (Some past) replay owed s events marks stands = keeps past replay owed s stands events marks

pub stays_anchored : (anchor : Option AnchorState) (past : Option PastState) (replay : Option ReplayState) (events : Events)
    (es : List Event) → IsAnchored anchor past replay → IsAnchored anchor (past_after events es past) (replay_after events es replay)
stays_anchored anchor None replay events es lies = tt
stays_anchored anchor (Some past) replay events es lies =
    kept_more anchor past replay (replay_after events es replay) (given_of events (length es) ∷ []) (beginning_after events es replay) lies

pub all_same : (past : Option PastState) (replay : Option ReplayState) (owed : Bool) (s : State) (events : Events) (es : List Event)
    (p : Option PastState) (r : Option ReplayState) (o : Bool) (m : State) → m ≡ run_after es s → r ≡ replay_after events es replay
    → o ≡ owed_after events es replay owed s → p ≡ past_after events es past
    → timeline m r o p ≡ after_events events es (timeline s replay owed past)
all_same past replay owed s events es p r o m state stepped tick kept =
    ap₂ (λ n q. timeline n q o p) state stepped
    ∙ ap₂ (λ w u. timeline (run_after es s) (replay_after events es replay) w u) tick kept
