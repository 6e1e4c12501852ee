-- Wherever the steps of a session stand, they began where they did.
use Rattle.std.proofs.Common.{◌≡◌, ℕ, zero, suc, Bool, true, false, List, [], ◌∷◌, refl, sym, ap, ◌∙◌}
use Rattle.std.specs.Option.{unwrap_or}
use Rattle.std.specs.Prelude.{Option, None, Some, IfSome, is_some, option_map}
use Rattle.std.proofs.lemmas.Bool.{false≢true}
use Rattle.past.specs.Anchor.{AnchorState, stood}
use Rattle.past.specs.Given.{PastState, first_of, position_after_one, position_at, position_of}
use Rattle.past.specs.Position.{Position, after_byte_or_step, at, beginning, next_position, position_after, standing_at}
use Rattle.past.specs.Replay.{ReplayState, byte_due}
use Rattle.past.specs.declared.given.Given.{Given}
use Rattle.past.specs.declared.given.Given.TheVariants as gave

next_begins : (replay : Option ReplayState) (owed : Bool) → beginning (next_position (at replay owed)).replay ≡ beginning replay
next_begins replay true = refl
next_begins replay false = go (byte_due replay) replay
  where
    go : (due : Option ℕ) (r : Option ReplayState) → beginning (after_byte_or_step due r).replay ≡ beginning r
    go (Some b) None = refl
    go (Some b) (Some r) = refl
    go None None = refl
    go None (Some r) = refl

after_begins : (n : ℕ) (p : Position) → beginning (position_after n p).replay ≡ beginning p.replay
after_begins zero p = refl
after_begins (suc n) p = after_begins n (next_position p) ∙ next_begins p.replay p.owed

one_begins : (g : Given) (p : Position) → beginning (position_after_one g p).replay ≡ beginning p.replay
one_begins (gave.Steps n) p = after_begins n p
one_begins (gave.Ticks n) p = refl
one_begins (gave.Byte b) p = refl

all_begin : (gs : List Given) (p : Position) → beginning (position_of gs p).replay ≡ beginning p.replay
all_begin [] p = refl
all_begin (g ∷ gs) p = all_begin gs (position_after_one g p) ∙ one_begins g p

twice : (replay : Option ReplayState) → beginning (beginning replay).replay ≡ beginning replay
twice None = refl
twice (Some r) = refl

pub same_beginning : (n : ℕ) (past : PastState) (replay : Option ReplayState)
    → beginning (position_at n past replay).replay ≡ beginning replay
same_beginning n past replay = all_begin (first_of n past.given) (beginning replay) ∙ twice replay

-- ---- a schedule, put there

pub stands : (o : Option ReplayState) (r : ReplayState) (done : ℕ) (brought : Bool) → beginning o ≡ beginning (Some r)
    → IfSome o (λ x. done ≡ x.done) → IfSome o (λ x. brought ≡ x.brought)
    → Some (record r { done = done; brought = brought }) ≡ o
stands None r done brought e d b = absurd (false≢true (ap (λ p. is_some p.replay) e))
stands (Some x) r done brought e d b =
    let schedule : x.schedule ≡ r.schedule = ap (λ p. (unwrap_or p.replay r).schedule) e in
    let input : x.input ≡ r.input = ap (λ p. (unwrap_or p.replay r).input) e in
    rw (← schedule, ← input, d, b) refl

pub none_stands : (o : Option ReplayState) → beginning o ≡ beginning None → None ≡ o
none_stands None e = refl
none_stands (Some x) e = absurd (false≢true (sym (ap (λ p. is_some p.replay) e)))

-- a session's steps, that stand there
pub stood_at : (replay : Option ReplayState) (p : Position) (done : ℕ) (brought owed : Bool) → beginning p.replay ≡ beginning replay
    → IfSome p.replay (λ x. done ≡ x.done) → IfSome p.replay (λ x. brought ≡ x.brought) → owed ≡ p.owed
    → at (option_map (standing_at done brought) replay) owed ≡ p
stood_at None p done brought owed e d b o = rw (none_stands p.replay e, o) refl
stood_at (Some r) p done brought owed e d b o = rw (stands p.replay r done brought e d b, o) refl

-- the schedule's beginning alone says where
pub stood_same : (a : AnchorState) (replay other : Option ReplayState) → beginning other ≡ beginning replay
    → stood a other ≡ stood a replay
stood_same a replay other e =
    sym (stood_begun a other) ∙ ap (λ p. stood a p.replay) e ∙ stood_begun a replay
  where
    stood_begun : (a : AnchorState) (replay : Option ReplayState) → stood a (beginning replay).replay ≡ stood a replay
    stood_begun a None = refl
    stood_begun a (Some r) = refl
