-- A traced run that a sink ended.
use Rattle.std.proofs.Common.{◌≡◌, ℕ, List, [], ◌∷◌, ◌++◌, ◌-◌, arith, ap, ◌∙◌, append_assoc, subst}
use Rattle.std.specs.Prelude.{Option}
use Rattle.std.specs.Io.KnownBytes.{Appends}
use Rattle.image.specs.Devices.{AppendsBeginning}
use Rattle.steps.specs.declared.event.Event.{Event}
use Rattle.steps.specs.State.{State}
use Rattle.machine.specs.Run.{run_after}
use Rattle.schedules.specs.Output.{FellShort}
use Rattle.schedules.proofs.Events.{run_after-append}
use Rattle.sim_run.specs.Trace.{Says, lines_past, IsOutputCut}

-- the lines of a watch from a run's begin on
module _ {t says : Says} {k skipped n : ℕ} (events : List Event) (s : State) (table : t ≡ says)
    (past : k ≡ skipped) (none : n ≡ 0) where
  same_lines : lines_past t (k - n) n events s ≡ lines_past says skipped 0 events s
  same_lines =
      let all : k - n ≡ skipped = omega (arith, past, none) in
      ap (λ u. lines_past u (k - n) n events s) table ∙ ap (λ j. lines_past says j n events s) all
      ∙ ap (λ m. lines_past says skipped m events s) none

  pub lines_from_start : {x x' : Option (List ℕ)} (y : Option (List ℕ)) → x ≡ x' → Appends x y (lines_past t (k - n) n events s)
      → Appends x' y (lines_past says skipped 0 events s)
  lines_from_start y held lines =
      subst (λ a. Appends a y (lines_past says skipped 0 events s)) held (subst (Appends _ y) same_lines lines)

  pub beginning_from_start : {x x' : Option (List ℕ)} (y : Option (List ℕ)) → x ≡ x'
      → AppendsBeginning x y (lines_past t (k - n) n events s)
      → AppendsBeginning x' y (lines_past says skipped 0 events s)
  beginning_from_start y held lines =
      subst (λ a. AppendsBeginning a y (lines_past says skipped 0 events s)) held (subst (AppendsBeginning _ y) same_lines lines)

pub output_cut : (says : Says) (skipped : ℕ) (all events more : List Event) (s t : State) (a b x y : Option (List ℕ)) (m o : ℕ)
    → all ≡ events ++ more → t ≡ run_after events s → FellShort events s a b m o → Appends x y (lines_past says skipped 0 events s)
    → IsOutputCut says skipped 0 all s t a b x y
output_cut says skipped all events more s t a b x y m o order there short lines =
    record {
      done = short.done;
      last = short.last;
      rest = more;
      order = order ∙ ap (λ es. es ++ more) short.order ∙ append_assoc short.done (short.last ∷ []) more;
      state = there ∙ ap (λ es. run_after es s) short.order ∙ run_after-append short.done (short.last ∷ []) s;
      unwritten = short.unwritten;
      held = short.held;
      lines = subst (λ es. Appends x y (lines_past says skipped 0 es s)) short.order lines;
    }
