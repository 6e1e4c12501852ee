-- What was told of some events, and of more after them.
use Rattle.std.specs.Prelude.{◌≡◌, ℕ, suc, ◌+◌, List, [], ◌∷◌, ◌++◌, string_bytes}
use Rattle.std.proofs.Common.{refl, sym, ap, ◌∙◌, append_assoc, append-nil, arith}
use Rattle.steps.specs.declared.event.Event.{Event}
use Rattle.steps.specs.declared.event.Event.TheVariants.{Step, Tick, Byte}
use Rattle.steps.specs.Event.{after}
use Rattle.steps.specs.State.{State}
use Rattle.machine.specs.Run.{run_after}
use Rattle.schedules.specs.Schedule.{steps_in}
use Rattle.schedules.proofs.Events.{steps_in-append}
use Rattle.policy_audit.specs.declared.entries.Lister.{Lister}
use Rattle.policy_audit.specs.declared.run.Auditor.{Auditor}
use Rattle.policy_audit.specs.Entries.{adds_entry, says_entry}
use Rattle.policy_audit.specs.Look.{said_to}
use Rattle.policy_audit.specs.Text.{adds_found, says_found}
use Rattle.policy_audit.specs.Told.{remembered, told}
use Rattle.policy_audit.specs.Watched.{Audited, Listed, WasTold}

module _ {M : Type 0} (says : M → ℕ → State → List ℕ) (adds : M → State → M) where
  told-append : (n : ℕ) (xs ys : List Event) (m : M) (s : State)
      → told says adds n (xs ++ ys) m s
      ≡ told says adds n xs m s ++ told says adds (n + steps_in xs) ys (remembered adds xs m s) (run_after xs s)
  told-append n [] ys m s =
      let none : n ≡ n + 0 = omega arith in
      ap (λ k. told says adds k ys m s) none
  told-append n (Step ∷ xs) ys m s =
      let one : n + 1 + steps_in xs ≡ n + suc (steps_in xs) = omega arith in
      let here = says m (n + 1) s in
      let first = told says adds (n + 1) xs (adds m s) (after Step s) in
      let others = λ (k : ℕ). told says adds k ys (remembered adds xs (adds m s) (after Step s)) (run_after xs (after Step s)) in
      ap (λ t. here ++ t) (told-append (n + 1) xs ys (adds m s) (after Step s) ∙ ap (λ k. first ++ others k) one)
      ∙ sym (append_assoc here first (others (n + suc (steps_in xs))))
  told-append n (Tick ∷ xs) ys m s = told-append n xs ys m (after Tick s)
  told-append n (Byte b ∷ xs) ys m s = told-append n xs ys m (after (Byte b) s)

  remembered-append : (xs ys : List Event) (m : M) (s : State)
      → remembered adds (xs ++ ys) m s ≡ remembered adds ys (remembered adds xs m s) (run_after xs s)
  remembered-append [] ys m s = refl
  remembered-append (Step ∷ xs) ys m s = remembered-append xs ys (adds m s) (after Step s)
  remembered-append (Tick ∷ xs) ys m s = remembered-append xs ys m (after Tick s)
  remembered-append (Byte b ∷ xs) ys m s = remembered-append xs ys m (after (Byte b) s)

  told_more : (n : ℕ) (xs ys : List Event) (s : State) (m m' m'' : M) (t t' t'' : List ℕ) → WasTold says adds n xs s m m' t t'
      → WasTold says adds (n + steps_in xs) ys (run_after xs s) m' m'' t' t'' → WasTold says adds n (xs ++ ys) s m m'' t t''
  told_more n xs ys s m m' m'' t t' t'' first later =
      let here = told says adds n xs m s in
      let more = told says adds (n + steps_in xs) ys (remembered adds xs m s) (run_after xs s) in
      let now = rw (first.0, first.1) at later in (
        now.0 ∙ sym (remembered-append xs ys m s),
        now.1 ∙ append_assoc t here more ∙ ap (λ u. t ++ u) (sym (told-append n xs ys m s)),
      )

-- ---- an audit

pub audited_none : (s : State) (w : Auditor) → Audited [] s w w
audited_none s w =
    let none : w.steps ≡ w.steps + 0 = omega arith in
    ((refl, sym (append-nil (string_bytes w.text.now))), none, refl, refl, refl, refl)

pub audited_more : (xs ys : List Event) (s : State) (u v w : Auditor) → Audited xs s u v → Audited ys (run_after xs s) v w
    → Audited (xs ++ ys) s u w
audited_more xs ys s u v w first later =
    let both = steps_in-append xs ys in
    let one = first.1 in
    let two = later.1 in
    let report = u.report in
    let so = rw (first.1, first.2, first.3) at later.0 in (
      told_more (says_found report.json report.symbols.now report.lines.now) (adds_found (said_to u.audit.now)) u.steps xs ys s
          _ _ _ _ _ _ first.0 so,
      omega (arith, both, one, two),
      later.2 ∙ first.2,
      later.3 ∙ first.3,
      later.4 ∙ first.4,
      later.5 ∙ first.5,
    )

-- ---- entries

pub listed_none : (s : State) (w : Lister) → Listed [] s w w
listed_none s w = (λ n. (refl, sym (append-nil (string_bytes w.text.now))), refl, refl, refl)

pub listed_more : (xs ys : List Event) (s : State) (u v w : Lister) → Listed xs s u v → Listed ys (run_after xs s) v w
    → Listed (xs ++ ys) s u w
listed_more xs ys s u v w first later =
    let so = rw first.1 at later.0 in (
      λ n. told_more (says_entry u.json) adds_entry n xs ys s _ _ _ _ _ _ (first.0 n) (so (n + steps_in xs)),
      later.1 ∙ first.1,
      later.2 ∙ first.2,
      later.3 ∙ first.3,
    )
