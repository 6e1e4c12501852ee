-- The traps that are left after events, one after the other, and where PCC then is.
use Rattle.std.proofs.Common.{◌≡◌, ℕ, zero, suc, replicate, ◌+◌, ◌*◌, ◌/◌, ◌%◌, ◌^◌, ◌≤◌, ◌<◌, Bool, true, false, List, [], ◌∷◌, ◌++◌}
use Rattle.std.proofs.Common.{Option, Some, None}
use Rattle.std.proofs.Common.{◌⊎◌, inl, inr, refl, sym, ap, ◌∙◌, subst, arith}
use Rattle.std.proofs.lemmas.Bool.{cond_both, eqb-true}
use Rattle.std.specs.Prelude.{◌==◌, ◌-◌, is_some, if◌then◌else◌, codes, decimal, string_bytes, IfSome}
use Rattle.base.specs.declared.fault.Fault.{Fault}
use Rattle.cap_bounds.specs.AddressLaws.{value_address-at_address}
use Rattle.cap_bounds.specs.CapValue.{CapValue, value_address, is_tagged}
use Rattle.cap_bounds.specs.SetAddress.{at_address}
use Rattle.special_regs.specs.Mtvec.{is_vectored}
use Rattle.special_regs.specs.Traps.{entry_address, placed_at, sentry_opened, trap_target}
use Rattle.special_regs.specs.Writes.{has_bit}
use Rattle.steps.specs.declared.effect.Effect.{Effect}
use Rattle.steps.specs.declared.effect.Effect.TheVariants as effect
use Rattle.steps.specs.declared.event.Event.{Event}
use Rattle.steps.specs.declared.event.Event.TheVariants.{Step, Tick, Byte}
use Rattle.steps.specs.Effect.{applied}
use Rattle.steps.specs.Event.{after, outcome}
use Rattle.steps.specs.Outcome.{Plain, Unseal, SealedJump, is_trap, outcome_of, step_outcome, step_outcome_unless}
use Rattle.steps.specs.State.{State, pc_of}
use Rattle.steps.specs.Step.{step_effect, step_fetched, stepped, stepped_unless}
use Rattle.machine.specs.Run.{run_after}
use Rattle.explain.specs.WhyText.{failed_line}
use Rattle.steps.specs.Steps.{GoesBy}
use Rattle.schedules.specs.Schedule.{is_halted, steps_in}
use Rattle.symbols.specs.Symbols.{Symbol}
use Rattle.sim_run.specs.Ending.{last_trap, later_trap, trap_lines, trap_part, trap_words}
use Rattle.sim_run.specs.declared.notes.First.{First}
use Rattle.sim_run.specs.declared.notes.Last.{Last}
use Rattle.sim_run.specs.declared.notes.Level.{Level}
use Rattle.sim_run.specs.declared.notes.Notes.{Notes}
use Rattle.sim_run.specs.Unhandled.{Open, Trapped, Traps, after_step, gone_on, is_at, is_return, last_of, level_left, no_traps, opened}
use Rattle.sim_run.specs.Unhandled.{trap_left, traps_after, unfetched_in}
use Rattle.sim_run.specs.Object.{trap_fields}
use Rattle.sim_run.specs.Watched.{fields_of, lines_of, trap_in, IsLast, IsOpen, IsTaken, IsTold}

-- ---- plain steps

no_steps : {P : Type 0} → 1 ≤ 0 → P
no_steps some = absurd (no some)
  where
    no : 1 ≤ 0 → ⊥
    no some = omega (arith, some)

not_trapped : (stop : Option ℕ) (number : ℕ) (s : State) (left : Traps) → left.first ≡ None → GoesBy stop s
    → after_step number s left ≡ no_traps
not_trapped stop number s left none goes =
    let plain : is_trap (outcome Step s) ≡ false = ap is_trap goes.plain in
    rw (plain, none) refl

-- they leave none, where none is open
pub all_handled : (stop : Option ℕ) (n k : ℕ) (s : State) (left : Traps) → left.first ≡ None → 1 ≤ k
    → ((j : ℕ) → j < k → GoesBy stop (run_after (replicate j Step) s)) → no_traps ≡ traps_after n left (replicate k Step) s
all_handled stop n zero s left none some goes = no_steps some
all_handled stop n (suc zero) s left none some goes = sym (not_trapped stop (n + 1) s left none (goes 0 (omega arith)))
all_handled stop n (suc (suc k)) s left none some goes =
    let next = not_trapped stop (n + 1) s left none (goes 0 (omega arith)) in
    all_handled stop (n + 1) (suc k) (after Step s) (after_step (n + 1) s left) (ap (λ (t : Traps). t.first) next) (omega arith)
    (λ j below. goes (suc j) (omega (arith, below)))

pub steps_in-steps : (n : ℕ) → steps_in (replicate n Step) ≡ n
steps_in-steps zero = refl
steps_in-steps (suc n) = ap suc (steps_in-steps n)

-- ---- one step

pub same-fault : (f : Fault) (mcause mtval : ℕ) → f.mcause ≡ mcause → f.mtval ≡ mtval → f ≡ record { mcause = mcause; mtval = mtval }
same-fault f mcause mtval cause value = rw (sym cause, sym value) refl

is-trap-in : (e : Effect CapValue) → is_trap (outcome_of e) ≡ is_some (trap_in e)
unfolding outcome_of
is-trap-in (effect.Trap fault) = refl
is-trap-in effect.Nothing = refl
is-trap-in (effect.Write w) = refl
is-trap-in (effect.Unseal w) = cond_both (is_tagged w.value) Unseal Plain (λ o. is_trap o ≡ false) (λ _. refl) (λ _. refl)
is-trap-in (effect.Store w) = refl
is-trap-in (effect.StoreCapability w) = refl
is-trap-in (effect.DeviceLoad l) = refl
is-trap-in (effect.DeviceStore w) = refl
is-trap-in (effect.Jump target) = refl
is-trap-in (effect.Link l) = refl
is-trap-in (effect.Enter e) = cond_both e.sealed SealedJump Plain (λ o. is_trap o ≡ false) (λ _. refl) (λ _. refl)
is-trap-in (effect.Special w) = refl
is-trap-in (effect.Csr w) = refl
is-trap-in (effect.Return sealed) = cond_both sealed SealedJump Plain (λ o. is_trap o ≡ false) (λ _. refl) (λ _. refl)

pub trap-of : (e : Effect CapValue) (f : Fault) → trap_in e ≡ Some f → e ≡ effect.Trap f
trap-of (effect.Trap fault) f same = cc
trap-of _ f same = cc

some-fault : (e : Effect CapValue) → is_some (trap_in e) ≡ true → (f : Fault) × (e ≡ effect.Trap f)
some-fault (effect.Trap fault) some = (fault, refl)
some-fault _ some = cc

not-halted : (halted : Option ℕ) → is_some halted ≡ false → halted ≡ None
not-halted None e = refl
not-halted (Some n) e = cc

module _ (s : State) (running : is_halted s ≡ false) where
  pub traps : is_trap (outcome Step s) ≡ is_some (trap_in (step_effect s))
  unfolding step_outcome
  traps =
      ap (λ halted. is_trap (step_outcome_unless halted s)) (not-halted s.devices.halted running) ∙ is-trap-in (step_effect s)

  pub after-trap : (f : Fault) → step_effect s ≡ effect.Trap f → after Step s ≡ applied (effect.Trap f) s
  unfolding stepped
  after-trap f is =
      ap (λ halted. stepped_unless halted s) (not-halted s.devices.halted running) ∙ ap (λ e. applied e s) is

  pub cause-left : (f : Fault) → step_effect s ≡ effect.Trap f → (after Step s).csrs.mcause ≡ f.mcause
  unfolding applied
  cause-left f is = ap (λ (t : State). t.csrs.mcause) (after-trap f is)

  pub value-left : (f : Fault) → step_effect s ≡ effect.Trap f → (after Step s).csrs.mtval ≡ f.mtval
  unfolding applied
  value-left f is = ap (λ (t : State). t.csrs.mtval) (after-trap f is)

  pub is-taken : (f : Fault) (pc : ℕ) → step_effect s ≡ effect.Trap f → pc ≡ pc_of s → IsTaken f pc s
  is-taken f pc is at = record { mcause = sym (cause-left f is); mtval = sym (value-left f is); place = at }

  -- the trap that is taken, as it is told
  pub told-trap : (symbols : List Symbol) (f : Fault) (number : ℕ) → step_effect s ≡ effect.Trap f
      → trap_part symbols f.mcause f.mtval (pc_of s) ++ codes ", step " ++ decimal number ++ codes "\n" ++ failed_line symbols s
      ≡ trap_words symbols number s
  unfolding trap_words
  told-trap symbols f number is =
      ap (λ c. trap_part symbols c f.mtval (pc_of s) ++ codes ", step " ++ decimal number ++ codes "\n"
      ++ failed_line symbols s) (sym (cause-left f is))
      ∙ ap (λ v. trap_part symbols (after Step s).csrs.mcause v (pc_of s) ++ codes ", step " ++ decimal number
      ++ codes "\n" ++ failed_line symbols s) (sym (value-left f is))

  pub trap-taken : (number : ℕ) (left : Traps) (f : Fault) → trap_in (step_effect s) ≡ Some f
      → after_step number s left ≡ record { first = Some (opened number s left.first); last = Some (last_of number s left.last) }
  trap-taken number left f is = rw (traps, is) refl

  pub none-taken : (number : ℕ) (left : Traps) → trap_in (step_effect s) ≡ None
      → after_step number s left ≡ record { first = gone_on s left.first; last = None }
  none-taken number left is = rw (traps, is) refl

-- ---- how many they are

pub few-before : {A : Type 0} (count : A → ℕ) (number : ℕ) (one : Option A) → 0 < number → IfSome one (λ a. count a ≤ number - 1)
    → IfSome one (λ a. count a < number)
few-before count number None some few = tt
few-before count number (Some a) some few = omega (arith, some, few)

pub few-still : {A : Type 0} (count : A → ℕ) (number : ℕ) (one : Option A) → IfSome one (λ a. count a ≤ number - 1)
    → IfSome one (λ a. count a ≤ number)
few-still count number None few = tt
few-still count number (Some a) few = omega (arith, few)

-- ---- the traps that are left, as they are told

pub open-first : (symbols : List Symbol) (number : ℕ) (s : State) (level : Option Level) (fault : Fault) (pc : ℕ) (found : Option Open)
    (old new : List ℕ) → IsOpen symbols None old found → level ≡ level_left s → new ≡ trap_words symbols number s → IsTaken fault pc s
    → IsOpen symbols (Some (record { number = number; inner = 0; level = level; fault = fault; pc = pc })) new
    (Some (opened number s found))
open-first symbols number s level fault pc None old new told same is taken = (refl, refl, same, is, taken)
open-first symbols number s level fault pc (Some one) old new told same is taken = absurd told

pub open-more : (symbols : List Symbol) (number : ℕ) (s : State) (one : First) (found : Option Open) (words : List ℕ)
    → IsOpen symbols (Some one) words found
    → IsOpen symbols
    (Some (record { number = one.number; inner = one.inner + 1; level = one.level; fault = one.fault; pc = one.pc })) words
    (Some (opened number s found))
open-more symbols number s one None words told = absurd told
open-more symbols number s one (Some first) words told = (told.0, ap (λ n. n + 1) told.1, told.2, told.3, told.4)

-- a return from the last of several
pub open-returned : (symbols : List Symbol) (s : State) (one : First) (found : Option Open) (words : List ℕ)
    → IsOpen symbols (Some one) words found → is_at one.level s ≡ false → is_return (step_effect s) ≡ true → (one.inner == 0) ≡ false
    → IsOpen symbols
    (Some (record { number = one.number; inner = one.inner - 1; level = one.level; fault = one.fault; pc = one.pc })) words
    (gone_on s found)
open-returned symbols s one None words told away returns some = absurd told
open-returned symbols s one (Some first) words told away returns some =
    rw (sym told.2, away, returns, sym told.1, some) (told.0, refl, told.2, told.3, told.4)

pub last-first : (symbols : List Symbol) (number : ℕ) (s : State) (fault : Fault) (pc : ℕ) (found : Option Trapped) (old new : List ℕ)
    → IsLast symbols None old found → new ≡ trap_words symbols number s → IsTaken fault pc s
    → IsLast symbols (Some (record { number = number; unfetched = 0; fault = fault; pc = pc })) new (Some (last_of number s found))
last-first symbols number s fault pc None old new told is taken = (refl, refl, is, taken)
last-first symbols number s fault pc (Some one) old new told is taken = absurd told

pub last-more : (symbols : List Symbol) (number : ℕ) (s : State) (one : Last) (found : Option Trapped) (words : List ℕ) (m : ℕ)
    → IsLast symbols (Some one) words found → m ≡ one.unfetched + unfetched_in (step_fetched s)
    → IsLast symbols (Some (record { number = one.number; unfetched = m; fault = one.fault; pc = one.pc })) words
    (Some (last_of number s found))
last-more symbols number s one None words m told is = absurd told
last-more symbols number s one (Some last) words m told is =
    (told.0, is ∙ ap (λ k. k + unfetched_in (step_fetched s)) told.1, told.2, told.3)

-- ---- where none is open, and lines

pub open-none : (symbols : List Symbol) (words : List ℕ) (found : Option Open) → IsOpen symbols None words found → found ≡ None
open-none symbols words None told = refl
open-none symbols words (Some one) told = absurd told

pub last-none : (symbols : List Symbol) (words : List ℕ) (found : Option Trapped) → IsLast symbols None words found → found ≡ None
last-none symbols words None told = refl
last-none symbols words (Some one) told = absurd told

-- after plain steps where none is open
pub passed-told : (symbols : List Symbol) (notes : Notes) (n k : ℕ) (s : State) (left : Traps) → notes.first ≡ None → 1 ≤ k
    → ((j : ℕ) → j < k → GoesBy None (run_after (replicate j Step) s)) → IsTold symbols notes left
    → IsTold symbols (record notes { last = None }) (traps_after n left (replicate k Step) s)
passed-told symbols notes n k s left none some goes told =
    let first : left.first ≡ None = open-none symbols (string_bytes notes.first_words) left.first
    (subst (λ f. IsOpen symbols f (string_bytes notes.first_words) left.first) none told.0) in
    subst (IsTold symbols (record notes { last = None })) (all_handled None n k s left first some goes) (rw none tt, tt)

-- the words of both
pub both-lines : (symbols : List Symbol) (first : First) (last : Last) (words later : List ℕ) (f : Option Open) (l : Option Trapped)
    (s : State) → IsOpen symbols (Some first) words f → IsLast symbols (Some last) later l
    → trap_lines symbols f l s ≡ lines_of first words last later
unfolding later_trap
both-lines symbols first last words later None l s one two = absurd one
both-lines symbols first last words later (Some f) None s one two = absurd two
both-lines symbols first last words later (Some f) (Some l) s one two = rw (one.3, two.2, one.0, two.0, two.1) refl

-- what an object says of both
pub both-fields : (symbols words_of : List Symbol) (first : First) (last : Last) (words later : List ℕ) (f : Option Open)
    (l : Option Trapped) (s : State) → IsOpen words_of (Some first) words f → IsLast words_of (Some last) later l
    → trap_fields symbols f l s ≡ fields_of symbols (Some (first, last)) s
both-fields symbols words_of first last words later None l s one two = absurd one
both-fields symbols words_of first last words later (Some f) None s one two = absurd two
both-fields symbols words_of first last words later (Some f) (Some l) s one two =
    let first_fault : first.fault ≡ record { mcause = (after Step f.before).csrs.mcause; mtval = (after Step f.before).csrs.mtval } =
    same-fault first.fault _ _ one.4.mcause one.4.mtval in
    let last_fault : last.fault ≡ record { mcause = (after Step l.before).csrs.mcause; mtval = (after Step l.before).csrs.mtval } =
    same-fault last.fault _ _ two.3.mcause two.3.mtval in
    rw (first_fault, last_fault, one.4.place, two.3.place, one.0, two.0, two.1) refl

pub none-fields : (symbols : List Symbol) (first : Option Open) (last : Option Trapped) (s : State) → last ≡ None
    → trap_fields symbols first last s ≡ fields_of symbols None s
none-fields symbols None last s none = refl
none-fields symbols (Some first) None s none = refl
none-fields symbols (Some first) (Some last) s none = cc

-- after a last step that was no trap
pub none-lines : (symbols : List Symbol) (first : Option Open) (last : Option Trapped) (s : State) → last ≡ None
    → trap_lines symbols first last s ≡ last_trap symbols s ++ codes "\n"
none-lines symbols None last s none = refl
none-lines symbols (Some first) None s none = refl
none-lines symbols (Some first) (Some last) s none = cc

-- ---- where PCC is after a trap

abbrev pub fault_with : ℕ → ℕ → Fault
fault_with mcause mtval = record { mcause = mcause; mtval = mtval }

abbrev pub IsAtEntry : State → Type 0
IsAtEntry s = value_address s.scrs.pcc ≡ entry_address (fault_with s.csrs.mcause s.csrs.mtval) (value_address s.scrs.mtcc)

entry-small : (f : Fault) (mtvec : ℕ) → entry_address f mtvec < 2 ^ 64
unfolding entry_address
entry-small f mtvec = omega arith

target-address : (f : Fault) (v : CapValue) → value_address (trap_target f v) ≡ entry_address f (value_address v)
unfolding placed_at
target-address f v =
    let entry = entry_address f (value_address v) in
    let code = sentry_opened v in
    cond_both (value_address code == entry) code (at_address code entry) (λ w. value_address w ≡ entry)
    (eqb-true (value_address code) entry) (λ _. value_address-at_address code entry (entry-small f (value_address v)))

at-entry-after : (f : Fault) (s : State) → IsAtEntry (applied (effect.Trap f) s)
unfolding applied
at-entry-after f s = target-address f s.scrs.mtcc

halted-plain : (halted : Option ℕ) (s : State) → is_trap (step_outcome_unless halted s) ≡ true → is_some halted ≡ false
halted-plain None s is = refl
halted-plain (Some n) s is = cc

trapped-at_entry : (s : State) → is_trap (outcome Step s) ≡ true → IsAtEntry (after Step s)
unfolding step_outcome
trapped-at_entry s is =
    let running = halted-plain s.devices.halted s is in
    let found = some-fault (step_effect s) (sym (traps s running) ∙ is) in
    subst IsAtEntry (sym (after-trap s running found.0 found.1)) (at-entry-after found.0 s)

some-taken : (number : ℕ) (s : State) (left : Traps) → is_some (after_step number s left).last ≡ true
    → is_trap (outcome Step s) ≡ true
some-taken number s left some = go (is_trap (outcome Step s)) some
  where
    trapped : Traps
    trapped = record { first = Some (opened number s left.first); last = Some (last_of number s left.last) }

    gone : Traps
    gone = record { first = gone_on s left.first; last = None }

    go : (b : Bool) → is_some (if b then trapped else gone).last ≡ true → b ≡ true
    go true e = refl
    go false e = cc

at-entry : (n : ℕ) (left : Traps) (events : List Event) (s : State) → (is_some left.last ≡ true → IsAtEntry s)
    → is_some (traps_after n left events s).last ≡ true → IsAtEntry (run_after events s)
at-entry n left [] s before some = before some
at-entry n left (Step ∷ es) s before some =
    at-entry (n + 1) (after_step (n + 1) s left) es (after Step s) (λ there. trapped-at_entry s (some-taken (n + 1) s left there)) some
at-entry n left (Tick ∷ es) s before some = at-entry n left es (after Tick s) before some
at-entry n left (Byte b ∷ es) s before some = at-entry n left es (after (Byte b) s) before some

pub none-some : false ≡ true → ⊥
none-some e = cc

-- where PCC is at no entry, the last step was no trap
pub none-left : (t : State) → (IsAtEntry t → ⊥) → (events : List Event) (s : State) → t ≡ run_after events s
    → (trap_left events s).last ≡ None
none-left t elsewhere events s there = go (trap_left events s).last refl
  where
    go : (last : Option Trapped) → (trap_left events s).last ≡ last → last ≡ None
    go None is = refl
    go (Some one) is =
        absurd (elsewhere (subst IsAtEntry (sym there)
        (at-entry 0 no_traps events s (λ some. absurd (none-some some)) (ap is_some is))))

-- the two addresses at which a trap may begin
pub two-entries : (f : Fault) (mtvec : ℕ) → mtvec < 2 ^ 64
    → (entry_address f mtvec ≡ mtvec / 4 * 4) ⊎ (entry_address f mtvec ≡ (mtvec / 4 * 4 + f.mcause * 4 % 2 ^ 64) % 2 ^ 64)
unfolding entry_address
two-entries f mtvec small = go (is_vectored mtvec) (has_bit f.mcause 63)
  where
    go : (vectored interrupt : Bool)
        → ((mtvec / 4 * 4 + (if vectored then 4 * (if interrupt then f.mcause % 2 ^ 63 else 0) else 0)) % 2 ^ 64 ≡ mtvec / 4 * 4)
        ⊎ ((mtvec / 4 * 4 + (if vectored then 4 * (if interrupt then f.mcause % 2 ^ 63 else 0) else 0)) % 2 ^ 64
        ≡ (mtvec / 4 * 4 + f.mcause * 4 % 2 ^ 64) % 2 ^ 64)
    go false interrupt = inl (omega (arith, small))
    go true false = inl (omega (arith, small))
    go true true = inr (omega arith)
