-- How lists of events follow one another, and how they end at the halt.
use Rattle.std.proofs.Common.{◌≡◌, ℕ, zero, suc, ◌+◌, ◌-◌, ◌<◌, ◌≤◌, Bool, true, false, List, [], ◌∷◌, ◌++◌, replicate, refl, sym, ap, ◌∙◌}
use Rattle.std.proofs.Common.{append_assoc, append-nil, subst, arith}
use Rattle.std.specs.Prelude.{Option, Some, None, Result, Ok, Err, OnErr, is_some, not, ◌&&◌, map, option_to_list, if◌then◌else◌}
use Rattle.std.specs.Io.KnownBytes.{Appends, Keeps}
use Rattle.std.proofs.KnownBytes.{Appends-nil, Appends-trans, Appends-kept}
use Rattle.devices.specs.Devices.{received}
use Rattle.steps.specs.declared.event.Event.{Event}
use Rattle.steps.specs.declared.event.Event.TheVariants.{Step, Tick, Byte}
use Rattle.steps.specs.State.{State}
use Rattle.steps.specs.Event.{after, sent}
use Rattle.machine.specs.Run.{run_after, run_sent}
use Rattle.schedules.specs.Schedule.{block, is_halted, steps_in, up_to_halt, IsCutShort}

-- ---- lists of events, one after the other

pub run_after-append : (xs ys : List Event) (s : State) → run_after (xs ++ ys) s ≡ run_after ys (run_after xs s)
run_after-append [] ys s = refl
run_after-append (x ∷ xs) ys s = run_after-append xs ys (after x s)

pub run_sent-append : (xs ys : List Event) (s : State) → run_sent (xs ++ ys) s ≡ run_sent xs s ++ run_sent ys (run_after xs s)
run_sent-append [] ys s = refl
run_sent-append (x ∷ xs) ys s =
    ap (λ bytes. option_to_list (sent x s) ++ bytes) (run_sent-append xs ys (after x s))
    ∙ sym (append_assoc (option_to_list (sent x s)) (run_sent xs (after x s)) (run_sent ys (run_after xs (after x s))))

pub steps_in-append : (xs ys : List Event) → steps_in (xs ++ ys) ≡ steps_in xs + steps_in ys
steps_in-append [] ys =
    let none : steps_in ys ≡ 0 + steps_in ys = omega arith in
    none
steps_in-append (Step ∷ xs) ys =
    let one : suc (steps_in xs + steps_in ys) ≡ suc (steps_in xs) + steps_in ys = omega arith in
    ap suc (steps_in-append xs ys) ∙ one
steps_in-append (Tick ∷ xs) ys = steps_in-append xs ys
steps_in-append (Byte b ∷ xs) ys = steps_in-append xs ys

pub steps_in-steps : (n : ℕ) → steps_in (replicate n Step) ≡ n
steps_in-steps zero = refl
steps_in-steps (suc n) = ap suc (steps_in-steps n)

-- what of `ys` is still met by a machine that has met `xs` up to the halt
abbrev pub then_up_to_halt : List Event → State → List Event
then_up_to_halt ys s = if is_halted s then [] else up_to_halt ys s

pub up_to_halt-append : (xs ys : List Event) (s : State) → is_halted s ≡ false
    → up_to_halt (xs ++ ys) s ≡ up_to_halt xs s ++ then_up_to_halt ys (run_after (up_to_halt xs s) s)
up_to_halt-append [] ys s running = rw running refl
up_to_halt-append (x ∷ xs) ys s running = go (is_halted (after x s)) refl (up_to_halt-append xs ys (after x s))
  where
    goes_on : State → Type 0
    goes_on t = up_to_halt (xs ++ ys) t ≡ up_to_halt xs t ++ then_up_to_halt ys (run_after (up_to_halt xs t) t)

    go : (b : Bool) → is_halted (after x s) ≡ b → (is_halted (after x s) ≡ false → goes_on (after x s))
        → up_to_halt (x ∷ (xs ++ ys)) s ≡ up_to_halt (x ∷ xs) s ++ then_up_to_halt ys (run_after (up_to_halt (x ∷ xs) s) s)
    go true e later = rw (e, e) refl
    go false e later = rw e (ap (λ es. x ∷ es) (later e))

-- a beginning of events of which none comes after the halt
pub first_are_met : (xs ys : List Event) (s : State) → up_to_halt (xs ++ ys) s ≡ xs ++ ys → up_to_halt xs s ≡ xs
first_are_met [] ys s all = refl
first_are_met (x ∷ xs) ys s all = go (is_halted (after x s)) refl (first_are_met xs ys (after x s))
  where
    tail : List Event → List Event
    tail [] = []
    tail (e ∷ es) = es

    none_left : (zs : List Event) → [] ≡ zs ++ ys → zs ≡ []
    none_left [] e = refl
    none_left (z ∷ zs) e = cc

    go : (b : Bool) → is_halted (after x s) ≡ b → (up_to_halt (xs ++ ys) (after x s) ≡ xs ++ ys → up_to_halt xs (after x s) ≡ xs)
        → up_to_halt (x ∷ xs) s ≡ x ∷ xs
    go true e later = rw (e, none_left xs (ap tail (rw e at all))) refl
    go false e later = rw e (ap (λ es. x ∷ es) (later (ap tail (rw e at all))))

-- ---- runs that are cut short

-- more events before and after
pub cut_within : (before events more : List Event) (old new : State) (a b c : Option (List ℕ))
    → Appends a b (run_sent before old) → IsCutShort events (run_after before old) new b c
    → IsCutShort (before ++ (events ++ more)) old new a c
cut_within before events more old new a b c written cut = record {
  done = before ++ cut.done;
  last = cut.last;
  rest = cut.rest ++ more;
  order = ap (λ es. before ++ (es ++ more)) cut.order
      ∙ ap (λ es. before ++ es) (append_assoc cut.done (cut.last ∷ cut.rest) more)
      ∙ sym (append_assoc before cut.done (cut.last ∷ (cut.rest ++ more)));
  state = cut.state ∙ ap (after cut.last) (sym (run_after-append before cut.done old));
  unwritten = rw (run_after-append before cut.done old) cut.unwritten;
  held = rw (run_sent-append before cut.done old) (Appends-trans a b c _ _ written cut.held);
}

-- ---- more events for a machine that has met some and is not halted

module _ (xs ys : List Event) (s t : State) (running : is_halted s ≡ false) (so_far : t ≡ run_after (up_to_halt xs s) s)
    (still : is_halted t ≡ false) where
  pub goes_on : up_to_halt (xs ++ ys) s ≡ up_to_halt xs s ++ up_to_halt ys t
  goes_on =
      up_to_halt-append xs ys s running ∙ ap (λ u. up_to_halt xs s ++ then_up_to_halt ys u) (sym so_far)
      ∙ rw still refl

  pub state_after : (u : State) → u ≡ run_after (up_to_halt ys t) t → u ≡ run_after (up_to_halt (xs ++ ys) s) s
  state_after u e =
      e ∙ ap (λ v. run_after (up_to_halt ys t) v) so_far ∙ sym (run_after-append (up_to_halt xs s) (up_to_halt ys t) s)
      ∙ ap (λ es. run_after es s) (sym goes_on)

  pub sent_after : (a b c : Option (List ℕ)) → Appends a b (run_sent (up_to_halt xs s) s) → Appends b c (run_sent (up_to_halt ys t) t)
      → Appends a c (run_sent (up_to_halt (xs ++ ys) s) s)
  sent_after a b c before more =
      let bytes : run_sent (up_to_halt xs s) s ++ run_sent (up_to_halt ys t) t ≡ run_sent (up_to_halt (xs ++ ys) s) s =
      ap (λ v. run_sent (up_to_halt xs s) s ++ run_sent (up_to_halt ys t) v) so_far
      ∙ sym (run_sent-append (up_to_halt xs s) (up_to_halt ys t) s) ∙ ap (λ es. run_sent es s) (sym goes_on) in
      subst (λ bs. Appends a c bs) bytes (Appends-trans a b c _ _ before more)

  pub count_after : steps_in (up_to_halt (xs ++ ys) s) ≡ steps_in (up_to_halt xs s) + steps_in (up_to_halt ys t)
  count_after = ap steps_in goes_on ∙ steps_in-append (up_to_halt xs s) (up_to_halt ys t)

  pub cut_after : (more : List Event) (new : State) (a b c : Option (List ℕ)) → Appends a b (run_sent (up_to_halt xs s) s)
      → IsCutShort (up_to_halt ys t) t new b c → IsCutShort (up_to_halt ((xs ++ ys) ++ more) s) s new a c
  cut_after more new a b c before cut =
      let later = then_up_to_halt more (run_after (up_to_halt (xs ++ ys) s) s) in
      let whole : up_to_halt xs s ++ (up_to_halt ys t ++ later) ≡ up_to_halt ((xs ++ ys) ++ more) s =
      sym (append_assoc (up_to_halt xs s) (up_to_halt ys t) later) ∙ ap (λ es. es ++ later) (sym goes_on)
      ∙ sym (up_to_halt-append (xs ++ ys) more s running) in
      subst (λ es. IsCutShort es s new a c) whole
      (cut_within (up_to_halt xs s) (up_to_halt ys t) later s new a b c before
      (subst (λ v. IsCutShort (up_to_halt ys t) v new b c) so_far cut))

-- nothing comes after the step that halts
pub ends_at_halt : (xs more : List Event) (s : State) → is_halted s ≡ false → is_halted (run_after (up_to_halt xs s) s) ≡ true
    → up_to_halt xs s ≡ up_to_halt (xs ++ more) s
ends_at_halt xs more s running halted = sym (up_to_halt-append xs more s running ∙ rw halted (append-nil _))

-- ---- steps of which none but the last may halt the machine or send a byte

-- before the last of the steps the machine is not halted
abbrev pub AreRunning : ℕ → State → Type 0
AreRunning n s = (k : ℕ) → k < n → is_halted (run_after (replicate k Step) s) ≡ false

-- after the last event nothing is left, halted or not
abbrev up_to_none : Bool → List Event
up_to_none b = if b then [] else []

pub no_more : (b : Bool) → up_to_none b ≡ []
no_more true = refl
no_more false = refl

pub all_are_met : (n : ℕ) (s : State) → AreRunning n s → up_to_halt (replicate n Step) s ≡ replicate n Step
all_are_met zero s running = refl
all_are_met (suc zero) s running = ap (λ es. Step ∷ es) (no_more (is_halted (after Step s)))
all_are_met (suc (suc n)) s running =
    rw (running 1 (omega arith))
    (ap (λ es. Step ∷ es) (all_are_met (suc n) (after Step s) (λ k below. running (suc k) (omega arith))))

pub one_more : (n : ℕ) → replicate n Step ++ (Step ∷ []) ≡ replicate (suc n) Step
one_more zero = refl
one_more (suc n) = ap (λ rest. Step ∷ rest) (one_more n)

-- of n + 1 steps of which the first n send nothing, the last sends what all of them send
pub last_sends : (n : ℕ) (s : State) → run_sent (replicate n Step) s ≡ []
    → option_to_list (sent Step (run_after (replicate n Step) s)) ≡ run_sent (replicate (suc n) Step) s
last_sends n s silent =
    sym (append-nil (option_to_list (sent Step t)))
    ∙ ap (λ bytes. bytes ++ (option_to_list (sent Step t) ++ [])) (sym silent)
    ∙ sym (run_sent-append (replicate n Step) (Step ∷ []) s)
    ∙ ap (λ es. run_sent es s) (one_more n)
  where
    t : State
    t = run_after (replicate n Step) s

pub is_some-listed : (x y : Option ℕ) → option_to_list x ≡ option_to_list y → is_some y ≡ true → is_some x ≡ true
is_some-listed (Some a) y same some = refl
is_some-listed None (Some b) same some = cc
is_some-listed None None same some = some

-- the byte of the last step was not written
cut_at_last : (n : ℕ) (s : State) (told : Option ℕ) (a b : Option (List ℕ)) → AreRunning (suc n) s
    → run_sent (replicate n Step) s ≡ [] → run_sent (replicate (suc n) Step) s ≡ option_to_list told → is_some told ≡ true → Keeps a b
    → IsCutShort (up_to_halt (replicate (suc n) Step) s) s (run_after (replicate (suc n) Step) s) a b
cut_at_last n s told a b running silent all some kept = record {
  done = replicate n Step;
  last = Step;
  rest = [];
  order = all_are_met (suc n) s running ∙ sym (one_more n);
  state = ap (λ es. run_after es s) (sym (one_more n)) ∙ run_after-append (replicate n Step) (Step ∷ []) s;
  unwritten = is_some-listed _ told (last_sends n s silent ∙ all) some;
  held = subst (λ bytes. Appends a b bytes) (sym silent) (Appends-kept a a b [] (Appends-nil a) kept);
}

no_steps : 1 ≤ 0 → ⊥
no_steps some = omega arith

pub cut_at_step : (n : ℕ) (s u : State) (told : Option ℕ) (a b : Option (List ℕ)) → 1 ≤ n → AreRunning n s
    → u ≡ run_after (replicate n Step) s → run_sent (replicate (n - 1) Step) s ≡ []
    → run_sent (replicate n Step) s ≡ option_to_list told → is_some told ≡ true → Keeps a b
    → IsCutShort (up_to_halt (replicate n Step) s) s u a b
cut_at_step zero s u told a b any running there silent all some kept = absurd (no_steps any)
cut_at_step (suc n) s u told a b any running there silent all some kept =
    let one_less : suc n - 1 ≡ n = omega arith in
    rw there (cut_at_last n s told a b running (rw one_less at silent) all some kept)

-- ---- steps with a byte before the first of them and a tick after the last

abbrev pub brought : Option ℕ → List Event
brought byte = map Byte (option_to_list byte)

abbrev pub ticking : Bool → List Event
ticking ticks = if ticks then Tick ∷ [] else []

keeps_halted : (b : ℕ) (s : State) → is_halted (after (Byte b) s) ≡ is_halted s
unfolding received
keeps_halted b s = refl

pub is_halted-brought : (byte : Option ℕ) (s : State) → is_halted (run_after (brought byte) s) ≡ is_halted s
is_halted-brought None s = refl
is_halted-brought (Some b) s = keeps_halted b s

up_to_halt-brought : (byte : Option ℕ) (es : List Event) (s : State) → is_halted s ≡ false
    → up_to_halt (brought byte ++ es) s ≡ brought byte ++ up_to_halt es (run_after (brought byte) s)
up_to_halt-brought None es s running = refl
up_to_halt-brought (Some b) es s running = rw (keeps_halted b s, running) refl

abbrev pub ticked_after : Bool → State → List Event
ticked_after ticks s = if ticks && not (is_halted s) then Tick ∷ [] else []

then_ticked : (ticks : Bool) (s : State) → then_up_to_halt (ticking ticks) s ≡ ticked_after ticks s
then_ticked true s = go (is_halted s)
  where
    go : (b : Bool) → (if b then [] else up_to_halt (Tick ∷ []) s) ≡ (if not b then Tick ∷ [] else [])
    go true = refl
    go false = ap (λ es. Tick ∷ es) (no_more (is_halted (after Tick s)))
then_ticked false s = no_more (is_halted s)

pub run_sent-brought : (byte : Option ℕ) (s : State) → run_sent (brought byte) s ≡ []
run_sent-brought None s = refl
run_sent-brought (Some b) s = refl

run_sent-ticked : (b : Bool) (s : State) → run_sent (if b then Tick ∷ [] else []) s ≡ []
run_sent-ticked true s = refl
run_sent-ticked false s = refl

pub steps_in-brought : (byte : Option ℕ) → steps_in (brought byte) ≡ 0
steps_in-brought None = refl
steps_in-brought (Some b) = refl

steps_in-ticked : (b : Bool) → steps_in (if b then Tick ∷ [] else []) ≡ 0
steps_in-ticked true = refl
steps_in-ticked false = refl

-- t is the machine after the byte, and u after the steps
module _ (byte : Option ℕ) (n : ℕ) (ticks : Bool) (s t : State) (running : is_halted s ≡ false) (at_byte : t ≡ run_after (brought byte) s)
  where
    pub still : is_halted t ≡ false
    still = ap is_halted at_byte ∙ is_halted-brought byte s ∙ running

    pub up_to_halt-block : (u : State) → u ≡ run_after (up_to_halt (replicate n Step) t) t
        → up_to_halt (block byte n ticks) s ≡ brought byte ++ (up_to_halt (replicate n Step) t ++ ticked_after ticks u)
    up_to_halt-block u at_steps =
        up_to_halt-brought byte (replicate n Step ++ ticking ticks) s running
        ∙ ap (λ v. brought byte ++ up_to_halt (replicate n Step ++ ticking ticks) v) (sym at_byte)
        ∙ ap (λ es. brought byte ++ es) (up_to_halt-append (replicate n Step) (ticking ticks) t still)
        ∙ ap (λ v. brought byte ++ (up_to_halt (replicate n Step) t ++ then_up_to_halt (ticking ticks) v)) (sym at_steps)
        ∙ ap (λ es. brought byte ++ (up_to_halt (replicate n Step) t ++ es)) (then_ticked ticks u)

    pub state_of_block : (ends : Bool) (u v : State) → u ≡ run_after (up_to_halt (replicate n Step) t) t
        → ends ≡ (ticks && not (is_halted u)) → v ≡ run_after (if ends then Tick ∷ [] else []) u
        → v ≡ run_after (up_to_halt (block byte n ticks) s) s
    state_of_block ends u v at_steps last at_tick =
        at_tick ∙ ap (λ b. run_after (if b then Tick ∷ [] else []) u) last
        ∙ ap (λ w. run_after (ticked_after ticks u) w) at_steps
        ∙ sym (run_after-append (up_to_halt (replicate n Step) t) (ticked_after ticks u) t)
        ∙ ap (λ w. run_after (up_to_halt (replicate n Step) t ++ ticked_after ticks u) w) at_byte
        ∙ sym (run_after-append (brought byte) (up_to_halt (replicate n Step) t ++ ticked_after ticks u) s)
        ∙ ap (λ es. run_after es s) (sym (up_to_halt-block u at_steps))

    -- a byte that comes and a tick send nothing
    pub sent_by_block : (u : State) (a b : Option (List ℕ)) → u ≡ run_after (up_to_halt (replicate n Step) t) t
        → Appends a b (run_sent (up_to_halt (replicate n Step) t) t) → Appends a b (run_sent (up_to_halt (block byte n ticks) s) s)
    sent_by_block u a b at_steps written =
        let steps = up_to_halt (replicate n Step) t in
        let bytes : run_sent (up_to_halt (block byte n ticks) s) s ≡ run_sent steps t =
        ap (λ es. run_sent es s) (up_to_halt-block u at_steps)
        ∙ run_sent-append (brought byte) (steps ++ ticked_after ticks u) s
        ∙ ap (λ bs. bs ++ run_sent (steps ++ ticked_after ticks u) (run_after (brought byte) s)) (run_sent-brought byte s)
        ∙ ap (λ w. run_sent (steps ++ ticked_after ticks u) w) (sym at_byte)
        ∙ run_sent-append steps (ticked_after ticks u) t
        ∙ ap (λ bs. run_sent steps t ++ bs) (run_sent-ticked (ticks && not (is_halted u)) (run_after steps t))
        ∙ append-nil (run_sent steps t) in
        subst (λ bs. Appends a b bs) (sym bytes) written

    pub count_in_block : (u : State) → u ≡ run_after (up_to_halt (replicate n Step) t) t
        → steps_in (up_to_halt (block byte n ticks) s) ≡ steps_in (up_to_halt (replicate n Step) t)
    count_in_block u at_steps =
        let steps = up_to_halt (replicate n Step) t in
        let before = steps_in-append (brought byte) (steps ++ ticked_after ticks u) in
        let past = steps_in-append steps (ticked_after ticks u) in
        let none = steps_in-brought byte in
        let no_more = steps_in-ticked (ticks && not (is_halted u)) in
        ap steps_in (up_to_halt-block u at_steps) ∙ omega (arith, before, past, none, no_more)

    pub cut_in_block : (u : State) (a b : Option (List ℕ)) → IsCutShort (up_to_halt (replicate n Step) t) t u a b
        → IsCutShort (up_to_halt (block byte n ticks) s) s u a b
    cut_in_block u a b cut =
        let steps = up_to_halt (replicate n Step) t in
        let later = ticked_after ticks (run_after steps t) in
        subst (λ es. IsCutShort es s u a b) (sym (up_to_halt-block (run_after steps t) refl))
        (cut_within (brought byte) steps later s u a a b (subst (λ bs. Appends a a bs) (sym (run_sent-brought byte s)) (Appends-nil a))
        (subst (λ w. IsCutShort steps w u a b) at_byte cut))

-- a tick comes where one is due and the machine is not halted
pub tick_if_due : (ends ticks running : Bool) (halted : Option ℕ) (s : State) → is_some halted ≡ not running
    → halted ≡ s.devices.halted → ticks ≡ true → ends ≡ running → ends ≡ (ticks && not (is_halted s))
tick_if_due ends ticks true halted s some is due at = rw (due, sym is, some) at
tick_if_due ends ticks false halted s some is due at = rw (due, sym is, some) at

pub no_tick : (ends ticks : Bool) (s : State) → ticks ≡ false → ends ≡ ticks → ends ≡ (ticks && not (is_halted s))
no_tick ends ticks s due at = rw due (at ∙ due)

pub on_err : {T E : Type 0} (r : Result T E) (P : Type 0) → P → OnErr r P
on_err (Ok x) P p = tt
on_err (Err e) P p = p
