-- The stretches of two states that agree: they go on together by one event, and end together.
use Rattle.std.proofs.Common.{◌≡◌, ℕ, zero, suc, ◌+◌, ◌<◌, ◌≤◌, List, [], ◌∷◌, ◌++◌, length, get_or, take, drop, None, Some, Option}
use Rattle.std.proofs.Common.{inl, inr, refl, sym, ap, ◌∙◌, subst, arith}
use Rattle.std.proofs.lemmas.Bool.{cases_lt}
use Rattle.std.specs.Prelude.{option_to_list}
use Rattle.steps.specs.declared.ends.Why.{Why}
use Rattle.steps.specs.declared.event.Event.{Event}
use Rattle.steps.specs.Ends.{why_of}
use Rattle.steps.specs.Event.{after, sent, outcome}
use Rattle.steps.specs.IsState.{IsState}
use Rattle.steps.specs.Outcome.{Plain}
use Rattle.steps.specs.State.{State}
use Rattle.authority.specs.TwoWorldsLaws.{event-agrees, outcome-same, sent-same}
use Rattle.authority.specs.Worlds.{Agree}
use Rattle.machine.specs.Run.{run_after, run_sent}
use Rattle.machine.specs.Stretch.{ArePlain, EndsBefore, IsStretch, IsTwin, IsSameStretch}
use Rattle.machine.proofs.Stretches.{run_after-more, run_sent-more, ArePlain-more}

-- the first events are plain from the second state too, and after each of them the two are twins
pub record AreTwins (events : List Event) (s t : State) (i : ℕ) : Type 0 where
  pub plain : ArePlain (take i events) t
  pub twins : (k : ℕ) → k ≤ i → IsTwin (take k events) s t

pub AreTwins-none : (events : List Event) (s t : State) → Agree s t → AreTwins events s t 0
AreTwins-none events s t agree = record {
  plain = tt;
  twins = λ k few.
      let none : k ≡ 0 = omega arith in
      subst (λ j. IsTwin (take j events) s t) (sym none) (record { bytes = refl; agree = agree });
}

-- ---- one event more

module _ (events : List Event) (i : ℕ) (d : Event) (below : i < length events) (s : State) (is : IsState (run_after (take i events) s))
    (plain : outcome (get_or events i d) (run_after (take i events) s) ≡ Plain) (t : State) (twins : AreTwins events s t i) where
  twin : IsTwin (take i events) s t
  twin = twins.twins i (omega arith)

  sent-next : option_to_list (sent (get_or events i d) (run_after (take i events) t))
      ≡ option_to_list (sent (get_or events i d) (run_after (take i events) s))
  sent-next = ap option_to_list (sent-same (run_after (take i events) s) (run_after (take i events) t) twin.agree (get_or events i d))

  next-twin : IsTwin (take (i + 1) events) s t
  next-twin =
      let e : Event = get_or events i d in
      let s' : State = run_after (take i events) s in
      let t' : State = run_after (take i events) t in
      record {
        bytes = run_sent-more events i d below t
            ∙ ap (λ bytes. bytes ++ option_to_list (sent e t')) twin.bytes
            ∙ ap (λ bytes. run_sent (take i events) s ++ bytes) sent-next
            ∙ sym (run_sent-more events i d below s);
        agree = subst (λ later. Agree later (run_after (take (i + 1) events) t)) (sym (run_after-more events i d below s))
            (subst (Agree (after e s')) (sym (run_after-more events i d below t)) (event-agrees e s' t' is plain twin.agree));
      }

  pub AreTwins-more : AreTwins events s t (i + 1)
  AreTwins-more = record {
    plain = ArePlain-more events i d below t twins.plain
        (outcome-same (run_after (take i events) s) (run_after (take i events) t) twin.agree (get_or events i d) ∙ plain);
    twins = λ k few. elim (cases_lt i k) [
      | inl last ↦
          let same : k ≡ i + 1 = omega arith in
          subst (λ j. IsTwin (take j events) s t) (sym same) next-twin
      | inr before ↦ twins.twins k before
    ];
  }

-- ---- the end

EndsBefore-same : (why : Option Why) (rest : List Event) (s t : State) → Agree s t → EndsBefore why rest s → EndsBefore why rest t
EndsBefore-same None rest s t agree end = end
EndsBefore-same (Some why) [] s t agree end = end
EndsBefore-same (Some why) (e ∷ es) s t agree end = ap why_of (outcome-same s t agree e) ∙ end

pub IsSameStretch-twins : (events : List Event) (s : State) (i done : ℕ) → done ≡ i → i ≤ length events
    → ((t : State) → Agree s t → AreTwins events s t i) → (why : Option Why)
    → EndsBefore why (drop done events) (run_after (take done events) s) → (t : State) → Agree s t → IsSameStretch events done why s t
IsSameStretch-twins events s i done same some twins why end t agree =
    let are : AreTwins events s t done = subst (AreTwins events s t) (sym same) (twins t agree) in
    record {
      stretch = record {
        some = omega arith;
        plain = are.plain;
        end = EndsBefore-same why (drop done events) (run_after (take done events) s) (run_after (take done events) t)
            (are.twins done (omega arith)).agree end;
      };
      twins = are.twins;
    }

-- ---- a state and a list of events have one stretch

no_end : (why : Option Why) (s : State) → EndsBefore why [] s → why ≡ None
no_end None s end = refl
no_end (Some why) s end = absurd end

ends-here : (why : Option Why) (e : Event) (es : List Event) (s : State) → EndsBefore why (e ∷ es) s → why_of (outcome e s) ≡ why
ends-here None e es s end = cc
ends-here (Some why) e es s end = end

goes-on : (why : Option Why) (e : Event) (es : List Event) (s : State) → EndsBefore why (e ∷ es) s → outcome e s ≡ Plain → ⊥
goes-on None e es s end plain = cc
goes-on (Some why) e es s end plain = let none : why_of (outcome e s) ≡ None = ap why_of plain in cc

rest-stretch : (e : Event) (es : List Event) (s : State) (done : ℕ) (why : Option Why) → IsStretch (e ∷ es) (suc done) why s
    → IsStretch es done why (after e s)
rest-stretch e es s done why stretch = record {
  some = let fits : suc done ≤ suc (length es) = stretch.some in omega arith;
  plain = stretch.plain.1;
  end = stretch.end;
}

too_many : (n : ℕ) → suc n ≤ 0 → ⊥
too_many n some = omega arith

pub one-stretch : (events : List Event) (s : State) (i j : ℕ) (v w : Option Why) → IsStretch events i v s → IsStretch events j w s
    → (i ≡ j) × (v ≡ w)
one-stretch [] s zero zero v w first second = (refl, no_end v s first.end ∙ sym (no_end w s second.end))
one-stretch [] s zero (suc j) v w first second = absurd (too_many j second.some)
one-stretch [] s (suc i) j v w first second = absurd (too_many i first.some)
one-stretch (e ∷ es) s zero zero v w first second = (refl, sym (ends-here v e es s first.end) ∙ ends-here w e es s second.end)
one-stretch (e ∷ es) s zero (suc j) v w first second = absurd (goes-on v e es s first.end second.plain.0)
one-stretch (e ∷ es) s (suc i) zero v w first second = absurd (goes-on w e es s second.end first.plain.0)
one-stretch (e ∷ es) s (suc i) (suc j) v w first second =
    let rest = one-stretch es (after e s) i j v w (rest-stretch e es s i v first) (rest-stretch e es s j w second) in
    (ap suc rest.0, rest.1)

-- ---- two machines

-- two stretches over the same events that end together
pub record EndTogether (events : List Event) (s t : State) (i j : ℕ) (v w : Option Why) (later other : State) : Type 0 where
  pub done : i ≡ j
  pub why : v ≡ w
  pub bytes : run_sent (take j events) t ≡ run_sent (take i events) s
  pub agree : Agree later other

pub end-together : (events : List Event) (s t : State) (i j : ℕ) (v w : Option Why) (later other : State)
    → IsSameStretch events i v s t → later ≡ run_after (take i events) s → other ≡ run_after (take j events) t → j ≤ length events
    → ArePlain (take j events) t → EndsBefore w (drop j events) other → EndTogether events s t i j v w later other
end-together events s t i j v w later other same first second some plain end =
    let stretch : IsStretch events j w t =
    record { some = some; plain = plain; end = subst (EndsBefore w (drop j events)) second end } in
    let one = one-stretch events t i j v w same.stretch stretch in
    let twin : IsTwin (take i events) s t = same.twins i (omega arith) in
    record {
      done = one.0;
      why = one.1;
      bytes = ap (λ n. run_sent (take n events) t) (sym one.0) ∙ twin.bytes;
      agree = subst (λ x. Agree x other) (sym first)
          (subst (Agree (run_after (take i events) s)) (ap (λ n. run_after (take n events) t) one.0 ∙ sym second) twin.agree);
    }
