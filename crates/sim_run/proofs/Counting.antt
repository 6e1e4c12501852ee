-- What a watch that counted from an empty table on found.
use Rattle.std.proofs.Common.{◌≡◌, ℕ, List, [], ◌++◌, length, refl, sym, ap, ◌∙◌, append-nil, arith}
use Rattle.std.specs.Prelude.{Option, Some, None, map, option_to_list}
use Rattle.std.specs.BTreeMap.{BTreeMap, IsEmpty}
use Rattle.steps.specs.declared.event.Event.{Event}
use Rattle.steps.specs.declared.event.Event.TheVariants.{Byte}
use Rattle.steps.specs.State.{State}
use Rattle.machine.specs.Run.{run_after}
use Rattle.schedules.specs.Schedule.{steps_in}
use Rattle.symbols.specs.Symbols.{Symbol}
use Rattle.sim_run.specs.Counts.{CountsMore}
use Rattle.sim_run.specs.CountLaws.{fetches-append, length_fetches}
use Rattle.sim_run.specs.Profile.{IsSound, count_at, count_of, fetches}

-- a table without entries has no count
none_counted : (tally : BTreeMap ℕ ℕ) (place : ℕ) → IsEmpty tally → count_of tally place ≡ 0
none_counted tally place empty = rw empty refl

none_sound : (tally : BTreeMap ℕ ℕ) → IsEmpty tally → IsSound tally
none_sound tally empty = λ place. rw empty (omega arith)

pub all_counted : (symbols : List Symbol) (events : List Event) (s : State) (none tally : BTreeMap ℕ ℕ) (steps : ℕ) → IsEmpty none
    → steps ≡ steps_in events → CountsMore symbols (fetches events s) none tally
    → (steps ≡ length (fetches events s)) × IsSound tally
    × ((place : ℕ) → count_of tally place ≡ count_at symbols (fetches events s) place)
all_counted symbols events s none tally steps empty count more = (
  count ∙ sym (length_fetches events s),
  more.sound (none_sound none empty),
  λ place.
      let from = none_counted none place empty in
      let to = more.counts place in
      omega (arith, from, to),
)

-- a byte is no step
fetches-byte : (byte : Option ℕ) (s : State) → fetches (map Byte (option_to_list byte)) s ≡ []
fetches-byte None s = refl
fetches-byte (Some b) s = refl

pub fetches_then : (xs : List Event) (byte : Option ℕ) (s : State)
    → fetches (xs ++ map Byte (option_to_list byte)) s ≡ fetches xs s
fetches_then xs byte s =
    fetches-append xs (map Byte (option_to_list byte)) s
    ∙ ap (λ more. fetches xs s ++ more) (fetches-byte byte (run_after xs s)) ∙ append-nil (fetches xs s)
