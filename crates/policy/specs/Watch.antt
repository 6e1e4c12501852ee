-- What rules watch: what an event leaves as it is, what code learns at it, where it runs and what is sealed while a rule applies, and
-- where a run is refused.
use Rattle.std.specs.Prelude.{◌≡◌, ℕ, ◌+◌, ◌-◌, ◌%◌, ◌<◌, ◌≤◌, ◌≢◌, true, false, List, length, map, None, Contains}
use Rattle.std.specs.Prelude.{slice_index, ◌⊎◌, Option, Some, Result, Ok, Err, MatchOption}
use Rattle.std.specs.List.{HoldsAt}
use Rattle.base.specs.ObjectType.{is_reserved}
use Rattle.base.specs.Ram.{ram_base}
use Rattle.base.specs.declared.fault.Fault.{Fault}
use Rattle.cap_bounds.specs.CapValue.{CapValue, is_sealed, value_otype}
use Rattle.cap_rights.specs.Permission.{permits}
use Rattle.cap_rights.specs.declared.permission.Permission.TheVariants.{Global}
use Rattle.tagged_memory.specs.Memory.{has_tag}
use Rattle.devices.specs.Devices.{control_register, mtimecmp}
use Rattle.special_regs.specs.Traps.{trap_target}
use Rattle.steps.specs.declared.event.Event.{Event}
use Rattle.steps.specs.Event.{after, outcome, sent}
use Rattle.steps.specs.Outcome.{Plain, Trap, Unseal}
use Rattle.steps.specs.State.{State, pc_of}
use Rattle.steps.specs.Step.{fetch}
use Rattle.authority.specs.Authority.{SameScrs, SameCsrs}
use Rattle.authority.specs.Lent.{IsGivenBy}
use Rattle.authority.specs.Reachable.{IsHeldAt, IsReachable}
use Rattle.authority.specs.Worlds.{Agree}
use Rattle.reach.specs.First.{IsFirst, HoldsOfNone}
use Rattle.reach.specs.Ranges.{IsInOne}
use Rattle.reach.specs.Reach.{AreReachable, members_in}
use Rattle.policy.specs.declared.refused.Refused.{Refused}
use Rattle.policy.specs.Terms.{Terms}
use Rattle.policy.specs.Rule.{IsFirstBan, BreaksRule}

-- the rule is about the code at an address
abbrev pub IsAbout : Terms → ℕ → Type 0
IsAbout rule pc = IsInOne rule.code pc

-- the address that the next instruction can be fetched from, if it can: PCC's, where PCC passes the checks of the fetch and RAM answers
abbrev pub fetched_from : Result ℕ Fault → ℕ → Option ℕ
fetched_from (Ok word) pc = Some pc
fetched_from (Err f) pc = None

abbrev pub fetched_at : State → Option ℕ
fetched_at s = fetched_from (fetch s) (pc_of s)

-- The rule applies: it is about the code at the address that an instruction can be fetched from. Where none can be, as past the end of
-- PCC's bounds, no code runs, and no rule applies.
abbrev pub Applies : Terms → Option ℕ → Type 0
Applies rule None = ⊥
Applies rule (Some pc) = IsAbout rule pc

-- nothing that is reachable breaks the rule
abbrev pub Holds : Terms → State → Type 0
Holds rule s = (v : CapValue) → IsReachable s v → BreaksRule rule v → ⊥

-- each rule that applies holds
abbrev pub HoldEach : List Terms → State → Type 0
HoldEach rules s = (rule : Terms) → Contains rules rule → Applies rule (fetched_at s) → Holds rule s

-- ---- an event

-- What an event leaves as it is by a rule: the bytes of RAM outside the ranges for stores, and the tags of granules that lie outside
-- them; what is lent without Global is kept in no granule that doesn't lie wholly in the ranges for it: such a granule holds later what it
-- held, or no tag, or a Global value that was given with Global; as the rule says no to each, nothing is sent, the machine is not halted,
-- the timer's interrupt is not set, and the system registers stay unless the event traps; and the console's control register stays, unless
-- it is given for stores.
pub record LeavesBy (rule : Terms) (e : Event) (s : State) : Type 0 where
  pub bytes :
      (a : ℕ) → ram_base ≤ a → (IsInOne rule.store a → ⊥)
      → slice_index (after e s).memory.bytes (a - ram_base) ≡ slice_index s.memory.bytes (a - ram_base)
  pub tags :
      (granule : ℕ) → ram_base ≤ granule → ((a : ℕ) → granule ≤ a → a < granule + 16 → IsInOne rule.store a → ⊥)
      → has_tag (after e s).memory granule ≡ has_tag s.memory granule
  pub kept :
      (granule a : ℕ) (v : CapValue) → granule % 16 ≡ 0 → ram_base ≤ granule → granule ≤ a → a < granule + 16
      → (IsInOne rule.keep a → ⊥) → IsHeldAt (after e s).memory granule v
      → IsHeldAt s.memory granule v ⊎ ((permits v Global ≡ true) × IsGivenBy (IsReachable s) v)
  pub silent : rule.transmit ≡ false → sent e s ≡ None
  pub halt : rule.halt ≡ false → (after e s).devices.halted ≡ s.devices.halted
  pub timer : rule.timer ≡ false → mtimecmp (after e s).devices ≡ mtimecmp s.devices
  pub console : (IsInOne rule.store control_register → ⊥) → (after e s).devices.control ≡ s.devices.control
  pub system :
      outcome e s ≢ Trap → rule.system ≡ false → SameScrs s.scrs (after e s).scrs × SameCsrs s.csrs (after e s).csrs

-- The states differ in bytes of RAM outside the rule's ranges for loads and fetches, and in nothing else.
pub record DiffersOutside (rule : Terms) (s t : State) : Type 0 where
  pub registers : t.registers ≡ s.registers
  pub scrs : t.scrs ≡ s.scrs
  pub csrs : t.csrs ≡ s.csrs
  pub devices : t.devices ≡ s.devices
  pub ram : length t.memory.bytes ≡ length s.memory.bytes
  pub tags : (granule : ℕ) → has_tag t.memory granule ≡ has_tag s.memory granule
  pub inside :
      (a : ℕ) → ram_base ≤ a → IsInOne rule.load a ⊎ IsInOne rule.execute a
      → slice_index t.memory.bytes (a - ram_base) ≡ slice_index s.memory.bytes (a - ram_base)

-- What code learns at an event by a rule: from each state that differs outside alone the event comes to the same and sends the same, and
-- the states after it differ outside alone; after a plain event they agree in all that code can look at.
pub record LearnsBy (rule : Terms) (e : Event) (s : State) : Type 0 where
  pub comes_to : (t : State) → DiffersOutside rule s t → outcome e t ≡ outcome e s
  pub sends : (t : State) → DiffersOutside rule s t → sent e t ≡ sent e s
  pub differ : (t : State) → DiffersOutside rule s t → DiffersOutside rule (after e s) (after e t)
  pub agree : (t : State) → DiffersOutside rule s t → outcome e s ≡ Plain → Agree (after e s) (after e t)

-- the trap's entry: where MTCC leads by the fault
pub record IsTrapEntry (s later : State) : Type 0 where
  pub fault : Fault
  pub pcc : later.scrs.pcc ≡ trap_target fault s.scrs.mtcc

-- Where code runs by a rule: what can be fetched before the event lies in the ranges for fetches, and so does what can be fetched after it
-- where it is plain. Whatever the event is, what can be fetched after it begins in the ranges for fetches or in those that may be entered,
-- unless it traps, and then PCC is the trap's entry.
pub record RunsBy (rule : Terms) (e : Event) (s : State) : Type 0 where
  pub fetched : (pc a : ℕ) → fetched_at s ≡ Some pc → pc ≤ a → a < pc + 4 → IsInOne rule.execute a
  pub next :
      outcome e s ≡ Plain → (pc a : ℕ) → fetched_at (after e s) ≡ Some pc → pc ≤ a → a < pc + 4 → IsInOne rule.execute a
  pub leads :
      outcome e s ≢ Trap → (pc : ℕ) → fetched_at (after e s) ≡ Some pc → IsInOne rule.execute pc ⊎ IsInOne rule.enter pc
  pub traps : outcome e s ≡ Trap → IsTrapEntry s (after e s)

-- the rule allows the object type
abbrev pub AllowsType : Terms → ℕ → Type 0
AllowsType rule otype = MatchOption rule.types (Unit {0}) (λ types. Contains types otype)

-- What is sealed by a rule: what is reachable before the event and sealed, but for sentries, has an object type that the rule allows; and
-- where the rule lets nothing be sealed and unsealed, nothing is unsealed, and what is reachable after a plain event and sealed, but for
-- sentries, was reachable so before it.
pub record SealsBy (rule : Terms) (e : Event) (s : State) : Type 0 where
  pub types : (v : CapValue) → IsReachable s v → is_sealed v ≡ true → is_reserved (value_otype v) ≡ false → AllowsType rule (value_otype v)
  pub unseals : rule.seal ≡ false → outcome e s ≢ Unseal
  pub seals :
      rule.seal ≡ false → outcome e s ≡ Plain → (v : CapValue) → IsReachable (after e s) v → is_sealed v ≡ true
      → is_reserved (value_otype v) ≡ false → IsReachable s v

-- the event keeps to a rule, which nothing breaks that is reachable before it
pub record KeepsTo (rule : Terms) (e : Event) (s : State) : Type 0 where
  pub holds : Holds rule s
  pub leaves : LeavesBy rule e s
  pub learns : LearnsBy rule e s
  pub runs : RunsBy rule e s
  pub seals : SealsBy rule e s

-- it keeps to each rule that applies
abbrev pub KeepsToEach : List Terms → Event → State → Type 0
KeepsToEach rules e s = (rule : Terms) → Contains rules rule → Applies rule (fetched_at s) → KeepsTo rule e s

-- ---- a refusal

-- Of some values the first rule that applies to what is fetched at an address and that one of them breaks; the first that does, and the
-- first part that it breaks.
pub record IsFirstRefused (rules : List Terms) (at : Option ℕ) (vs : List CapValue) (x : Refused) : Type 0 where
  pub inside : x.rule < length rules
  pub applies : HoldsAt (λ rule. Applies rule at) rules x.rule
  pub member : HoldsAt (λ rule. IsFirst (BreaksRule rule) vs x.member) rules x.rule
  pub ban : HoldsAt (λ rule. HoldsAt (λ v. IsFirstBan rule v x.ban) vs x.member) rules x.rule
  pub before : (k : ℕ) → k < x.rule → HoldsAt (λ rule. Applies rule at → HoldsOfNone (BreaksRule rule) vs) rules k

-- the reachable values in the order in which they are found
abbrev pub values_in : State → List CapValue
values_in s = map (λ x. x.value) (members_in s)

-- the same of a state: of what is fetched, and of all that is reachable in it
pub record IsRefused (rules : List Terms) (x : Refused) (s : State) : Type 0 where
  pub reachable : AreReachable s (values_in s)
  pub first : IsFirstRefused rules (fetched_at s) (values_in s) x
