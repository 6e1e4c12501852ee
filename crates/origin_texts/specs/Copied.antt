-- Data that a tagged capability's bits were copied to as two double words: each was loaded into a register as a number, and stored from
-- there (a copy of memory by words, a cast through integers). What was calculated with on the way is no such copy.
use Rattle.std.specs.Prelude.{ℕ, ◌+◌, ◌-◌, ◌==◌, ◌&&◌, Bool, true, false, if◌then◌else◌, List, ◌++◌}
use Rattle.std.specs.Prelude.{Option, Some, None, option_map, codes}
use Rattle.base.specs.declared.size.Size.{Size}
use Rattle.base.specs.declared.size.Size.TheVariants.{Double}
use Rattle.cap_bounds.specs.CapValue.{CapValue}
use Rattle.explain.specs.TraceLine.{trace_line}
use Rattle.isa_rows.specs.declared.operands.Insn.{Insn}
use Rattle.isa_rows.specs.declared.rows.Row.{Row}
use Rattle.isa_rows.specs.declared.rows.Row.TheVariants as row
use Rattle.origins.specs.declared.place.Place.TheVariants.{Register, Granule}
use Rattle.origins.specs.declared.search.Found.{Found}
use Rattle.origins.specs.declared.search.Sought.TheVariants.{Written}
use Rattle.past.specs.Given.{PastState, state_at}
use Rattle.past.specs.Replay.{ReplayState}
use Rattle.steps.specs.MemoryRows.{place_of}
use Rattle.steps.specs.State.{State}
use Rattle.steps.specs.Step.{insn_fetched, step_effect, step_fetched}
use Rattle.steps.specs.declared.effect.Effect.{Effect}
use Rattle.steps.specs.declared.effect.Effect.TheVariants.{Write, Store}
use Rattle.symbols.specs.Labels.{labelled}
use Rattle.symbols.specs.Symbols.{Symbol}
use Rattle.tagged_memory.specs.Memory.{has_tag, word_at}
use Rattle.origin_texts.specs.Link.{place_text}
use Rattle.origin_texts.specs.Origin.{last_among}
use Rattle.origin_texts.specs.Writes.{is_in}
use Rattle.origin_texts.specs.declared.copied.Copy.{Copy}
use Rattle.origin_texts.specs.declared.copied.Half.{Half}
use Rattle.origin_texts.specs.declared.copied.Stored.{Stored}

-- ---- steps that copy a double word (RISC-V unprivileged manual, RV64I; UCAM-CL-TR-987, CHERI-RISC-V memory access)

abbrev pub loads_double : Row → Bool
loads_double row.Ld = true
loads_double row.LdDdc = true
loads_double row.LdCap = true
loads_double _ = false

abbrev pub is_double : Size → Bool
is_double Double = true
is_double _ = false

-- which register the next step of a state stores as a double word, and where
abbrev pub stored_by : Effect CapValue → Option Insn → Option Stored
stored_by (Store w) (Some insn) = if is_double w.size then Some (record { to = w.address; register = insn.rs2 }) else None
stored_by _ _ = None

abbrev pub next_stored : State → Option Stored
next_stored s = stored_by (step_effect s) (insn_fetched (step_fetched s))

-- from where it loads one into a register
abbrev pub loaded_by : Effect CapValue → Option Insn → State → Option ℕ
loaded_by (Write w) (Some insn) s = if loads_double insn.row then Some (place_of insn s) else None
loaded_by _ _ s = None

abbrev pub next_loaded : State → Option ℕ
next_loaded s = loaded_by (step_effect s) (insn_fetched (step_fetched s)) s

-- ---- a granule of two double words

abbrev pub both : ℕ → Option Half → Option Half → Option Copy
both granule (Some a) (Some b) =
    Some (if a.to == granule then record { lower = a; upper = b } else record { lower = b; upper = a })
both granule _ _ = None

-- They fill it, and are the double words of one granule.
abbrev pub is_whole : ℕ → Copy → Bool
is_whole granule copy =
    copy.lower.to == granule && (copy.upper.to - 8 == granule && copy.upper.from - 8 == copy.lower.from)

-- A granule holds a tagged capability of these 128 bits.
abbrev pub holds_capability : ℕ → ℕ → State → Bool
holds_capability granule word s = is_in s (Granule granule) && (has_tag s.memory granule && word_at s.memory granule == word)

module _ (past : PastState) (replay : Option ReplayState) where
  -- a step stored what a step had loaded into the register, which nothing wrote between
  abbrev pub loaded_half : Stored → ℕ → Option Found → Option Half
  loaded_half what store None = None
  loaded_half what store (Some load) =
      option_map (λ from. record { from = from; to = what.to; loaded = load.before; stored = store })
      (next_loaded (state_at load.before past replay))

  abbrev pub stored_half : ℕ → Option Stored → Option Half
  stored_half store None = None
  stored_half store (Some what) = loaded_half what store (last_among past replay Written store (Register what.register))

  -- the double word that the event after so many copied
  abbrev pub half_at : ℕ → Option Half
  half_at store = stored_half store (next_stored (state_at store past replay))

  abbrev pub half_of : Option Found → Option Half
  half_of None = None
  half_of (Some store) = half_at store.before

  -- the last two stores to a granule, of which the later is the event after so many
  abbrev pub halves : ℕ → ℕ → Option Copy
  halves granule store = both granule (half_at store) (half_of (last_among past replay Written store (Granule granule)))

  -- At both loads the granule that they were made from held a tagged capability, whose bits stand in the other after the stores.
  abbrev pub is_capability : ℕ → Copy → Bool
  is_capability word copy =
      holds_capability copy.lower.from word (state_at copy.lower.loaded past replay)
      && holds_capability copy.lower.from word (state_at copy.upper.loaded past replay)

  abbrev pub if_copied : ℕ → ℕ → Option Copy → Option Copy
  if_copied granule word None = None
  if_copied granule word (Some copy) = if is_whole granule copy && is_capability word copy then Some copy else None

  -- how a granule came to hold the bits of a tagged capability as data, where the event after so many wrote it last
  abbrev pub copied : ℕ → ℕ → Option Copy
  copied granule store = if_copied granule (word_at (state_at (store + 1) past replay).memory granule) (halves granule store)

-- ---- as lines: the granules, and the load and the store of each double word as in a trace

unfoldable pub granules_line : List Symbol → ℕ → ℕ → List ℕ
granules_line symbols granule from =
    place_text symbols (Granule granule) ++ codes " was copied as data from " ++ labelled symbols from
    ++ codes ", a tagged capability then:\n"

module _ (symbols : List Symbol) (past : PastState) (replay : Option ReplayState) where
  abbrev pub event_line : ℕ → List ℕ
  event_line before = trace_line symbols (before + 1) (state_at before past replay)

  unfoldable pub half_lines : Half → List ℕ
  half_lines h = event_line h.loaded ++ event_line h.stored

  unfoldable pub copy_text : ℕ → Copy → List ℕ
  copy_text granule copy = granules_line symbols granule copy.lower.from ++ half_lines copy.lower ++ half_lines copy.upper
