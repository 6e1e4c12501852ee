-- One link of a derivation, as a line: a place, where its value came from, what was cut, and the step that wrote it.
use Rattle.std.specs.Prelude.{ℕ, ◌+◌, Bool, true, false, ◌&&◌, ◌==◌, if◌then◌else◌, List, [], ◌++◌, Option, Some, None, codes}
use Rattle.asm_names.specs.Registers.{register_name}
use Rattle.asm_names.specs.SpecialNames.{scr_name}
use Rattle.cap_bounds.specs.CapValue.{CapValue, is_tagged, is_sealed, value_base, value_top, value_perms}
use Rattle.origins.specs.declared.place.Place.{Place}
use Rattle.origins.specs.declared.place.Place.TheVariants.{Register, Special, Granule}
use Rattle.disassembler.specs.Shown.{name_or}
use Rattle.explain.specs.ValueText.{value_line}
use Rattle.steps.specs.Event.{after}
use Rattle.steps.specs.State.{State, pc_of}
use Rattle.steps.specs.declared.event.Event.TheVariants.{Step}
use Rattle.origins.specs.Making.{source}
use Rattle.origins.specs.Places.{held}
use Rattle.origins.specs.declared.search.Found.{Found}
use Rattle.symbols.specs.Labels.{labelled}
use Rattle.symbols.specs.Symbols.{Symbol}
use Rattle.explain.specs.TraceLine.{step_word, trace_line}
use Rattle.origin_texts.specs.Stretches.{Told}

-- a place by its name, or a granule by its address
unfoldable pub place_text : List Symbol → Place → List ℕ
place_text symbols (Register n) = name_or [] (register_name true n)
place_text symbols (Special n) = name_or [] (scr_name n)
place_text symbols (Granule address) = labelled symbols address

-- ---- what was cut

abbrev pub unless : Bool → List ℕ → List ℕ
unless same note = if same then [] else note

abbrev pub has_same_bounds : CapValue → CapValue → Bool
has_same_bounds v w = (value_base w == value_base v) && (value_top w == value_top v)

abbrev pub seal_note : Bool → Bool → List ℕ
seal_note false true = codes ", sealed"
seal_note true false = codes ", unsealed"
seal_note before after = []

-- of a capability that was made of another
abbrev pub kept_notes : CapValue → CapValue → List ℕ
kept_notes v w =
    unless (has_same_bounds v w) (codes ", bounds cut") ++ unless (value_perms w == value_perms v) (codes ", permissions cut")
    ++ seal_note (is_sealed v) (is_sealed w)

-- Of what isn't tagged nothing can be cut.
unfoldable pub notes : CapValue → CapValue → List ℕ
notes v w = if is_tagged v then (if is_tagged w then kept_notes v w else codes ", tag cut") else []

-- ---- lines

-- where the value came from that the next step of a state writes at a place
abbrev pub source_text : List Symbol → Place → Option Place → State → List ℕ
source_text symbols place None s = codes "no capability"
source_text symbols place (Some from) s = place_text symbols from ++ notes (held from s) (held place (after Step s))

-- a place, and where its value came from
abbrev pub origin_line : List Symbol → Place → Found → State → List ℕ
origin_line symbols place found s = place_text symbols place ++ codes " from " ++ source_text symbols place (source found.making) s

-- the next step's instruction, and where it stands, as in a trace
abbrev pub step_text : List Symbol → State → List ℕ
step_text symbols s = labelled symbols (pc_of s) ++ codes " " ++ step_word s

-- the line of an event that wrote a place, which is the next step of this state
unfoldable pub link_text : List Symbol → Place → Found → State → List ℕ
link_text symbols place found s =
    place_text symbols place ++ codes " from " ++ source_text symbols place (source found.making) s ++ codes ": "
    ++ trace_line symbols (found.before + 1) s

-- all that is told of it
abbrev pub told_of : List Symbol → Place → Found → State → Told
told_of symbols place found s =
    record { source = origin_line symbols place found s; step = step_text symbols s; line = link_text symbols place found s }

-- what nothing wrote is as the image has it
abbrev pub opening_name : Place → List ℕ
opening_name (Granule address) = codes "image: "
opening_name other = codes "opening state: "

unfoldable pub opening_text : List Symbol → Place → State → List ℕ
opening_text symbols place s = opening_name place ++ value_line (place_text symbols place) (held place s)
