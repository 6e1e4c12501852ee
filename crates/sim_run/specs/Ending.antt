-- Where a run ended, for whoever called the program: `cherisim: steps 10000, pcc 0000000080000010 <loop+4>`, and after it the trap that
-- nothing handled, with the last where that is another; or else the last that was taken. After an address stands its label, where there is
-- a table of symbols.
use Rattle.std.specs.Prelude.{ℕ, Bool, not, ◌==◌, ◌&&◌, List, [], ◌++◌, Option, Some, codes, decimal, if◌then◌else◌}
use Rattle.cap_bounds.specs.CapValue.{value_address}
use Rattle.steps.specs.declared.event.Event.TheVariants.{Step}
use Rattle.steps.specs.Event.{after}
use Rattle.steps.specs.State.{State, pc_of}
use Rattle.symbols.specs.Symbols.{Symbol}
use Rattle.symbols.specs.Labels.{labelled}
use Rattle.symbols.specs.Sources.{source_of}
use Rattle.explain.specs.StandingText.{standing_text}
use Rattle.explain.specs.TrapText.{trap_text}
use Rattle.explain.specs.WhyText.{failed_line}
use Rattle.sim_run.specs.Unhandled.{Open, Trapped, Traps}

-- A trap was taken where mcause and mtval aren't both 0: the one trap whose cause is 0, a misaligned jump, leaves its target in mtval.
abbrev pub is_trapped : ℕ → ℕ → Bool
is_trapped mcause mtval = not ((mcause == 0) && (mtval == 0))

-- a trap in words, and where it was taken, with the line of a source that placed the instruction there, where that is known
unfoldable pub trap_part : List Symbol → ℕ → ℕ → ℕ → List ℕ
trap_part symbols mcause mtval mepc = trap_text mcause mtval ++ codes ", mepc " ++ labelled symbols mepc ++ source_of symbols mepc

unfoldable pub last_trap : List Symbol → State → List ℕ
last_trap symbols s =
    if is_trapped s.csrs.mcause s.csrs.mtval
    then codes "; last trap: " ++ trap_part symbols s.csrs.mcause s.csrs.mtval (value_address s.scrs.mepcc)
    else []

-- the trap of the next step, as it is left in mcause and mtval, with the step's number; and on a line of its own the condition that fails
unfoldable pub trap_words : List Symbol → ℕ → State → List ℕ
trap_words symbols number s =
    trap_part symbols (after Step s).csrs.mcause (after Step s).csrs.mtval (pc_of s) ++ codes ", step " ++ decimal number ++ codes "\n"
    ++ failed_line symbols s

-- the last, where it isn't the first that is open
unfoldable pub later_trap : List Symbol → ℕ → Trapped → List ℕ
later_trap symbols first last =
    if first == last.number then [] else codes "  last trap: " ++ trap_words symbols last.number last.before

-- how many steps since the last were traps of the fetch
unfoldable pub since_line : ℕ → List ℕ
since_line n = if n == 0 then [] else codes "  later traps at an entry that can't be fetched: " ++ decimal n ++ codes "\n"

-- after a last step that was a trap, the first that is open; else the last, where one was taken
abbrev pub trap_lines : List Symbol → Option Open → Option Trapped → State → List ℕ
trap_lines symbols (Some first) (Some last) s =
    codes "; first trap: " ++ trap_words symbols first.number first.before ++ later_trap symbols first.number last
    ++ since_line last.unfetched
trap_lines symbols first last s = last_trap symbols s ++ codes "\n"

-- how many steps were done, where PCC is, and the trap that matters
abbrev pub ending_lines : List Symbol → ℕ → Traps → State → List ℕ
ending_lines symbols steps left s =
    standing_text symbols steps s ++ trap_lines symbols left.first left.last s
