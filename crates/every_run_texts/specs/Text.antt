-- What a verdict of every run says, as a text.
use Rattle.std.specs.Prelude.{ℕ, ◌+◌, nat_lt, if◌then◌else◌, List, [], ◌++◌, codes, decimal, slice_index}
use Rattle.std.specs.List.{flat_map}
use Rattle.asm_names.specs.TrapNames.{register_at_fault}
use Rattle.disassembler.specs.Shown.{name_or}
use Rattle.texts.specs.Hex.{hex_of}
use Rattle.symbols.specs.Symbols.{Symbol}
use Rattle.symbols.specs.Labels.{labelled}
use Rattle.reach.specs.declared.range.Range.{Range}
use Rattle.reached.specs.declared.member.Place.{Place}
use Rattle.reached.specs.declared.member.Place.TheVariants.{Root, Special, Granule}
use Rattle.breach_texts.specs.Text.{ban_word}
use Rattle.every_run.specs.declared.verdict.Unshown.{Unshown}
use Rattle.every_run.specs.declared.verdict.Unshown.TheVariants as why
use Rattle.every_run.specs.declared.verdict.Verdict.{Verdict}
use Rattle.every_run.specs.declared.verdict.Verdict.TheVariants as verdict

-- where any code finds a capability: in one of the 32 registers, PCC or DDC, which mtval counts in this order; in one of the four special
-- registers that it counts from MTCC on; behind a door; or in a granule
abbrev pub root_text : ℕ → List ℕ
root_text n =
    if nat_lt n 34 then name_or [] (register_at_fault n)
    else (if nat_lt n 38 then name_or [] (register_at_fault (n + 26)) else codes "behind a door")

abbrev pub place_text : List Symbol → Place → List ℕ
place_text symbols (Root n) = root_text n
place_text symbols (Special n) = []
place_text symbols (Granule address) = labelled symbols address

-- a rule by the number of its line
abbrev pub rule_text : List ℕ → ℕ → List ℕ
rule_text lines rule = codes "line " ++ decimal (slice_index lines rule)

-- why it is not shown, where each rule has the number of its line
abbrev pub why_text : List Symbol → List ℕ → Unshown → List ℕ
why_text symbols lines (why.Lends rule) = rule_text lines rule ++ codes ": or caller"
why_text symbols lines (why.UnknownCode address) = codes "fetches any code at " ++ labelled symbols address
why_text symbols lines (why.UnknownData address) = codes "loads any code at " ++ labelled symbols address
why_text symbols lines (why.Device address) = codes "loads a device at " ++ labelled symbols address
why_text symbols lines (why.SystemRegister pc) = codes "uses a system register at " ++ labelled symbols pc
why_text symbols lines (why.Interrupts pc) = codes "interrupts are on at " ++ labelled symbols pc
why_text symbols lines (why.Halted pc) = codes "halts at " ++ labelled symbols pc
why_text symbols lines (why.RuleApplies rule pc) = rule_text lines rule ++ codes ": applies at " ++ labelled symbols pc
why_text symbols lines (why.MoreSteps most) = codes "more than " ++ decimal most ++ codes " steps"
why_text symbols lines (why.TaggedCode address) = codes "a tag stands at " ++ labelled symbols address
why_text symbols lines why.ManyDoors = codes "too many doors"
why_text symbols lines (why.Unfollowed pc) = codes "isn't followed at " ++ labelled symbols pc
why_text symbols lines (why.Returns place) = codes "returns\n  held  " ++ place_text symbols place
why_text symbols lines (why.OpensSystem place) = codes "system\n  held  " ++ place_text symbols place
why_text symbols lines (why.MaySeal place) = codes "seal\n  held  " ++ place_text symbols place
why_text symbols lines (why.Breaks rule ban place) =
    rule_text lines rule ++ codes ": " ++ ban_word ban ++ codes "\n  held  " ++ place_text symbols place

-- a range of any code: its first address with the label, and its end, which is not in it
unfoldable pub any_line : List Symbol → Range → List ℕ
any_line symbols range =
    codes "  with any code in " ++ labelled symbols range.from ++ codes " to " ++ hex_of 17 range.to ++ codes "\n"

-- of which runs it holds, and what it took to show: how many steps of the image's own code, and how many capabilities any code can hold
abbrev pub holds_text : List Symbol → List Range → ℕ → ℕ → List ℕ
holds_text symbols any steps members =
    codes "holds\n  of every run of this image, over any steps, ticks and bytes\n"
    ++ (flat_map (any_line symbols) any
    ++ (codes "  steps " ++ decimal steps ++ codes ", capabilities " ++ decimal members ++ codes "\n"))

-- the lines of a verdict about any code in these ranges
abbrev pub verdict_text : List Symbol → List Range → List ℕ → Verdict → List ℕ
verdict_text symbols any lines (verdict.Holds steps members) = holds_text symbols any steps members
verdict_text symbols any lines (verdict.Unshown why) = codes "not shown: " ++ why_text symbols lines why ++ codes "\n"
