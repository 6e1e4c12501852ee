-- What objects say of a step: where PCC is, the word of the instruction there, and what the step comes to.
use Rattle.std.specs.Prelude.{ℕ, Bool, List, ◌++◌, Option, Some, None, codes}
use Rattle.json.specs.Token.{Token}
use Rattle.cap_bounds.specs.CapValue.{CapValue, value_flag}
use Rattle.disassembler.specs.Shown.{shown_word}
use Rattle.objects.specs.Items.{address_field, digits_field, null_field, object_field, text_field}
use Rattle.objects.specs.Places.{place_field}
use Rattle.steps.specs.State.{State, pc_of}
use Rattle.steps.specs.declared.effect.Effect.{Effect}
use Rattle.steps.specs.declared.effect.Effect.TheVariants.{Trap}
use Rattle.symbols.specs.Symbols.{Symbol}
use Rattle.explain.specs.EffectText.{effect_text}
use Rattle.explain.specs.TrapText.{trap_text}

-- a word and its text in a mode, where there is one
unfoldable pub word_fields : Bool → Option ℕ → List Token
word_fields mode None = null_field (codes "word") ++ null_field (codes "instruction")
word_fields mode (Some word) = digits_field 8 (codes "word") word ++ text_field (codes "instruction") (shown_word mode word)

-- where PCC is, and the word there in PCC's mode
unfoldable pub instruction_fields : List Symbol → Option ℕ → State → List Token
instruction_fields symbols word s = place_field (codes "pcc") symbols (pc_of s) ++ word_fields (value_flag s.scrs.pcc) word

-- what a trap leaves in mcause and mtval, in words too
unfoldable pub trap_field : Effect CapValue → List Token
trap_field (Trap fault) =
    object_field (codes "trap")
    (address_field (codes "mcause") fault.mcause ++ address_field (codes "mtval") fault.mtval
    ++ text_field (codes "words") (trap_text fault.mcause fault.mtval))
trap_field other = null_field (codes "trap")

-- what an effect changes, as a text, and the trap that it is, if it is one
unfoldable pub effect_fields : List Symbol → Effect CapValue → List Token
effect_fields symbols effect = text_field (codes "effect") (effect_text symbols effect) ++ trap_field effect
