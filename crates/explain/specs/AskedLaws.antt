-- The stages decide the step: conditions that are asked one list after the other are asked as one.
use Rattle.std.proofs.Common.{◌≡◌, ℕ, List, ◌++◌, Option, Some, None, refl, sym, ap, ◌∙◌, append-nil}
use Rattle.std.specs.Option.{option_or}
use Rattle.base.specs.declared.fault.Fault.{Fault}
use Rattle.cap_bounds.specs.CapValue.{CapValue}
use Rattle.cap_checks.specs.declared.question.Condition.{Condition}
use Rattle.cap_checks.specs.Question.{first_false}
use Rattle.cap_checks.specs.QuestionLaws.{first_false-append}
use Rattle.devices.specs.Devices.{interrupts_of}
use Rattle.special_regs.specs.Interrupts.{pending}
use Rattle.special_regs.specs.declared.interrupts.Interrupt.{Interrupt}
use Rattle.isa_rows.specs.declared.operands.Insn.{Insn}
use Rattle.isa_rows.specs.Kind.{kind_of}
use Rattle.isa_rows.specs.Decoded.{insn_of}
use Rattle.steps.specs.declared.effect.Effect.{Effect}
use Rattle.steps.specs.declared.effect.Effect.TheVariants.{Nothing}
use Rattle.tagged_memory.specs.Memory.{number_at}
use Rattle.steps.specs.Looks.{unless_fault, where_all}
use Rattle.steps.specs.State.{State, pc_of}
use Rattle.steps.specs.Step.{asked, does, kind_effect, fetch_asked, word_unless, fetch, decoded_effect, fetched_effect, decided}
use Rattle.steps.specs.Step.{step_effect}
use Rattle.explain.specs.Asked.{word_stages, fetched_stages, stages_unless, stages_of, all_conditions, done_by_insn, done_by_word}
use Rattle.explain.specs.Asked.{effect_unless, TrapsByItsStages}

unless-or : (f g : Option Fault) (e : Effect CapValue) → unless_fault f (unless_fault g e) ≡ unless_fault (option_or f g) e
unless-or None g e = refl
unless-or (Some fault) g e = refl

-- conditions before others
where_all-append : (first last : List Condition) (e : Effect CapValue) → where_all first (where_all last e) ≡ where_all (first ++ last) e
where_all-append first last e =
    unless-or (first_false first) (first_false last) e ∙ ap (λ f. unless_fault f e) (sym (first_false-append first last))

word-effect : (found : Option Insn) (word : ℕ) (s : State)
    → decoded_effect found word s ≡ where_all (all_conditions (word_stages found word s)) (done_by_insn found s)
unfolding kind_effect
word-effect (Some insn) word s =
    ap (λ conditions. where_all conditions (does (kind_of insn.row) insn s)) (sym (append-nil (asked (kind_of insn.row) word insn s)))
word-effect None word s = refl

fetched-effect : (f : Option Fault) (s : State) → f ≡ first_false (fetch_asked s)
    → fetched_effect (word_unless f s) s
    ≡ where_all (fetch_asked s ++ all_conditions (fetched_stages (word_unless f s) s)) (done_by_word (word_unless f s) s)
fetched-effect None s none =
    let word = number_at s.memory (pc_of s) 4 in
    word-effect (insn_of word) word s
    ∙ ap (λ f. unless_fault f (where_all (all_conditions (word_stages (insn_of word) word s)) (done_by_insn (insn_of word) s))) none
    ∙ where_all-append (fetch_asked s) (all_conditions (word_stages (insn_of word) word s)) (done_by_insn (insn_of word) s)
fetched-effect (Some fault) s some =
    ap (λ f. unless_fault f Nothing) some ∙ ap (λ conditions. where_all conditions Nothing) (sym (append-nil (fetch_asked s)))

decided-effect : (p : Option Interrupt) (s : State) → pending s.csrs (interrupts_of s.devices) ≡ p → decided p s ≡ effect_unless p s
unfolding stages_of
decided-effect (Some interrupt) s is = refl
decided-effect None s is =
    fetched-effect (first_false (fetch_asked s)) s refl
    ∙ ap (λ p. where_all (all_conditions (stages_unless p s)) (done_by_word (fetch s) s)) (sym is)

pub traps-by_its_stages : TrapsByItsStages
unfolding step_effect
traps-by_its_stages s = decided-effect (pending s.csrs (interrupts_of s.devices)) s refl
