-- Texts of stages, one after another.
use Rattle.std.proofs.Common.{◌≡◌, ℕ, Bool, true, false, List, [], ◌∷◌, ◌++◌, Option, Some, None, refl, ap, sym, ◌∙◌, append_assoc}
use Rattle.std.proofs.Common.{append-nil}
use Rattle.std.specs.Prelude.{is_some, codes}
use Rattle.std.specs.List.{flat_map}
use Rattle.base.specs.Registers.{pcc_register}
use Rattle.base.specs.declared.cause.Cause.{Cause}
use Rattle.base.specs.declared.cause.CheriCause.{CheriCause}
use Rattle.base.specs.declared.size.Size.{Size}
use Rattle.cap_checks.specs.declared.question.Condition.{Condition}
use Rattle.cap_checks.specs.declared.question.Question.{Question}
use Rattle.cap_checks.specs.declared.question.Question.TheVariants.{Right, Bounds, Multiple, Ram, RamOrDevice, Instruction, SystemRegister}
use Rattle.symbols.specs.Symbols.{Symbol}
use Rattle.symbols.specs.Labels.{labelled}
use Rattle.devices.specs.Devices.{interrupts_of}
use Rattle.special_regs.specs.Interrupts.{pending}
use Rattle.special_regs.specs.declared.interrupts.Interrupt.{Interrupt}
use Rattle.isa_rows.specs.declared.operands.Insn.{Insn}
use Rattle.isa_rows.specs.Kind.{kind_of}
use Rattle.isa_rows.specs.Decoded.{insn_of}
use Rattle.steps.specs.State.{State, pc_of}
use Rattle.steps.specs.FetchedLaws.{FetchesWord, FetchFaults}
use Rattle.steps.specs.Step.{asked, fetch_asked, fetch}
use Rattle.explain.specs.Asked.{decoding, word_stages, stages_of, stages_unless}
use Rattle.explain.specs.WhyText.{place_text, stage_text, stages_text, capability_line, capability_lines}

module _ {T : Type 0} (text_of : T → List ℕ) (old : List ℕ) (first : T) where
  pub one_text : (new : List ℕ) → new ≡ old ++ text_of first → new ≡ old ++ flat_map text_of (first ∷ [])
  one_text new e = e ∙ ap (λ text. old ++ text) (sym (append-nil (text_of first)))

  pub text_more : (between new : List ℕ) (others : List T) → between ≡ old ++ text_of first
      → new ≡ between ++ flat_map text_of others
      → new ≡ old ++ flat_map text_of (first ∷ others)
  text_more between new others e f =
      f ∙ ap (λ text. text ++ flat_map text_of others) e ∙ append_assoc old (text_of first) (flat_map text_of others)

  pub two_texts : (between new : List ℕ) (last : T) → between ≡ old ++ text_of first → new ≡ between ++ text_of last
      → new ≡ old ++ flat_map text_of (first ∷ last ∷ [])
  two_texts between new last e f =
      text_more between new (last ∷ []) e (f ∙ ap (λ text. between ++ text) (sym (append-nil (text_of last))))

-- one text after another
pub text_on : (old between new a b : List ℕ) → between ≡ old ++ a → new ≡ between ++ b → new ≡ old ++ (a ++ b)
text_on old between new a b e f = f ∙ ap (λ k. k ++ b) e ∙ append_assoc old a b

-- a stage that asks neither a right nor an instruction shows PCC
pub lines-other : (first : Question) → ((n : ℕ) (cause : CheriCause) → first ≡ Right n cause → ⊥)
    → ((word : ℕ) → first ≡ Instruction word → ⊥) → (cs : List Condition) (s : State)
    → capability_lines first cs s ≡ capability_line s pcc_register
lines-other (Right n cause) right word cs s = absurd (right n cause refl)
lines-other (Instruction n) right word cs s = absurd (word n refl)
lines-other _ right word cs s = refl

abbrev pub pending_is_some : State → Bool
pending_is_some s = is_some (pending s.csrs (interrupts_of s.devices))

module _ (symbols : List Symbol) (word : ℕ) (s : State) (old between new : List ℕ) (found : Option Insn) (holds : Bool)
    (is : holds ≡ is_some found) (first : between ≡ old ++ stage_text symbols s (decoding holds word)) where
  pub shown-insn : (insn : Insn) (conditions : List Condition) → found ≡ Some insn
      → conditions ≡ asked (kind_of insn.row) word insn s → new ≡ between ++ stage_text symbols s conditions
      → new ≡ old ++ flat_map (stage_text symbols s) (word_stages found word s)
  shown-insn insn conditions some lists last =
      rw some
      (two_texts (stage_text symbols s) old (decoding true word) between new (asked (kind_of insn.row) word insn s)
      (first ∙ ap (λ b. old ++ stage_text symbols s (decoding b word)) (is ∙ ap is_some some))
      (last ∙ ap (λ l. between ++ stage_text symbols s l) lists))

  pub shown-word : found ≡ None → new ≡ between ++ [] → new ≡ old ++ flat_map (stage_text symbols s) (word_stages found word s)
  shown-word none last =
      rw none
      (one_text (stage_text symbols s) old (decoding false word) new
      (last ∙ append-nil between ∙ first ∙ ap (λ b. old ++ stage_text symbols s (decoding b word)) (is ∙ ap is_some none)))

module _ (symbols : List Symbol) (s : State) (old new : List ℕ) where
  pub stages-shown : (between : List ℕ) (word : ℕ) (insn : Option Insn)
      → FetchesWord (pending s.csrs (interrupts_of s.devices)) (fetch s) word insn
      → between ≡ old ++ stage_text symbols s (fetch_asked s)
      → new ≡ between ++ flat_map (stage_text symbols s) (word_stages insn word s) → new ≡ old ++ stages_text symbols s
  unfolding stages_text stages_of
  stages-shown between word insn found first last =
      rw (found.uninterrupted, found.fetched)
      (text_more (stage_text symbols s) old (fetch_asked s) between new (word_stages (insn_of word) word s) first
      (last ∙ ap (λ o. between ++ flat_map (stage_text symbols s) (word_stages o word s)) found.decoded))

  pub fetch-alone : FetchFaults (pending s.csrs (interrupts_of s.devices)) (fetch s)
      → new ≡ old ++ stage_text symbols s (fetch_asked s) → new ≡ old ++ stages_text symbols s
  unfolding stages_text stages_of
  fetch-alone faults last =
      rw (faults.uninterrupted, faults.fetched) (one_text (stage_text symbols s) old (fetch_asked s) new last)

  pub none-shown : pending_is_some s ≡ true → new ≡ old → new ≡ old ++ stages_text symbols s
  unfolding stages_text stages_of
  none-shown interrupted same = same ∙ none-at (pending s.csrs (interrupts_of s.devices)) interrupted
    where
      none-at : (p : Option Interrupt) → is_some p ≡ true → old ≡ old ++ flat_map (stage_text symbols s) (stages_unless p s)
      none-at (Some i) is = sym (append-nil old)
      none-at None is = cc

pub other-place : (symbols : List Symbol) (invokes : Bool) (last : Question) (s : State)
    → ((otherwise : Cause) (address size : ℕ) → last ≡ Multiple otherwise address size → ⊥)
    → ((otherwise : Cause) (address : ℕ) → last ≡ Ram otherwise address → ⊥)
    → ((otherwise : Cause) (address : ℕ) (size : Size) → last ≡ RamOrDevice otherwise address size → ⊥)
    → ((word : ℕ) → last ≡ Instruction word → ⊥)
    → codes "system register at " ++ labelled symbols (pc_of s) ≡ place_text symbols invokes last s
other-place symbols invokes (Right register what) s a b c d = refl
other-place symbols invokes (Bounds register address size) s a b c d = refl
other-place symbols invokes (Multiple otherwise address size) s a b c d = absurd (a otherwise address size refl)
other-place symbols invokes (Ram otherwise address) s a b c d = absurd (b otherwise address refl)
other-place symbols invokes (RamOrDevice otherwise address size) s a b c d = absurd (c otherwise address size refl)
other-place symbols invokes (Instruction word) s a b c d = absurd (d word refl)
other-place symbols invokes (SystemRegister word) s a b c d = refl
