-- What is shown, by what the conditions say.
use Rattle.std.proofs.Common.{◌≡◌, ℕ, ◌+◌, ◌*◌, ◌/◌, ◌%◌, ◌<◌, Bool, true, false, not, cond, eqb, List, [], ◌∷◌, ◌++◌, Option, Some, None}
use Rattle.std.proofs.Common.{refl, sym, ap, ◌∙◌, arith, lit<}
use Rattle.std.specs.Prelude.{IsSome, find, codes}
use Rattle.base.specs.declared.cause.Cause.{Cause}
use Rattle.base.specs.declared.cause.CheriCause.{CheriCause}
use Rattle.base.specs.declared.cause.CheriCause.TheVariants as forbids
use Rattle.base.specs.Fault.{cheri_number_of, fault, cheri}
use Rattle.cap_checks.specs.declared.question.Condition.{Condition}
use Rattle.cap_checks.specs.declared.question.Question.{Question}
use Rattle.cap_checks.specs.declared.question.Question.TheVariants.{Right, Bounds, Multiple, Ram, RamOrDevice, Instruction, SystemRegister}
use Rattle.cap_checks.specs.Question.{fault_of, first_false}
use Rattle.devices.specs.Devices.{interrupts_of}
use Rattle.special_regs.specs.Interrupts.{pending}
use Rattle.special_regs.specs.declared.interrupts.Interrupt.{Interrupt}
use Rattle.asm_names.specs.SpecialNames.{csr_name, scr_name}
use Rattle.texts.specs.Hex.{hex_of}
use Rattle.disassembler.specs.Shown.{name_or}
use Rattle.symbols.specs.Symbols.{Symbol}
use Rattle.isa_rows.specs.declared.operands.Insn.{Insn}
use Rattle.isa_rows.specs.declared.kinds.Kind.{Kind}
use Rattle.isa_rows.specs.Kind.{kind_of}
use Rattle.isa_rows.specs.Decoded.{insn_of}
use Rattle.steps.specs.declared.effect.Effect.TheVariants.{Trap}
use Rattle.steps.specs.Looks.{unless_fault}
use Rattle.steps.specs.State.{State}
use Rattle.steps.specs.Step.{fetch}
use Rattle.asm_names.specs.TrapNames.{cause_name, cheri_cause_name, cheri_asked_name, register_at_fault}
use Rattle.explain.specs.EffectText.{violation_names, taken, trap_entry}
use Rattle.explain.specs.Asked.{stages_unless, stages_of, all_conditions, done_by_word, effect_unless}
use Rattle.explain.specs.AskedLaws.{traps-by_its_stages}
use Rattle.text_laws.specs.StageLaws.{text-ends}
use Rattle.text_laws.specs.Says.{held, lies_in, word_here, FetchSays, InsnSays, Each, InsnStageSays, StagesSay}
use Rattle.text_laws.specs.SaysLaws.{held-shown, each-append, conditions-say}
use Rattle.text_laws.specs.Shown.{RegistersAreShown, LineSays, LinesSayWhatIsHeld, trap_by, TrapsByTheShown}
use Rattle.explain.specs.WhyText.{name_text, bounds_text, multiple_text, mark, question_text, condition_line, register_text, fields_text}

-- mtval of a CHERI exception, taken apart
entry-parts : (r k : ℕ) → k < 32 → ((32 * r + k) % 32 ≡ k) × ((32 * r + k) / 32 ≡ r)
entry-parts r k small = (omega arith, omega arith)

named-entry : (what : CheriCause) (o : Option (List ℕ)) → IsSome o
    → violation_names (cheri_cause_name (cheri_number_of what)) o
    ≡ name_or [] (cheri_cause_name (cheri_number_of what)) ++ codes " at " ++ name_or [] o ++ codes ", "
unfolding cheri_cause_name
named-entry what None is = cc
named-entry forbids.Length (Some name) is = refl
named-entry forbids.Tag (Some name) is = refl
named-entry forbids.Seal (Some name) is = refl
named-entry forbids.Type (Some name) is = refl
named-entry forbids.Execute (Some name) is = refl
named-entry forbids.Load (Some name) is = refl
named-entry forbids.Store (Some name) is = refl
named-entry forbids.StoreCapability (Some name) is = refl
named-entry forbids.StoreLocalCapability (Some name) is = refl
named-entry forbids.AccessSystemRegisters (Some name) is = refl
named-entry forbids.CInvoke (Some name) is = refl

cheri-small : (what : CheriCause) → cheri_number_of what < 32
cheri-small forbids.Length = lit< tt
cheri-small forbids.Tag = lit< tt
cheri-small forbids.Seal = lit< tt
cheri-small forbids.Type = lit< tt
cheri-small forbids.Execute = lit< tt
cheri-small forbids.Load = lit< tt
cheri-small forbids.Store = lit< tt
cheri-small forbids.StoreCapability = lit< tt
cheri-small forbids.StoreLocalCapability = lit< tt
cheri-small forbids.AccessSystemRegisters = lit< tt
cheri-small forbids.CInvoke = lit< tt

entry-named : (r : ℕ) (what : CheriCause) → IsSome (register_at_fault r)
    → trap_entry (record { mcause = 28; mtval = 32 * r + cheri_number_of what })
    ≡ codes "trap CHERI exception, "
    ++ (name_or [] (cheri_cause_name (cheri_number_of what)) ++ codes " at " ++ register_text r ++ codes ", ")
    ++ codes "mcause " ++ hex_of 16 28 ++ codes ", mtval " ++ hex_of 16 (32 * r + cheri_number_of what)
unfolding taken cause_name
entry-named r what is =
    let mtval : ℕ = 32 * r + cheri_number_of what in
    let both = entry-parts r (cheri_number_of what) (cheri-small what) in
    ap (λ k. codes "trap CHERI exception, " ++ k ++ codes "mcause " ++ hex_of 16 28 ++ codes ", mtval " ++ hex_of 16 mtval)
    (ap (λ n. violation_names (cheri_cause_name n) (register_at_fault (mtval / 32))) both.0
    ∙ ap (λ n. violation_names (cheri_cause_name (cheri_number_of what)) (register_at_fault n)) both.1
    ∙ named-entry what (register_at_fault r) is)

pub registers-shown : RegistersAreShown
unfolding register_at_fault scr_name csr_name
registers-shown = (
  refl,
  refl,
  held-shown,
  λ s n. ap (λ v. codes "  " ++ register_text n ++ codes " " ++ fields_text v ++ codes "\n") (held-shown s n),
  (refl, refl, refl, entry-named),
)

-- ---- lines

line-bounds : (symbols : List Symbol) (s : State) (r address size : ℕ) (b : Bool) → b ≡ lies_in (held s r) address size
    → LineSays symbols s (Bounds r address size) b
unfolding condition_line question_text cheri_asked_name
line-bounds symbols s r address size b says =
    ap (λ v. mark b ++ (name_text r forbids.Length ++ bounds_text symbols address size v) ++ codes "\n") (held-shown s r)
    ∙ ap (λ b. mark b ++ (name_text r forbids.Length ++ bounds_text symbols address size (held s r)) ++ codes "\n") says

line-right : (symbols : List Symbol) (s : State) (r : ℕ) (what : CheriCause) (b : Bool) → LineSays symbols s (Right r what) b
unfolding condition_line question_text
line-right symbols s r what b = refl

line-multiple : (symbols : List Symbol) (s : State) (otherwise : Cause) (address size : ℕ) (b : Bool) → b ≡ eqb (address % size) 0
    → LineSays symbols s (Multiple otherwise address size) b
unfolding condition_line question_text
line-multiple symbols s otherwise address size b says = ap (λ b. mark b ++ multiple_text symbols size address ++ codes "\n") says

line-of_pcc : (symbols : List Symbol) (s : State) (r address size : ℕ) (b : Bool) → r ≡ 32 → b ≡ lies_in s.scrs.pcc address size
    → LineSays symbols s (Bounds r address size) b
line-of_pcc symbols s r address size b is says =
    line-bounds symbols s r address size b (says ∙ ap (λ n. lies_in (held s n) address size) (sym is))

line-fetch : (symbols : List Symbol) (s : State) (q : Question) (b : Bool) → FetchSays s q b → LineSays symbols s q b
unfolding condition_line question_text
line-fetch symbols s (Bounds r address size) b says = line-of_pcc symbols s r address size b says.0 says.3
line-fetch symbols s (Multiple otherwise address size) b says = absurd says
line-fetch symbols s (Right r what) b says = line-right symbols s r what b
line-fetch symbols s (Ram otherwise address) b says = refl
line-fetch symbols s (RamOrDevice otherwise address size) b says = refl
line-fetch symbols s (Instruction word) b says = refl
line-fetch symbols s (SystemRegister word) b says = refl

line-insn : (symbols : List Symbol) (s : State) (k : Kind) (insn : Insn) (q : Question) (b : Bool) → InsnSays s k insn q b
    → LineSays symbols s q b
unfolding condition_line question_text
line-insn symbols s k insn (Bounds r address size) b says = line-bounds symbols s r address size b says.3
line-insn symbols s k insn (Multiple otherwise address size) b says = line-multiple symbols s otherwise address size b says.2
line-insn symbols s k insn (Right r what) b says = line-right symbols s r what b
line-insn symbols s k insn (Ram otherwise address) b says = refl
line-insn symbols s k insn (RamOrDevice otherwise address size) b says = refl
line-insn symbols s k insn (Instruction word) b says = refl
line-insn symbols s k insn (SystemRegister word) b says = refl

each-so : (P Q : Question → Bool → Type 0) → ((q : Question) (b : Bool) → P q b → Q q b) → (cs : List Condition) → Each P cs → Each Q cs
each-so P Q so [] all = tt
each-so P Q so (c ∷ cs) all = (so c.question c.holds all.0, each-so P Q so cs all.1)

lines-insn : (symbols : List Symbol) (s : State) (found : Option Insn) (stages : List (List Condition)) → InsnStageSays found s stages
    → Each (LineSays symbols s) (all_conditions stages)
lines-insn symbols s (Some insn) [] says = absurd says
lines-insn symbols s (Some insn) (stage ∷ []) says =
    each-append (LineSays symbols s) stage [] (each-so _ (LineSays symbols s) (line-insn symbols s (kind_of insn.row) insn) stage says) tt
lines-insn symbols s (Some insn) (stage ∷ other ∷ stages) says = absurd says
lines-insn symbols s None [] says = tt
lines-insn symbols s None (stage ∷ stages) says = absurd says

lines-stages : (symbols : List Symbol) (s : State) (stages : List (List Condition)) → StagesSay s stages
    → Each (LineSays symbols s) (all_conditions stages)
lines-stages symbols s [] says = tt
lines-stages symbols s (first ∷ []) says =
    each-append (LineSays symbols s) first [] (each-so _ (LineSays symbols s) (line-fetch symbols s) first says) tt
lines-stages symbols s (first ∷ second ∷ stages) says =
    each-append (LineSays symbols s) first _ (each-so _ (LineSays symbols s) (line-fetch symbols s) first says.0)
    (each-append (LineSays symbols s) second _ (each-so _ (LineSays symbols s) (line-fetch symbols s) second says.1)
    (lines-insn symbols s (insn_of (word_here s)) stages says.2))

pub lines-say : LinesSayWhatIsHeld
lines-say symbols s = lines-stages symbols s (stages_of s) (conditions-say s)

-- ---- the trap

-- the first false condition's fault is the first
false-first : (c : Condition) (cs : List Condition) → find (λ c. not c.holds) cs ≡ Some c → first_false cs ≡ Some (fault_of c.question)
false-first c [] found = cc
false-first c (d ∷ cs) found =
    elim d.holds as
    (λ b. cond (not b) (Some d) (find (λ c. not c.holds) cs) ≡ Some c
    → cond b (first_false cs) (Some (fault_of d.question)) ≡ Some (fault_of c.question)) [
      | true ↦ λ e. false-first c cs e
      | false ↦ λ e. let same : d ≡ c = cc in ap (λ x. Some (fault_of x.question)) same
    ] found

trap-by : (q : Question) → Trap (fault_of q) ≡ trap_by q
unfolding fault cheri
trap-by (Right r what) = refl
trap-by (Bounds r address size) = refl
trap-by (Multiple otherwise address size) = refl
trap-by (Ram otherwise address) = refl
trap-by (RamOrDevice otherwise address size) = refl
trap-by (Instruction word) = refl
trap-by (SystemRegister word) = refl

unless-traps : (p : Option Interrupt) (s : State) (c : Condition) → pending s.csrs (interrupts_of s.devices) ≡ p
    → find (λ c. not c.holds) (all_conditions (stages_unless p s)) ≡ Some c → effect_unless p s ≡ trap_by c.question
unfolding stages_of
unless-traps (Some interrupt) s c is found = cc
unless-traps None s c is found =
    let all : List Condition = all_conditions (stages_unless None s) in
    ap (λ p. unless_fault (first_false (all_conditions (stages_unless p s))) (done_by_word (fetch s) s)) is
    ∙ ap (λ f. unless_fault f (done_by_word (fetch s) s)) (false-first c all found)
    ∙ trap-by c.question

pub traps-by_the_shown : TrapsByTheShown
unfolding stages_of
traps-by_the_shown symbols s c found = (
  traps-by_its_stages s ∙ unless-traps (pending s.csrs (interrupts_of s.devices)) s c refl found,
  text-ends symbols s c found,
)
