-- What the text of each stage shows, and how the text of a step's stages ends where a condition is false.
use Rattle.std.proofs.Common.{◌≡◌, ℕ, ◌-◌, Bool, true, false, not, cond, List, [], ◌∷◌, ◌++◌, length, Option, Some, None, refl}
use Rattle.std.proofs.Common.{sym, ap, ◌∙◌, inl, inr, append-nil, append_assoc, arith}
use Rattle.std.specs.Prelude.{find, is_some, slice_get, codes}
use Rattle.std.specs.List.{flat_map}
use Rattle.std.specs.Option.{option_or}
use Rattle.std.proofs.lemmas.List.Folds.{find-append}
use Rattle.base.specs.declared.fault.Fault.{Fault}
use Rattle.cap_bounds.specs.CapValue.{value_address}
use Rattle.cap_checks.specs.Access.{stored_of}
use Rattle.cap_checks.specs.declared.access.Access.{Access}
use Rattle.cap_checks.specs.declared.access.Access.TheVariants as access
use Rattle.cap_checks.specs.declared.access.Stored.TheVariants as stored
use Rattle.cap_checks.specs.declared.question.Condition.{Condition}
use Rattle.cap_checks.specs.FirstFault.{jump_target, invoke_target}
use Rattle.cap_checks.specs.Question.{fault_of, first_false}
use Rattle.devices.specs.Devices.{interrupts_of}
use Rattle.special_regs.specs.Interrupts.{pending}
use Rattle.special_regs.specs.declared.interrupts.Interrupt.{Interrupt}
use Rattle.isa_rows.specs.declared.kinds.Kind.{Kind}
use Rattle.isa_rows.specs.declared.kinds.Kind.TheVariants as kind
use Rattle.isa_rows.specs.declared.operands.Insn.{Insn}
use Rattle.isa_rows.specs.Kind.{kind_of}
use Rattle.isa_rows.specs.Decoded.{insn_of}
use Rattle.registers.specs.Registers.{register}
use Rattle.steps.specs.Accesses.{size_of}
use Rattle.steps.specs.JumpRows.{link_asked, enter_asked, invoke_asked, jal_target, jalr_target}
use Rattle.steps.specs.Looks.{in_capability_mode}
use Rattle.steps.specs.MemoryRows.{place_of, authority_number_of, memory_asked}
use Rattle.steps.specs.State.{State, pc_of}
use Rattle.steps.specs.Step.{asked, fetch_asked, word_unless}
use Rattle.steps.specs.SystemRows.{csr_asked, special_asked, return_asked}
use Rattle.explain.specs.Asked.{decoding, insn_stages, word_stages, fetched_stages, stages_unless, stages_of, all_conditions}
use Rattle.text_laws.specs.Says.{word_here, Each}
use Rattle.text_laws.specs.Shown.{Begins, Has, place_line, sized, StageShows, EachStage, until_false, StagesShowWhatTheyAsk}
use Rattle.symbols.specs.Symbols.{Symbol}
use Rattle.explain.specs.WhyText.{capability_line, condition_line, condition_lines, stage_between, stage_text, stages_text}

module _ (symbols : List Symbol) where
  -- ---- where a stage asks, and which capabilities

  abbrev pub StageIsShown : State → List Condition → Type 0
  StageIsShown s stage = Each (λ q holds. StageShows symbols s (stage_text symbols s stage) q) stage

  -- a stage's text begins with the line of its place
  first-line : (what : List ℕ) (address : ℕ) (lines conditions : List ℕ)
      → Begins (place_line symbols what address ++ lines ++ conditions) (place_line symbols what address)
  first-line what address lines conditions = (lines ++ conditions, append_assoc (place_line symbols what address) lines conditions)

  -- and has each of its capabilities
  module _ (what : List ℕ) (address : ℕ) (before line after conditions : List ℕ) where
    by-line : place_line symbols what address ++ (before ++ line ++ after) ++ conditions
        ≡ place_line symbols what address ++ before ++ line ++ (after ++ conditions)
    by-line =
        let place : List ℕ = place_line symbols what address in
        ap (λ k. k ++ conditions) (sym (append_assoc place (before ++ line) after))
        ∙ append_assoc (place ++ (before ++ line)) after conditions
        ∙ ap (λ k. k ++ (after ++ conditions)) (sym (append_assoc place before line))

    begins-line : Begins (place_line symbols what address ++ (before ++ line ++ after) ++ conditions)
        (place_line symbols what address ++ before ++ line)
    begins-line = (after ++ conditions, by-line)

    has-line : Has (place_line symbols what address ++ (before ++ line ++ after) ++ conditions) line
    has-line = (place_line symbols what address ++ before, after ++ conditions, by-line)

  fetch-shows : (s : State) → StageIsShown s (fetch_asked s)
  unfolding stage_text
  fetch-shows s =
      let what : List ℕ = codes "fetch at " in
      let line : List ℕ = capability_line s 32 in
      let conditions : List ℕ = condition_lines symbols s (fetch_asked s) in (
        has-line what (pc_of s) [] line [] conditions,
        (tt, (tt, ((what, [], begins-line what (pc_of s) [] line [] conditions), (first-line what (pc_of s) (line ++ []) conditions, tt)))),
      )

  decoding-shows : (s : State) (b : Bool) (word : ℕ) → StageIsShown s (decoding b word)
  unfolding stage_text
  decoding-shows s b word = (first-line (codes "decoding at ") (pc_of s) [] (condition_lines symbols s (decoding b word)), tt)

  module _ (s : State) (insn : Insn) where
    memory-shows : (a : Access) → StageIsShown s (memory_asked a insn s)
    unfolding stage_text
    memory-shows (access.Load size) =
        let what : List ℕ = codes "load of " ++ sized size in
        let line : List ℕ = capability_line s (authority_number_of insn s) in
        let conditions : List ℕ = condition_lines symbols s (memory_asked (access.Load size) insn s) in
        let first = first-line what (place_of insn s) (line ++ []) conditions in
        let bounds = begins-line what (place_of insn s) [] line [] conditions in
        (has-line what (place_of insn s) [] line [] conditions, (tt, (tt, ((what, [], bounds), ((what, first), (first, tt))))))
    memory-shows (access.Store size) =
        let what : List ℕ = codes "store of " ++ sized size in
        let line : List ℕ = capability_line s (authority_number_of insn s) in
        let conditions : List ℕ = condition_lines symbols s (memory_asked (access.Store size) insn s) in
        let first = first-line what (place_of insn s) (line ++ []) conditions in
        let bounds = begins-line what (place_of insn s) [] line [] conditions in
        (has-line what (place_of insn s) [] line [] conditions, (tt, (tt, ((what, [], bounds), ((what, first), (first, tt))))))
    memory-shows access.LoadCapability =
        let what : List ℕ = codes "load of a capability at " in
        let line : List ℕ = capability_line s (authority_number_of insn s) in
        let conditions : List ℕ = condition_lines symbols s (memory_asked access.LoadCapability insn s) in
        let first = first-line what (place_of insn s) (line ++ []) conditions in
        let bounds = begins-line what (place_of insn s) [] line [] conditions in
        (has-line what (place_of insn s) [] line [] conditions, (tt, (tt, ((what, [], bounds), ((what, first), (first, tt))))))
    memory-shows (access.StoreCapability stored.Untagged) =
        let what : List ℕ = codes "store of a capability at " in
        let line : List ℕ = capability_line s (authority_number_of insn s) in
        let conditions : List ℕ = condition_lines symbols s (memory_asked (access.StoreCapability stored.Untagged) insn s) in
        let first = first-line what (place_of insn s) (line ++ []) conditions in
        let bounds = begins-line what (place_of insn s) [] line [] conditions in
        (has-line what (place_of insn s) [] line [] conditions, (tt, (tt, ((what, [], bounds), ((what, first), (first, tt))))))
    memory-shows (access.StoreCapability stored.Local) =
        let what : List ℕ = codes "store of a capability at " in
        let line : List ℕ = capability_line s (authority_number_of insn s) in
        let conditions : List ℕ = condition_lines symbols s (memory_asked (access.StoreCapability stored.Local) insn s) in
        let first = first-line what (place_of insn s) (line ++ []) conditions in
        let bounds = begins-line what (place_of insn s) [] line [] conditions in
        (has-line what (place_of insn s) [] line [] conditions, (tt, (tt, (tt, (tt, ((what, [], bounds), ((what, first), (first, tt))))))))
    memory-shows (access.StoreCapability stored.Global) =
        let what : List ℕ = codes "store of a capability at " in
        let line : List ℕ = capability_line s (authority_number_of insn s) in
        let conditions : List ℕ = condition_lines symbols s (memory_asked (access.StoreCapability stored.Global) insn s) in
        let first = first-line what (place_of insn s) (line ++ []) conditions in
        let bounds = begins-line what (place_of insn s) [] line [] conditions in
        (has-line what (place_of insn s) [] line [] conditions, (tt, (tt, (tt, ((what, [], bounds), ((what, first), (first, tt)))))))

    target-shows : (target : ℕ) → StageIsShown s (link_asked target s)
    unfolding stage_text
    target-shows target =
        let what : List ℕ = codes "jump to " in
        let line : List ℕ = capability_line s 32 in
        let conditions : List ℕ = condition_lines symbols s (link_asked target s) in
        let bounds : Begins (place_line symbols what target ++ line ++ conditions) (place_line symbols what target ++ [] ++ line) =
        (conditions, ap (λ k. k ++ line ++ conditions) (sym (append-nil (place_line symbols what target)))) in
        ((what, [], bounds), (inl (first-line what target line conditions), tt))

    taken-shows : (taken : Bool) (target : ℕ) → StageIsShown s (cond taken (link_asked target s) [])
    taken-shows true target = target-shows target
    taken-shows false target = tt

    enter-shows : StageIsShown s (enter_asked insn s)
    unfolding stage_text
    enter-shows =
        let target : ℕ = jump_target (value_address (register s.registers insn.rs1)) insn.imm in
        let what : List ℕ = codes "jump to " in
        let line : List ℕ = capability_line s insn.rs1 in
        let conditions : List ℕ = condition_lines symbols s (enter_asked insn s) in (
          has-line what target [] line [] conditions,
          (
            tt,
            (tt, ((what, [], begins-line what target [] line [] conditions), (inl (first-line what target (line ++ []) conditions), tt))),
          ),
        )

    jalr-shows : (b : Bool) → StageIsShown s (cond b (enter_asked insn s) (link_asked (jalr_target insn s) s))
    jalr-shows true = enter-shows
    jalr-shows false = target-shows (jalr_target insn s)

    invoke-shows : StageIsShown s (invoke_asked insn s)
    unfolding stage_text
    invoke-shows =
        let target : ℕ = invoke_target (register s.registers insn.rs1) in
        let what : List ℕ = codes "invocation of " in
        let code : List ℕ = capability_line s insn.rs1 in
        let datum : List ℕ = capability_line s insn.rs2 in
        let conditions : List ℕ = condition_lines symbols s (invoke_asked insn s) in
        let of_datum = has-line what target code datum [] conditions in (
          has-line what target [] code (datum ++ []) conditions,
          (
            (
              of_datum.0,
              of_datum.1,
              ap (λ k. place_line symbols what target ++ k ++ conditions) (sym (append_assoc code datum [])) ∙ of_datum.2,
            ),
            (
              tt,
              (
                tt,
                (
                  tt,
                  (
                    tt,
                    (
                      tt,
                      (
                        tt,
                        (
                          tt,
                          (
                            (what, [], begins-line what target [] code (datum ++ []) conditions),
                            (inr (first-line what target (code ++ (datum ++ [])) conditions), tt),
                          ),
                        ),
                      ),
                    ),
                  ),
                ),
              ),
            ),
          ),
        )

    -- of a system register, by PCC
    system-shows : (stage : List Condition) → Begins (place_line symbols (codes "system register at ") (pc_of s) ++ capability_line s 32
        ++ condition_lines symbols s stage) (place_line symbols (codes "system register at ") (pc_of s) ++ capability_line s 32)
    system-shows stage = (condition_lines symbols s stage, refl)

    kind-shows : (k : Kind) (word : ℕ) → StageIsShown s (asked k word insn s)
    unfolding asked stage_text
    kind-shows kind.Branch word = taken-shows _ (jump_target (pc_of s) insn.imm)
    kind-shows kind.Jal word = target-shows (jal_target insn s)
    kind-shows kind.Jalr word = jalr-shows (in_capability_mode s)
    kind-shows kind.JalrCap word = enter-shows
    kind-shows kind.Invoke word = invoke-shows
    kind-shows kind.Load word = memory-shows (access.Load (size_of insn.row))
    kind-shows kind.Store word = memory-shows (access.Store (size_of insn.row))
    kind-shows kind.LoadCapability word = memory-shows access.LoadCapability
    kind-shows kind.StoreCapability word = memory-shows (access.StoreCapability (stored_of (register s.registers insn.rs2)))
    kind-shows kind.Csr word =
        let shows = system-shows (csr_asked word insn s) in
        (shows, (shows, tt))
    kind-shows kind.SpecialRw word =
        let shows = system-shows (special_asked word insn s) in
        (shows, (shows, tt))
    kind-shows kind.Mret word = (system-shows (return_asked word s), tt)
    kind-shows _ word = tt

  insn-shows : (s : State) (found : Option Insn) (word : ℕ) → EachStage (StageIsShown s) (insn_stages found word s)
  insn-shows s (Some insn) word = (kind-shows s insn (kind_of insn.row) word, tt)
  insn-shows s None word = tt

  fetched-shows : (s : State) (f : Option Fault) → EachStage (StageIsShown s) (fetched_stages (word_unless f s) s)
  fetched-shows s None =
      (decoding-shows s (is_some (insn_of (word_here s))) (word_here s), insn-shows s (insn_of (word_here s)) (word_here s))
  fetched-shows s (Some fault) = tt

  unless-shows : (s : State) (p : Option Interrupt) → EachStage (StageIsShown s) (stages_unless p s)
  unless-shows s None = (fetch-shows s, fetched-shows s (first_false (fetch_asked s)))
  unless-shows s (Some interrupt) = tt

  -- ---- the end of the text

  -- a text that ends with another
  abbrev pub EndsWith : List ℕ → List ℕ → Type 0
  EndsWith text last = (before : List ℕ) × (text ≡ before ++ last)

  ends-after : (first text last : List ℕ) → EndsWith text last → EndsWith (first ++ text) last
  ends-after first text last ends = (first ++ ends.0, ap (λ k. first ++ k) ends.1 ∙ sym (append_assoc first ends.0 last))

  -- a condition is false
  abbrev pub is_false : Condition → Bool
  is_false c = not c.holds

  conditions-end : (s : State) (c : Condition) (cs : List Condition) → find is_false cs ≡ Some c
      → EndsWith (condition_lines symbols s cs) (condition_line symbols s c)
  conditions-end s c [] found = cc
  conditions-end s c (d ∷ cs) found =
      elim d.holds as
      (λ b. cond (not b) (Some d) (find is_false cs) ≡ Some c
      → EndsWith (condition_line symbols s d ++ cond b (condition_lines symbols s cs) []) (condition_line symbols s c)) [
        | true ↦ λ e. ends-after (condition_line symbols s d) (condition_lines symbols s cs) (condition_line symbols s c)
            (conditions-end s c cs e)
        | false ↦ λ e. let same : d ≡ c = cc in ([], append-nil (condition_line symbols s d) ∙ ap (condition_line symbols s) same)
      ] found

  -- a list has a last element
  last-of : (d : Condition) (cs : List Condition) → (last : Condition) × (slice_get (d ∷ cs) (length cs) ≡ Some last)
  last-of d [] = (d, refl)
  last-of d (e ∷ cs) = last-of e cs

  between-ends : (s : State) (d last c : Condition) (o : Option Condition) (cs : List Condition) → o ≡ Some last → find is_false cs ≡ Some c
      → EndsWith (stage_between symbols (Some d) o cs s) (condition_line symbols s c)
  between-ends s d last c (Some it) cs is found =
      ends-after _ (condition_lines symbols s cs) (condition_line symbols s c) (conditions-end s c cs found)
  between-ends s d last c None cs is found = cc

  stage-ends : (s : State) (c : Condition) (cs : List Condition) → find is_false cs ≡ Some c
      → EndsWith (stage_text symbols s cs) (condition_line symbols s c)
  unfolding stage_text
  stage-ends s c [] found = cc
  stage-ends s c (d ∷ cs) found =
      let last = last-of d cs in
      let place : length (d ∷ cs) - 1 ≡ length cs = omega arith in
      between-ends s d last.0 c (slice_get (d ∷ cs) (length (d ∷ cs) - 1)) (d ∷ cs) (ap (slice_get (d ∷ cs)) place ∙ last.1) found

  -- where no condition has a fault, none is false
  none-false : (cs : List Condition) → first_false cs ≡ None → find is_false cs ≡ None
  none-false [] none = refl
  none-false (d ∷ cs) none =
      elim d.holds as
      (λ b. cond b (first_false cs) (Some (fault_of d.question)) ≡ None → cond (not b) (Some d) (find is_false cs) ≡ None) [
        | true ↦ λ e. none-false cs e
        | false ↦ λ e. cc
      ] none

  -- the condition that is false stands in the last of two lists
  in-last : (c : Condition) (first last : List Condition) → find is_false first ≡ None → find is_false (first ++ last) ≡ Some c
      → find is_false last ≡ Some c
  in-last c first last none found = ap (λ o. option_or o (find is_false last)) (sym none) ∙ sym (find-append is_false first last) ∙ found

  abbrev texts : State → List (List Condition) → List ℕ
  texts s stages = flat_map (stage_text symbols s) stages

  one-ends : (s : State) (c : Condition) (stage : List Condition) → find is_false (stage ++ []) ≡ Some c
      → EndsWith (texts s (stage ∷ [])) (condition_line symbols s c)
  one-ends s c stage found =
      let ends = stage-ends s c stage (ap (find is_false) (sym (append-nil stage)) ∙ found) in
      (ends.0, append-nil (stage_text symbols s stage) ∙ ends.1)

  found-ends : (s : State) (c : Condition) (found : Option Insn) (word : ℕ)
      → find is_false (all_conditions (word_stages found word s)) ≡ Some c
      → EndsWith (texts s (word_stages found word s)) (condition_line symbols s c)
  found-ends s c (Some insn) word is =
      ends-after (stage_text symbols s (decoding true word)) _ (condition_line symbols s c)
      (one-ends s c (asked (kind_of insn.row) word insn s) is)
  found-ends s c None word is = one-ends s c (decoding false word) is

  fetched-ends : (s : State) (c : Condition) (f : Option Fault) → first_false (fetch_asked s) ≡ f
      → find is_false (all_conditions (fetch_asked s ∷ fetched_stages (word_unless f s) s)) ≡ Some c
      → EndsWith (texts s (fetch_asked s ∷ fetched_stages (word_unless f s) s)) (condition_line symbols s c)
  fetched-ends s c None none found =
      ends-after (stage_text symbols s (fetch_asked s)) _ (condition_line symbols s c)
      (found-ends s c (insn_of (word_here s)) (word_here s) (in-last c (fetch_asked s)
      (all_conditions (word_stages (insn_of (word_here s)) (word_here s) s)) (none-false (fetch_asked s) none) found))
  fetched-ends s c (Some fault) some found = one-ends s c (fetch_asked s) found

  unless-ends : (s : State) (c : Condition) (p : Option Interrupt) → find is_false (all_conditions (stages_unless p s)) ≡ Some c
      → EndsWith (texts s (stages_unless p s)) (condition_line symbols s c)
  unless-ends s c None found = fetched-ends s c (first_false (fetch_asked s)) refl found
  unless-ends s c (Some interrupt) found = cc

  pub text-ends : (s : State) (c : Condition) → find is_false (all_conditions (stages_of s)) ≡ Some c
      → EndsWith (stages_text symbols s) (condition_line symbols s c)
  unfolding stages_of stages_text
  text-ends s c found = unless-ends s c (pending s.csrs (interrupts_of s.devices)) found

  -- ---- the lines of each stage

  lines-until_false : (s : State) (cs : List Condition)
      → condition_lines symbols s cs ≡ flat_map (condition_line symbols s) (until_false cs)
  lines-until_false s [] = refl
  lines-until_false s (c ∷ cs) =
      elim c.holds as
      (λ b. condition_line symbols s c ++ cond b (condition_lines symbols s cs) []
      ≡ condition_line symbols s c ++ flat_map (condition_line symbols s) (cond b (until_false cs) [])) [
        | true ↦ ap (λ k. condition_line symbols s c ++ k) (lines-until_false s cs)
        | false ↦ refl
      ]

  between-lines : (s : State) (d last : Condition) (o : Option Condition) (cs : List Condition) → o ≡ Some last
      → EndsWith (stage_between symbols (Some d) o cs s) (flat_map (condition_line symbols s) (until_false cs))
  between-lines s d last (Some it) cs is =
      ends-after _ (condition_lines symbols s cs) (flat_map (condition_line symbols s) (until_false cs)) ([], lines-until_false s cs)
  between-lines s d last None cs is = cc

  stage-lines : (s : State) (cs : List Condition)
      → EndsWith (stage_text symbols s cs) (flat_map (condition_line symbols s) (until_false cs))
  unfolding stage_text
  stage-lines s [] = ([], refl)
  stage-lines s (d ∷ cs) =
      let last = last-of d cs in
      let place : length (d ∷ cs) - 1 ≡ length cs = omega arith in
      between-lines s d last.0 (slice_get (d ∷ cs) (length (d ∷ cs) - 1)) (d ∷ cs) (ap (slice_get (d ∷ cs)) place ∙ last.1)

  each-lines : (s : State) (stages : List (List Condition)) → EachStage (StageIsShown s) stages
      → EachStage (λ stage. StageIsShown s stage
      × EndsWith (stage_text symbols s stage) (flat_map (condition_line symbols s) (until_false stage))) stages
  each-lines s [] shown = tt
  each-lines s (stage ∷ stages) shown = ((shown.0, stage-lines s stage), each-lines s stages shown.1)

  pub stages-show_of : (s : State) → (stages_text symbols s ≡ flat_map (stage_text symbols s) (stages_of s))
      × EachStage (λ stage. StageIsShown s stage × EndsWith (stage_text symbols s stage)
      (flat_map (condition_line symbols s) (until_false stage))) (stages_of s)
  unfolding stages_of stages_text
  stages-show_of s = (refl, each-lines s (stages_of s) (unless-shows s (pending s.csrs (interrupts_of s.devices))))

pub stages-show : StagesShowWhatTheyAsk
stages-show symbols s = stages-show_of symbols s
