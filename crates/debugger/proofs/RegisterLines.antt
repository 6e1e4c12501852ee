-- The lines of the registers from one on are its own and those from the next on.
use Rattle.std.proofs.Common.{◌≡◌, ℕ, ◌+◌, ◌<◌, List, [], ◌∷◌, ◌++◌, get_or, drop, ap, sym, ◌∙◌, add-one, drop-cons, append_assoc}
use Rattle.std.specs.Prelude.{true}
use Rattle.std.proofs.lemmas.Option.{slice_get-get_or}
use Rattle.steps.specs.State.{State}
use Rattle.registers.specs.Registers.{register}
use Rattle.asm_names.specs.Registers.{capability_names, register_name}
use Rattle.disassembler.specs.Shown.{name_or}
use Rattle.explain.specs.ValueText.{value_line}
use Rattle.debugger.specs.Lines.{register_line}
use Rattle.debugger.specs.Reply.{register_lines}

pub register_step : (s : State) (n : ℕ) → n < 32
    → register_lines s n (drop n capability_names) ≡ register_line s n ++ register_lines s (n + 1) (drop (n + 1) capability_names)
register_step s n below =
    let first : drop n capability_names ≡ get_or capability_names n [] ∷ drop (n + 1) capability_names =
    rw add-one (drop-cons capability_names n [] below) in
    let name : name_or [] (register_name true n) ≡ get_or capability_names n [] =
    ap (name_or []) (slice_get-get_or capability_names n [] below) in
    ap (register_lines s n) first
    ∙ ap (λ text. value_line text (register s.registers n) ++ register_lines s (n + 1) (drop (n + 1) capability_names)) (sym name)

-- a text with the line of one register, and then the lines of the others
pub register_lines_from : (s : State) (n : ℕ) (old mid new : List ℕ) → n < 32 → mid ≡ old ++ register_line s n
    → new ≡ mid ++ register_lines s (n + 1) (drop (n + 1) capability_names) → new ≡ old ++ register_lines s n (drop n capability_names)
register_lines_from s n old mid new below one others =
    others ∙ ap (λ text. text ++ register_lines s (n + 1) (drop (n + 1) capability_names)) one
    ∙ append_assoc old (register_line s n) (register_lines s (n + 1) (drop (n + 1) capability_names))
    ∙ ap (λ lines. old ++ lines) (sym (register_step s n below))
