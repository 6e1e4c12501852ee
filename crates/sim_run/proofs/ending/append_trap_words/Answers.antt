use Rattle.std.proofs.Common.{◌≡◌, ℕ, List, ◌++◌, ap, ◌∙◌}
use Rattle.std.proofs.lemmas.Result.{on_ok_weaker}
use Rattle.std.specs.Prelude.{codes, decimal, string_bytes}
use Rattle.steps.specs.State.{pc_of}
use Rattle.explain.specs.WhyText.{failed_line}
use Rattle.sim_run.specs.Ending.{trap_part}
use Rattle.sim_run.proofs.LeftTraps.{told-trap}
use Rattle.sim_run.proofs.Texts.{text_on}
use Rattle.sim_run.proofs.ending.append_trap_words.Goals as goal

pub returns : goal.returns
returns g c =
    let s = c.args.machine.now in
    let old = string_bytes c.args.text.now in
    let f = c.args.fault in
    let told : ℕ → List ℕ = λ mepc. trap_part c.args.symbols.now f.mcause f.mtval mepc ++ codes ", step "
    ++ decimal c.args.number ++ codes "\n" in
    let first : string_bytes c.append_trap.new.text ≡ old ++ told (pc_of s) =
    c.in_ok-append_trap.ensures ∙ ap (λ mepc. old ++ told mepc) c.pc.ensures in
    on_ok_weaker c.put_failed.result
    (λ e. text_on old (string_bytes c.append_trap.new.text) (string_bytes c.put_failed.new.text) (told (pc_of s))
    (failed_line c.args.symbols.now s) first
    (e ∙ ap (λ h. string_bytes c.append_trap.new.text ++ failed_line c.args.symbols.now h) c.hart.ensures.value)
    ∙ ap (λ more. old ++ more) (told-trap s c.requires.running c.args.symbols.now f c.args.number c.requires.traps))
    c.put_failed.ensures
