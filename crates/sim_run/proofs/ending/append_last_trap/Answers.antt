use Rattle.std.proofs.Common.{◌≡◌, ◌++◌, true, ap, ap₂, sym, ◌∙◌}
use Rattle.std.proofs.lemmas.Result.{on_ok_weaker}
use Rattle.std.specs.Prelude.{codes, string_bytes}
use Rattle.cap_bounds.specs.CapValue.{value_address}
use Rattle.sim_run.specs.Ending.{is_trapped, last_trap, trap_part}
use Rattle.sim_run.proofs.ending.append_last_trap.Goals as goal

pub returns-then-is_trapped : goal.returns-then-is_trapped
unfolding last_trap
returns-then-is_trapped g c =
    let s = c.args.machine.now in
    let is : is_trapped s.csrs.mcause s.csrs.mtval ≡ true =
    ap₂ is_trapped (sym c.mcause-mcause.ensures) (sym c.mtval-mtval.ensures) ∙ sym c.is_trapped.ensures ∙ c.if-is_trapped.true in
    let part : c.as_str.result.now ≡ trap_part c.args.symbols.now s.csrs.mcause s.csrs.mtval (value_address s.scrs.mepcc) =
    c.as_str.ensures.value ∙ c.trap_part-part.ensures
    ∙ ap (λ m. trap_part c.args.symbols.now m c.mtval-mtval.result c.mepc.result) c.mcause-mcause.ensures
    ∙ ap (λ v. trap_part c.args.symbols.now s.csrs.mcause v c.mepc.result) c.mtval-mtval.ensures
    ∙ ap (λ a. trap_part c.args.symbols.now s.csrs.mcause s.csrs.mtval a) c.mepc.ensures in
    rw is
    (on_ok_weaker c.append.result (λ e. e ∙ ap (λ more. string_bytes c.args.text.now ++ (codes "; last trap: " ++ more)) part)
    c.append.ensures.bytes)
