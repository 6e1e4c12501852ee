use Rattle.std.proofs.Common.{◌≡◌, None, Some, not, ◌&&◌, length, true, sym, ap, subst, ◌∙◌}
use Rattle.std.specs.Prelude.{bytes_eq}
use Rattle.tagged_memory.specs.Memory.{bytes_at, fill_fault, is_in_ram}
use Rattle.debugger.proofs.WatchedBytes.{are_inside, are_outside}
use Rattle.debugger.proofs.marks.has_other_bytes.Goals as goal

pub returns-in-Ok : goal.returns-in-Ok
returns-in-Ok g c =
    let m = c.args.machine.now.memory in
    let a = c.args.address in
    let bytes = c.args.bytes.now in
    let n = length bytes in
    let same = c.memory.ensures.value in
    let inside : is_in_ram m a n ≡ true =
    are_inside m a n (subst (λ x. fill_fault x a n ≡ None) same c.in-Ok.ensures.inside) in
    c.ne.ensures ∙ ap (λ b. not (bytes_eq bytes b)) (c.in-Ok.ensures.value ∙ ap (λ x. bytes_at x a n) same)
    ∙ ap (λ b. b && not (bytes_eq bytes (bytes_at m a n))) (sym inside)

pub returns-in-Err : goal.returns-in-Err
returns-in-Err g c =
    let m = c.args.machine.now.memory in
    let a = c.args.address in
    let bytes = c.args.bytes.now in
    let n = length bytes in
    let fault = c.in-Err.field-0 in
    let outside = are_outside m a n fault (subst (λ x. fill_fault x a n ≡ Some fault) c.memory.ensures.value c.in-Err.ensures.which) in
    ap (λ b. b && not (bytes_eq bytes (bytes_at m a n))) (sym outside)
