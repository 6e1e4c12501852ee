use Rattle.std.proofs.Common.{◌≡◌, None, Some, ◌++◌, true, ap, subst, ◌∙◌}
use Rattle.tagged_memory.specs.Memory.{bytes_at, fill_fault, is_in_ram}
use Rattle.debugger.specs.Marked.{seen}
use Rattle.debugger.proofs.WatchedBytes.{are_inside, are_outside, marked_inside, marked_outside, seen_last}
use Rattle.debugger.proofs.marks.mark_bytes.Goals as goal

pub returns-in_default : goal.returns-in_default
returns-in_default g c =
    let m = c.args.machine.now.memory in
    let a = c.args.address in
    let n = c.args.count in
    let fault = c.in_default.field-0 in
    marked_outside (seen g.C.CapRep.value c.args.marks.now.items) m a n
    (are_outside m a n fault (subst (λ x. fill_fault x a n ≡ Some fault) c.memory.ensures.value c.in_default.ensures.which))

pub returns : goal.returns
returns g c =
    let value = g.C.CapRep.value in
    let m = c.args.machine.now.memory in
    let a = c.args.address in
    let n = c.args.count in
    let same = c.memory.ensures.value in
    let inside : is_in_ram m a n ≡ true =
    are_inside m a n (subst (λ x. fill_fault x a n ≡ None) same c.in-Ok.ensures.inside) in
    let kept : c.extend_from_slice.new.self.items ≡ bytes_at m a n = c.in_ok-extend_from_slice.ensures.items
    ∙ ap (λ l. l ++ c.in-Ok.bytes.now) c.new-kept.ensures.items ∙ c.in-Ok.ensures.value ∙ ap (λ x. bytes_at x a n) same in
    marked_inside (seen value c.args.marks.now.items) (seen value c.push.new.self.items) m a n c.extend_from_slice.new.self.items inside
    kept (ap (seen value) c.in_ok-push.ensures.items ∙ seen_last value c.args.marks.now.items _)
