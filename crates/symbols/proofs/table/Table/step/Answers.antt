use Rattle.std.proofs.Common.{◌≡◌, ◌-◌, ◌<◌, ◌≤◌, Option, Some, None, length, sym, ◌∙◌, arith}
use Rattle.std.specs.Prelude.{slice_get, IfNone}
use Rattle.symbols.specs.Places.{later_of}
use Rattle.symbols.proofs.LaterLemmas.{later_length, names_past, names_step, none_past}
use Rattle.symbols.proofs.table.Table.step.Goals as goal

pub returns-clause-some : goal.returns-clause-some
returns-clause-some c =
    let symbols = c.self.inside.entries.items in
    let n = c.args.left in
    let s = c.in_ok-symbol.symbol.now in
    let known = c.in_ok-next.ensures.some in
    let at : slice_get symbols (length symbols - n) ≡ Some s =
    sym (rw (c.in_ok-symbol.was, c.deref-2.ensures.value) at c.from_end.ensures) in
    let later = rw (c.deref.ensures.value ∙ c.self.inside.linked) at known.1 in
    rw (sym c.self.view_is) (names_step symbols n s c.in_ok-next.next at known.0 later)

whatever : {A : Type 0} (o : Option A) (P : Type 0) → P → IfNone o P
whatever None P h = h
whatever (Some x) P h = tt

pub returns-in_err-next-clause-none : goal.returns-in_err-next-clause-none
returns-in_err-next-clause-none c =
    let symbols = c.self.inside.entries.items in
    let past : 1 ≤ c.args.left → length (later_of symbols) < c.args.left =
    rw (c.deref.ensures.value ∙ c.self.inside.linked) at c.in_err-next.ensures.none in
    let nothing = names_past symbols c.args.left (λ some. omega (arith, past some, later_length symbols)) in
    whatever c.from_residual.result _ (rw (sym c.self.view_is) nothing)

pub returns-in_err-symbol-clause-none : goal.returns-in_err-symbol-clause-none
returns-in_err-symbol-clause-none c =
    let symbols = c.self.inside.entries.items in
    let known = c.in_ok-next.ensures.some in
    let none : slice_get symbols (length symbols - c.args.left) ≡ None =
    sym (rw (c.in_err-symbol.was, c.deref-2.ensures.value) at c.from_end.ensures) in
    let later = rw (c.deref.ensures.value ∙ c.self.inside.linked) at known.1 in
    let nothing = none_past symbols c.args.left c.in_ok-next.next none known.0 later in
    whatever c.from_residual-in_err-symbol.result _ (rw (sym c.self.view_is) nothing)
