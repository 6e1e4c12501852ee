use Rattle.std.proofs.Common.{◌↔◌, IsTrue, nat_eq, rules}
use Rattle.cap_bounds.specs.SetAddress.{KeepsBounds}
use Rattle.cap_bounds.specs.RecordLaws.{keeps_bounds-in_window}
use Rattle.cap_bounds.proofs.words.representable.Goals as goal

pub returns-then-base-clause-window : goal.returns-then-base-clause-window
returns-then-base-clause-window c well =
    let kept : IsTrue (nat_eq c.top.result c.top-then-base.result) ↔ KeepsBounds c.args.word c.args.address = search rules in
    let inside = keeps_bounds-in_window c.args.word c.args.address well c.ranges.address.fits in
    (λ t. inside.1 (kept.0 t), λ holds. kept.1 (inside.0 holds))

pub returns-else-base-clause-window : goal.returns-else-base-clause-window
returns-else-base-clause-window c well =
    let kept : IsTrue (nat_eq c.base.result c.base-2.result) ↔ KeepsBounds c.args.word c.args.address = search rules in
    let inside = keeps_bounds-in_window c.args.word c.args.address well c.ranges.address.fits in
    (λ t. inside.1 (kept.0 t), λ holds. kept.1 (inside.0 holds))
