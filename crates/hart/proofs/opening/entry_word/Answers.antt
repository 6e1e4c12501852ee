use Rattle.std.proofs.Common.{eqb, ap, ◌∙◌, arith}
use Rattle.base.specs.Bits.{bit}
use Rattle.cap_format.specs.Word.{with_field}
use Rattle.cap_bounds.specs.CapValue.{word_of}
use Rattle.cap_bounds.specs.SetBounds.{with_bounds}
use Rattle.hart.specs.OpeningLaws.{root-bounded, entry-encoded}
use Rattle.hart.proofs.opening.entry_word.Goals as goal

pub returns : goal.returns
returns g c =
    let e = c.args.entry in
    let bounds = ap (λ v. with_bounds v e.length) c.root_value-root.ensures ∙ root-bounded e (omega arith) (omega arith) (omega arith) in
    let word = c.word-word.ensures.value ∙ ap word_of (c.set_bounds.ensures.value ∙ bounds) in
    let allowed = c.with_perms.ensures ∙ ap (λ w. with_field w 112 16 e.perms) word in
    c.with_flag.ensures ∙ ap (λ w. with_field w 109 1 (bit (eqb e.flag 1))) allowed
    ∙ entry-encoded e (omega arith) (omega arith) (omega arith) (omega arith)
