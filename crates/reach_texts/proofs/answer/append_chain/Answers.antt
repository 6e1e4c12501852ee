use Rattle.std.proofs.Common.{◌++◌, arith, ap, ◌∙◌}
use Rattle.std.specs.Prelude.{codes, string_bytes}
use Rattle.reached.specs.Order.{seen_members}
use Rattle.reach_texts.specs.Text.{place_at}
use Rattle.reach_texts.proofs.RangeLines.{after_line}
use Rattle.reach_texts.proofs.answer.append_chain.Goals as goal

pub loop-number-preserved : goal.loop-number-preserved
loop-number-preserved g c =
    after_line (λ n. codes " -> " ++ place_at c.args.symbols.now c.args.doors.now (seen_members g.C.CapRep.value c.args.members.now) n)
    c.in-Some.later.now c.loop-number.number-index _ _ _ _ (omega arith)
    (c.in_ok-append-2.ensures.bytes
    ∙ ap (λ place. string_bytes c.loop-number.text ++ (codes " -> " ++ place))
    (c.as_str-in-loop-number.ensures.value ∙ c.place_at-place.ensures))
    c.loop-number.invariant
