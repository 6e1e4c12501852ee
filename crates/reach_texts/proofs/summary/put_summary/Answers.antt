use Rattle.std.proofs.Common.{◌++◌, ap, ◌∙◌}
use Rattle.std.specs.Prelude.{codes, string_bytes}
use Rattle.reach_texts.specs.Summary.{or_none, summary_text}
use Rattle.reach_texts.proofs.Writing.{more, last}
use Rattle.reach_texts.proofs.summary.put_summary.Goals as goal

pub returns : goal.returns
unfolding summary_text
returns g c =
    let two = more _ _ _ _ _ c.in_ok-append_count.ensures c.in_ok-append_ranges.ensures in
    let three = more _ _ _ _ _ two c.in_ok-append_ranges-2.ensures in
    let four = more _ _ _ _ _ three c.in_ok-append_ranges-3.ensures in
    let five = more _ _ _ _ _ four c.in_ok-append_ranges-4.ensures in
    let devices = ap (λ lines. string_bytes c.append_ranges-4.new.text ++ or_none (codes "device") lines)
    (c.as_str.ensures.value ∙ c.device_lines.ensures) in
    let six = more _ _ _ _ _ five (c.in_ok-append_or_none.ensures ∙ devices) in
    let system = ap (λ line. string_bytes c.append_or_none.new.text ++ line) c.system_line.ensures in
    let seven = more _ _ _ _ _ six (c.in_ok-append.ensures.bytes ∙ system) in
    let eight = more _ _ _ _ _ seven c.in_ok-append_ranges-5.ensures in
    let nine = more _ _ _ _ _ eight c.in_ok-append_ranges-6.ensures in
    last _ _ _ _ _ _ nine c.append_each.ensures
