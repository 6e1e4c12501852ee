use Rattle.std.proofs.Common.{sym, ◌∙◌}
use Rattle.asm_lines.specs.Words.{words_of}
use Rattle.policy_text.specs.Policy.{ranges_in, ranges_of}
use Rattle.policy_text.specs.Seen.{seen_names}
use Rattle.policy_text.proofs.Going.{onto_joined}
use Rattle.policy_text.proofs.ranges.ranges_of.Goals as goal

pub loop-word-preserved : goal.loop-word-preserved
loop-word-preserved c =
    let symbols = c.args.symbols.now in
    let names = seen_names c.args.definitions.now in
    let step =
    onto_joined c.loop-word.out.items c.push_ranges.new.out.items (ranges_in symbols names c.in-Some.word.now)
    (ranges_of symbols names (words_of c.in-Some.after.now)) c.in_ok-push_ranges.ensures in
    sym step ∙ rw c.in-Some.ensures at c.loop-word.invariant
