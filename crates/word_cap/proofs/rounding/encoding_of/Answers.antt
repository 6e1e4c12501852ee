use Rattle.std.proofs.Common.{sym, ◌∙◌}
use Rattle.std.proofs.lemmas.Nat.{and_mask}
use Rattle.word_cap.proofs.Encodings.{has_exponent-short, has_exponent-long, encoded_t-short, encoded_t-long, encoded_b-short}
use Rattle.word_cap.proofs.Encodings.{encoded_b-long, is_exact-short, is_exact-long}
use Rattle.word_cap.proofs.rounding.encoding_of.Goals as goal

pub returns-then-length-lt4096-clause-ie : goal.returns-then-length-lt4096-clause-ie
returns-then-length-lt4096-clause-ie c = sym (has_exponent-short c.args.length c.if-length-lt4096.true)

pub returns-then-length-lt4096-clause-t : goal.returns-then-length-lt4096-clause-t
returns-then-length-lt4096-clause-t c = encoded_t-short c.args.address c.args.length c.if-length-lt4096.true

pub returns-then-length-lt4096-clause-b : goal.returns-then-length-lt4096-clause-b
returns-then-length-lt4096-clause-b c = encoded_b-short c.args.address c.args.length c.if-length-lt4096.true

pub returns-then-length-lt4096-clause-exact : goal.returns-then-length-lt4096-clause-exact
returns-then-length-lt4096-clause-exact c = is_exact-short c.args.address c.args.length c.if-length-lt4096.true

pub returns-clause-ie : goal.returns-clause-ie
returns-clause-ie c = sym (has_exponent-long c.args.length c.if-length-lt4096.false)

pub returns-clause-t : goal.returns-clause-t
returns-clause-t c =
    encoded_t-long c.args.address c.args.length c.exponent-e.result c.granules_below_end.result c.from.result c.if-length-lt4096.false
    c.exponent-e.ensures.range
    c.exponent-e.ensures.value c.granules_below_end.ensures c.from.ensures

pub returns-clause-b : goal.returns-clause-b
returns-clause-b c =
    encoded_b-long c.args.address c.args.length c.exponent-e.result c.from-2.result c.if-length-lt4096.false c.exponent-e.ensures.range
    c.exponent-e.ensures.value
    (c.from-2.ensures ∙ and_mask c.exponent-e.result 3)

pub returns-clause-exact : goal.returns-clause-exact
returns-clause-exact c =
    is_exact-long c.args.address c.args.length c.exponent-e.result c.granule_mask.result c.if-length-lt4096.false c.exponent-e.ensures.value
    c.granule_mask.ensures.value
