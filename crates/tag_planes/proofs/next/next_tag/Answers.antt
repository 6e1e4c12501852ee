use Rattle.std.proofs.Common.{◌/◌, ◌<◌, length, get_or, arith}
use Rattle.std.proofs.lemmas.Nat.{and_le_l}
use Rattle.tag_planes.proofs.NextTag.{here_next, no_next, later_next}
use Rattle.tag_planes.proofs.next.next_tag.Goals as goal

pub returns-then-here-ne0 : goal.returns-then-here-ne0
returns-then-here-ne0 c =
    let planes = c.args.planes.now in
    let word = get_or planes (c.args.from / 64) 0 in
    here_next planes c.args.from c.bits_from.result c.requires.inside c.bits_from.ensures (omega arith)
    (omega (arith, and_le_l word c.bits_from.result, c.type_inv.planes (c.args.from / 64)))

pub returns-then-later-planes : goal.returns-then-later-planes
returns-then-later-planes c =
    no_next c.args.planes.now c.args.from c.bits_from.result c.word_from-later.result c.requires.inside c.bits_from.ensures
    c.if-here-ne0.false c.word_from-later.ensures.value c.if-later-planes.true

pub returns : goal.returns
returns c =
    let later = c.word_from-later.result in
    let below : later < length c.args.planes.now = omega (arith, c.word_from-later.ensures.within, c.if-later-planes.false) in
    later_next c.args.planes.now c.args.from c.bits_from.result later c.requires.inside c.bits_from.ensures c.if-here-ne0.false
    c.word_from-later.ensures.value below (omega (arith, c.type_inv.planes later))
