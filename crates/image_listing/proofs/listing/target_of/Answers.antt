use Rattle.std.proofs.Common.{ap, ◌∙◌, arith}
use Rattle.isa_rows.specs.DecodedLaws.{insn_of-answered}
use Rattle.image_listing.specs.Named.{target_in, target_of}
use Rattle.image_listing.proofs.listing.target_of.Goals as goal

pub returns : goal.returns
unfolding target_of
returns c =
    let e = insn_of-answered c.args.word c.decode.result (omega arith) c.decode.ensures.found c.decode.ensures.only in
    c.target_in.ensures ∙ ap (target_in c.args.address) e
