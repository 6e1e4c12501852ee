use Rattle.std.proofs.Common.{◌≡◌, refl, ap}
use Rattle.cap_bounds.specs.Record.{IsWordWellFormed, decoded, record_with}
use Rattle.cap_bounds.specs.CapValue.{Cap}
use Rattle.cap_bounds.proofs.plain_cap.PlainCapCapRep.from_word.Goals as goal

pub invariant_of-result : goal.invariant_of-result
unfolding decoded
invariant_of-result c =
    let w : IsWordWellFormed c.args.word = c.requires c.if-tag.true in
    record {
      well_formed = rw
          (c.base.ensures, c.top.ensures.value, c.address.ensures, c.perms.ensures, c.flag.ensures, c.otype.ensures) w.decodes;
    }

pub returns-then-tag : goal.returns-then-tag
unfolding decoded
returns-then-tag c =
    let same : record_with c.base.result c.top.result c.address.result c.perms.result c.flag.result c.otype.result ≡ decoded c.args.word =
    rw (c.base.ensures, c.top.ensures.value, c.address.ensures, c.perms.ensures, c.flag.ensures, c.otype.ensures) refl in
    rw c.if-tag.true (ap Cap same)
