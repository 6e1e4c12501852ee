use Rattle.std.proofs.Common.{IsTrue, ◌↔◌, sym, ◌∙◌, subst}
use Rattle.cap_rights.specs.Rights.{IsInRightsOf}
use Rattle.cap_rights.specs.RightsLaws.{equal_exact-in_rights, subset-in_rights}
use Rattle.cap_rights.proofs.rights.within_rights.Goals as goal

pub returns-then-is_sealed : goal.returns-then-is_sealed
returns-then-is_sealed g c =
    let v = g.C.CapRep.value c.args.c in
    let outer = g.C.CapRep.value c.args.outer in
    let valid = g.met.C.CapRep.valid in
    subst (λ b. IsTrue b ↔ IsInRightsOf v outer) (sym c.equal_exact.ensures)
    (equal_exact-in_rights v outer (valid c.args.c) (valid c.args.outer) c.requires.tagged c.requires.outer_tagged
    (sym c.is_sealed.ensures ∙ c.if-is_sealed.true))

pub returns-else-is_sealed : goal.returns-else-is_sealed
returns-else-is_sealed g c =
    let v = g.C.CapRep.value c.args.c in
    let outer = g.C.CapRep.value c.args.outer in
    subst (λ b. IsTrue b ↔ IsInRightsOf v outer) (sym c.subset.ensures)
    (subset-in_rights v outer c.requires.tagged c.requires.outer_tagged (sym c.is_sealed.ensures ∙ c.if-is_sealed.false))
