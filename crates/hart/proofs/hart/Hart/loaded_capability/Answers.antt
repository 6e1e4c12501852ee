use Rattle.std.proofs.Common.{◌&&◌, sym, ap, subst, ◌∙◌}
use Rattle.cap_bounds.specs.CapValue.{value_of}
use Rattle.cap_bounds.specs.Record.{IsWordWellFormed}
use Rattle.cap_rights.specs.Permission.{permits}
use Rattle.cap_rights.specs.declared.permission.Permission.TheVariants as permission
use Rattle.steps.specs.MemoryRows.{loaded_capability}
use Rattle.hart.proofs.hart.Hart.loaded_capability.Goals as goal

pub kept_if-requires : goal.kept_if-requires
kept_if-requires g c = λ tagged.
    let same = c.load_cap-word.ensures in
    subst IsWordWellFormed (sym (ap (λ p. p.0) same)) (c.self.invariant c.args.address (sym (ap (λ p. p.1) same) ∙ tagged))

pub returns : goal.returns
returns g c =
    let same = c.load_cap-word.ensures in
    let held = g.C.CapRep.value c.args.authority in
    c.kept_if.ensures
    ∙ ap (λ keeps. value_of c.load_cap-word.result.0 (c.load_cap-word.result.1 && keeps)) c.permits.ensures
    ∙ ap (λ p. value_of p.0 (p.1 && permits held permission.LoadCapability)) same
    ∙ ap (λ s. loaded_capability held c.args.address s.memory) c.self.view_is
