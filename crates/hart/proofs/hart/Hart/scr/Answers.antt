use Rattle.std.proofs.Common.{sym, subst, Option, None, Some, rules}
use Rattle.std.specs.Prelude.{IsSome, option_map}
use Rattle.special_regs.specs.Scrs.{IsAligned}
use Rattle.special_regs.specs.NumberedLaws.{IsSome-scr_value}
use Rattle.hart.proofs.hart.Hart.scr.Goals as goal

IsSome-from_map : {A B : Type 0} (f : A → B) (o : Option A) → IsSome (option_map f o) → IsSome o
IsSome-from_map f None some = some
IsSome-from_map f (Some x) some = some

pub unwrap-requires : goal.unwrap-requires
unwrap-requires g c =
    IsSome-from_map g.C.CapRep.value c.get.result (subst IsSome (sym c.get.ensures.value)
    (IsSome-scr_value c.self.inside.scrs c.args.n c.requires))

pub returns-clause-aligned : goal.returns-clause-aligned
returns-clause-aligned g c = subst (λ s. IsAligned s.scrs.pcc) c.self.view_is c.get.ensures.aligned

pub returns-clause-value : goal.returns-clause-value
returns-clause-value g c = search rules
