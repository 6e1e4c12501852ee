use Rattle.cap_bounds.specs.CapValue.{CapValue}
use Rattle.cap_rights.specs.Rights.{OpensStore}
use Rattle.reached.specs.Links.{values}
use Rattle.reach.specs.declared.right.Right.TheVariants.{Store}
use Rattle.reach.specs.Opens.{OpensSome}
use Rattle.std.proofs.Common.{ℕ, Option, Some, None}
use Rattle.std.specs.Prelude.{IfSome, IfNone, List}
use Rattle.reach.specs.First.{IsFirst, HoldsOfNone}
use Rattle.reach.proofs.Places.{IsFirst-other, HoldsOfNone-other, store-some, some-store}
use Rattle.reach.proofs.reach.Reach.first_store_at.Goals as goal

first-at : (vs : List CapValue) (a : ℕ) (r : Option ℕ) → IfSome r (IsFirst (λ v. OpensSome Store v a 1) vs)
    → IfSome r (IsFirst (λ v. OpensStore v a) vs)
first-at vs a (Some place) first =
    IsFirst-other (λ v. OpensSome Store v a 1) (λ v. OpensStore v a) (λ v. store-some v a) (λ v. some-store v a) vs place first
first-at vs a None first = tt

none-at : (vs : List CapValue) (a : ℕ) (r : Option ℕ) → IfNone r (HoldsOfNone (λ v. OpensSome Store v a 1) vs)
    → IfNone r (HoldsOfNone (λ v. OpensStore v a) vs)
none-at vs a (Some place) none = tt
none-at vs a None none =
    HoldsOfNone-other (λ v. OpensSome Store v a 1) (λ v. OpensStore v a) (λ v. store-some v a) (λ v. some-store v a) vs none

pub returns-clause-some : goal.returns-clause-some
returns-clause-some g c =
    first-at (values g.C.CapRep.value c.args.self.now) c.args.register c.first_store.result c.first_store.ensures.some

pub returns-clause-none : goal.returns-clause-none
returns-clause-none g c =
    none-at (values g.C.CapRep.value c.args.self.now) c.args.register c.first_store.result c.first_store.ensures.none
