-- Unsealing: what it asks of the authority, and of whose rights that authority is within.
use Rattle.std.proofs.Common.{◌≡◌, ℕ, ◌<◌, ◌≤◌, Bool, true, false, not, leb, ltb, eqb, refl, arith}
use Rattle.std.proofs.lemmas.Bool.{and_parts, not-true, leb-true, ltb-true, eqb-true}
use Rattle.cap_bounds.specs.CapValue.{CapValue, is_tagged, is_sealed, value_base, value_top, value_otype, value_address}
use Rattle.cap_rights.specs.declared.permission.Permission.TheVariants as permission
use Rattle.cap_rights.specs.Derivations.{tagged_if, may_unseal, unseal, address_in_bounds}
use Rattle.cap_rights.specs.Permission.{permits}
use Rattle.cap_rights.specs.Rights.{IsInRightsOf}
use Rattle.cap_rights.specs.RightsLaws.{permits-outer, unsealed-outer}
use Rattle.reach.specs.Opens.{OpensUnsealing}

tagged_if-may : (may : Bool) (v : CapValue) → is_tagged (tagged_if may v) ≡ true → may ≡ true
tagged_if-may true v tagged = refl
tagged_if-may false v tagged = cc

-- an authority that may unseal a value opens the unsealing of its type
may_unseal-opens : (v authority : CapValue) → may_unseal v authority ≡ true → OpensUnsealing authority (value_otype v)
unfolding may_unseal
may_unseal-opens v authority may =
    let address : ℕ = value_address authority in
    let all = and_parts _ (eqb address (value_otype v)) may in
    let with_bounds = and_parts _ (address_in_bounds authority address) all.0 in
    let with_permission = and_parts _ (permits authority permission.Unseal) with_bounds.0 in
    let with_seal = and_parts _ (not (is_sealed authority)) with_permission.0 in
    let bounds = and_parts (leb (value_base authority) address) (ltb address (value_top authority)) with_bounds.1 in
    let same : address ≡ value_otype v = eqb-true address (value_otype v) all.1 in
    let low : value_base authority ≤ address = leb-true (value_base authority) address bounds.0 in
    let high : address < value_top authority = ltb-true address (value_top authority) bounds.1 in
    record {
      unsealed = not-true (is_sealed authority) with_seal.1;
      unseals = with_permission.1;
      base = omega arith;
      top = omega arith;
    }

pub unseal-opens : (v authority : CapValue) → is_tagged (unseal v authority) ≡ true → OpensUnsealing authority (value_otype v)
unfolding unseal
unseal-opens v authority tagged = may_unseal-opens v authority (tagged_if-may (may_unseal v authority) _ tagged)

pub OpensUnsealing-outer : (v c : CapValue) (otype : ℕ) → IsInRightsOf v c → OpensUnsealing v otype → OpensUnsealing c otype
OpensUnsealing-outer v c otype rights opens =
    let outer = unsealed-outer v c opens.unsealed rights in
    let within = outer.1 in
    let low = within.base in
    let high = within.top in
    let base = opens.base in
    let top = opens.top in
    record {
      unsealed = outer.0;
      unseals = permits-outer v c permission.Unseal within opens.unseals;
      base = omega arith;
      top = omega arith;
    }
