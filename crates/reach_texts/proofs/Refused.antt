-- What it says of each member that none lets code do what is asked.
use Rattle.std.proofs.Common.{◌≡◌, ℕ, ◌+◌, ◌<◌, ◌≤◌, List, length, get_or, refl, arith, ap, sym, ◌∙◌}
use Rattle.std.proofs.lemmas.Bool.{false≢true}
use Rattle.std.proofs.lemmas.Bool.Decides.{nat_tests}
use Rattle.std.proofs.lemmas.List.{get_or-map, length-map}
use Rattle.std.proofs.lemmas.List.Sums.{fails_before_first}
use Rattle.std.specs.List.{position_or_len}
use Rattle.std.specs.Prelude.{Bool, true, false, not, ◌&&◌, ◌||◌, nat_lt, min, max, Some, None, Contains, if◌then◌else◌}
use Rattle.cap_bounds.specs.CapValue.{CapValue, is_sealed, value_base, value_top}
use Rattle.cap_rights.specs.declared.permission.Permission.{Permission}
use Rattle.cap_rights.specs.declared.permission.Permission.TheVariants as permission
use Rattle.cap_rights.specs.Permission.{permits}
use Rattle.cap_rights.specs.Opens.{opens_system}
use Rattle.cap_rights.specs.OpensLaws.{opens_system-means}
use Rattle.cap_rights.specs.Rights.{OpensStore, OpensSystem}
use Rattle.reach.specs.declared.may.May.{May}
use Rattle.reach.specs.declared.may.May.TheVariants.{Store, Learn, Keep, System}
use Rattle.reach.specs.declared.right.Right.TheVariants as right
use Rattle.reach.specs.First.{HoldsOfNone}
use Rattle.reach.specs.Opens.{OpensSome, KeepsSome}
use Rattle.reach.proofs.Keeping.{keeps-back}
use Rattle.reached.specs.declared.member.Place.TheVariants.{Granule}
use Rattle.reached.specs.Order.{Found}
use Rattle.reach_texts.specs.Asked.{opens, keeps, lets, first_that, values_of}

not_inside : (n l : ℕ) (b : Bool) → nat_lt n l ≡ b → (if b then Some n else None) ≡ None → l ≤ n
not_inside n l true e h = absurd (grind (arith, h))
not_inside n l false e h = grind (arith, nat_tests)

-- none of the members does
pub none_lets : (may : May) (xs : List Found) → first_that may xs ≡ None → (v : CapValue) → Contains (values_of xs) v → lets may v ≡ false
none_lets may xs refused v there =
    let place : ℕ = there.0 in
    let test : Found → Bool = λ x. lets may x.value in
    let inside : place < length xs = omega (arith, there.1, length-map xs (λ x. x.value)) in
    let far : length xs ≤ position_or_len test xs = not_inside (position_or_len test xs) (length xs) _ refl refused in
    let d : Found = record { value = v; place = Granule 0; from = 0 } in
    let is : (get_or xs place d).value ≡ v = sym (get_or-map (λ x. x.value) xs place d v inside) ∙ there.2 in
    ap (λ c. lets may c) (sym is) ∙ fails_before_first test xs place d (omega (arith, inside, far))

all_three : (s p l : Bool) → s ≡ false → p ≡ true → l ≡ true → ((not s && p) && l) ≡ true
all_three s p l unsealed permitted inside = rw (unsealed, permitted, inside) refl

in_both : (base top a n b : ℕ) → base ≤ b → b < top → a ≤ b → b < a + n → nat_lt (max base a) (min top (a + n)) ≡ true
in_both base top a n b from below low high = grind (arith, nat_tests)

opens_byte : (p : Permission) (a n b : ℕ) (c : CapValue) → is_sealed c ≡ false → permits c p ≡ true → value_base c ≤ b → b < value_top c
    → a ≤ b → b < a + n → opens p a n c ≡ true
opens_byte p a n b c unsealed permitted from below low high =
    all_three (is_sealed c) (permits c p) _ unsealed permitted (in_both (value_base c) (value_top c) a n b from below low high)

stores_some : (a n : ℕ) (c : CapValue) → OpensSome right.Store c a n → opens permission.Store a n c ≡ true
stores_some a n c o =
    opens_byte permission.Store a n o.byte c o.opens.allows.unsealed o.opens.allows.permitted o.opens.base o.opens.top o.low o.high

loads_some : (a n : ℕ) (c : CapValue) → OpensSome right.Load c a n → opens permission.Load a n c ≡ true
loads_some a n c o =
    opens_byte permission.Load a n o.byte c o.opens.allows.unsealed o.opens.allows.permitted o.opens.base o.opens.top o.low o.high

executes_some : (a n : ℕ) (c : CapValue) → OpensSome right.Execute c a n → opens permission.Execute a n c ≡ true
executes_some a n c o =
    opens_byte permission.Execute a n o.byte c o.opens.allows.unsealed o.opens.allows.permitted o.opens.base o.opens.top o.low o.high

stores_one : (a : ℕ) (c : CapValue) → OpensStore c a → opens permission.Store a 1 c ≡ true
stores_one a c o = opens_byte permission.Store a 1 a c o.unsealed o.stores o.base o.top (omega arith) (omega arith)

keeps_some : (a n : ℕ) (c : CapValue) → KeepsSome c a n → keeps a n c ≡ true
keeps_some a n c o =
    rw (
      o.opens.store.unsealed,
      o.opens.store.stores,
      o.opens.store.capabilities,
      o.opens.locals,
    ) (keeps-back c a n o)

system : (c : CapValue) → OpensSystem c → opens_system c ≡ true
system c = (opens_system-means c).1

neither-left : (a b : Bool) → (a || b) ≡ false → a ≡ false
neither-left false b h = refl
neither-left true b h = h

neither-right : (a b : Bool) → (a || b) ≡ false → b ≡ false
neither-right false b h = h
neither-right true b h = absurd (false≢true (sym h))

module _ (xs : List Found) where
  pub no_store : (a n : ℕ) → first_that (Store a n) xs ≡ None → HoldsOfNone (λ v. OpensSome right.Store v a n) (values_of xs)
  no_store a n refused v there o = false≢true (sym (none_lets (Store a n) xs refused v there) ∙ stores_some a n v o)

  -- a byte of a device
  pub no_store_at : (may : May) (a : ℕ) → ((c : CapValue) → lets may c ≡ opens permission.Store a 1 c) → first_that may xs ≡ None
      → HoldsOfNone (λ v. OpensStore v a) (values_of xs)
  no_store_at may a is refused v there o = false≢true (sym (none_lets may xs refused v there) ∙ is v ∙ stores_one a v o)

  pub no_system : first_that System xs ≡ None → HoldsOfNone OpensSystem (values_of xs)
  no_system refused v there o = false≢true (sym (none_lets System xs refused v there) ∙ system v o)

  pub no_keep : (a n : ℕ) → first_that (Keep a n) xs ≡ None → HoldsOfNone (λ v. KeepsSome v a n) (values_of xs)
  no_keep a n refused v there o = false≢true (sym (none_lets (Keep a n) xs refused v there) ∙ keeps_some a n v o)

  pub no_load : (a n : ℕ) → first_that (Learn a n) xs ≡ None → HoldsOfNone (λ v. OpensSome right.Load v a n) (values_of xs)
  no_load a n refused v there o =
      false≢true (sym (neither-left _ (opens permission.Execute a n v) (none_lets (Learn a n) xs refused v there)) ∙ loads_some a n v o)

  pub no_fetch : (a n : ℕ) → first_that (Learn a n) xs ≡ None → HoldsOfNone (λ v. OpensSome right.Execute v a n) (values_of xs)
  no_fetch a n refused v there o =
      false≢true (sym (neither-right (opens permission.Load a n v) _ (none_lets (Learn a n) xs refused v there)) ∙ executes_some a n v o)
