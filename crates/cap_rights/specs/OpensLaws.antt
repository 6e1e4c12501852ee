-- The tests for what a capability opens are right.
use Rattle.std.proofs.Common.{◌≡◌, ℕ, ◌<◌, ◌≤◌, true, false, ◌&&◌, ◌↔◌}
use Rattle.std.specs.Prelude.{not, nat_le, nat_lt}
use Rattle.std.proofs.lemmas.Bool.{and_from, and_parts, not-true, not_from_false, ltb-true, leb-true, lt-ltb, le-leb}
use Rattle.cap_bounds.specs.CapValue.{CapValue, is_sealed, value_base, value_top}
use Rattle.cap_rights.specs.declared.permission.Permission.{Permission}
use Rattle.cap_rights.specs.declared.permission.Permission.TheVariants as permission
use Rattle.cap_rights.specs.Permission.{permits}
use Rattle.cap_rights.specs.Opens.{allows, opens_store, opens_system}
use Rattle.cap_rights.specs.Rights.{OpensSystem, OpensStore}

module _ (c : CapValue) where
  pub allows-parts : (p : Permission) → allows p c ≡ true → (is_sealed c ≡ false) × (permits c p ≡ true)
  allows-parts p is =
      let both = and_parts (not (is_sealed c)) (permits c p) is in
      (not-true (is_sealed c) both.0, both.1)

  pub allows-from : (p : Permission) → is_sealed c ≡ false → permits c p ≡ true → allows p c ≡ true
  allows-from p unsealed permitted = and_from (not (is_sealed c)) (permits c p) (not_from_false (is_sealed c) unsealed) permitted

  pub opens_store-means : (a : ℕ) → (opens_store a c ≡ true) ↔ OpensStore c a
  opens_store-means a = (
    λ is.
        let both = and_parts (allows permission.Store c) (nat_le (value_base c) a && nat_lt a (value_top c)) is in
        let bounds = and_parts (nat_le (value_base c) a) (nat_lt a (value_top c)) both.1 in
        let parts = allows-parts permission.Store both.0 in
        record {
          unsealed = parts.0;
          stores = parts.1;
          base = leb-true (value_base c) a bounds.0;
          top = ltb-true a (value_top c) bounds.1;
        },
    λ opens.
        and_from (allows permission.Store c) (nat_le (value_base c) a && nat_lt a (value_top c))
        (allows-from permission.Store opens.unsealed opens.stores)
        (and_from (nat_le (value_base c) a) (nat_lt a (value_top c)) (le-leb (value_base c) a opens.base)
        (lt-ltb a (value_top c) opens.top)),
  )

  pub opens_system-means : (opens_system c ≡ true) ↔ OpensSystem c
  opens_system-means = (
    λ is.
        let both = and_parts (allows permission.Execute c) (permits c permission.AccessSystemRegisters) is in
        let parts = allows-parts permission.Execute both.0 in
        record { unsealed = parts.0; executes = parts.1; system = both.1 },
    λ opens.
        and_from (allows permission.Execute c) (permits c permission.AccessSystemRegisters)
        (allows-from permission.Execute opens.unsealed opens.executes) opens.system,
  )
