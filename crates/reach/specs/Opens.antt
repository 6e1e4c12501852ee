-- What a capability opens: bytes to a right, object types to sealing and unsealing (UCAM-CL-TR-987, capability permissions).
use Rattle.std.specs.Prelude.{◌≡◌, ℕ, ◌+◌, ◌%◌, ◌<◌, ◌≤◌, true, false}
use Rattle.cap_bounds.specs.CapValue.{CapValue, is_sealed, value_base, value_top, value_otype}
use Rattle.cap_rights.specs.declared.permission.Permission.TheVariants as permission
use Rattle.cap_rights.specs.Permission.{permits}
use Rattle.cap_rights.specs.Rights.{OpensKeeping}
use Rattle.reach.specs.declared.right.Right.{Right}
use Rattle.reach.specs.declared.right.Right.TheVariants.{Store, Load, Execute, Capabilities, Keep, Seal, Unseal}

-- the permissions that a right asks for
abbrev pub Permits : Right → CapValue → Type 0
Permits Store c = permits c permission.Store ≡ true
Permits Load c = permits c permission.Load ≡ true
Permits Execute c = permits c permission.Execute ≡ true
Permits Capabilities c = (permits c permission.Load ≡ true) × (permits c permission.LoadCapability ≡ true)
Permits Keep c =
    (permits c permission.Store ≡ true) × (permits c permission.StoreCapability ≡ true)
    × (permits c permission.StoreLocalCapability ≡ true)
Permits Seal c = permits c permission.Seal ≡ true
Permits Unseal c = permits c permission.Unseal ≡ true

-- unsealed, with the permissions of the right
pub record Allows (right : Right) (c : CapValue) : Type 0 where
  pub unsealed : is_sealed c ≡ false
  pub permitted : Permits right c

-- the capability allows it, and the number, an address or an object type, lies in its bounds
pub record Opens (right : Right) (c : CapValue) (address : ℕ) : Type 0 where
  pub allows : Allows right c
  pub base : value_base c ≤ address
  pub top : address < value_top c

-- it opens one of the `size` bytes from an address on (numbers without a bound: the last byte may lie past 2 ^ 64 - 1)
pub record OpensSome (right : Right) (c : CapValue) (address size : ℕ) : Type 0 where
  pub byte : ℕ
  pub low : address ≤ byte
  pub high : byte < address + size
  pub opens : Opens right c byte

-- unsealed, with the permissions to store capabilities, those without Global too
pub record StoresLocals (c : CapValue) : Type 0 where
  pub unsealed : is_sealed c ≡ false
  pub stores : permits c permission.Store ≡ true
  pub capabilities : permits c permission.StoreCapability ≡ true
  pub locals : permits c permission.StoreLocalCapability ≡ true

-- what is lent without Global may be kept through it in a granule that has one of the `size` bytes from an address on
pub record KeepsSome (c : CapValue) (address size : ℕ) : Type 0 where
  pub granule : ℕ
  pub byte : ℕ
  pub aligned : granule % 16 ≡ 0
  pub from : granule ≤ byte
  pub to : byte < granule + 16
  pub low : address ≤ byte
  pub high : byte < address + size
  pub opens : OpensKeeping c granule

-- unsealed, with Unseal, and the object type lies in its bounds: values with the type may be unsealed
pub record OpensUnsealing (c : CapValue) (otype : ℕ) : Type 0 where
  pub unsealed : is_sealed c ≡ false
  pub unseals : permits c permission.Unseal ≡ true
  pub base : value_base c ≤ otype
  pub top : otype < value_top c

-- sealed with the object type
pub record IsSealedAs (c : CapValue) (otype : ℕ) : Type 0 where
  pub sealed : is_sealed c ≡ true
  pub is_type : value_otype c ≡ otype
