-- When a capability breaks a rule.
use Rattle.std.specs.Prelude.{◌≡◌, ℕ, ◌+◌, ◌*◌, ◌/◌, ◌%◌, ◌<◌, ◌≤◌, true, false, List, Contains, MatchOption, ◌⊎◌}
use Rattle.base.specs.ObjectType.{is_reserved}
use Rattle.base.specs.Ram.{ram_base}
use Rattle.cap_bounds.specs.CapValue.{CapValue, is_sealed, value_base, value_top, value_address, value_otype}
use Rattle.cap_rights.specs.declared.permission.Permission.{Permission}
use Rattle.cap_rights.specs.declared.permission.Permission.TheVariants as permission
use Rattle.cap_rights.specs.Permission.{permits}
use Rattle.cap_rights.specs.Rights.{OpensKeeping, OpensSystem, OpensStore}
use Rattle.devices.specs.Devices.{halt, is_register, timer_compare, transmit}
use Rattle.reach.specs.declared.range.Range.{Range}
use Rattle.reach.specs.Ranges.{IsInOne}
use Rattle.policy.specs.declared.rule.Ban.{Ban}
use Rattle.policy.specs.declared.rule.Ban.TheVariants.{Store, Load, Execute, Keep, Enter, Transmit, Halt, Timer, System, Seal, Types}
use Rattle.policy.specs.Terms.{Terms}

-- unsealed, with the permission
pub record Lets (permission : Permission) (c : CapValue) : Type 0 where
  pub unsealed : is_sealed c ≡ false
  pub permitted : permits c permission ≡ true

-- it lets code do so with a byte of RAM that lies in none of the ranges
pub record OpensOutside (permission : Permission) (ranges : List Range) (c : CapValue) : Type 0 where
  pub byte : ℕ
  pub in_ram : ram_base ≤ byte
  pub outside : IsInOne ranges byte → ⊥
  pub lets : Lets permission c
  pub base : value_base c ≤ byte
  pub top : byte < value_top c

-- it lets code do so where a device register answers that begins in none of the ranges
pub record OpensDevice (permission : Permission) (ranges : List Range) (c : CapValue) : Type 0 where
  pub register : ℕ
  pub answers : is_register register ≡ true
  pub outside : IsInOne ranges register → ⊥
  pub lets : Lets permission c
  pub base : value_base c ≤ register
  pub top : register < value_top c

-- it lets code keep what is lent without Global in a granule of RAM that doesn't lie wholly in the ranges
pub record KeepsOutside (ranges : List Range) (c : CapValue) : Type 0 where
  pub granule : ℕ
  pub byte : ℕ
  pub aligned : granule % 16 ≡ 0
  pub in_ram : ram_base ≤ granule
  pub from : granule ≤ byte
  pub to : byte < granule + 16
  pub outside : IsInOne ranges byte → ⊥
  pub opens : OpensKeeping c granule

-- where a jump through its seal leads: its address, at a multiple of 4
abbrev pub entry : CapValue → ℕ
entry c = value_address c / 4 * 4

-- sealed, with Execute, and the instruction that a jump through its seal leads to lies in RAM and in its bounds, and begins in none of
-- the ranges: those that may be entered and those for fetches
pub record EntersOutside (enter execute : List Range) (c : CapValue) : Type 0 where
  pub sealed : is_sealed c ≡ true
  pub executes : permits c permission.Execute ≡ true
  pub in_ram : ram_base ≤ entry c
  pub base : value_base c ≤ entry c
  pub top : entry c + 4 ≤ value_top c
  pub not_entered : IsInOne enter (entry c) → ⊥
  pub not_fetched : IsInOne execute (entry c) → ⊥

-- unsealed, with Seal or Unseal, and an object type that is not reserved lies in its bounds: values may be sealed with it, or unsealed
pub record OpensSealing (c : CapValue) : Type 0 where
  pub otype : ℕ
  pub unreserved : is_reserved otype ≡ false
  pub unsealed : is_sealed c ≡ false
  pub permitted : (permits c permission.Seal ≡ true) ⊎ (permits c permission.Unseal ≡ true)
  pub base : value_base c ≤ otype
  pub top : otype < value_top c

-- sealed, with an object type that is not reserved and not one of these
pub record IsSealedBeyond (types : List ℕ) (c : CapValue) : Type 0 where
  pub sealed : is_sealed c ≡ true
  pub unreserved : is_reserved (value_otype c) ≡ false
  pub beyond : Contains types (value_otype c) → ⊥

-- the capability breaks a part of the rule
abbrev pub Breaks : Terms → Ban → CapValue → Type 0
Breaks rule Store c = OpensOutside permission.Store rule.store c ⊎ OpensDevice permission.Store rule.store c
Breaks rule Load c = OpensOutside permission.Load rule.load c ⊎ OpensDevice permission.Load rule.load c
Breaks rule Execute c = OpensOutside permission.Execute rule.execute c
Breaks rule Keep c = KeepsOutside rule.keep c
Breaks rule Enter c = EntersOutside rule.enter rule.execute c
Breaks rule Transmit c = (rule.transmit ≡ false) × OpensStore c transmit
Breaks rule Halt c = (rule.halt ≡ false) × OpensStore c halt
Breaks rule Timer c = (rule.timer ≡ false) × OpensStore c timer_compare
Breaks rule System c = (rule.system ≡ false) × OpensSystem c
Breaks rule Seal c = (rule.seal ≡ false) × OpensSealing c
Breaks rule Types c = MatchOption rule.types ⊥ (λ types. IsSealedBeyond types c)

-- the order of the parts
abbrev pub place_of : Ban → ℕ
place_of Store = 0
place_of Load = 1
place_of Execute = 2
place_of Keep = 3
place_of Enter = 4
place_of Transmit = 5
place_of Halt = 6
place_of Timer = 7
place_of System = 8
place_of Seal = 9
place_of Types = 10

-- it is the first part that the capability breaks
pub record IsFirstBan (rule : Terms) (c : CapValue) (ban : Ban) : Type 0 where
  pub breaks : Breaks rule ban c
  pub before : (other : Ban) → place_of other < place_of ban → Breaks rule other c → ⊥

-- the capability breaks the rule
pub record BreaksRule (rule : Terms) (c : CapValue) : Type 0 where
  pub ban : Ban
  pub breaks : Breaks rule ban c
