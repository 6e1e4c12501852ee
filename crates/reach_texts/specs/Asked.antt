-- What may be asked of the code that runs from here on, as a truth value of each capability that it can come to hold.
use Rattle.std.specs.Prelude.{ℕ, ◌+◌, Bool, not, ◌&&◌, ◌||◌, ◌==◌, nat_lt, if◌then◌else◌, min, max, List, map, Option, position}
use Rattle.base.specs.ObjectType.{sentry_type}
use Rattle.cap_bounds.specs.CapValue.{CapValue, is_sealed, value_base, value_top, value_otype}
use Rattle.cap_rights.specs.declared.permission.Permission.{Permission}
use Rattle.cap_rights.specs.declared.permission.Permission.TheVariants as permission
use Rattle.cap_rights.specs.Permission.{permits}
use Rattle.cap_rights.specs.Derivations.{address_in_bounds}
use Rattle.cap_rights.specs.Opens.{allows, opens_system}
use Rattle.devices.specs.Devices.{halt, timer_compare, transmit}
use Rattle.reach.specs.declared.may.May.{May}
use Rattle.reach.specs.declared.may.May.TheVariants.{Store, Load, Execute, Learn, Keep, Send, Halt, System, Timer, Hold}
use Rattle.reach.specs.Questions.{has_granule}
use Rattle.reached.specs.Order.{Found}

-- unsealed, with the permission, and one of the `size` bytes from an address on lies in the bounds
abbrev pub opens : Permission → ℕ → ℕ → CapValue → Bool
opens p address size c =
    allows p c && nat_lt (max (value_base c) address) (min (value_top c) (address + size))

-- with the permissions to store capabilities, those without Global too
abbrev pub stores_locals : CapValue → Bool
stores_locals c = allows permission.Store c && (permits c permission.StoreCapability && permits c permission.StoreLocalCapability)

-- what is lent without Global may be kept through it in a granule that has one of the `size` bytes from an address on
abbrev pub keeps : ℕ → ℕ → CapValue → Bool
keeps address size c = stores_locals c && has_granule c address size

abbrev pub is_sealed_as : ℕ → CapValue → Bool
is_sealed_as otype c = is_sealed c && (value_otype c == otype)

-- values may be sealed with the type through it; of sentries code makes its own
abbrev pub may_seal_as : ℕ → CapValue → Bool
may_seal_as otype c =
    not (is_sealed c)
    && (if otype == sentry_type then permits c permission.Execute
    else permits c permission.Seal && address_in_bounds c otype)

-- whether a capability lets code do it; of bytes anything is learned by a load or a fetch
abbrev pub lets : May → CapValue → Bool
lets (Store address size) c = opens permission.Store address size c
lets (Load address size) c = opens permission.Load address size c
lets (Execute address size) c = opens permission.Execute address size c
lets (Learn address size) c = opens permission.Load address size c || opens permission.Execute address size c
lets (Keep address size) c = keeps address size c
lets Send c = opens permission.Store transmit 1 c
lets Halt c = opens permission.Store halt 1 c
lets System c = opens_system c
lets Timer c = opens permission.Store timer_compare 1 c
lets (Hold otype) c = is_sealed_as otype c || may_seal_as otype c

-- the values of members
abbrev pub values_of : List Found → List CapValue
values_of xs = map (λ x. x.value) xs

-- the number of the first member that does
abbrev pub first_that : May → List Found → Option ℕ
first_that may xs = position (λ x. lets may x.value) xs
