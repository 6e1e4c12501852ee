-- Tests for what breaks a rule, for the code that it is about, and for what it applies to. (That they are what policies mean by it is a
-- law of its own.)
use Rattle.std.specs.Prelude.{ℕ, ◌+◌, ◌*◌, ◌/◌, Bool, false, not, ◌&&◌, ◌||◌, ◌==◌, nat_le, nat_lt, min, max}
use Rattle.std.specs.Prelude.{List, [], ◌∷◌, Option, None, Some, option_map, unwrap_or}
use Rattle.std.specs.List.{list_any}
use Rattle.base.specs.declared.otype.TheConstants.{FIRST_RESERVED}
use Rattle.base.specs.ObjectType.{is_reserved}
use Rattle.base.specs.Ram.{ram_base}
use Rattle.cap_bounds.specs.CapValue.{CapValue, is_sealed, value_base, value_top, value_otype}
use Rattle.cap_rights.specs.declared.permission.Permission.{Permission}
use Rattle.cap_rights.specs.declared.permission.Permission.TheVariants as permission
use Rattle.cap_rights.specs.Derivations.{address_in_bounds}
use Rattle.cap_rights.specs.Permission.{permits}
use Rattle.cap_rights.specs.Opens.{allows, opens_store, opens_system}
use Rattle.devices.specs.Devices.{halt, timer_compare, timer, transmit, receive, status, control_register}
use Rattle.reach.specs.declared.range.Range.{Range}
use Rattle.policy.specs.declared.rule.Ban.{Ban}
use Rattle.policy.specs.declared.rule.Ban.TheVariants.{Store, Load, Execute, Keep, Enter, Transmit, Halt, Timer, System, Seal, Types}
use Rattle.policy.specs.Terms.{Terms}
use Rattle.policy.specs.Rule.{entry}
use Rattle.policy.specs.Opened.{is_enterable}

-- whether an address lies in one of the ranges
abbrev pub is_in_one : List Range → ℕ → Bool
is_in_one ranges a = list_any (λ range. nat_le range.from a && nat_lt a range.to) ranges

-- whether some address from one on and below another lies in none of the ranges: before the first of them, or past it
abbrev pub leaves_out : List Range → ℕ → ℕ → Bool
leaves_out [] from to = nat_lt from to
leaves_out (range ∷ ranges) from to = leaves_out ranges from (min to range.from) || leaves_out ranges (max from range.to) to

-- it lets code do so with a byte of RAM that lies in none of the ranges
abbrev pub opens_outside : Permission → List Range → CapValue → Bool
opens_outside permission ranges c = allows permission c && leaves_out ranges (max (value_base c) ram_base) (value_top c)

-- where the device registers begin
abbrev pub registers : List ℕ
registers = halt ∷ timer ∷ transmit ∷ receive ∷ status ∷ control_register ∷ timer_compare ∷ []

-- a number lies in its bounds, and in none of the ranges
abbrev pub has_outside : List Range → CapValue → ℕ → Bool
has_outside ranges c a = address_in_bounds c a && not (is_in_one ranges a)

-- it lets code do so where a device register answers that begins in none of the ranges
abbrev pub opens_device : Permission → List Range → CapValue → Bool
opens_device permission ranges c = allows permission c && list_any (has_outside ranges c) registers

-- it lets code keep what is lent in a granule of RAM that doesn't lie wholly in the ranges: of the granules in its bounds a byte is left
-- out
abbrev pub keeps_outside : List Range → CapValue → Bool
keeps_outside ranges c =
    allows permission.Store c
    && (permits c permission.StoreCapability
    && (permits c permission.StoreLocalCapability
    && leaves_out ranges ((max (value_base c) ram_base + 15) / 16 * 16) (value_top c / 16 * 16)))

-- where a jump through its seal leads, an instruction in RAM and in its bounds, is left out of both the ranges
abbrev pub enters_outside : List Range → List Range → CapValue → Bool
enters_outside enter execute c =
    is_enterable c && (not (is_in_one enter (entry c)) && not (is_in_one execute (entry c)))

-- values may be sealed or unsealed through it, with an object type that is not reserved
abbrev pub opens_sealing : CapValue → Bool
opens_sealing c =
    (allows permission.Seal c || allows permission.Unseal c) && nat_lt (value_base c) (min (value_top c) FIRST_RESERVED)

-- sealed, with an object type that is not reserved, and not one of these
abbrev pub is_sealed_beyond : List ℕ → CapValue → Bool
is_sealed_beyond types c =
    is_sealed c && (not (is_reserved (value_otype c)) && not (list_any (λ t. t == value_otype c) types))

unfoldable pub breaks : Terms → Ban → CapValue → Bool
breaks rule Store c = opens_outside permission.Store rule.store c || opens_device permission.Store rule.store c
breaks rule Load c = opens_outside permission.Load rule.load c || opens_device permission.Load rule.load c
breaks rule Execute c = opens_outside permission.Execute rule.execute c
breaks rule Keep c = keeps_outside rule.keep c
breaks rule Enter c = enters_outside rule.enter rule.execute c
breaks rule Transmit c = not rule.transmit && opens_store transmit c
breaks rule Halt c = not rule.halt && opens_store halt c
breaks rule Timer c = not rule.timer && opens_store timer_compare c
breaks rule System c = not rule.system && opens_system c
breaks rule Seal c = not rule.seal && opens_sealing c
breaks rule Types c = unwrap_or (option_map (λ types. is_sealed_beyond types c) rule.types) false

unfoldable pub is_about : Terms → ℕ → Bool
is_about rule pc = is_in_one rule.code pc

unfoldable pub applies : Terms → Option ℕ → Bool
applies rule None = false
applies rule (Some pc) = is_about rule pc
