-- What code can reach, in sum: how many members there are and where they were found, what they open, and those that are sealed.
use Rattle.std.specs.Prelude.{ℕ, Bool, true, false, not, nat_lt, if◌then◌else◌, min, List, [], ◌∷◌, ◌++◌, length, is_some}
use Rattle.std.specs.Prelude.{codes, decimal}
use Rattle.std.specs.List.{count_by, flat_map}
use Rattle.base.specs.declared.otype.TheConstants.{FIRST_RESERVED}
use Rattle.cap_bounds.specs.CapValue.{is_sealed}
use Rattle.devices.specs.Devices.{halt, timer_compare, timer, transmit, receive, status, control_register}
use Rattle.reach.specs.declared.may.Horizon.{Horizon}
use Rattle.reach.specs.declared.may.Horizon.TheVariants.{Stretch, Turn}
use Rattle.reach.specs.declared.may.May.{May}
use Rattle.reach.specs.declared.may.May.TheVariants.{Load, Store, System}
use Rattle.texts.specs.Hex.{hex_of}
use Rattle.symbols.specs.Symbols.{Symbol}
use Rattle.symbols.specs.Labels.{labelled}
use Rattle.reached.specs.declared.member.Place.{Place}
use Rattle.reached.specs.declared.member.Place.TheVariants.{Root, Special, Granule}
use Rattle.reached.specs.Order.{Found}
use Rattle.reach.specs.declared.range.Range.{Range}
use Rattle.reach.specs.declared.right.Right.{Right}
use Rattle.reach.specs.declared.right.Right.TheVariants as right
use Rattle.reach.specs.Ranges.{ranges_of}
use Rattle.reach_texts.specs.declared.counts.Kind.{Kind}
use Rattle.reach_texts.specs.declared.counts.Kind.TheVariants as kind
use Rattle.reach_texts.specs.Asked.{first_that, values_of}
use Rattle.reach_texts.specs.declared.members.Said.{Said}
use Rattle.reach_texts.specs.declared.members.Said.TheVariants as said
use Rattle.reach_texts.specs.Text.{link_lines, member_line, numbered, state_roots}

-- ---- how many members there are, and how many of each kind

abbrev pub is_in_register : Place → Bool
is_in_register (Root n) = nat_lt n state_roots
is_in_register other = false

abbrev pub is_behind_door : Place → Bool
is_behind_door (Root n) = not (nat_lt n state_roots)
is_behind_door other = false

abbrev pub is_in_special : Place → Bool
is_in_special (Special n) = true
is_in_special other = false

abbrev pub is_in_memory : Place → Bool
is_in_memory (Granule address) = true
is_in_memory other = false

abbrev pub is_of : Kind → Found → Bool
is_of kind.Register x = is_in_register x.place
is_of kind.Door x = is_behind_door x.place
is_of kind.SpecialRegister x = is_in_special x.place
is_of kind.Memory x = is_in_memory x.place
is_of kind.Sealed x = is_sealed x.value

abbrev pub count_of : Kind → List Found → ℕ
count_of kind xs = count_by (is_of kind) xs

-- through doors, how many are behind doors
unfoldable pub door_count : Horizon → List Found → List ℕ
door_count Stretch xs = []
door_count Turn xs = codes ", behind doors " ++ decimal (count_of kind.Door xs)

unfoldable pub count_line : Horizon → List Found → List ℕ
count_line horizon xs =
    codes "members " ++ decimal (length xs) ++ codes ": registers " ++ decimal (count_of kind.Register xs)
    ++ codes ", special registers " ++ decimal (count_of kind.SpecialRegister xs)
    ++ codes ", memory " ++ decimal (count_of kind.Memory xs) ++ door_count horizon xs
    ++ codes ", sealed " ++ decimal (count_of kind.Sealed xs) ++ codes "\n"

-- ---- lines, or that there is none

abbrev pub or_none : List ℕ → List ℕ → List ℕ
or_none name [] = name ++ codes " none\n"
or_none name (b ∷ bs) = b ∷ bs

-- ---- the ranges that members open to a right, a line each

unfoldable pub right_name : Right → List ℕ
right_name right.Load = codes "load"
right_name right.Capabilities = codes "load capabilities"
right_name right.Store = codes "store"
right_name right.Execute = codes "execute"
right_name right.Keep = codes "keep"
right_name right.Seal = codes "seal"
right_name right.Unseal = codes "unseal"

abbrev pub is_of_types : Right → Bool
is_of_types right.Seal = true
is_of_types right.Unseal = true
is_of_types other = false

-- addresses; and object types, as far as values can be sealed with them: the reserved ones are left out
unfoldable pub range_line : List Symbol → Right → Range → List ℕ
range_line symbols right r =
    if is_of_types right
    then (if nat_lt r.from FIRST_RESERVED
    then right_name right ++ codes " " ++ hex_of 5 r.from ++ codes " to " ++ hex_of 5 (min r.to FIRST_RESERVED) ++ codes "\n" else [])
    else right_name right ++ codes " " ++ labelled symbols r.from ++ codes " to " ++ hex_of 17 r.to ++ codes "\n"

unfoldable pub ranges_text : List Symbol → Right → List Found → List ℕ
ranges_text symbols right xs = or_none (right_name right) (flat_map (range_line symbols right) (ranges_of right (values_of xs)))

-- ---- the devices' registers, in the order of the map, by whether members open the first byte to loads (R) and to stores (W)

-- some member lets code do it
abbrev pub is_let : May → List Found → Bool
is_let may xs = is_some (first_that may xs)

-- a register that is open to neither has no line
unfoldable pub access_line : List ℕ → Bool → Bool → List ℕ
access_line name true true = codes "device " ++ name ++ codes " RW\n"
access_line name true false = codes "device " ++ name ++ codes " R-\n"
access_line name false true = codes "device " ++ name ++ codes " -W\n"
access_line name false false = []

abbrev pub device_line : List ℕ → ℕ → List Found → List ℕ
device_line name address xs = access_line name (is_let (Load address 1) xs) (is_let (Store address 1) xs)

unfoldable pub device_lines : List Found → List ℕ
device_lines xs =
    device_line (codes "halt") halt xs ++ device_line (codes "mtimecmp") timer_compare xs ++ device_line (codes "mtime") timer xs
    ++ device_line (codes "transmit") transmit xs ++ device_line (codes "receive") receive xs ++ device_line (codes "status") status xs
    ++ device_line (codes "control") control_register xs

-- ---- the system registers, and the sealed members

unfoldable pub system_line : List Found → List ℕ
system_line xs = if is_let System xs then codes "system registers yes\n" else codes "system registers no\n"

-- what is sealed, with its number among all members
unfoldable pub sealed_line : List Symbol → ℕ → Found → List ℕ
sealed_line symbols number x = if is_sealed x.value then member_line symbols number x else []

-- ---- all of it

-- what is said of a member
abbrev pub said_of : Said → List Symbol → ℕ → Found → List ℕ
said_of said.Line = member_line
said_of said.IfSealed = sealed_line
said_of said.Links = link_lines

unfoldable pub summary_text : Horizon → List Symbol → List Found → List ℕ
summary_text horizon symbols xs =
    count_line horizon xs ++ ranges_text symbols right.Load xs ++ ranges_text symbols right.Capabilities xs
    ++ ranges_text symbols right.Store xs ++ ranges_text symbols right.Execute xs ++ or_none (codes "device") (device_lines xs)
    ++ system_line xs ++ ranges_text symbols right.Seal xs ++ ranges_text symbols right.Unseal xs ++ numbered (sealed_line symbols) 0 xs
