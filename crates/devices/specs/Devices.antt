-- The devices: registers in the map, what a load gives and a store does, the timer and the console (profile).
use Rattle.std.specs.Prelude.{ℕ, ◌+◌, ◌*◌, ◌/◌, ◌%◌, ◌^◌, ◌<◌, ◌≤◌, Bool, true, false, not, ◌&&◌, ◌||◌, ◌==◌, nat_lt, nat_le}
use Rattle.std.specs.Prelude.{if◌then◌else◌, List, [], ◌∷◌, ◌++◌, length, slice_index, slice_set, position, Option, Some, None, is_some}
use Rattle.std.specs.List.{list_any}
use Rattle.base.specs.declared.interrupt.TheConstants.{TIMER, EXTERNAL}
use Rattle.base.specs.Bits.{bit}
use Rattle.devices.specs.declared.devices.Effect.{Effect}
use Rattle.devices.specs.declared.devices.Effect.TheVariants as effect
use Rattle.devices.specs.declared.fault.DeviceFault.{DeviceFault}
use Rattle.devices.specs.declared.fault.DeviceFault.TheVariants.{V1, V2}
use Rattle.devices.specs.declared.map.TheConstants.{KEPT, FIRST}

-- the timer's ticks; the numbers of the registers that only keep one, in the order of KEPT; of the console the bytes that wait, whether one
-- was lost, and whether it may interrupt; and the number with which the machine was halted
pub record Devices : Type 0 where
  pub mtime : ℕ
  pub kept : List ℕ
  pub queue : List ℕ
  pub overrun : Bool
  pub control : Bool
  pub halted : Option ℕ

-- at most 64 bytes wait
abbrev pub queue_limit : ℕ
queue_limit = 64

-- What is true of all devices: ticks of 64 bits, and at most 64 bytes that wait.
pub record AreDevices (d : Devices) : Type 0 where
  pub mtime : d.mtime < 2 ^ 64
  pub few : length d.queue ≤ queue_limit

-- as they begin: the timer asks for nothing, and nothing waits
abbrev pub idle : Devices
idle = record { mtime = 0; kept = FIRST; queue = []; overrun = false; control = false; halted = None }

-- ---- the map

abbrev pub halt : ℕ
halt = 0x0010_0000

-- where the registers begin that only keep a number
abbrev pub kept_place : ℕ → ℕ
kept_place k = slice_index KEPT k

-- which of them begins at the address
abbrev pub kept_at : ℕ → Option ℕ
kept_at address = position (λ place. place == address) KEPT

-- the first of them is mtimecmp, the ticks from which on the timer interrupts
abbrev pub timer_compare : ℕ
timer_compare = kept_place 0

abbrev pub mtimecmp : Devices → ℕ
mtimecmp d = slice_index d.kept 0

abbrev pub timer : ℕ
timer = 0x0200_bff8

abbrev pub transmit : ℕ
transmit = 0x1000_0000

abbrev pub receive : ℕ
receive = 0x1000_0008

abbrev pub status : ℕ
status = 0x1000_0010

abbrev pub control_register : ℕ
control_register = 0x1000_0018

-- a register begins at the address that does something of its own
abbrev pub is_named : ℕ → Bool
is_named address = list_any (λ register. address == register) (halt ∷ timer ∷ transmit ∷ receive ∷ status ∷ control_register ∷ [])

-- a register begins at the address
abbrev pub is_register : ℕ → Bool
is_register address = is_named address || is_some (kept_at address)

-- Why a load may not be made: no such register, or not 8 bytes.
unfoldable pub read_fault : ℕ → ℕ → Option DeviceFault
read_fault address size =
    if not (is_register address) then Some V1 else (if size == 8 then None else Some V2)

-- a store of this size may be made where a register begins; a single byte may be stored into transmit too
abbrev pub takes_size : ℕ → ℕ → Bool
takes_size address size = (size == 8) || ((address == transmit) && (size == 1))

-- Why a store may not be made.
unfoldable pub write_fault : ℕ → ℕ → Option DeviceFault
write_fault address size =
    if not (is_register address) then Some V1
    else (if takes_size address size then None else Some V2)

-- ---- loads

-- the oldest byte that waits, or 0
abbrev pub oldest : List ℕ → ℕ
oldest [] = 0
oldest (b ∷ bs) = b

-- the others
abbrev pub without_oldest : List ℕ → List ℕ
without_oldest [] = []
without_oldest (b ∷ bs) = bs

-- a byte waits
abbrev pub waits : List ℕ → Bool
waits [] = false
waits (b ∷ bs) = true

-- bit 0: a byte waits; bit 1: a byte was lost
abbrev pub status_of : Devices → ℕ
status_of d = bit (waits d.queue) + 2 * bit d.overrun

-- the number of the register that only keeps one, 0 where none is meant
abbrev pub kept_value : Option ℕ → List ℕ → ℕ
kept_value (Some k) kept = slice_index kept k
kept_value None kept = 0

-- what a load from a register gives; of halt and transmit 0
unfoldable pub value_at : ℕ → Devices → ℕ
value_at address d =
    if address == timer then d.mtime
    else (if address == receive then oldest d.queue
    else (if address == status then status_of d
    else (if address == control_register then bit d.control
    else kept_value (kept_at address) d.kept)))

-- the devices after it: a load of receive takes the oldest byte
unfoldable pub taken_at : ℕ → Devices → Devices
taken_at address d = record d { queue = if address == receive then without_oldest d.queue else d.queue }

-- ---- stores

-- what a store of a number into a register does outside the devices: halt stores the number, transmit sends the low byte
unfoldable pub effect_of : ℕ → ℕ → Effect
effect_of address value =
    if address == halt then effect.Halt value else (if address == transmit then effect.Byte (value % 256) else effect.None)

-- the byte that is sent
abbrev pub byte_sent : Effect → Option ℕ
byte_sent (effect.Byte b) = Some b
byte_sent (effect.Halt n) = None
byte_sent effect.None = None

-- the register that only keeps a number keeps this one
abbrev pub kept_in : Option ℕ → ℕ → List ℕ → List ℕ
kept_in (Some k) value kept = slice_set kept k value
kept_in None value kept = kept

-- The devices after it: mtime and the registers that only keep a number are set, bit 1 stored into status clears the overrun, control
-- keeps bit 0, and receive keeps nothing.
unfoldable pub written : Devices → ℕ → ℕ → Devices
written d address value = record d {
  mtime = if address == timer then value else d.mtime;
  kept = kept_in (kept_at address) value d.kept;
  overrun = if address == status then d.overrun && not (value / 2 % 2 == 1) else d.overrun;
  control = if address == control_register then value % 2 == 1 else d.control;
  halted = if address == halt then Some value else d.halted;
}

-- ---- what happens outside

-- one tick of the timer, modulo 2 ^ 64
abbrev pub ticked : Devices → Devices
ticked d = record d { mtime = (d.mtime + 1) % 2 ^ 64 }

-- a byte comes: it waits after the others, or it is lost where 64 wait already
unfoldable pub received : ℕ → Devices → Devices
received b d =
    let full : Bool = not (nat_lt (length d.queue) queue_limit) in
    record d {
      queue = if full then d.queue else d.queue ++ (b ∷ []);
      overrun = if full then true else d.overrun;
    }

-- ---- interrupts

-- mip: the timer's bit while mtime is mtimecmp or more, the external one while control allows it and a byte waits
unfoldable pub interrupts_of : Devices → ℕ
interrupts_of d = bit (nat_le (mtimecmp d) d.mtime) * 2 ^ TIMER + bit (d.control && waits d.queue) * 2 ^ EXTERNAL
