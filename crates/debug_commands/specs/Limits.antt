-- The limits of a command's operands.
use Rattle.std.specs.Prelude.{◌≡◌, ◌%◌, ◌<◌, ◌≤◌, ⊤, IsTrue}
use Rattle.base.specs.Registers.{is_scr}
use Rattle.debug_commands.specs.declared.command.Command.{Command}
use Rattle.debug_commands.specs.declared.command.Command.TheVariants.{Gives, Shows, Recalls, Back, Sets, Quit}
use Rattle.debug_commands.specs.declared.command.Events.{Events}
use Rattle.debug_commands.specs.declared.command.Events.TheVariants.{Steps, Ticks, Byte, Until, Go, Changed}
use Rattle.origins.specs.Places.{IsHolder}
use Rattle.debug_commands.specs.declared.command.Recall.{Recall}
use Rattle.debug_commands.specs.declared.command.Recall.TheVariants.{Ago, Origin, Lost, Calls}
use Rattle.debug_commands.specs.declared.command.View.{View}
use Rattle.debug_commands.specs.declared.command.View.TheVariants.{Register, SpecialRegister, Memory, Words, WordsAtPcc}

abbrev pub AreWithinLimits : Events → Type 0
AreWithinLimits (Steps n) = n ≤ 1000000
AreWithinLimits (Ticks n) = n ≤ 1000000
AreWithinLimits (Byte b) = ⊤
AreWithinLimits (Until stop n) = n ≤ 1000000000
AreWithinLimits (Go n) = n ≤ 1000000000000
AreWithinLimits (Changed place n) = IsHolder place × (n ≤ 1000000)

abbrev pub IsShownWithinLimits : View → Type 0
IsShownWithinLimits (Register n) = n < 32
IsShownWithinLimits (SpecialRegister n) = IsTrue (is_scr n)
IsShownWithinLimits (Memory address n) = n ≤ 4096
IsShownWithinLimits (Words address n) = (n ≤ 1024) × (address % 4 ≡ 0)
IsShownWithinLimits (WordsAtPcc n) = n ≤ 1024
IsShownWithinLimits other = ⊤

abbrev pub IsRecalledWithinLimits : Recall → Type 0
IsRecalledWithinLimits Ago = ⊤
IsRecalledWithinLimits (Origin place) = IsHolder place
IsRecalledWithinLimits (Lost place) = IsHolder place
IsRecalledWithinLimits Calls = ⊤

abbrev pub IsWithinLimits : Command → Type 0
IsWithinLimits (Gives events) = AreWithinLimits events
IsWithinLimits (Shows view) = IsShownWithinLimits view
IsWithinLimits (Recalls recall) = IsRecalledWithinLimits recall
IsWithinLimits (Back distance) = ⊤
IsWithinLimits (Sets stops) = ⊤
IsWithinLimits Quit = ⊤
