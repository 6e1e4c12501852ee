-- The commands of a session: a line each, with its operands and their limits, and what it gives or shows.
use Rattle.std.specs.Prelude.{ℕ, ◌+◌, ◌-◌, ◌%◌, ◌^◌, Bool, ◌&&◌, ◌||◌, ◌==◌, nat_lt, if◌then◌else◌, List, [], ◌∷◌, ◌++◌, length}
use Rattle.std.specs.Prelude.{slice_index, Option, Some, None, Result, Ok, Err, codes}
use Rattle.std.specs.List.{prefix_len, flat_map}
use Rattle.asm_names.specs.Registers.{register_named}
use Rattle.asm_names.specs.SpecialNames.{scr_named}
use Rattle.asm_lines.specs.Statement.{is_word}
use Rattle.asm_lines.specs.Words.{words_of, number_between, read_number}
use Rattle.symbols.specs.Symbols.{Symbol}
use Rattle.debug_commands.specs.Address.{address_at}
use Rattle.debug_commands.specs.declared.fault.DebugFault.{DebugFault}
use Rattle.debug_commands.specs.declared.fault.DebugFault.TheVariants.{B1, B2, B3, B4}
use Rattle.debug_commands.specs.declared.command.Back.{Back as Distance}
use Rattle.debug_commands.specs.declared.command.Back.TheVariants.{By, ToStop}
use Rattle.debug_commands.specs.declared.command.Command.{Command}
use Rattle.debug_commands.specs.declared.command.Command.TheVariants.{Gives, Shows, Recalls, Back, Sets, Quit}
use Rattle.debug_commands.specs.declared.command.Events.TheVariants.{Steps, Ticks, Byte, Until, Go, Changed}
use Rattle.reach.specs.declared.may.Horizon.{Horizon}
use Rattle.reach.specs.declared.may.Horizon.TheVariants.{Stretch, Turn}
use Rattle.origins.specs.declared.place.Place.{Place}
use Rattle.origins.specs.declared.place.Place.TheVariants as holder
use Rattle.debug_commands.specs.declared.command.Recall.TheVariants.{Ago, Origin, Lost, Calls}
use Rattle.debug_commands.specs.declared.command.SetStops.TheVariants.{Add, Clear}
use Rattle.debug_commands.specs.declared.command.Stop.TheVariants as stop
use Rattle.debug_commands.specs.declared.command.View.{View}
use Rattle.debug_commands.specs.declared.command.View.TheVariants as view
use Rattle.debug_commands.specs.declared.command.Watched.{Watched}
use Rattle.debug_commands.specs.declared.command.Watched.TheVariants.{Held, Bytes}
use Rattle.reach.specs.declared.may.May.{May as Question}
use Rattle.reach.specs.declared.may.May.TheVariants.{Store, Load, Execute, Learn, Keep, Send, Halt, System, Timer, Hold}

-- what holds a capability: a register or a special capability register by its name, or else the granule at an address, a multiple of 16
abbrev pub granule_at : ℕ → Option Place
granule_at address = if address % 16 == 0 then Some (holder.Granule address) else None

abbrev pub granule_of : Option ℕ → Option Place
granule_of (Some address) = granule_at address
granule_of None = None

abbrev pub holder_named : Option ℕ → Option ℕ → Option ℕ → Option Place
holder_named (Some n) special address = Some (holder.Register n)
holder_named None (Some n) address = Some (holder.Special n)
holder_named None None address = granule_of address

abbrev pub holder_in : List Symbol → List ℕ → Option Place
holder_in symbols text = holder_named (register_named text) (scr_named text) (address_at symbols text)

-- ---- operands

-- what an operand says, or B2
abbrev pub or_B2 : {A : Type 0} → Option A → Result A DebugFault
or_B2 (Some x) = Ok x
or_B2 None = Err B2

abbrev pub one_number : ℕ → ℕ → List (List ℕ) → Result ℕ DebugFault
one_number low high [] = Err B2
one_number low high (n ∷ []) = or_B2 (read_number (number_between low high n))
one_number low high (n ∷ m ∷ rest) = Err B2

-- a number, or this one where there is none
abbrev pub number_or : ℕ → ℕ → ℕ → List (List ℕ) → Result ℕ DebugFault
number_or otherwise low high [] = Ok otherwise
number_or otherwise low high (n ∷ rest) = one_number low high (n ∷ rest)

abbrev pub one_address : List Symbol → List (List ℕ) → Result ℕ DebugFault
one_address symbols [] = Err B2
one_address symbols (a ∷ []) = or_B2 (address_at symbols a)
one_address symbols (a ∷ b ∷ rest) = Err B2

-- a register or a special capability register, by its name
abbrev pub register_shown : Option ℕ → Option ℕ → Option View
register_shown (Some n) special = Some (view.Register n)
register_shown None (Some n) = Some (view.SpecialRegister n)
register_shown None None = None

abbrev pub one_register : List (List ℕ) → Result View DebugFault
one_register [] = Err B2
one_register (r ∷ []) = or_B2 (register_shown (register_named r) (scr_named r))
one_register (r ∷ s ∷ rest) = Err B2

-- an address that is such a multiple, and a number or this one where there is none
abbrev pub placed : ℕ → Option ℕ → Option ℕ → Result (ℕ × ℕ) DebugFault
placed multiple (Some address) (Some n) = if address % multiple == 0 then Ok (address, n) else Err B2
placed multiple (Some address) None = Err B2
placed multiple None n = Err B2

abbrev pub address_and_number_or : List Symbol → ℕ → ℕ → ℕ → List (List ℕ) → Result (ℕ × ℕ) DebugFault
address_and_number_or symbols otherwise multiple high [] = Err B2
address_and_number_or symbols otherwise multiple high (a ∷ []) = placed multiple (address_at symbols a) (Some otherwise)
address_and_number_or symbols otherwise multiple high (a ∷ n ∷ []) =
    placed multiple (address_at symbols a) (read_number (number_between 1 high n))
address_and_number_or symbols otherwise multiple high (a ∷ n ∷ m ∷ rest) = Err B2

-- the two, if both were read
abbrev pub both : {A B : Type 0} → Option A → Option B → Option (A × B)
both (Some x) (Some y) = Some (x, y)
both (Some x) None = None
both None y = None

-- what holds a capability, alone and with a number
abbrev pub one_holder : List Symbol → List (List ℕ) → Result Place DebugFault
one_holder symbols [] = Err B2
one_holder symbols (r ∷ []) = or_B2 (holder_in symbols r)
one_holder symbols (r ∷ s ∷ rest) = Err B2

abbrev pub holder_and_number : List Symbol → ℕ → List (List ℕ) → Result (Place × ℕ) DebugFault
holder_and_number symbols high [] = Err B2
holder_and_number symbols high (r ∷ []) = Err B2
holder_and_number symbols high (r ∷ n ∷ []) = or_B2 (both (holder_in symbols r) (read_number (number_between 1 high n)))
holder_and_number symbols high (r ∷ n ∷ m ∷ rest) = Err B2

-- What is watched for a change: what holds a capability, or so many bytes from an address. From one that is no multiple of 16 they are 16
-- where their number is left out.
abbrev pub word_watched : Option ℕ → Result Watched DebugFault
word_watched (Some address) = Ok (Bytes address 16)
word_watched None = Err B2

abbrev pub held_watched : Option Place → Option ℕ → Result Watched DebugFault
held_watched (Some place) address = Ok (Held place)
held_watched None address = word_watched address

abbrev pub bytes_watched : Option (ℕ × ℕ) → Result Watched DebugFault
bytes_watched (Some p) = Ok (Bytes p.0 p.1)
bytes_watched None = Err B2

abbrev pub watched : List Symbol → ℕ → List (List ℕ) → Result Watched DebugFault
watched symbols high [] = Err B2
watched symbols high (r ∷ []) = held_watched (holder_in symbols r) (address_at symbols r)
watched symbols high (a ∷ n ∷ []) = bytes_watched (both (address_at symbols a) (read_number (number_between 1 high n)))
watched symbols high (a ∷ n ∷ m ∷ rest) = Err B2

-- how far a command goes back: by so many events, or `to stop`
abbrev pub distance_of : Option ℕ → Result Distance DebugFault
distance_of (Some n) = Ok (By n)
distance_of None = Err B2

abbrev pub distance_back : ℕ → List (List ℕ) → Result Distance DebugFault
distance_back high [] = Err B2
distance_back high (n ∷ []) = distance_of (read_number (number_between 1 high n))
distance_back high (a ∷ b ∷ []) = if is_word a (codes "to") && is_word b (codes "stop") then Ok ToStop else Err B2
distance_back high (a ∷ b ∷ c ∷ rest) = Err B2

-- how far an answer is to hold: no words, or `through doors`
abbrev pub horizon_of : List (List ℕ) → Result Horizon DebugFault
horizon_of [] = Ok Stretch
horizon_of (a ∷ []) = Err B2
horizon_of (a ∷ b ∷ []) = if is_word a (codes "through") && is_word b (codes "doors") then Ok Turn else Err B2
horizon_of (a ∷ b ∷ c ∷ rest) = Err B2

-- what was read, and how far an answer about it is to hold
abbrev pub until : {A : Type 0} → Option A → Result Horizon DebugFault → Result (A × Horizon) DebugFault
until (Some said) (Ok horizon) = Ok (said, horizon)
until (Some said) (Err fault) = Err fault
until None horizon = Err B2

abbrev pub number_and_horizon : ℕ → ℕ → List (List ℕ) → Result (ℕ × Horizon) DebugFault
number_and_horizon low high [] = Err B2
number_and_horizon low high (n ∷ words) = until (read_number (number_between low high n)) (horizon_of words)

abbrev pub bytes_and_horizon : List Symbol → ℕ → List (List ℕ) → Result ((ℕ × ℕ) × Horizon) DebugFault
bytes_and_horizon symbols high [] = Err B2
bytes_and_horizon symbols high (a ∷ []) = Err B2
bytes_and_horizon symbols high (a ∷ n ∷ words) =
    until (both (address_at symbols a) (read_number (number_between 1 high n))) (horizon_of words)

-- how far an answer is to hold alone, about all bytes from 0 on, or else what is read otherwise
abbrev pub all_or : ℕ → Result Horizon DebugFault → Result ((ℕ × ℕ) × Horizon) DebugFault → Result ((ℕ × ℕ) × Horizon) DebugFault
all_or high (Ok horizon) otherwise = Ok ((0, high), horizon)
all_or high (Err fault) otherwise = otherwise

abbrev pub some_bytes_and_horizon : List Symbol → ℕ → List (List ℕ) → Result ((ℕ × ℕ) × Horizon) DebugFault
some_bytes_and_horizon symbols high words = all_or high (horizon_of words) (bytes_and_horizon symbols high words)

-- ---- the table

-- how operands are written: none; a number of these limits, and one that may be left out and then is this one; an address that is such a
-- multiple and a number from 1 on, which may be left out too; an address; a register's name; what holds a capability, alone and with a
-- number from 1 on; what is watched for a change, as many bytes at most; how far a command goes back, by a number from 1 on. And the
-- command of what they say. Or a word of a table of its own, and then that word's operands. A question's operands, nothing, a number, an
-- address and a number, or these two or nothing, end with how far its answer is to hold.
pub data Operands : Type 0 where
  nothing : Command → Operands
  number : ℕ → ℕ → (ℕ → Command) → Operands
  number_if : ℕ → ℕ → ℕ → (ℕ → Command) → Operands
  place : ℕ → ℕ → ℕ → (ℕ → ℕ → Command) → Operands
  an_address : (ℕ → Command) → Operands
  a_register : (View → Command) → Operands
  a_holder : (Place → Command) → Operands
  a_holder_and_number : ℕ → (Place → ℕ → Command) → Operands
  a_watch : ℕ → (Watched → Command) → Operands
  a_distance_back : ℕ → (Distance → Command) → Operands
  a_verb : (List Symbol → List (List ℕ) → Result Command DebugFault) → Operands
  question : Question → Operands
  question_of_number : ℕ → ℕ → (ℕ → Question) → Operands
  question_of_bytes : ℕ → (ℕ → ℕ → Question) → Operands
  question_of_some_bytes : ℕ → (ℕ → ℕ → Question) → Operands

-- a command's name, its operands and an example as `help` shows them, and how they are written
pub record Line : Type 0 where
  pub name : List ℕ
  pub usage : List ℕ
  pub example : List ℕ
  pub operands : Operands

abbrev pub line : List ℕ → List ℕ → List ℕ → Operands → Line
line name usage example operands = record { name = name; usage = usage; example = example; operands = operands }

-- a word of a table of its own, which `help` doesn't show by itself
abbrev pub choice : List ℕ → Operands → Line
choice name operands = line name [] [] operands

abbrev pub made : {A : Type 0} → (A → Command) → Result A DebugFault → Result Command DebugFault
made make (Ok said) = Ok (make said)
made make (Err fault) = Err fault

-- a command without operands, or B2
abbrev pub alone : Command → List (List ℕ) → Result Command DebugFault
alone command [] = Ok command
alone command (w ∷ rest) = Err B2

-- the command of what operands say, or B2
abbrev pub said_by : List Symbol → Operands → List (List ℕ) → Result Command DebugFault
said_by symbols (nothing command) words = alone command words
said_by symbols (number low high make) words = made make (one_number low high words)
said_by symbols (number_if otherwise low high make) words = made make (number_or otherwise low high words)
said_by symbols (place otherwise multiple high make) words =
    made (λ p. make p.0 p.1) (address_and_number_or symbols otherwise multiple high words)
said_by symbols (an_address make) words = made make (one_address symbols words)
said_by symbols (a_register make) words = made make (one_register words)
said_by symbols (a_holder make) words = made make (one_holder symbols words)
said_by symbols (a_holder_and_number high make) words = made (λ p. make p.0 p.1) (holder_and_number symbols high words)
said_by symbols (a_watch high make) words = made make (watched symbols high words)
said_by symbols (a_distance_back high make) words = made make (distance_back high words)
said_by symbols (a_verb read) words = read symbols words
said_by symbols (question may) words = made (λ horizon. Shows (view.May may horizon)) (horizon_of words)
said_by symbols (question_of_number low high make) words =
    made (λ said. Shows (view.May (make said.0) said.1)) (number_and_horizon low high words)
said_by symbols (question_of_bytes high make) words =
    made (λ said. Shows (view.May (make said.0.0 said.0.1) said.1)) (bytes_and_horizon symbols high words)
said_by symbols (question_of_some_bytes high make) words =
    made (λ said. Shows (view.May (make said.0.0 said.0.1) said.1)) (some_bytes_and_horizon symbols high words)

-- the command of the line that has the name, or a fault
abbrev pub command_among : DebugFault → List Symbol → List Line → List ℕ → List (List ℕ) → Result Command DebugFault
command_among fault symbols [] name operands = Err fault
command_among fault symbols (l ∷ ls) name operands =
    if is_word name l.name then said_by symbols l.operands operands else command_among fault symbols ls name operands

-- what may follow `why`: nothing, or a word
abbrev pub reasons : List Line
reasons = choice (codes "json") (nothing (Shows view.WhyObjects)) ∷ []

abbrev pub why_of : List Symbol → List (List ℕ) → Result Command DebugFault
why_of symbols [] = Ok (Shows view.Why)
why_of symbols (word ∷ operands) = command_among B2 symbols reasons word operands

-- what may follow `reach`: nothing, or a word
abbrev pub reaches : List Line
reaches =
    choice (codes "members") (nothing (Shows view.ReachMembers))
    ∷ choice (codes "dot") (nothing (Shows view.ReachGraph))
    ∷ choice (codes "json") (nothing (Shows view.ReachObjects))
    ∷ choice (codes "doors") (nothing (Shows (view.Reach Turn)))
    ∷ []

abbrev pub reach_of : List Symbol → List (List ℕ) → Result Command DebugFault
reach_of symbols [] = Ok (Shows (view.Reach Stretch))
reach_of symbols (word ∷ operands) = command_among B2 symbols reaches word operands

-- what follows `may`: a question, of bytes from an address on or of the machine
abbrev pub questions : List Line
questions =
    choice (codes "store") (question_of_bytes (2 ^ 64 - 1) Store)
    ∷ choice (codes "load") (question_of_bytes (2 ^ 64 - 1) Load)
    ∷ choice (codes "execute") (question_of_bytes (2 ^ 64 - 1) Execute)
    ∷ choice (codes "learn") (question_of_bytes (2 ^ 64 - 1) Learn)
    ∷ choice (codes "keep") (question_of_some_bytes (2 ^ 64 - 1) Keep)
    ∷ choice (codes "send") (question Send)
    ∷ choice (codes "halt") (question Halt)
    ∷ choice (codes "system") (question System)
    ∷ choice (codes "timer") (question Timer)
    ∷ choice (codes "hold") (question_of_number 0 0x3FFFF Hold)
    ∷ []

abbrev pub may_of : List Symbol → List (List ℕ) → Result Command DebugFault
may_of symbols [] = Err B2
may_of symbols (word ∷ operands) = command_among B2 symbols questions word operands

-- what follows `stop`: a stop that is set, or that none is left
abbrev pub settings : List Line
settings =
    choice (codes "at") (an_address (λ address. Sets (Add (stop.Address address))))
    ∷ choice (codes "changed") (a_watch 4096 (λ what. Sets (Add (stop.Changed what))))
    ∷ choice (codes "trap") (nothing (Sets (Add stop.Trap)))
    ∷ choice (codes "off") (nothing (Sets Clear))
    ∷ []

abbrev pub stop_of : List Symbol → List (List ℕ) → Result Command DebugFault
stop_of symbols [] = Err B2
stop_of symbols (word ∷ operands) = command_among B2 symbols settings word operands

-- `dis` alone shows what stands at PCC
abbrev pub dis_of : List Symbol → List (List ℕ) → Result Command DebugFault
dis_of symbols [] = Ok (Shows (view.WordsAtPcc 8))
dis_of symbols (a ∷ rest) = said_by symbols (place 8 4 1024 (λ address n. Shows (view.Words address n))) (a ∷ rest)

-- the codes that may follow `help`
abbrev pub explained : List Line
explained =
    choice (codes "B1") (nothing (Shows (view.Code B1)))
    ∷ choice (codes "B2") (nothing (Shows (view.Code B2)))
    ∷ choice (codes "B3") (nothing (Shows (view.Code B3)))
    ∷ choice (codes "B4") (nothing (Shows (view.Code B4)))
    ∷ []

-- the commands of stops, and those that show; with how what follows `help` is read, which asks the table itself
abbrev pub of_states : (List Symbol → List (List ℕ) → Result Command DebugFault) → List Line
of_states help =
    line (codes "stop") (codes " at ADDR|changed R|changed ADDR [LEN]|trap|off") (codes "stop at 0x80000010") (a_verb stop_of)
    ∷ line (codes "stops") [] (codes "stops") (nothing (Shows view.Stops))
    ∷ line (codes "reg") (codes " R") (codes "reg ca0") (a_register (λ what. Shows what))
    ∷ line (codes "regs") [] (codes "regs") (nothing (Shows view.Registers))
    ∷ line (codes "scr") [] (codes "scr") (nothing (Shows view.SpecialRegisters))
    ∷ line (codes "csr") [] (codes "csr") (nothing (Shows view.ControlRegisters))
    ∷ line (codes "caps") [] (codes "caps") (nothing (Shows view.Capabilities))
    ∷ line (codes "mem") (codes " ADDR [LEN]") (codes "mem 0x80000000 64") (place 16 1 4096 (λ address n. Shows (view.Memory address n)))
    ∷ line (codes "dis") (codes " [ADDR [N]]") (codes "dis 0x80000000 4") (a_verb dis_of)
    ∷ line (codes "why") (codes " [json]") (codes "why json") (a_verb why_of)
    ∷ line (codes "reach") (codes " [members|dot|json|doors]") (codes "reach doors") (a_verb reach_of)
    ∷ line (codes "may")
    (codes " store|load|execute|learn ADDR LEN [through doors]\nmay keep [ADDR LEN] [through doors]\n"
    ++ codes "may send|halt|system|timer [through doors]\nmay hold TYPE [through doors]") (codes "may store 0x80000000 8") (a_verb may_of)
    ∷ line (codes "help") (codes " [COMMAND|B1|B2|B3|B4]") (codes "help stop") (a_verb help)
    ∷ line (codes "quit") [] (codes "quit") (nothing Quit)
    ∷ []

-- before them the commands that give events, take them back, or ask about them
abbrev pub table : (List Symbol → List (List ℕ) → Result Command DebugFault) → List Line
table help =
    line (codes "step") (codes " N") (codes "step 100") (number 1 1000000 (λ n. Gives (Steps n)))
    ∷ line (codes "tick") (codes " N") (codes "tick 1") (number 1 1000000 (λ n. Gives (Ticks n)))
    ∷ line (codes "byte") (codes " B") (codes "byte 0x41") (number 0 255 (λ n. Gives (Byte n)))
    ∷ line (codes "until") (codes " ADDR [N]") (codes "until 0x80000010")
    (place 1000000000 1 1000000 (λ address n. Gives (Until (stop.Address address) n)))
    ∷ line (codes "trap") (codes " [N]") (codes "trap") (number_if 1000000000 1 1000000 (λ n. Gives (Until stop.Trap n)))
    ∷ line (codes "go") (codes " [N]") (codes "go 5000000") (number_if 1000000000 1 1000000000000 (λ n. Gives (Go n)))
    ∷ line (codes "changed") (codes " R|ADDR N") (codes "changed ca0 1000")
    (a_holder_and_number 1000000 (λ place n. Gives (Changed place n)))
    ∷ line (codes "back") (codes " N|to stop") (codes "back to stop") (a_distance_back (2 ^ 64 - 1) (λ distance. Back distance))
    ∷ line (codes "ago") [] (codes "ago") (nothing (Recalls Ago))
    ∷ line (codes "origin") (codes " R|ADDR") (codes "origin ca0") (a_holder (λ place. Recalls (Origin place)))
    ∷ line (codes "lost") (codes " R|ADDR") (codes "lost ca0") (a_holder (λ place. Recalls (Lost place)))
    ∷ line (codes "calls") [] (codes "calls") (nothing (Recalls Calls))
    ∷ of_states help

-- the number of the line that has a name, of those from one number on
abbrev pub line_named : ℕ → List Line → List ℕ → Option ℕ
line_named n [] name = None
line_named n (l ∷ ls) name = if is_word name l.name then Some n else line_named (n + 1) ls name

-- what may follow `help`: nothing, or the name of a command, which the table has whatever follows `help`, or a code
abbrev pub help_on_line : Option ℕ → List Symbol → List ℕ → List (List ℕ) → Result Command DebugFault
help_on_line (Some n) symbols word operands = alone (Shows (view.HelpOn n)) operands
help_on_line None symbols word operands = command_among B2 symbols explained word operands

abbrev pub named_line : List ℕ → Option ℕ
named_line name = line_named 0 (table (λ symbols words. Err B2)) name

abbrev pub help_on : List Symbol → List (List ℕ) → Result Command DebugFault
help_on symbols [] = Ok (Shows view.Help)
help_on symbols (word ∷ operands) = help_on_line (named_line word) symbols word operands

abbrev pub commands : List Line
commands = table help_on

-- what `help` answers: the commands with their operands, one a line
abbrev pub help_text : List ℕ
help_text = flat_map (λ l. l.name ++ l.usage ++ codes "\n") commands

-- what `help` answers of the command of a line, by its number: its operands, and an example
abbrev pub about : Line → List ℕ
about l = l.name ++ l.usage ++ codes "\nfor example: " ++ l.example ++ codes "\n"

abbrev pub about_among : ℕ → List Line → ℕ → List ℕ
about_among n [] m = []
about_among n (l ∷ ls) m = if m == n then about l else about_among (n + 1) ls m

unfoldable pub about_line : ℕ → List ℕ
about_line n = about_among 0 commands n

-- ---- what a line writes

abbrev pub command_named : List Symbol → List ℕ → List (List ℕ) → Result Command DebugFault
command_named symbols name operands = command_among B1 symbols commands name operands

-- a comment: its first word begins with `#`
abbrev pub is_comment : List ℕ → Bool
is_comment word = slice_index word 0 == 35

abbrev pub command_of_words : List Symbol → List (List ℕ) → Result Command DebugFault
command_of_words symbols [] = Err B1
command_of_words symbols (name ∷ operands) = if is_comment name then Ok (Shows view.Nothing) else command_named symbols name operands

-- a line that is too long, or has a byte that is not ASCII
abbrev pub is_unreadable : List ℕ → Bool
is_unreadable line = nat_lt 255 (length line) || nat_lt (prefix_len (λ b. nat_lt b 128) line) (length line)

-- the command that a line writes, over a table of labels
unfoldable pub command_of : List Symbol → List ℕ → Result Command DebugFault
command_of symbols line = if is_unreadable line then Err B2 else command_of_words symbols (words_of line)
