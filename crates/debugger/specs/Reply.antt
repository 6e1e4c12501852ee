-- The replies of a session, and the state after a command, as functions of the state and the command.
use Rattle.std.specs.Prelude.{ℕ, zero, suc, ◌+◌, ◌-◌, ◌*◌, Bool, true, false, not, ◌&&◌, ◌==◌, nat_lt, if◌then◌else◌, List, [], ◌∷◌, ◌++◌}
use Rattle.std.specs.Prelude.{length, take}
use Rattle.std.specs.Prelude.{drop, replicate, Option, Some, None, is_none, option_map, Result, Ok, Err, bytes_eq, codes, decimal}
use Rattle.std.specs.List.{flat_map, list_any}
use Rattle.std.specs.Option.{unwrap_or}
use Rattle.base.specs.Ram.{ram_base}
use Rattle.cap_bounds.specs.CapValue.{CapValue, value_of, value_flag}
use Rattle.tagged_memory.specs.Memory.{Memory, is_in_ram, bytes_at, number_at, word_at, has_tag, tagged_between}
use Rattle.special_regs.specs.Scrs.{scr_value, scr_values}
use Rattle.base.specs.declared.registers.TheConstants.{CSRS}
use Rattle.special_regs.specs.CsrValues.{csr_value}
use Rattle.devices.specs.Devices.{interrupts_of}
use Rattle.steps.specs.declared.event.Event.{Event}
use Rattle.steps.specs.declared.event.Event.TheVariants as event
use Rattle.steps.specs.State.{State, pc_of}
use Rattle.registers.specs.Registers.{register}
use Rattle.machine.specs.Run.{run_after, run_sent}
use Rattle.explain.specs.WhyObjects.{why_objects}
use Rattle.explain.specs.WhyText.{why_text}
use Rattle.asm_names.specs.Registers.{capability_names, register_name}
use Rattle.asm_names.specs.SpecialNames.{scr_name}
use Rattle.debug_commands.specs.declared.fault.DebugFault.{DebugFault}
use Rattle.debug_commands.specs.declared.fault.DebugFault.TheVariants.{B1, B2, B3, B4}
use Rattle.texts.specs.Hex.{hex_of}
use Rattle.disassembler.specs.Shown.{name_or}
use Rattle.explain.specs.ValueText.{shown_value, value_line}
use Rattle.explain.specs.WordLine.{labelled_word}
use Rattle.symbols.specs.Labels.{labelled}
use Rattle.symbols.specs.Sources.{source_of}
use Rattle.debug_commands.specs.declared.command.Stop.{Stop}
use Rattle.debug_commands.specs.declared.command.Stop.TheVariants as stop
use Rattle.debug_commands.specs.declared.command.Watched.{Watched}
use Rattle.debug_commands.specs.declared.command.Watched.TheVariants.{Held, Bytes}
use Rattle.debug_commands.specs.declared.command.Back.{Back as Distance}
use Rattle.debug_commands.specs.declared.command.Back.TheVariants.{By, ToStop}
use Rattle.debug_commands.specs.declared.command.Command.{Command}
use Rattle.debug_commands.specs.declared.command.Command.TheVariants.{Gives, Shows, Recalls, Back, Sets, Quit}
use Rattle.debug_commands.specs.declared.command.Events.{Events}
use Rattle.debug_commands.specs.declared.command.Events.TheVariants.{Steps, Ticks, Byte, Until, Go, Changed}
use Rattle.origins.specs.declared.place.Place.{Place}
use Rattle.origins.specs.declared.place.Place.TheVariants.{Register, Special, Granule}
use Rattle.debug_commands.specs.declared.command.Recall.{Recall}
use Rattle.debug_commands.specs.declared.command.Recall.TheVariants.{Ago, Origin, Lost, Calls}
use Rattle.debug_commands.specs.declared.command.SetStops.{SetStops}
use Rattle.debug_commands.specs.declared.command.SetStops.TheVariants.{Add, Clear}
use Rattle.debug_commands.specs.declared.command.View.{View}
use Rattle.debug_commands.specs.declared.command.View.TheVariants as view
use Rattle.debug_commands.specs.Command.{about_line, help_text, command_of}
use Rattle.symbols.specs.Symbols.{Symbol}
use Rattle.debugger.specs.LastStop.{since_stop}
use Rattle.debugger.specs.SessionState.{SessionState, TimelineState, session_with}
use Rattle.origins.specs.Places.{held}
use Rattle.origin_texts.specs.Calls.{calls_text}
use Rattle.origin_texts.specs.Lost.{lost_text}
use Rattle.origin_texts.specs.Origin.{origin_text}
use Rattle.past.specs.Given.{PastState, count_of, first_of, position_at, state_at}
use Rattle.past.specs.Position.{at, position_after}
use Rattle.past.specs.Replay.{ReplayState, replayed}
use Rattle.past.specs.declared.given.Given.{Given}
use Rattle.past.specs.declared.given.Given.TheVariants as gave
use Rattle.schedules.specs.Schedule.{is_halted}
use Rattle.debugger.specs.Stepping.{counted_steps, most_sent, steps_holding, steps_while}
use Rattle.debugger.specs.Stops.{Mark, at_stops, is_any_stop, marks_of, nowhere, of_go}
use Rattle.sim_run.specs.Stopping.{is_stop as is_trap_met}
use Rattle.sim_run.specs.declared.stopping.StopAt.TheVariants.{Unfetched}
use Rattle.debugger.specs.Reaching.{graph_reply, may_reply, members_reply, objects_reply, reach_reply}

-- ---- commands that give events

-- whether the events are those of the schedule, if there is one; those of `tick` and `byte` come beside it
abbrev pub are_scheduled : Events → Bool
are_scheduled (Ticks n) = false
are_scheduled (Byte b) = false
are_scheduled other = true

-- the stops of a command's steps: its own, or those of the session
abbrev pub stops_of : Events → List Stop → List Stop
stops_of (Until stop n) stops = stop ∷ []
stops_of (Go n) stops = stops
stops_of other stops = []

-- steps, with the schedule of a session, up to these stops
unfoldable pub own_steps : Events → Option ReplayState → List Mark → State → List Event
own_steps (Steps n) replay marks s = counted_steps replay n s
own_steps (Until stop n) replay marks s = steps_while (at_stops marks) (at_stops marks) replay n (most_sent n) s
own_steps (Go n) replay marks s = steps_while nowhere (of_go marks) replay n (most_sent n) s
own_steps other replay marks s = []

-- before them the tick that is to come yet
abbrev pub owed_events : Bool → List Event
owed_events owed = if owed then event.Tick ∷ [] else []

abbrev pub with_tick : Events → Option ReplayState → Bool → List Mark → State → List Event
with_tick events replay owed marks s = owed_events owed ++ own_steps events replay marks (run_after (owed_events owed) s)

-- the events of a command
unfoldable pub given : Events → Option ReplayState → Bool → List Mark → State → List Event
given (Ticks n) replay owed marks s = replicate n event.Tick
given (Byte b) replay owed marks s = event.Byte b ∷ []
given (Changed place n) replay owed marks s = steps_holding place (held place s) n (at replay owed) s
given events replay owed marks s = with_tick events replay owed marks s

-- what a command's stops watch is as it stands when the command begins
abbrev pub marks_for : Events → List Stop → State → List Mark
marks_for events stops s = marks_of s (stops_of events stops)

abbrev pub given_at : Events → List Mark → TimelineState → List Event
given_at events marks t = given events t.replay t.owed marks t.machine

abbrev pub given_on : Events → List Stop → TimelineState → List Event
given_on events stops t = given_at events (marks_for events stops t.machine) t

-- where the schedule stands after a command's events
unfoldable pub replay_after : Events → List Event → Option ReplayState → Option ReplayState
replay_after events es replay = if are_scheduled events then option_map (replayed es) replay else replay

-- and whether a tick is to come yet; after the halt none comes
unfoldable pub owed_after : Events → List Event → Option ReplayState → Bool → State → Bool
owed_after events es replay owed s =
    if are_scheduled events then (position_after (length es) (at replay owed)).owed && not (is_halted (run_after es s)) else owed

-- what is kept of so many events of a command
abbrev pub given_of : Events → ℕ → Given
given_of (Ticks n) count = gave.Ticks count
given_of (Byte b) count = gave.Byte b
given_of other count = gave.Steps count

abbrev pub past_after : Events → List Event → Option PastState → Option PastState
past_after events es (Some past) = Some (record past { given = past.given ++ given_of events (length es) ∷ [] })
past_after events es None = None

-- the timeline after them
abbrev pub after_events : Events → List Event → TimelineState → TimelineState
after_events events es t = record t {
  machine = run_after es t.machine;
  replay = replay_after events es t.replay;
  owed = owed_after events es t.replay t.owed t.machine;
  past = past_after events es t.past;
}

abbrev pub timeline_of : SessionState → TimelineState
timeline_of s = record { machine = s.machine; replay = s.replay; owed = s.owed; past = s.past }

abbrev pub given_in : Events → SessionState → List Event
given_in events s = given_on events s.stops (timeline_of s)

-- the bytes that were sent, two digits each, or `-` for none
abbrev pub shown_sent : List ℕ → List ℕ
shown_sent [] = codes "-"
shown_sent (b ∷ bs) = flat_map (hex_of 2) (b ∷ bs)

abbrev pub shown_end : Option ℕ → List ℕ
shown_end None = codes "running"
shown_end (Some number) = codes "halted " ++ decimal number

-- where a machine stands, with the line of a source that placed the instruction there, where that is known
unfoldable pub standing : List Symbol → State → List ℕ
standing symbols s =
    codes " pc " ++ labelled symbols (pc_of s) ++ codes " " ++ shown_end s.devices.halted ++ source_of symbols (pc_of s) ++ codes "\n"

-- how many events there were, what was sent, and where the machine stands
abbrev pub events_line : List Symbol → List Event → State → List ℕ
events_line symbols events s =
    codes "events " ++ decimal (length events) ++ codes " out " ++ shown_sent (run_sent events s) ++ standing symbols (run_after events s)

-- what `go` says too: that the next step is a trap whose entry can't be fetched, where no stop of the session holds there
abbrev pub said_after : Events → List Mark → State → List ℕ
said_after (Go n) marks s =
    if is_trap_met Unfetched false s && not (is_any_stop marks s) then codes "before a trap whose entry can't be fetched\n" else []
said_after other marks s = []

abbrev pub events_text : Events → SessionState → List ℕ
events_text events s =
    events_line s.symbols (given_in events s) s.machine
    ++ said_after events (marks_for events s.stops s.machine) (run_after (given_in events s) s.machine)

-- ---- commands that go back, and that show what came before

-- all events of a past but the last n
abbrev pub left_of : ℕ → PastState → ℕ
left_of n past = count_of past.given - n

abbrev pub taken_back_to : ℕ → PastState → TimelineState → TimelineState
taken_back_to n past t = record t {
  machine = state_at n past t.replay;
  replay = (position_at n past t.replay).replay;
  owed = (position_at n past t.replay).owed && not (is_halted (state_at n past t.replay));
  past = Some (record past { given = first_of n past.given });
}

abbrev pub taken_back_in : ℕ → Option PastState → TimelineState → TimelineState
taken_back_in n (Some past) t = taken_back_to (left_of n past) past t
taken_back_in n None t = t

abbrev pub taken_back : ℕ → TimelineState → TimelineState
taken_back n t = taken_back_in n t.past t

-- how many events are taken back: so many, or those since the last place at which a stop holds, if there is one
abbrev pub distance_in : Distance → List Stop → TimelineState → Option ℕ
distance_in (By n) stops t = Some n
distance_in ToStop stops t = since_stop (marks_of t.machine stops) t.replay t.past

abbrev pub events_back : Distance → List Stop → TimelineState → ℕ
events_back distance stops t = unwrap_or (distance_in distance stops t) 0

-- the line of so many events less, and where the machine stands
abbrev pub back_line : List Symbol → ℕ → State → List ℕ
back_line symbols n s =
    codes "events -" ++ decimal n ++ codes " out -" ++ standing symbols s

-- what is shown of a past
unfoldable pub recalled : List Symbol → Recall → PastState → Option ReplayState → List ℕ
recalled symbols Ago past replay = codes "events " ++ decimal (count_of past.given) ++ codes "\n"
recalled symbols (Origin place) past replay = origin_text symbols past replay place
recalled symbols (Lost place) past replay = lost_text symbols past replay place
recalled symbols Calls past replay = calls_text symbols past replay

abbrev pub recalled_in : List Symbol → Recall → Option PastState → Option ReplayState → List ℕ
recalled_in symbols recall (Some past) replay = recalled symbols recall past replay
recalled_in symbols recall None replay = []

-- the most events that a search goes through
abbrev pub most_searched : ℕ
most_searched = 100000000

-- a past has fewer events than are to be taken back, or more than a search goes through
abbrev pub is_beyond_past : Command → PastState → Bool
is_beyond_past (Back (By n)) past = nat_lt (count_of past.given) n
is_beyond_past (Back ToStop) past = nat_lt most_searched (count_of past.given)
is_beyond_past (Recalls (Origin place)) past = nat_lt most_searched (count_of past.given)
is_beyond_past (Recalls (Lost place)) past = nat_lt most_searched (count_of past.given)
is_beyond_past (Recalls Calls) past = nat_lt most_searched (count_of past.given)
is_beyond_past other past = false

-- a session without a past can't go back, and recalls nothing
abbrev pub needs_past : Command → Bool
needs_past (Back distance) = true
needs_past (Recalls recall) = true
needs_past other = false

abbrev pub is_beyond : Command → Option PastState → Bool
is_beyond command (Some past) = is_beyond_past command past
is_beyond command None = needs_past command

-- a command goes back to a stop, and none holds at a place before
abbrev pub lacks_stop : Command → List Stop → TimelineState → Bool
lacks_stop (Back distance) stops t = is_none (distance_in distance stops t)
lacks_stop other stops t = false

-- ---- commands that show

-- the registers from one on, under their names
abbrev pub register_lines : State → ℕ → List (List ℕ) → List ℕ
register_lines s n [] = []
register_lines s n (name ∷ names) = value_line name (register s.registers n) ++ register_lines s (n + 1) names

abbrev pub scr_lines : List (ℕ × CapValue) → List ℕ
scr_lines values = flat_map (λ p. value_line (name_or [] (scr_name p.0)) p.1) values

-- what a register holds under its name; no register has no line
abbrev pub named_line : {A : Type 0} → (A → List ℕ) → List ℕ → Option A → List ℕ
named_line shown name (Some x) = name ++ codes " " ++ shown x ++ codes "\n"
named_line shown name None = []

abbrev pub csr_lines : State → List ℕ
csr_lines s = flat_map (λ r. named_line (hex_of 16) r.1.now (csr_value s.csrs s.scrs (interrupts_of s.devices) r.0)) CSRS

-- what a granule of memory holds, under its address
abbrev pub cap_line : Memory → ℕ → List ℕ
cap_line m granule = value_line (hex_of 16 granule) (value_of (word_at m granule) (has_tag m granule))

-- the tagged granules of RAM in ascending order, one a line
abbrev pub cap_lines : Memory → List ℕ
cap_lines m = flat_map (cap_line m) (tagged_between m ram_base (ram_base + length m.bytes))

-- lines of up to 16 bytes, the first from an address on
abbrev pub byte_line : ℕ → List ℕ → List ℕ
byte_line address bytes = hex_of 16 address ++ codes ":" ++ flat_map (λ b. codes " " ++ hex_of 2 b) bytes ++ codes "\n"

-- so many lines at most
abbrev pub byte_lines : ℕ → ℕ → List ℕ → List ℕ
byte_lines zero address bytes = []
byte_lines (suc n) address bytes =
    if length bytes == 0 then [] else (byte_line address (take 16 bytes) ++ byte_lines n (address + 16) (drop 16 bytes))

-- the words from an address on, one a line
abbrev pub word_lines : List Symbol → Bool → Memory → ℕ → ℕ → List ℕ
word_lines symbols mode m zero address = []
word_lines symbols mode m (suc n) address =
    labelled_word symbols mode address (number_at m address 4) ++ word_lines symbols mode m n (address + 4)

-- ---- replies

-- some byte that is shown is outside RAM
abbrev pub is_view_outside : View → State → Bool
is_view_outside (view.Memory address n) s = not (is_in_ram s.memory address n)
is_view_outside (view.Words address n) s = not (is_in_ram s.memory address (4 * n))
is_view_outside (view.WordsAtPcc n) s = not (is_in_ram s.memory (pc_of s) (4 * n))
is_view_outside other s = false

abbrev pub is_place_outside : Place → State → Bool
is_place_outside (Granule address) s = not (is_in_ram s.memory address 16)
is_place_outside other s = false

abbrev pub is_watched_outside : Watched → State → Bool
is_watched_outside (Held place) s = is_place_outside place s
is_watched_outside (Bytes address n) s = not (is_in_ram s.memory address n)

abbrev pub is_stop_outside : SetStops → State → Bool
is_stop_outside (Add (stop.Changed what)) s = is_watched_outside what s
is_stop_outside other s = false

abbrev pub is_outside : Command → State → Bool
is_outside (Shows what) s = is_view_outside what s
is_outside (Gives (Changed place n)) s = is_place_outside place s
is_outside (Recalls (Origin place)) s = is_place_outside place s
is_outside (Recalls (Lost place)) s = is_place_outside place s
is_outside (Sets set) s = is_stop_outside set s
is_outside other s = false

-- what is watched, as it stands after `stop changed`
abbrev pub watched_text : Watched → List ℕ
watched_text (Held (Register n)) = name_or [] (register_name true n)
watched_text (Held (Special n)) = name_or [] (scr_name n)
watched_text (Held (Granule address)) = hex_of 16 address
watched_text (Bytes address n) = hex_of 16 address ++ codes " " ++ decimal n

-- a stop, as it stands after `stop`
abbrev pub stop_line : Stop → List ℕ
stop_line (stop.Address address) = codes "at " ++ hex_of 16 address ++ codes "\n"
stop_line stop.Trap = codes "trap\n"
stop_line (stop.Changed what) = codes "changed " ++ watched_text what ++ codes "\n"

abbrev pub stops_text : List Stop → List ℕ
stops_text stops = flat_map stop_line stops

-- what a refusal's code means
abbrev pub code_text : DebugFault → List ℕ
code_text B1 = codes "B1 no such command, or no word on the line\n"
code_text B2 =
    codes "B2 operands of another count, form or range; no such label, stop or past; too much to search; a line too long or not ASCII\n"
code_text B3 = codes "B3 some byte to be shown lies outside RAM\n"
code_text B4 = codes "B4 no memory for the reply\n"

-- what is shown
unfoldable pub view_text : List Symbol → List Stop → View → State → List ℕ
view_text symbols stops (view.Register n) s = value_line (name_or [] (register_name true n)) (register s.registers n)
view_text symbols stops (view.SpecialRegister n) s = named_line shown_value (name_or [] (scr_name n)) (scr_value s.scrs n)
view_text symbols stops view.Registers s = register_lines s 0 capability_names
view_text symbols stops view.SpecialRegisters s = scr_lines (scr_values s.scrs)
view_text symbols stops view.ControlRegisters s = csr_lines s
view_text symbols stops view.Capabilities s = cap_lines s.memory
view_text symbols stops (view.Memory address n) s = byte_lines n address (bytes_at s.memory address n)
view_text symbols stops (view.Words address n) s = word_lines symbols (value_flag s.scrs.pcc) s.memory n address
view_text symbols stops (view.WordsAtPcc n) s = word_lines symbols (value_flag s.scrs.pcc) s.memory n (pc_of s)
view_text symbols stops view.Why s = why_text symbols s
view_text symbols stops view.WhyObjects s = why_objects symbols s
view_text symbols stops (view.Reach horizon) s = reach_reply horizon symbols s
view_text symbols stops view.ReachMembers s = members_reply symbols s
view_text symbols stops view.ReachGraph s = graph_reply symbols s
view_text symbols stops view.ReachObjects s = objects_reply symbols s
view_text symbols stops (view.May may horizon) s = may_reply horizon symbols may s
view_text symbols stops view.Stops s = stops_text stops
view_text symbols stops view.Help s = help_text
view_text symbols stops (view.HelpOn line) s = about_line line
view_text symbols stops (view.Code fault) s = code_text fault
view_text symbols stops view.Nothing s = []

-- whether two stops are the same: their lines are
abbrev pub is_same_stop : Stop → Stop → Bool
is_same_stop stop other = bytes_eq (stop_line stop) (stop_line other)

-- one stop more after the others, unless it is one of them; or none
abbrev pub stops_after : SetStops → List Stop → List Stop
stops_after (Add stop) stops = if list_any (is_same_stop stop) stops then stops else (stops ++ stop ∷ [])
stops_after Clear stops = []

-- what a session answers: a text of lines, or that it ends
pub data Answer : Type 0 where
  told : List ℕ → Answer
  ended : Answer

abbrev pub answer_to : Command → SessionState → Answer
answer_to (Gives events) s = told (events_text events s)
answer_to (Shows what) s = told (view_text s.symbols s.stops what s.machine)
answer_to (Back distance) s =
    let n = events_back distance s.stops (timeline_of s) in
    told (back_line s.symbols n (taken_back n (timeline_of s)).machine)
answer_to (Recalls recall) s = told (recalled_in s.symbols recall s.past s.replay)
answer_to (Sets set) s = told (stops_text (stops_after set s.stops))
answer_to Quit s = ended

-- what a line is refused by in a session: what it writes, then events that it wasn't given, then addresses outside RAM, then a stop that
-- doesn't hold before
abbrev pub refused_in : Command → Option PastState → State → Result Command DebugFault
refused_in command past s = if is_beyond command past then Err B2 else (if is_outside command s then Err B3 else Ok command)

abbrev pub allowed : Result Command DebugFault → Option PastState → State → Result Command DebugFault
allowed (Ok command) past s = refused_in command past s
allowed (Err fault) past s = Err fault

abbrev pub with_stop : Command → SessionState → Result Command DebugFault
with_stop command s = if lacks_stop command s.stops (timeline_of s) then Err B2 else Ok command

abbrev pub admitted : Result Command DebugFault → SessionState → Result Command DebugFault
admitted (Ok command) s = with_stop command s
admitted (Err fault) s = Err fault

abbrev pub command_in : List ℕ → SessionState → Result Command DebugFault
command_in line s = admitted (allowed (command_of s.symbols line) s.past s.machine) s

-- the session after a command; none changes the labels
abbrev pub session_after : Command → SessionState → SessionState
session_after (Gives events) s = session_with (after_events events (given_in events s) (timeline_of s)) s.symbols s.stops
session_after (Back distance) s =
    session_with (taken_back (events_back distance s.stops (timeline_of s)) (timeline_of s)) s.symbols s.stops
session_after (Recalls recall) s = s
session_after (Shows what) s = s
session_after (Sets set) s = record s { stops = stops_after set s.stops }
session_after Quit s = s

-- the session after a line: a refused line changes nothing
abbrev pub state_by : Result Command DebugFault → SessionState → SessionState
state_by (Ok command) s = session_after command s
state_by (Err fault) s = s

abbrev pub state_after : List ℕ → SessionState → SessionState
state_after line s = state_by (command_in line s) s
