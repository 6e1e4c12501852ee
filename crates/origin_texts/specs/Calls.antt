-- The calls that a run leaves open: who called whom and has not returned, the newest first.
-- A step calls where it leaves a link in a register (JAL and JALR: RISC-V manual, volume I; CJALR: UCAM-CL-TR-987, ISA reference), where it
-- invokes a pair (CInvoke), and where it traps. A call is over once a jump through a register, or a pair, goes where it is to return to,
-- and the newest trap once MRET is done; what was called since is over with it. Returns go by addresses.
use Rattle.std.specs.Prelude.{ℕ, suc, Bool, true, false, ◌==◌, if◌then◌else◌, List, [], ◌∷◌, ◌++◌, Option, Some, None, codes, decimal}
use Rattle.std.specs.List.{flat_map}
use Rattle.std.specs.Option.{unwrap_or}
use Rattle.cap_bounds.specs.CapValue.{CapValue, value_address}
use Rattle.hart.specs.Opening.{opening}
use Rattle.isa_rows.specs.Kind.{kind_of}
use Rattle.isa_rows.specs.declared.kinds.Kind.{Kind}
use Rattle.isa_rows.specs.declared.kinds.Kind.TheVariants as kind
use Rattle.isa_rows.specs.declared.operands.Insn.{Insn}
use Rattle.past.specs.Given.{PastState, past_events}
use Rattle.past.specs.Replay.{ReplayState}
use Rattle.schedules.specs.Schedule.{is_halted}
use Rattle.special_regs.specs.Traps.{entry_address}
use Rattle.steps.specs.Event.{after}
use Rattle.steps.specs.Looks.{next_of}
use Rattle.steps.specs.State.{State, pc_of}
use Rattle.steps.specs.Step.{insn_fetched, step_effect, step_fetched}
use Rattle.steps.specs.declared.effect.Effect.{Effect}
use Rattle.steps.specs.declared.effect.Effect.TheVariants as effect
use Rattle.steps.specs.declared.event.Event.{Event}
use Rattle.steps.specs.declared.event.Event.TheVariants.{Step}
use Rattle.symbols.specs.Labels.{labelled}
use Rattle.symbols.specs.Symbols.{Symbol}
use Rattle.origin_texts.specs.declared.calls.Call.{Call}
use Rattle.origin_texts.specs.declared.calls.Return.{Return}
use Rattle.origin_texts.specs.declared.calls.Return.TheVariants.{To, FromTrap}
use Rattle.origin_texts.specs.declared.calls.Passage.{Passage}
use Rattle.origin_texts.specs.declared.calls.Passage.TheVariants.{Jump, Sentry, Pair, Trap}

-- ---- a call, and what ends it

-- by the next instruction, in the event of this number: it is to return to the instruction after it
abbrev pub call_to : Passage → ℕ → ℕ → State → Call
call_to passage target number s =
    record { number = number; passage = passage; from = pc_of s; to = target; back = next_of s }

-- to the entry of a trap: it is to return to the instruction that was not done
abbrev pub trap_to : ℕ → ℕ → State → Call
trap_to entry number s = record { number = number; passage = Trap; from = pc_of s; to = entry; back = pc_of s }

-- What goes where it is to return to is no call.
abbrev pub with_call : Call → List Call → List Call
with_call call calls = if call.to == call.back then calls else call ∷ calls

-- whether a return ends a call
abbrev pub is_trap : Passage → Bool
is_trap Trap = true
is_trap _ = false

abbrev pub ends : Return → Call → Bool
ends (To address) call = call.back == address
ends FromTrap call = is_trap call.passage

-- the calls that a return leaves open: those before the newest that it ends; none of them where it ends none
abbrev pub left_by : Return → List Call → Option (List Call)
left_by return [] = None
left_by return (call ∷ calls) = if ends return call then Some calls else left_by return calls

-- a return that ends none leaves all of them open
abbrev pub returned : Return → List Call → List Call
returned return calls = unwrap_or (left_by return calls) calls

-- ---- steps

-- a jump of a kind that writes its link into a register: register 0 keeps none, and JAL with none stays in what was called
abbrev pub jumped : Kind → ℕ → Call → List Call → List Call
jumped kind.Jal rd call calls = if rd == 0 then calls else with_call call calls
jumped kind.Invoke rd call calls = unwrap_or (left_by (To call.to) calls) (with_call call calls)
jumped _ rd call calls = if rd == 0 then returned (To call.to) calls else with_call call calls

abbrev pub passage_of : Kind → Bool → Passage
passage_of kind.Invoke sealed = Pair
passage_of _ sealed = if sealed then Sentry else Jump

abbrev pub jumped_by : Option Insn → Bool → ℕ → ℕ → ℕ → State → List Call → List Call
jumped_by (Some insn) sealed rd target number s calls =
    jumped (kind_of insn.row) rd (call_to (passage_of (kind_of insn.row) sealed) target number s) calls
jumped_by None sealed rd target number s calls = calls

-- what the effect of a step makes of the calls, in the event of this number
abbrev pub calls_by : Effect CapValue → Option Insn → ℕ → State → List Call → List Call
calls_by (effect.Trap fault) insn number s calls = with_call (trap_to (entry_address fault (value_address s.scrs.mtcc)) number s) calls
calls_by (effect.Link l) insn number s calls = jumped_by insn false l.rd l.target number s calls
calls_by (effect.Enter e) insn number s calls = jumped_by insn e.sealed e.rd e.target number s calls
calls_by (effect.Return sealed) insn number s calls = returned FromTrap calls
calls_by _ insn number s calls = calls

abbrev pub calls_unless : Bool → ℕ → State → List Call → List Call
calls_unless true number s calls = calls
calls_unless false number s calls = calls_by (step_effect s) (insn_fetched (step_fetched s)) number s calls

abbrev pub calls_at : Event → ℕ → State → List Call → List Call
calls_at Step number s calls = calls_unless (is_halted s) number s calls
calls_at _ number s calls = calls

-- ---- a run

-- the calls that are open after events, of which some came before
abbrev pub open_after : ℕ → List Call → List Event → State → List Call
open_after before calls [] s = calls
open_after before calls (e ∷ es) s = open_after (suc before) (calls_at e (suc before) s calls) es (after e s)

-- of a session's past
unfoldable pub open_calls : PastState → Option ReplayState → List Call
open_calls past replay = open_after 0 [] (past_events past replay) (opening past.image)

-- ---- as lines, the newest call first: its event's number, where it was called, what, and where it is to return to

abbrev pub passage_text : Passage → List ℕ
passage_text Jump = codes " called "
passage_text Sentry = codes " called through a sentry "
passage_text Pair = codes " called through a pair "
passage_text Trap = codes " trapped to "

unfoldable pub source_part : List Symbol → Call → List ℕ
source_part symbols call = decimal call.number ++ codes " " ++ labelled symbols call.from

unfoldable pub target_part : List Symbol → Call → List ℕ
target_part symbols call = labelled symbols call.to ++ codes ", to return to " ++ labelled symbols call.back ++ codes "\n"

unfoldable pub call_line : List Symbol → Call → List ℕ
call_line symbols call = source_part symbols call ++ passage_text call.passage ++ target_part symbols call

abbrev pub call_lines : List Symbol → List Call → List ℕ
call_lines symbols [] = codes "no call is open\n"
call_lines symbols (call ∷ calls) = flat_map (call_line symbols) (call ∷ calls)

unfoldable pub calls_text : List Symbol → PastState → Option ReplayState → List ℕ
calls_text symbols past replay = call_lines symbols (open_calls past replay)
