-- What `debug` writes of a file and what is typed.
use Rattle.std.specs.Prelude.{◌≡◌, ℕ, ◌-◌, ◌^◌, Bool, ◌||◌, if◌then◌else◌, List, [], Option, Some, None, IfSome, IsSomeAnd, is_some, ⊤}
use Rattle.std.specs.Borrow.{Bor}
use Rattle.std.specs.Io.KnownBytes.{Appends}
use Rattle.std.specs.Option.{unwrap_or}
use Rattle.debugger.specs.Conversation.{conversation}
use Rattle.debugger.specs.SessionState.{session_of_image}
use Rattle.debugger.specs.Talk.{heard}
use Rattle.image.specs.Image.{Image}
use Rattle.schedules.specs.declared.schedule.Schedule.{Schedule}
use Rattle.symbols.specs.Symbols.{Symbol}
use Rattle.commands.specs.declared.fault.ProgramFault.{ProgramFault}
use Rattle.commands.specs.declared.fault.ProgramFault.TheVariants.{Input}
use Rattle.commands.specs.Files.{Text, File, IsTextFault, IsUnsentOrNoMemory, bytes_of}
use Rattle.commands.specs.Programs.{FailsToLoadProgram, IsProgramLoaded}

-- The schedule of a session, where a file of input, a gap or a tick is asked for; what isn't is as of `run`. It ends where its steps can't
-- be counted any more.
abbrev pub schedule_asked : Bool → Option ℕ → Option ℕ → Option Schedule
schedule_asked is_typed gap tick =
    if is_typed || (is_some gap || is_some tick)
    then Some (record { steps = 2 ^ 64 - 1; gap = unwrap_or gap 1000; tick = unwrap_or tick 100 }) else None

-- The bytes on the console are those of a file, if one is named.
abbrev pub AreKeys : Option (Bor Text) → Option (List File) → List ℕ → Type 0
AreKeys None files keys = keys ≡ []
AreKeys (Some name) files keys = IfSome (bytes_of name.now files) (λ bytes. keys ≡ bytes)

-- An output grows by the conversation over what is typed with a file's program, and the schedule that is asked for with these bytes on
-- its console.
abbrev pub DebugsFile : Option (List File) → Text → Option (Bor Text) → Option (Bor Text) → Option (Bor Text) → Option ℕ → Option ℕ
    → Option (List ℕ) → Option (List ℕ) → Option (List ℕ) → Type 0
DebugsFile files name symbols lines keys gap tick input old new =
    (image : Image) × (table : List Symbol) × (typed : List ℕ)
    × IsProgramLoaded name symbols lines files image table × AreKeys keys files typed
    × IfSome input (λ lines. Appends old new
    (conversation (heard lines) (session_of_image image table (schedule_asked (is_some keys) gap tick) typed)))

-- a conversation that is cut short: what is typed can't be read, a reply can't be written, or there is no memory
abbrev pub IsTalkFault : ProgramFault → Type 0
IsTalkFault Input = ⊤
IsTalkFault other = IsUnsentOrNoMemory other

-- Why a file isn't debugged to the end of what is typed: its program isn't loaded; or it is, and the bytes on its console can't be read; or
-- these are, and the conversation is cut short.
pub data FailsToDebug (files : Option (List File)) (name : Text) (symbols lines keys : Option (Bor Text)) (fault : ProgramFault)
    : Type 0 where
  at_program : FailsToLoadProgram name symbols lines files fault → FailsToDebug files name symbols lines keys fault
  at_keys :
      (image : Image) (table : List Symbol) → IsProgramLoaded name symbols lines files image table
      → IsSomeAnd keys (λ keys. IsTextFault keys.now files fault) → FailsToDebug files name symbols lines keys fault
  at_talk :
      (image : Image) (table : List Symbol) (typed : List ℕ) → IsProgramLoaded name symbols lines files image table
      → AreKeys keys files typed → IsTalkFault fault → FailsToDebug files name symbols lines keys fault
