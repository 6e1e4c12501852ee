-- What a conversation over a program says of the files that it and the bytes on its console are of.
use Rattle.std.specs.Prelude.{◌≡◌, ℕ, Bool, List, Option, Result, Ok, Err, IfSome, IfOk, is_some}
use Rattle.std.proofs.Common.{ap, subst, sym, ◌∙◌}
use Rattle.std.specs.Borrow.{Bor}
use Rattle.std.specs.Io.KnownBytes.{Appends}
use Rattle.debugger.specs.Conversation.{conversation}
use Rattle.debugger.specs.SessionState.{session_of_image}
use Rattle.debugger.specs.Talk.{heard}
use Rattle.image.specs.Image.{Image}
use Rattle.schedules.specs.declared.schedule.Schedule.{Schedule}
use Rattle.symbols.specs.Symbols.{Symbol}
use Rattle.program.specs.Debugging.{AreKeys, DebugsFile, schedule_asked}
use Rattle.commands.specs.Files.{Text, File}
use Rattle.commands.specs.Programs.{IsProgramLoaded}

module _ {X E : Type 0} (contents : X → Option (List ℕ)) (files : Option (List File)) (name : Text) (symbols lines keys : Option (Bor Text))
    (gap tick : Option ℕ) (input old : Option (List ℕ)) (image : Image) (typed : List ℕ) where
  pub debugged : (r : Result X E) (table : List Symbol) (schedule : Option Schedule) (is_typed : Bool)
      → IsProgramLoaded name symbols lines files image table → AreKeys keys files typed
      → is_typed ≡ is_some keys → schedule ≡ schedule_asked is_typed gap tick
      → IfOk r (λ out. IfSome input (λ lines. Appends old (contents out)
      (conversation (heard lines) (session_of_image image table schedule typed))))
      → IfOk r (λ out. DebugsFile files name symbols lines keys gap tick input old (contents out))
  debugged (Err e) table schedule is_typed read console typed_is asked told = tt
  debugged (Ok out) table schedule is_typed read console typed_is asked told =
      let same : schedule ≡ schedule_asked (is_some keys) gap tick = asked ∙ ap (λ t. schedule_asked t gap tick) typed_is in (
        image,
        table,
        typed,
        read,
        console,
        subst (λ s. IfSome input (λ lines. Appends old (contents out)
            (conversation (heard lines) (session_of_image image table s typed)))) same told,
      )
