-- Why files aren't written or read, from what failed and what was done before.
use Rattle.std.specs.Prelude.{◌≡◌, ◌++◌, ℕ, List, [], ◌∷◌, Option, Some, None, Result, Ok, Err, IfErr, IfSome, OnOk}
use Rattle.std.proofs.Common.{◌∙◌, ap, append_assoc, inl, inr, subst, sym}
use Rattle.std.specs.Io.KnownBytes.{Appends}
use Rattle.sim_run.specs.LineLaws.{lines_past-append}
use Rattle.sim_run.specs.Trace.{Says, lines_past}
use Rattle.steps.specs.declared.event.Event.{Event}
use Rattle.steps.specs.State.{State}
use Rattle.symbols.specs.Sources.{faulty_place}
use Rattle.commands.specs.declared.fault.ProgramFault.{ProgramFault}
use Rattle.commands.specs.declared.fault.ProgramFault.TheVariants.{CutShort, Lines, Memory}
use Rattle.commands.specs.Files.{Text, File, Closes, Gains, Holds, IsNew, IsSourcesFault, IsTextSourcesFault, IsUnfinished, IsUnwritten}
use Rattle.commands.specs.Files.{begun, bytes_of}
use Rattle.commands.specs.RunFaults.{IsCutTrace}
use Rattle.commands.proofs.Filing.{gains_closed}

-- a file that is made, and then cut short
pub made_unfinished : (name : Text) (old made new : Option (List File)) (fault : ProgramFault) → Gains old made (begun name ∷ [])
    → IsUnfinished name made new fault → IsUnwritten name old new fault
made_unfinished name old made new (CutShort file) first cut =
    (cut.0, subst (λ files. Gains old files (begun name ∷ [])) (sym cut.1) first)
made_unfinished name old made new other first cut = absurd cut

-- a text that is no table of lines, where it is a file's
line_of_held : (o : Option (List ℕ)) (text : List ℕ) (number : ℕ) → IfSome o (λ held. text ≡ held) → faulty_place text ≡ Some number
    → IfSome o (λ held. faulty_place held ≡ Some number)
line_of_held None text number held is = tt
line_of_held (Some bytes) text number held is = subst (λ t. faulty_place t ≡ Some number) held is

pub sources_fault : (name : Text) (files : Option (List File)) (text : List ℕ) (fault : ProgramFault) → Holds name files text
    → IsTextSourcesFault name text fault → IsSourcesFault name files fault
sources_fault name files text (Lines file number) held is = (is.0, line_of_held (bytes_of name files) text number held is.1)
sources_fault name files text Memory held is = tt
sources_fault name files text other held is = absurd is

-- the lines up to an event begin those of all
pub past_cut : (says : Says) (skipped : ℕ) (events done : List Event) (last : Event) (rest : List Event) (s : State)
    → events ≡ done ++ last ∷ rest
    → (more : List ℕ) × (lines_past says skipped 0 events s ≡ lines_past says skipped 0 (done ++ last ∷ []) s ++ more)
past_cut says skipped events done last rest s is = (
  _,
  ap (λ es. lines_past says skipped 0 es s) (is ∙ sym (append_assoc done (last ∷ []) rest))
      ∙ lines_past-append says skipped 0 (done ++ last ∷ []) rest s,
)

-- a trace whose run the output cut short, which is then closed, if it can be
pub closed_cut : {T : Type 0} (r : Result T ProgramFault) (old made new : Option (List File)) (name lines cut rest : List ℕ)
    (empty held : Option (List ℕ)) → Gains old made (begun name ∷ []) → IsNew old empty → Appends empty held cut → lines ≡ cut ++ rest
    → OnOk r (Closes name held made new) → IfErr r (IsUnfinished name made new) → IsCutTrace name lines old new
closed_cut (Ok x) old made new name lines cut rest empty held first is_new more is closed failed =
    inr (cut, rest, is, gains_closed old made new name cut empty held first is_new more closed)
closed_cut (Err (CutShort file)) old made new name lines cut rest empty held first is_new more is closed failed =
    inl (subst (λ files. Gains old files (begun name ∷ [])) (sym failed.1) first)
closed_cut (Err other) old made new name lines cut rest empty held first is_new more is closed failed = absurd failed
