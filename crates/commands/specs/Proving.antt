-- What `prove` tells of an image and a policy.
use Rattle.std.specs.Prelude.{◌≡◌, ℕ, Bool, List, Option, Some}
use Rattle.std.specs.Io.KnownBytes.{Appends}
use Rattle.command_line.specs.declared.plans.ProveRequest.{ProveRequest}
use Rattle.every_run.specs.declared.verdict.Verdict.{Verdict}
use Rattle.every_run.specs.Opens.{EveryRunKeepsTo, IsHolds, holds}
use Rattle.every_run_texts.specs.Text.{verdict_text}
use Rattle.hart.specs.Opening.{opening}
use Rattle.image.specs.Image.{Image}
use Rattle.symbols.specs.Symbols.{Symbol}
use Rattle.commands.specs.declared.loading.Rules.{Rules}
use Rattle.commands.specs.declared.fault.ProgramFault.{ProgramFault}
use Rattle.commands.specs.Auditing.{IsUntold, told_unless}
use Rattle.commands.specs.Files.{File, IsNoMemory}
use Rattle.commands.specs.Loading.{AreRules, IsRulesFault, terms_in}
use Rattle.commands.specs.Programs.{FailsToLoadProgram, IsProgramLoaded}

-- What the files of a request hold: the image, what is told with addresses, and the rules.
pub record IsProofLoaded (request : ProveRequest) (files : Option (List File)) (image : Image) (table : List Symbol) (rules : Rules)
    : Type 0 where
  pub program : IsProgramLoaded request.image.now request.symbols request.lines files image table
  pub policy : AreRules (Some request.policy) table files (Some rules)

-- Where the verdict is that it holds, each run of the image keeps to the rules, with any code in the policy's ranges.
abbrev pub IsShown : Image → Rules → Verdict → Type 0
IsShown image rules verdict = IsHolds verdict → EveryRunKeepsTo (terms_in rules) rules.policy.any.items (opening image)

-- The image of a file is judged by the policy of a file, and the verdict is told, unless nothing is to be.
pub record ProvesFile (request : ProveRequest) (files : Option (List File)) (shown : Bool) (sent out : Option (List ℕ)) : Type 0 where
  pub image : Image
  pub table : List Symbol
  pub rules : Rules
  pub verdict : Verdict
  pub loaded : IsProofLoaded request files image table rules
  pub promise : IsShown image rules verdict
  pub answer : shown ≡ holds verdict
  pub told :
      Appends sent out
      (told_unless request.quiet (verdict_text table rules.policy.any.items rules.policy.lines.items verdict))

-- Why nothing is told: the program isn't loaded; or it is, and the policy can't be; or all is, and there is no memory to judge it; or the
-- verdict can't be written.
pub data FailsToProve (request : ProveRequest) (files : Option (List File)) (fault : ProgramFault) : Type 0 where
  at_program : FailsToLoadProgram request.image.now request.symbols request.lines files fault → FailsToProve request files fault
  at_policy :
      (image : Image) (table : List Symbol) → IsProgramLoaded request.image.now request.symbols request.lines files image table
      → IsRulesFault request.policy.now table files fault → FailsToProve request files fault
  at_proof :
      (image : Image) (table : List Symbol) (rules : Rules) → IsProofLoaded request files image table rules → IsNoMemory fault
      → FailsToProve request files fault
  at_output :
      (image : Image) (table : List Symbol) (rules : Rules) → IsProofLoaded request files image table rules
      → IsUntold request.quiet fault → FailsToProve request files fault
