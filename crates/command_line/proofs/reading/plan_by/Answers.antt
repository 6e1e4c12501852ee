use Rattle.std.proofs.Common.{◌≡◌, Bool, List, [], true, false, map, refl, ap, ◌∙◌, subst, sym}
use Rattle.std.proofs.Common.{inl, inr}
use Rattle.clap.specs.Words.{App, HasKind, HasMatchesOf, Row, Text, fault_of, is_simple, is_simple_and_free, kind_of, subcommand_rows_of}
use Rattle.clap.specs.declared.parser.matches.ArgMatches.{ArgMatches}
use Rattle.clap.specs.declared.error.Error.{Error}
use Rattle.clap.specs.declared.error.kind.ErrorKind.{ErrorKind}
use Rattle.command_line.specs.CommandLine.{program, commands, with_commands, command, with_arguments, rule}
use Rattle.command_line.specs.CommandLine.{program_of, asks_all, found_in, IsPlanOf, IsTaken, NoPlanFits}
use Rattle.command_line.specs.declared.fault.PlanFault.{PlanFault}
use Rattle.command_line.specs.declared.fault.PlanFault.TheVariants.{Memory}
use Rattle.command_line.specs.declared.plans.Plan.{Plan}
use Rattle.std.specs.Prelude.{Err, IfErr, IfOk, Ok, OnOk, Option, Result}
use Rattle.command_line.proofs.reading.plan_by.Goals as goal

-- what clap says of errors holds of a command without rules between its arguments, as the program's
program_is_free : (all : Bool) → is_simple_and_free (program all) ≡ true
unfolding program commands with_commands command with_arguments rule
program_is_free true = refl
program_is_free false = refl

program_is_simple : (all : Bool) → is_simple (program all) ≡ true
unfolding program commands with_commands command with_arguments rule
program_is_simple true = refl
program_is_simple false = refl

is_free : (app : App) (all : Bool) → app ≡ program all → is_simple_and_free app ≡ true
is_free app all e = subst (λ a. is_simple_and_free a ≡ true) (sym e) (program_is_free all)

no_fault : (app : App) (words : List Text) → app ≡ program_of words → fault_of app words ≡ [] → IsTaken words
no_fault app words e h = subst (λ a. fault_of a words ≡ []) e h

-- where nothing is wrong with the words, the error is that there is no memory
only_memory : (app : App) (words : List Text) (e : Error) → app ≡ program_of words → IsTaken words → HasKind (fault_of app words) e
    → kind_of e ≡ ErrorKind.OutOfMemory
only_memory app words e is none h = go (subst (λ k. HasKind k e) (ap (λ a. fault_of a words) is ∙ none) h)
  where
    go : HasKind [] e → kind_of e ≡ ErrorKind.OutOfMemory
    go (inl memory) = memory
    go (inr among) = absurd among

-- what clap found in the words
found_is : (app : App) (words : List Text) (m : ArgMatches) → app ≡ program_of words → HasMatchesOf app words m
    → subcommand_rows_of m ≡ found_in words
found_is app words m is has = (subst (λ a. HasMatchesOf a words m) is has (program_is_simple (asks_all words))).1

-- the command that was made is the program of the words
made : (app : App) (all : Bool) (words : List Text) → app ≡ program all → all ≡ asks_all words → app ≡ program_of words
made app all words is asked = is ∙ ap program asked

-- what says nothing of an error holds of each
on_ok : {T E : Type 0} (r : Result T E) (P : Type 0) → P → OnOk r P
on_ok (Ok x) P p = p
on_ok (Err e) P p = tt

-- where no plan fits what was found, nothing has to be said of the fault
unfit : (r : Result Plan PlanFault) (T : Type 0) (a b : Option (Text × List Row)) → a ≡ b → IfErr r (λ _. NoPlanFits a)
    → IfErr r (λ fault. T → (NoPlanFits b → ⊥) → fault ≡ Memory)
unfit (Ok plan) T a b same none = tt
unfit (Err fault) T a b same none = λ taken fits. absurd (fits (subst (λ found. NoPlanFits found) same none))

pub returns-in-Ok-clause-ok : goal.returns-in-Ok-clause-ok
returns-in-Ok-clause-ok c =
    let is = made _ _ (map (λ word. word.now) c.args.words.now) c.in_ok-command.ensures c.asks_all.ensures in
    subst (λ found. IfOk c.planned.result (IsPlanOf found)) (found_is _ _ _ is c.in-Ok.ensures.ok.2) c.planned.ensures.value

pub returns-in-Ok-clause-err : goal.returns-in-Ok-clause-err
returns-in-Ok-clause-err c =
    let is = made _ _ (map (λ word. word.now) c.args.words.now) c.in_ok-command.ensures c.asks_all.ensures in
    unfit c.planned.result _ _ _ (found_is _ _ _ is c.in-Ok.ensures.ok.2) c.planned.ensures.none

pub returns-in-Ok-clause-taken : goal.returns-in-Ok-clause-taken
returns-in-Ok-clause-taken c =
    let is = made _ _ (map (λ word. word.now) c.args.words.now) c.in_ok-command.ensures c.asks_all.ensures in
    on_ok c.planned.result _ (no_fault _ _ is (c.in-Ok.ensures.kinds (is_free _ _ c.in_ok-command.ensures)))

pub returns-clause-err : goal.returns-clause-err
returns-clause-err c =
    let is = made _ _ (map (λ word. word.now) c.args.words.now) c.in_ok-command.ensures c.asks_all.ensures in
    λ taken fits.
    c.fault_of.ensures (only_memory _ _ c.in-Err.error is taken (c.in-Err.ensures.kinds (is_free _ _ c.in_ok-command.ensures)))
