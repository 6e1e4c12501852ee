use Rattle.machine.proofs.PlainRuns.{plain-there}
use Rattle.reach.proofs.Meaning.{agree-hidden}
use Rattle.reach.proofs.laws.what_no_member_reads_is_not_learned.Goals as goal

pub returns : goal.returns
returns c = λ events s t vs address size are run no_load no_fetch differs.
    let agree = agree-hidden s vs are t address size no_load no_fetch differs in (
      plain-there events s t run.state run.are_events run.are_plain agree,
      c.plain_runs_are_the_same_in_both_worlds.ensures.twin events s t run agree,
    )
