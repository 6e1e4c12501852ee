use Rattle.std.proofs.lemmas.Result.{on_ok_weaker}
use Rattle.std.specs.Prelude.{◌++◌, Some, codes}
use Rattle.objects.specs.ItemLaws.{said_three, said_two}
use Rattle.objects.specs.Items.{null_field, number_field}
use Rattle.sim_run.specs.Object.{last_trap_field, trap_field}
use Rattle.sim_run.proofs.object.put_traps.Goals as goal

pub returns-in_ok-put_trap-in-Some-2-clause-tokens : goal.returns-in_ok-put_trap-in-Some-2-clause-tokens
returns-in_ok-put_trap-in-Some-2-clause-tokens g c =
    let symbols = c.args.symbols.now in
    let first = c.in-Some.first in
    let last = c.in-Some.last in
    let one = trap_field (codes "first_trap") symbols (Some first.number) first.fault first.pc in
    let other = trap_field (codes "last_trap") symbols (Some last.number) last.fault last.pc in
    rw c.in-Some.is
    (on_ok_weaker c.put.result
    (said_two _ _ _ (one ++ other) (number_field (codes "unfetched") last.unfetched)
    (said_two _ _ _ one other c.in_ok-put_trap-in-Some.ensures.tokens c.in_ok-put_trap-in-Some-2.ensures.tokens))
    c.put.ensures.tokens)

pub returns-in_ok-put_last_trap-in-None-clause-tokens : goal.returns-in_ok-put_last_trap-in-None-clause-tokens
returns-in_ok-put_last_trap-in-None-clause-tokens g c =
    rw c.in-None.is
    (on_ok_weaker c.put-in-None-2.result
    (said_three _ _ _ _ (null_field (codes "first_trap")) (last_trap_field c.args.symbols.now c.args.machine.now)
    (number_field (codes "unfetched") 0) c.in_ok-put-in-None.ensures.tokens c.in_ok-put_last_trap-in-None.ensures.tokens)
    c.put-in-None-2.ensures.tokens)
