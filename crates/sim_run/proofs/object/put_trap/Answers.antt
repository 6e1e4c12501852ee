use Rattle.std.proofs.lemmas.Result.{on_ok_weaker}
use Rattle.std.specs.Prelude.{[], codes}
use Rattle.objects.specs.ItemLaws.{inside_three}
use Rattle.objects.specs.Places.{place_field}
use Rattle.sim_run.specs.Object.{fault_fields, trap_field}
use Rattle.sim_run.proofs.object.put_trap.Goals as goal

pub returns-clause-tokens : goal.returns-clause-tokens
unfolding trap_field
returns-clause-tokens c =
    on_ok_weaker c.put-2.result
    (inside_three c.args.name.now c.args.object.now.tokens _ _ _ _ [] (fault_fields c.args.number c.args.fault)
    (place_field (codes "mepc") c.args.symbols.now c.args.mepc) c.in_ok-put.ensures.tokens c.in_ok-put_fault.ensures.tokens
    c.in_ok-put_place.ensures.tokens)
    c.put-2.ensures.tokens
