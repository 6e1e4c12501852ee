use Rattle.std.proofs.Common.{◌++◌, take, drop, ap, sym, subst, ◌∙◌}
use Rattle.machine.specs.Run.{run_after, run_sent}
use Rattle.machine.specs.Stretch.{EndsBefore}
use Rattle.machine.proofs.Twins.{EndTogether, end-together}
use Rattle.machine.proofs.worlds.run_both.Given.{Over}
use Rattle.machine.proofs.worlds.run_both.Goals as goal

together : (g : Over) (c : goal.After-unwrap-second g)
    → EndTogether c.args.events.now c.args.one.now c.args.two.now c.unwrap-first.result.done c.unwrap-second.result.done
    c.unwrap-first.result.why c.unwrap-second.result.why c.run_stretch.new.self c.run_stretch-2.new.self
together g c =
    end-together c.args.events.now c.args.one.now c.args.two.now c.unwrap-first.result.done c.unwrap-second.result.done
    c.unwrap-first.result.why c.unwrap-second.result.why c.run_stretch.new.self c.run_stretch-2.new.self
    ((rw c.unwrap-first.ensures at c.run_stretch.ensures.two_worlds) c.args.two.now c.requires)
    (rw c.unwrap-first.ensures at c.run_stretch.ensures.state)
    (rw c.unwrap-second.ensures at c.run_stretch-2.ensures.state)
    (rw c.unwrap-second.ensures at c.run_stretch-2.ensures.some)
    (rw c.unwrap-second.ensures at c.run_stretch-2.ensures.plain)
    (rw c.unwrap-second.ensures at c.run_stretch-2.ensures.end)

pub returns-clause-stretch : goal.returns-clause-stretch
returns-clause-stretch g c =
    record {
      some = rw c.unwrap-first.ensures at c.run_stretch.ensures.some;
      plain = rw c.unwrap-first.ensures at c.run_stretch.ensures.plain;
      end = subst (EndsBefore c.unwrap-first.result.why (drop c.unwrap-first.result.done c.args.events.now))
          (rw c.unwrap-first.ensures at c.run_stretch.ensures.state) (rw c.unwrap-first.ensures at c.run_stretch.ensures.end);
    }

pub returns-clause-two_state : goal.returns-clause-two_state
returns-clause-two_state g c =
    (rw c.unwrap-second.ensures at c.run_stretch-2.ensures.state)
    ∙ ap (λ n. run_after (take n c.args.events.now) c.args.two.now) (sym (together g c).done)

pub returns-clause-done : goal.returns-clause-done
returns-clause-done g c = (together g c).done

pub returns-clause-why : goal.returns-clause-why
returns-clause-why g c = (together g c).why

pub returns-clause-agree : goal.returns-clause-agree
returns-clause-agree g c = (together g c).agree

pub returns-clause-two_bytes : goal.returns-clause-two_bytes
returns-clause-two_bytes g c =
    (rw c.unwrap-second.ensures at c.run_stretch-2.ensures.bytes)
    ∙ ap (λ bytes. bytes ++ run_sent (take c.unwrap-second.result.done c.args.events.now) c.args.two.now) c.make_room.ensures.two_items
    ∙ ap (λ bytes. c.args.two_out.now.items ++ bytes) (together g c).bytes
