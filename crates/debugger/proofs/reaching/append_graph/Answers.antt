use Rattle.std.proofs.Common.{ap, ◌∙◌}
use Rattle.reached.specs.Order.{seen_members}
use Rattle.reach_texts.specs.Text.{graph_text}
use Rattle.debugger.proofs.Answering.{told_of}
use Rattle.debugger.proofs.reaching.append_graph.Goals as goal

pub returns : goal.returns
returns g c =
    told_of (graph_text c.args.symbols.now) _ _ c.put_graph.result _ _
    (ap (seen_members g.C.CapRep.value) c.members.ensures ∙ c.in_ok-reach.ensures.members) c.put_graph.ensures
