use Rattle.std.proofs.Common.{◌∙◌, ap}
use Rattle.debug_commands.specs.declared.command.Command.TheVariants.{Recalls}
use Rattle.debugger.specs.Reply.{is_outside}
use Rattle.debugger.proofs.Recalls.{recalled_in_time}
use Rattle.debugger.proofs.recalling.recalled.Goals as goal

pub append_recalled-requires : goal.append_recalled-requires
append_recalled-requires g c =
    recalled_in_time c.args.recall _ c.in-Some.past c.timeline.invariant.past c.in-Some.is c.requires.limits
    (ap (λ t. is_outside (Recalls c.args.recall) t.machine) c.timeline.view_is ∙ c.requires.inside)
