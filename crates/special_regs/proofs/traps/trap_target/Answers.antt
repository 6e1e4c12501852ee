use Rattle.special_regs.specs.SoundLaws.{entry_address-below, entry_address-aligned, IsAligned-placed_at}
use Rattle.special_regs.proofs.traps.trap_target.Goals as goal

pub returns-clause-aligned : goal.returns-clause-aligned
returns-clause-aligned g c =
    rw c.place_at.ensures (
    rw c.entry_address.ensures (
    IsAligned-placed_at _ _ (entry_address-below c.args.fault c.address.result) (entry_address-aligned c.args.fault c.address.result)))
