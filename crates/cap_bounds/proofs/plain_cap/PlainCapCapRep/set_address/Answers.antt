use Rattle.cap_bounds.specs.SetAddress.{at_address}
use Rattle.cap_bounds.proofs.plain_cap.PlainCapCapRep.set_address.Goals as goal

pub returns-in-Untagged : goal.returns-in-Untagged
unfolding at_address
returns-in-Untagged c = rw c.in-Untagged.is (rw c.in-Untagged.is at c.data_at.ensures)
