use Rattle.policy.proofs.Granules.{tagged-readable}
use Rattle.policy.proofs.certificate.granule_keeps.Goals as goal

pub load_cap-word-requires : goal.load_cap-word-requires
load_cap-word-requires g c = tagged-readable c.args.memory.now c.args.address c.is_sound.ensures c.requires.tagged
