use Rattle.reach.proofs.Meaning.{store-opens, opens-store, byte-opens, opens-byte, granule-opens, keeping-opens, opens-type, type-opens}
use Rattle.reach.proofs.Meaning.{opens-unsealing, unsealing-opens}
use Rattle.reach.proofs.laws.rights_open_their_bytes.Goals as goal

pub returns-clause-store : goal.returns-clause-store
returns-clause-store c = λ v a. (opens-store v a, store-opens v a)

pub returns-clause-byte : goal.returns-clause-byte
returns-clause-byte c = λ v a. (byte-opens v a, opens-byte v a)

pub returns-clause-granule : goal.returns-clause-granule
returns-clause-granule c = granule-opens

pub returns-clause-keep : goal.returns-clause-keep
returns-clause-keep c = keeping-opens

pub returns-clause-seal : goal.returns-clause-seal
returns-clause-seal c = λ v otype. (opens-type v otype, type-opens v otype)

pub returns-clause-unseal : goal.returns-clause-unseal
returns-clause-unseal c = λ v otype. (opens-unsealing v otype, unsealing-opens v otype)
