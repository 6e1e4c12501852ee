use Rattle.assembler.proofs.SoundLemmas.{sound}
use Rattle.assembler.proofs.BuildLemmas.{put_there}
use Rattle.assembler.proofs.builder.Builder.pass.Goals as goal

pub take-requires-clause-valued : goal.take-requires-clause-valued
take-requires-clause-valued c = (sound _ _ c.args.line.now _ c.in-Some.is c.requires.bounds c.requires.fits c.requires.faultless).valued

pub take-requires-clause-words : goal.take-requires-clause-words
take-requires-clause-words c = (sound _ _ c.args.line.now _ c.in-Some.is c.requires.bounds c.requires.fits c.requires.faultless).words

pub take-requires-clause-put : goal.take-requires-clause-put
take-requires-clause-put c =
    put_there _ _ _ c.requires.buildable
    (sound _ _ c.args.line.now _ c.in-Some.is c.requires.bounds c.requires.fits c.requires.faultless).faultless
