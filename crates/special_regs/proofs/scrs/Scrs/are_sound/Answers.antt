use Rattle.std.proofs.Common.{subst}
use Rattle.special_regs.specs.Sound.{AreSound}
use Rattle.special_regs.proofs.scrs.Scrs.are_sound.Goals as goal

pub returns : goal.returns
returns g c =
    let s = c.self.inside in
    let valid = g.met.C.CapRep.valid in
    subst AreSound c.self.view_is (record {
      pcc = valid s.pcc;
      ddc = valid s.ddc;
      mtcc = valid s.mtcc;
      mtdc = valid s.mtdc;
      mscratchc = valid s.mscratchc;
      mepcc = valid s.mepcc;
      aligned = c.self.invariant;
    })
