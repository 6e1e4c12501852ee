use Rattle.std.proofs.Common.{◌≡◌, ◌<◌, ◌^◌, take}
use Rattle.std.specs.Prelude.{Some, map}
use Rattle.past.specs.Given.{count_of}
use Rattle.cherisim_c.specs.Pasts.{given_of}
use Rattle.cherisim_c.proofs.pasts.past_of_image.Given as goal

-- what was noted is what the first of all say
abbrev pub invariant-loop-noted : goal.invariant-loop-noted
invariant-loop-noted l = record {
  image : l.past.image ≡ l.fn.image;
  given : map given_of (take l.noted-index l.all) ≡ map Some l.past.given;
  few : count_of l.past.given < 2 ^ 64;
}
