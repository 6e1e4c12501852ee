use Rattle.std.proofs.Common.{arith, rules, ℕ, ◌≡◌, ◌-◌, List, length, take, drop}
use Rattle.std.proofs.lemmas.List.{take_all, length-drop}
use Rattle.std.proofs.Math.Seq.{take-add}
use Rattle.std.proofs.KnownBytes.{Appends-trans}
use Rattle.image.proofs.devices.write_all.Goals as goal

-- a slice up to the end is the rest
to_the_end : (at : ℕ) (bytes : List ℕ) → take (length bytes - at) (drop at bytes) ≡ drop at bytes
to_the_end at bytes = take_all _ _ (rw length-drop (omega arith))

pub loop-at-preserved : goal.loop-at-preserved
loop-at-preserved g c = record {
  within = search rules;
  written =
      let more = rw (to_the_end c.loop-at.at c.args.bytes.now) at c.in_ok-at.ensures.bytes in
      rw take-add (Appends-trans _ _ _ _ _ c.loop-at.invariant.written more);
  count = search rules;
}
