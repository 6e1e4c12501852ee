use Rattle.std.proofs.Common.{ℕ, ◌^◌, ◌<◌, List, Option, sym, subst, arith}
use Rattle.std.specs.Prelude.{IfSome, slice_index}
use Rattle.devices.specs.Sound.{AreSound}
use Rattle.devices.proofs.devices.Devices.are_sound.Goals as goal

abbrev AreBytes : List ℕ → Type 0
AreBytes xs = (k : ℕ) → slice_index xs k < 256

abbrev Fits : Option ℕ → Type 0
Fits o = IfSome o (λ n. n < 2 ^ 64)

pub returns-in-Some : goal.returns-in-Some
returns-in-Some c =
    let small : c.in-Some._number < 2 ^ 64 = omega arith in
    let bytes : AreBytes c.as_slice.result.now = c.are_bytes.ensures in
    subst AreSound c.self.view_is (record {
      devices = c.self.invariant;
      kept = c.are_numbers.ensures;
      waiting = subst AreBytes c.as_slice.ensures.value bytes;
      halted = subst Fits (sym c.in-Some.is) small;
    })

pub returns : goal.returns
returns c =
    let bytes : AreBytes c.as_slice.result.now = c.are_bytes.ensures in
    subst AreSound c.self.view_is (record {
      devices = c.self.invariant;
      kept = c.are_numbers.ensures;
      waiting = subst AreBytes c.as_slice.ensures.value bytes;
      halted = subst Fits (sym c.in_default.is) tt;
    })
