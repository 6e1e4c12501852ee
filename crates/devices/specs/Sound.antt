-- What every state says of its devices.
use Rattle.std.specs.Prelude.{ℕ, ◌^◌, ◌<◌, slice_index, IfSome}
use Rattle.devices.specs.Devices.{Devices, AreDevices}

-- devices whose registers keep numbers of 64 bits, whose bytes that wait are bytes, and which were halted with a number of 64 bits, if
-- they were
pub record AreSound (d : Devices) : Type 0 where
  pub devices : AreDevices d
  pub kept : (k : ℕ) → slice_index d.kept k < 2 ^ 64
  pub waiting : (k : ℕ) → slice_index d.queue k < 256
  pub halted : IfSome d.halted (λ n. n < 2 ^ 64)
