-- What recovery makes between two numbers of segments it makes between numbers around them.
use Rattle.std.proofs.Common.{ℕ, ◌≤◌, arith}
use Rattle.wb_geometry.specs.Image.{Image}
use Rattle.wb_geometry.specs.Device.{State}
use Rattle.wb_geometry.specs.Line.{Line}
use Rattle.wb_geometry.specs.declared.geometry.Geometry.{Geometry}
use Rattle.wb_crash.specs.Crash.{RecoversBetween, CrashNow}
use Rattle.wb_crash.proofs.Crash.{sums_between}

recovers_around : {g : Geometry} {line : Line} {x y : Image} {low high : ℕ} (from until : ℕ) → from ≤ low → high ≤ until → RecoversBetween g line low high x y → RecoversBetween g line from until x y
recovers_around from until below above between = record {
  super = between.super;
  tidy = between.tidy;
  makes = λ sums.
      let made = between.makes (sums_between sums below above) in
      (made.0, omega (arith, below, made.1), omega (arith, above, made.2), made.3);
}

pub crash_around : {g : Geometry} {line : Line} {log backing : State} {low high : ℕ} (from until : ℕ) → from ≤ low → high ≤ until → CrashNow g line low high log backing → CrashNow g line from until log backing
crash_around from until below above now = record {
  each = λ x y log_left backing_left. recovers_around from until below above (now.each x y log_left backing_left);
}
