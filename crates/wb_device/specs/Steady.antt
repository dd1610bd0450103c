-- The state of a device in memory that never fails.
use Rattle.std.specs.Prelude.{◌/◌, [], length, Some}
use Rattle.std.proofs.Common.{subst}
use Rattle.std.proofs.lemmas.Option.{same_Some}
use Rattle.wb_geometry.specs.Image.{IsImage, sectors_of}
use Rattle.wb_geometry.proofs.Images.{IsImage-sectors_of}
use Rattle.wb_geometry.specs.Device.{State, IsDevice}
use Rattle.wb_device.specs.declared.steady.SteadyDevice.{SteadyDevice}

-- it tells its content, no fault, and no crash images
abbrev pub steady_state : SteadyDevice → State
steady_state d = record {
  sectors = length d.bytes.items / 512;
  content = Some (sectors_of d.bytes.items);
  leaves_now = λ _. ⊥;
  left_since = λ _ _. ⊥;
  moment = [];
  tells_images = ⊥;
  faults = 0;
  syncs = d.syncs;
  reads = d.reads;
}

pub steady_is_device : (d : SteadyDevice) → IsDevice (steady_state d)
steady_is_device d = record {
  content = λ x told. subst (IsImage (length d.bytes.items / 512)) (same_Some (sectors_of d.bytes.items) x told) (IsImage-sectors_of d.bytes.items);
  now = λ x left. absurd left;
  since = λ m x left. absurd left;
  left = λ tells x told. absurd tells;
  counts_now = λ m x le left. absurd left;
  only_now = λ x left. absurd left;
  wider = λ m n x first last left. left;
  told = λ tells. absurd tells;
  shown = λ m x left. absurd left;
}
