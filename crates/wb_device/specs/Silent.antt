-- The state of a device that tells neither its content nor what a crash may leave.
use Rattle.std.specs.Prelude.{ℕ, [], None}
use Rattle.std.proofs.lemmas.Option.{none-some}
use Rattle.wb_geometry.specs.Device.{State, IsDevice}

abbrev pub silent_state : (sectors faults syncs reads : ℕ) → State
silent_state sectors faults syncs reads = record {
  sectors = sectors;
  content = None;
  leaves_now = λ _. ⊥;
  left_since = λ _ _. ⊥;
  moment = [];
  tells_images = ⊥;
  faults = faults;
  syncs = syncs;
  reads = reads;
}

pub silent_is_device : (sectors faults syncs reads : ℕ) → IsDevice (silent_state sectors faults syncs reads)
silent_is_device sectors faults syncs reads = record {
  content = λ x told. absurd (none-some x told);
  now = λ x left. absurd left;
  since = λ m x left. absurd left;
  left = λ tells x told. absurd (none-some x told);
  counts_now = λ m x le left. absurd left;
  only_now = λ x left. absurd left;
  wider = λ m n x first last left. left;
  told = λ tells. absurd tells;
  shown = λ m x left. absurd left;
}
