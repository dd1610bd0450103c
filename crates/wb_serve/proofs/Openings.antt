-- An engine that was just opened, from which a session begins.
use Rattle.std.proofs.Common.{ℕ, ◌≡◌, [], Option, Some, None, refl, ap, sym, ◌∙◌, arith}
use Rattle.std.specs.Option.{IsSome, IfSome, is_some}
use Rattle.wb_geometry.specs.Image.{Image}
use Rattle.wb_geometry.specs.Device.{State}
use Rattle.wb_geometry.specs.declared.which.Which.{Which}
use Rattle.wb_geometry.specs.declared.which.Which.TheVariants.{Log, Backing}
use Rattle.wb_geometry.proofs.Moments.{content_same, same_device}
use Rattle.wb_crash.proofs.Recover.{one_recovered}
use Rattle.wb_engine.specs.Content.{EngineContent}
use Rattle.wb_engine.specs.Opening.{IsOpened}
use Rattle.wb_engine.proofs.Steps.{told_content}
use Rattle.wb_serve.specs.Session.{devices, IsBase}
use Rattle.wb_serve.specs.Playing.{FaultsWent, HasCome, IsTold}
use Rattle.wb_serve.proofs.Moves.{puts_none}

-- no fault was counted of a device, and the engine is up
no_faults : (device : Which) {down : Option Which} (n : ℕ) → down ≡ None → FaultsWent device 0 None down n n
no_faults device {down} n up = record {
  later = omega arith;
  failed = omega arith;
  fine = λ none other. refl;
  goes_down = λ was is. absurd (let both : None ≡ Some device = sym up ∙ is in cc);
}

module _ {L B : Type 0} {of_log : L → State} {of_backing : B → State} {log backing : State} {start : EngineContent L B} where
  -- nothing was done since it was opened
  pub come_opened : IsOpened of_log of_backing log backing start → HasCome of_log of_backing start start [] 0 0
  come_opened opens = record {
    places = sym opens.absorbed;
    stands = λ base only some.
        let now = told_content (of_log start.log).content some in
        let was = opens.recovered.records.from now.0 now.1 in
        opens.stands base only (ap is_some was.1);
    changed = λ some. content_same (λ x told. puts_none [] x) refl;
    synced = opens.synced;
    same_log = same_device (of_log start.log);
    same_backing = same_device (of_backing start.backing);
    kept = record { geometry = refl; first = refl };
    log_faults = no_faults Log (of_log start.log).faults opens.up;
    backing_faults = no_faults Backing (of_backing start.backing).faults opens.up;
  }

  -- where the log told its content, it does now
  pub some_opened : IsOpened of_log of_backing log backing start → IsSome log.content → IsSome (of_log start.log).content
  some_opened opens some =
      let was = told_content log.content some in
      ap is_some (opens.recovered.records.told was.0 was.1).1

  -- what recovery makes of the contents is the content of the backing device
  pub base_opened : (opens : IsOpened of_log of_backing log backing start) (base : Image) → IsBase opens.found (devices log backing) base → IsTold of_log of_backing start base
  base_opened opens base (x, y, makes) =
      let now = (opens.recovered.all_put x makes.log_told).puts.told y makes.told in
      let same : now.0 ≡ base = one_recovered opens.found.geometry x y now.0 base now.2 makes.makes in
      (ap is_some (opens.recovered.records.told x makes.log_told).1, now.1 ∙ ap (λ (z : Image). Some z) same)

  pub told_opened : (opens : IsOpened of_log of_backing log backing start) (content : Option Image) → IfSome content (IsBase opens.found (devices log backing))
      → IfSome content (IsTold of_log of_backing start)
  told_opened opens None is = tt
  told_opened opens (Some base) is = base_opened opens base is
