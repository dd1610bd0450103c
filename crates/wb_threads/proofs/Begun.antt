-- A cache that was just opened, from which a session on threads begins.
use Rattle.std.proofs.Common.{◌≡◌, ℕ, ◌≤◌, List, [], length, true, refl, sym, ap, ◌∙◌, subst, arith, Option, Some, None}
use Rattle.std.specs.Option.{IsSome, is_some}
use Rattle.wb_geometry.specs.Image.{Image}
use Rattle.wb_geometry.specs.Device.{State}
use Rattle.wb_crash.specs.Numbers.{all_at}
use Rattle.wb_steps.specs.Rule.{shape_of, cells}
use Rattle.wb_steps.specs.declared.shape.Shape.{Shape}
use Rattle.wb_intake.specs.Carried.{Carried}
use Rattle.wb_intake.specs.Passes.{AreNewcomers, name_of, numbers_of}
use Rattle.wb_intake.specs.declared.pass.Pass.{Pass}
use Rattle.wb_engine.specs.Content.{EngineContent}
use Rattle.wb_engine.specs.Opening.{IsOpened, recovered_to}
use Rattle.wb_engine.proofs.Steps.{told_content}
use Rattle.wb_front.specs.Beginning.{engine_of, intake_of, IsReadied, Carries, IsFreshEngine}
use Rattle.wb_front.specs.declared.opening.Ready.{Ready}
use Rattle.wb_script.specs.Content.{ScriptContent}
use Rattle.wb_serve.specs.Session.{devices, IsBase}
use Rattle.wb_serve.proofs.Openings.{some_opened, base_opened}
use Rattle.wb_threads.specs.Threads.{BeginsFrom}

abbrev content_or : Option Image → Image
content_or None = []
content_or (Some image) = image

-- what the name carries
abbrev pub carried_of : {L B : Type 0} → (L → State) → (B → State) → (clients : ℕ) → Ready L B → Carried
carried_of of_log of_backing clients r = record {
  intake = name_of (intake_of r);
  geometry = (engine_of r).geometry;
  first = (engine_of r).numbers.first;
  clients = clients;
  base = content_or (of_backing (engine_of r).backing).content;
  log_faults = (of_log (engine_of r).log).faults;
  backing_faults = (of_backing (engine_of r).backing).faults;
  log_told = is_some (of_log (engine_of r).log).content;
  backing_told = is_some (of_backing (engine_of r).backing).content;
}

module _ {L B : Type 0} (of_log : L → State) (of_backing : B → State) (log backing : State) (clients : ℕ) (r : Ready L B) (owners : List Pass)
    (ready : IsReadied of_log of_backing log backing clients r owners) where
  abbrev t : Carried
  t = carried_of of_log of_backing clients r

  pub carries : Carries of_log of_backing t r
  carries = record {
    intake = refl;
    geometry = refl;
    first = refl;
    log_faults = refl;
    backing_faults = refl;
    stands = λ some.
        let now = told_content (of_log (engine_of r).log).content some in
        let was = ready.engine.recovered.records.from now.0 now.1 in
        ready.engine.stands t.base (record { only = λ y told. sym (ap content_or told) }) (ap is_some was.1);
    told = λ some. let now = told_content (of_backing (engine_of r).backing).content some in now.1 ∙ ap (λ (image : Image). Some image) (sym (ap content_or now.1));
  }

  begins_at : (engine_of r).numbers.first ≡ recovered_to ready.engine.found
  begins_at = ap (λ numbers. numbers.first) ready.engine.numbers

  pub fresh : IsFreshEngine of_log of_backing (engine_of r)
  fresh = record {
    numbers = ready.engine.numbers ∙ ap all_at (sym begins_at);
    absorbed = ready.engine.absorbed;
    up = ready.engine.up;
    synced = ready.engine.synced;
  }

  pub newcomers : AreNewcomers t.intake (cells (shape_of t.geometry t.first)) owners
  newcomers = subst (λ (k : Shape). AreNewcomers t.intake (cells k) owners) ready.intake.shape ready.passes

  pub begins : (script : ScriptContent) → clients ≡ script.clients → script.sectors ≤ (engine_of r).geometry.backing_sectors → BeginsFrom ready.engine.found script (devices log backing) t
  begins script many fits = record {
    opened = ready.engine.recovered.went.may;
    no_stray = ready.engine.recovered.no_stray;
    fits = omega (arith, fits, ap (λ g. g.backing_sectors) ready.engine.geometry);
    geometry = ready.engine.geometry;
    first = begins_at;
    clients = many;
    log_faults = ready.engine.log_faults;
    backing_faults = ready.engine.backing_faults;
    log_told = some_opened ready.engine;
    based = λ base is. let told = base_opened ready.engine base is in (told.0, ap is_some told.1, ap content_or told.1);
  }
