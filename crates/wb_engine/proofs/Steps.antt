-- What the steps on the log have in common: the backing device isn't called.
use Rattle.std.proofs.Common.{ℕ, ◌≡◌, ◌≤◌, List, Option, Some, None, IsSome, is_some, true≢false, inl, inr, refl, ap, sym, ◌∙◌, subst, arith}
use Rattle.wb_geometry.specs.Image.{Image}
use Rattle.wb_geometry.specs.Device.{State, Passes, ContentPasses, IsSameDevice}
use Rattle.wb_geometry.specs.History.{HistoryEntry, PutsPartly}
use Rattle.wb_geometry.specs.declared.geometry.Geometry.{Geometry}
use Rattle.wb_geometry.specs.declared.which.Which.{Which}
use Rattle.wb_geometry.specs.declared.which.Which.TheVariants.{Log}
use Rattle.wb_geometry.proofs.Moments.{passes_same, content_same, same_device}
use Rattle.wb_crash.specs.Crash.{CrashInCall}
use Rattle.wb_crash.specs.Safety.{Shows, IsSafe}
use Rattle.wb_crash.specs.declared.numbers.Numbers.{Numbers}
use Rattle.wb_memory.specs.Memory.{MemoryContent}
use Rattle.wb_engine.specs.Content.{EngineContent}
use Rattle.wb_engine.specs.Standing.{Standing, IsSynced, line}
use Rattle.wb_engine.specs.Stepping.{IsStep}
use Rattle.wb_engine.proofs.Records.{IsOldOrNext}

-- ---- contents

pub told_content : {X : Type 0} (o : Option X) → IsSome o → (x : X) × (o ≡ Some x)
told_content (Some x) some = (x, refl)
told_content None some = absurd (true≢false (sym some))

-- where the content was told, it is after a call
pub still_told : {Step : Image → Image → Type 0} {old new : State} → ContentPasses Step old new → IsSome old.content → IsSome new.content
still_told {old = old} pass told = let was = told_content old.content told in ap is_some (pass.told was.0 was.1).1

-- an engine isn't both up and down
pub up_and_down : {T : Type 0} {which : Which} (down : Option Which) → down ≡ Some which → down ≡ None → T
up_and_down None is up = absurd (cc)
up_and_down (Some which) is up = absurd (cc)

-- nothing is put
pub puts_none : (history : List HistoryEntry) (x : Image) → PutsPartly history x x
puts_none history x = record { size = refl; each = λ i. inl refl }

-- ---- the engine

-- The numbers are these, the engine is up or is down by this device, the log came to l, the backing device wasn't called, and
-- all else but the memory is as it was.
pub record IsStepTo {L B : Type 0} (old new : EngineContent L B) (l : L) (numbers : Numbers) (down : Option Which) : Type 0 where
  pub geometry : new.geometry ≡ old.geometry
  pub numbers_are : new.numbers ≡ numbers
  pub absorbed : new.absorbed ≡ old.absorbed
  pub down_is : new.down ≡ down
  pub log : new.log ≡ l
  pub backing : new.backing ≡ old.backing

module _ {L B : Type 0} where
  -- the engine with these in place of its own
  abbrev pub put_into : EngineContent L B → Geometry → Numbers → ℕ → Option Which → L → B → EngineContent L B
  put_into e g n absorbed down l b = record { geometry = g; numbers = n; absorbed = absorbed; down = down; log = l; backing = b; memory = e.memory }

module _ {L B : Type 0} {of_log : L → State} {of_backing : B → State} where
  standing_into : (e : EngineContent L B) (base : Image) (history : List HistoryEntry)
      → Standing of_log of_backing (put_into e e.geometry e.numbers e.absorbed e.down e.log e.backing) base history → Standing of_log of_backing e base history
  standing_into e base history is = record {
    told = is.told;
    places = is.places;
    memory = is.memory;
    logged = is.logged;
    safe = is.safe;
    record_is = is.record_is;
  }

  -- so what is shown for these is shown for the engine
  pub standing_to : (old new : EngineContent L B) (l : L) (n : Numbers) (down : Option Which) (base : Image) (history : List HistoryEntry) → IsStepTo old new l n down
      → Standing of_log of_backing (put_into new old.geometry n old.absorbed down l old.backing) base history → Standing of_log of_backing new base history
  standing_to old new l n down base history to is =
      standing_into new base history
      (subst (λ (g : Geometry). Standing of_log of_backing (put_into new g new.numbers new.absorbed new.down new.log new.backing) base history) (sym to.geometry)
      (subst (λ (m : Numbers). Standing of_log of_backing (put_into new old.geometry m new.absorbed new.down new.log new.backing) base history) (sym to.numbers_are)
      (subst (λ (a : ℕ). Standing of_log of_backing (put_into new old.geometry n a new.down new.log new.backing) base history) (sym to.absorbed)
      (subst (λ (d : Option Which). Standing of_log of_backing (put_into new old.geometry n old.absorbed d new.log new.backing) base history) (sym to.down_is)
      (subst (λ (x : L). Standing of_log of_backing (put_into new old.geometry n old.absorbed down x new.backing) base history) (sym to.log)
      (subst (λ (y : B). Standing of_log of_backing (put_into new old.geometry n old.absorbed down l y) base history) (sym to.backing) is))))))

  -- a step that calls the log alone
  pub step_on_log : (old new : EngineContent L B) (l : L) (n : Numbers) (down : Option Which) → IsStepTo old new l n down
      → n.first ≡ old.numbers.first → n.sealed ≡ old.numbers.sealed → old.numbers.stable ≤ n.stable → IsSameDevice (of_log old.log) (of_log l)
      → ((base : Image) (history : List HistoryEntry) → Standing of_log of_backing old base history → Standing of_log of_backing new base history)
      → (IsSynced of_log of_backing old → IsSynced of_log of_backing (record new { log = l; backing = old.backing }))
      → ((base : Image) (history : List HistoryEntry) → Standing of_log of_backing old base history
      → CrashInCall old.geometry (line old base history) old.numbers.stable n.tried (of_log old.log) (of_log l) (of_backing old.backing) (of_backing old.backing))
      → IsStep of_log of_backing old new
  step_on_log old new l n down to first sealed stable same stands synced crash = record {
    moves = record {
      stands = stands;
      changed = λ base history standing.
          subst (λ (b : B). ContentPasses (PutsPartly history) (of_backing old.backing) (of_backing b)) (sym to.backing) (content_same (λ x told. puts_none history x) refl);
      left = λ base history standing.
          subst (λ (b : B). Passes (PutsPartly history) (of_backing old.backing) (of_backing b)) (sym to.backing) (passes_same (λ x left. puts_none history x));
      synced = λ was.
          subst (λ (x : L). IsSynced of_log of_backing (record new { log = x })) (sym to.log)
          (subst (λ (b : B). IsSynced of_log of_backing (record new { log = l; backing = b })) (sym to.backing) (synced was));
      geometry = to.geometry;
      absorbed = to.absorbed;
      first = ap (λ (m : Numbers). m.first) to.numbers_are ∙ first;
      sealed = ap (λ (m : Numbers). m.sealed) to.numbers_are ∙ sealed;
      stable = omega (arith, stable, ap (λ (m : Numbers). m.stable) to.numbers_are);
      same_log = subst (λ (x : L). IsSameDevice (of_log old.log) (of_log x)) (sym to.log) same;
      same_backing = subst (λ (b : B). IsSameDevice (of_backing old.backing) (of_backing b)) (sym to.backing) (same_device (of_backing old.backing));
    };
    crash = λ base history standing.
        subst (λ (x : L). CrashInCall old.geometry (line old base history) old.numbers.stable new.numbers.tried (of_log old.log) (of_log x) (of_backing old.backing) (of_backing new.backing))
        (sym to.log)
        (subst (λ (b : B). CrashInCall old.geometry (line old base history) old.numbers.stable new.numbers.tried (of_log old.log) (of_log l) (of_backing old.backing) (of_backing b))
        (sym to.backing)
        (subst (λ (m : Numbers). CrashInCall old.geometry (line old base history) old.numbers.stable m.tried (of_log old.log) (of_log l) (of_backing old.backing) (of_backing old.backing))
        (sym to.numbers_are) (crash base history standing)));
  }

  -- the log failed, by which the engine is down
  standing_failed : (old new : EngineContent L B) (tried : ℕ) (l : L) (base : Image) (history : List HistoryEntry)
      → IsStepTo old new l (record old.numbers { tried = tried }) (Some Log) → new.memory ≡ old.memory → (IsSome (of_log old.log).content → IsSome (of_log l).content)
      → IsSafe old.geometry (line old base history) (record old.numbers { tried = tried }) (of_log l) (of_backing old.backing) → ((x : Image) → Shows (of_log l) x → IsOldOrNext old.numbers x)
      → Standing of_log of_backing old base history → Standing of_log of_backing new base history
  standing_failed old new tried l base history to memory told safe record_is stands =
      standing_to old new l (record old.numbers { tried = tried }) (Some Log) base history to
      (subst (λ (m : MemoryContent). Standing of_log of_backing (record {
        geometry = old.geometry;
        numbers = record old.numbers { tried = tried };
        absorbed = old.absorbed;
        down = Some Log;
        log = l;
        backing = old.backing;
        memory = m;
      }) base history) (sym memory) (record {
        told = told stands.told;
        places = stands.places;
        memory = stands.memory;
        logged = stands.logged;
        safe = safe;
        record_is = λ x shows. elim (record_is x shows) [
          | inl is ↦ inl is
          | inr next ↦ inr (refl, next)
        ];
      }))

  pub failed_step : (old new : EngineContent L B) (tried : ℕ) (l : L)
      → IsStepTo old new l (record old.numbers { tried = tried }) (Some Log) → new.memory ≡ old.memory → IsSameDevice (of_log old.log) (of_log l)
      → (IsSome (of_log old.log).content → IsSome (of_log l).content)
      → ((base : Image) (history : List HistoryEntry) → Standing of_log of_backing old base history
      → IsSafe old.geometry (line old base history) (record old.numbers { tried = tried }) (of_log l) (of_backing old.backing))
      → ((base : Image) (history : List HistoryEntry) → Standing of_log of_backing old base history → (x : Image) → Shows (of_log l) x → IsOldOrNext old.numbers x)
      → ((base : Image) (history : List HistoryEntry) → Standing of_log of_backing old base history
      → CrashInCall old.geometry (line old base history) old.numbers.stable tried (of_log old.log) (of_log l) (of_backing old.backing) (of_backing old.backing))
      → IsStep of_log of_backing old new
  failed_step old new tried l to memory same told safe record_is crash =
      step_on_log old new l (record old.numbers { tried = tried }) (Some Log) to refl refl (omega arith) same
      (λ base history stands. standing_failed old new tried l base history to memory told (safe base history stands) (record_is base history stands) stands)
      (λ was. record { written_back = λ up. up_and_down new.down to.down_is up; written = λ up. up_and_down new.down to.down_is up }) crash
