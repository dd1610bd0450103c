-- What a session leaves of both devices once its engine was closed.
use Rattle.std.proofs.Common.{ℕ, ◌≡◌, ◌+◌, ◌-◌, ◌*◌, ◌/◌, ◌≤◌, List, [], Option, Some, None, ap, ◌∙◌, subst, arith}
use Rattle.std.specs.Option.{IsSome}
use Rattle.std.proofs.Math.Nat.{div-lt_iff_lt-mul}
use Rattle.std.proofs.lemmas.List.Elements.{All-contains_itself}
use Rattle.wb_geometry.specs.Image.{Image}
use Rattle.wb_geometry.specs.History.{HistoryEntry, after, PutsPartly}
use Rattle.wb_geometry.specs.Layout.{places}
use Rattle.wb_geometry.specs.Line.{line_of}
use Rattle.wb_geometry.specs.Device.{State, ContentPasses, NothingPending}
use Rattle.wb_geometry.specs.declared.geometry.Geometry.{Geometry}
use Rattle.wb_geometry.specs.declared.which.Which.{Which}
use Rattle.wb_geometry.specs.declared.which.Which.TheVariants.{Log, Backing}
use Rattle.wb_geometry.proofs.Histories.{puts_then}
use Rattle.wb_geometry.proofs.Geometries.{places_few}
use Rattle.wb_super.specs.Superblock.{record_of}
use Rattle.wb_super.specs.declared.reading.Super.{Super}
use Rattle.wb_crash.specs.Chain.{IsChain}
use Rattle.wb_crash.specs.Crash.{CrashNow}
use Rattle.wb_engine.specs.Content.{EngineContent}
use Rattle.wb_engine.specs.Standing.{Standing, Told, IsSynced, line}
use Rattle.wb_engine.specs.Closing.{last_id}
use Rattle.wb_engine.specs.Opening.{recovered_to}
use Rattle.wb_serve.specs.Session.{last_segment, covered_segment}
use Rattle.wb_engine.specs.Settling.{stable_places}
use Rattle.wb_serve.specs.Playing.{HasCome, IsTold}
use Rattle.wb_serve.proofs.Moves.{a_base, told_base}
use Rattle.wb_serve.proofs.Crashes.{crash_around}
use Rattle.wb_serve.proofs.Faults.{FaultsEnd}

module _ {L B : Type 0} where
  -- the engine of a cache with this superblock, once so many places were taken
  pub record IsCacheOf (found : Super) (taken : ℕ) (e : EngineContent L B) : Type 0 where
    pub geometry : e.geometry ≡ found.geometry
    pub first : e.numbers.first ≡ recovered_to found
    pub absorbed : e.absorbed ≡ taken

  told_of : (P : Geometry × ℕ × ℕ → Type 0) (found : Super) (taken : ℕ) (e : EngineContent L B) → IsCacheOf found taken e → P (e.geometry, e.numbers.first, e.absorbed) → P (found.geometry, recovered_to found, taken)
  told_of P found taken e cache holds =
      let same : (e.geometry, e.numbers.first, e.absorbed) ≡ (found.geometry, recovered_to found, taken) = cc (cache.geometry, cache.first, cache.absorbed) in
      subst P same holds

-- places in so many segments are in no more
covered_few : (n covers segments : ℕ) → 1 ≤ n → covers ≤ n * segments → (covers + n - 1) / n ≤ segments
covered_few n covers segments some low =
    let few = (div-lt_iff_lt-mul {k = n} {x = covers + n - 1} {y = segments + 1} some).1 (omega (arith, low, some)) in
    omega (arith, few)

-- what closing an engine left of both devices; this one failed, if one did
pub record Closes {L B : Type 0} (of_log : L → State) (of_backing : B → State) (fault : Option Which) (log_end backing_end : State) (e : EngineContent L B) : Type 0 where
  pub content : fault ≡ None → (base : Image) (history : List HistoryEntry) → Standing of_log of_backing e base history → (image : Image) → Told backing_end image → image ≡ after base history
  pub empty : fault ≡ None → (base : Image) (history : List HistoryEntry) → Standing of_log of_backing e base history → (image : Image) → Told log_end image
      → IsChain e.geometry image [] × (record_of image ≡ last_id e)
  pub crash : (base : Image) (history : List HistoryEntry) → Standing of_log of_backing e base history
      → CrashNow e.geometry (line e base history) e.numbers.stable (last_id e) log_end backing_end
  pub changed : (base : Image) (history : List HistoryEntry) → Standing of_log of_backing e base history → ContentPasses (PutsPartly history) (of_backing e.backing) backing_end
  pub durable : fault ≡ None → IsSynced of_log of_backing e → NothingPending log_end × NothingPending backing_end
  pub log_faults : FaultsEnd Log fault e.down (of_log e.log).faults log_end.faults
  pub backing_faults : FaultsEnd Backing fault e.down (of_backing e.backing).faults backing_end.faults

module _ {L B : Type 0} {of_log : L → State} {of_backing : B → State} {fault : Option Which} {log_end backing_end : State} {start e : EngineContent L B} {h : List HistoryEntry}
    {log_fails backing_fails : ℕ} where
  pub end_changed : (base : Image) → HasCome of_log of_backing start e h log_fails backing_fails → Closes of_log of_backing fault log_end backing_end e
      → IsTold of_log of_backing start base → (image : Image) × (backing_end.content ≡ Some image) × PutsPartly h base image
  end_changed base come closes tells =
      let stands = come.stands base (told_base (of_backing start.backing) base tells.1) tells.0 in
      let to = (come.changed tells.0).told base tells.1 in
      let end = (closes.changed base h stands).told to.0 to.1 in
      (end.0, end.1, puts_then h h base to.0 end.0 (All-contains_itself h) to.2 end.2)

  -- the whole history is put where nothing failed
  pub end_content : (base : Image) → HasCome of_log of_backing start e h log_fails backing_fails → Closes of_log of_backing fault log_end backing_end e
      → IsTold of_log of_backing start base → fault ≡ None → backing_end.content ≡ Some (after base h)
  end_content base come closes tells none =
      let changed = end_changed base come closes tells in
      changed.1 ∙ ap (λ (x : Image). Some x) (closes.content none base h (come.stands base (told_base (of_backing start.backing) base tells.1) tells.0) changed.0 changed.1)

  -- and recorded, so that the log has nothing for recovery
  pub end_empty : (found : Super) (taken : ℕ) → IsCacheOf found taken e
      → HasCome of_log of_backing start e h log_fails backing_fails → Closes of_log of_backing fault log_end backing_end e
      → IsSome (of_log start.log).content → fault ≡ None → (x : Image) → log_end.content ≡ Some x → IsChain found.geometry x [] × (record_of x ≡ last_segment found taken)
  end_empty found taken cache come closes some none x told =
      let base = a_base (of_backing start.backing) in
      let P : Geometry × ℕ × ℕ → Type 0 = λ t. IsChain t.0 x [] × (record_of x ≡ t.1 + (t.2 + places t.0 - 1) / places t.0) in
      let was : P (e.geometry, e.numbers.first, e.absorbed) = closes.empty none base.0 h (come.stands base.0 base.1 some) x told in
      told_of P found taken e cache was

  -- what a crash then leaves, from the last segment that these stable places are in to the last of all
  pub end_crash : (found : Super) (taken covers : ℕ) (base : Image) → IsCacheOf found taken e → covers ≤ stable_places e
      → HasCome of_log of_backing start e h log_fails backing_fails → Closes of_log of_backing fault log_end backing_end e
      → IsTold of_log of_backing start base
      → CrashNow found.geometry (line_of (places found.geometry) (recovered_to found) base h) (covered_segment found covers) (last_segment found taken) log_end backing_end
  end_crash found taken covers base cache low come closes tells =
      let stands = come.stands base (told_base (of_backing start.backing) base tells.1) tells.0 in
      let ordered = stands.safe.ordered in
      let n : ℕ = places e.geometry in
      let segments : (covers + n - 1) / n ≤ e.numbers.stable - e.numbers.first = covered_few n covers (e.numbers.stable - e.numbers.first) (places_few e.geometry).0 low in
      let P : Geometry × ℕ × ℕ → Type 0 = λ t.
      CrashNow t.0 (line_of (places t.0) t.1 base h) (t.1 + (covers + places t.0 - 1) / places t.0) (t.1 + (t.2 + places t.0 - 1) / places t.0) log_end backing_end in
      let was : P (e.geometry, e.numbers.first, e.absorbed) =
      crash_around (e.numbers.first + (covers + n - 1) / n) (last_id e) (omega (arith, ordered.start, ordered.recorded, ordered.back, segments)) (omega arith) (closes.crash base h stands) in
      told_of P found taken e cache was
