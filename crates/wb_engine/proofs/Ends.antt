-- The end of an engine: the open segment filled, and all segments logged, written back and recorded.
use Rattle.std.proofs.Common.{ℕ, ◌≡◌, ◌⊎◌, ◌+◌, ◌-◌, ◌*◌, ◌/◌, ◌%◌, ◌≤◌, List, [], ◌++◌, length, replicate, Option, Some, None, IfSome, inl, inr, refl, ap, sym, ◌∙◌, subst, arith}
use Rattle.std.proofs.Math.Nat.{div-add-mod, div-mul-le_self}
use Rattle.std.proofs.lemmas.Nat.{le-div}
use Rattle.wb_geometry.specs.Image.{Image}
use Rattle.wb_geometry.specs.Device.{State, Passes, ContentPasses, NothingPending}
use Rattle.wb_geometry.specs.History.{HistoryEntry, Void, after, last_write, PutsPartly}
use Rattle.wb_geometry.specs.Layout.{places}
use Rattle.wb_geometry.specs.Line.{Line, line_of, span, image}
use Rattle.wb_geometry.specs.declared.geometry.Geometry.{Geometry}
use Rattle.wb_geometry.specs.declared.which.Which.{Which}
use Rattle.wb_geometry.proofs.Geometries.{places_few}
use Rattle.wb_geometry.proofs.Histories.{images_equal, length-after}
use Rattle.wb_geometry.proofs.Moments.{weaker, content_weaker, content_same, passes_same}
use Rattle.wb_super.specs.Superblock.{SuperText, record_of}
use Rattle.wb_crash.specs.Chain.{IsChain}
use Rattle.wb_crash.specs.Crash.{CrashNow}
use Rattle.wb_crash.specs.Images.{IsOrdered, IsLogImage, IsBackingImage}
use Rattle.wb_crash.specs.declared.numbers.Numbers.{Numbers}
use Rattle.wb_crash.proofs.Chains.{run_none}
use Rattle.wb_crash.proofs.Recover.{found_tried}
use Rattle.wb_crash.proofs.Crash.{exit_crash}
use Rattle.wb_engine.specs.Content.{EngineContent, IsEngine}
use Rattle.wb_engine.specs.Standing.{Standing, Told, IsSynced, IsOffDevices, line}
use Rattle.wb_engine.specs.Closing.{IsDrained, last_id}
use Rattle.wb_engine.proofs.Among.{puts_same, puts_without_voids}
use Rattle.wb_engine.proofs.Voids.{voids, image_of_all, crash_without_voids}

-- ---- images of an engine whose segments are all recorded

whole_image : (l : Line) (e : Numbers) (y : Image) → e.recorded ≤ e.back → e.stable ≡ e.recorded → IsBackingImage l e y → y ≡ image l e.recorded
whole_image l e y back stable is =
    let at : ℕ = e.recorded in
    let none : e.stable - at ≡ 0 = omega (arith, stable) in
    images_equal y (image l at) (is.size ∙ sym (length-after l.base (span l.list l.first (at - l.first))))
    (λ k below. (is.agrees at (omega arith) back).each k (ap (λ (m : ℕ). last_write k (span l.list at m)) none))

-- no segment is behind the record
empty_chain : (g : Geometry) (l : Line) (e : Numbers) (x : Image) → e.tried ≡ e.recorded → IsLogImage g l e x → IsChain g x []
empty_chain g l e x same logs = record {
  run = run_none g x;
  longest = inr (λ blocks held. absurd (omega (arith, found_tried g l e x (record_of x + 1 + 0) blocks logs held, same, logs.from)));
}

-- all numbers are that of the last sealed segment
pub record AreAll (e : Numbers) : Type 0 where
  pub recorded : e.recorded ≡ e.sealed
  pub back : e.back ≡ e.sealed
  pub stable : e.stable ≡ e.sealed
  pub logged : e.logged ≡ e.sealed
  pub tried : e.tried ≡ e.sealed

are_all : (g : Geometry) (e : Numbers) → IsOrdered g e → e.recorded ≡ e.sealed → AreAll e
are_all g e ordered all = record {
  recorded = all;
  back = omega (arith, all, ordered.recorded, ordered.back, ordered.stable, ordered.logged, ordered.tried);
  stable = omega (arith, all, ordered.recorded, ordered.back, ordered.stable, ordered.logged, ordered.tried);
  logged = omega (arith, all, ordered.recorded, ordered.back, ordered.stable, ordered.logged, ordered.tried);
  tried = omega (arith, all, ordered.recorded, ordered.back, ordered.stable, ordered.logged, ordered.tried);
}

module _ {L B : Type 0} {of_log : L → State} {of_backing : B → State} where
  -- the sealed segments of an engine are no more than those that have an entry
  pub sealed_last : (e : EngineContent L B) → IsEngine of_log of_backing e → e.numbers.sealed ≤ last_id e
  sealed_last e is =
      let n : ℕ = places e.geometry in
      let some : 1 ≤ n = (places_few e.geometry).0 in
      let more : e.absorbed / n ≤ (e.absorbed + n - 1) / n = le-div (e.absorbed / n) (e.absorbed + n - 1) n some (omega (arith, some, div-mul-le_self e.absorbed n)) in
      omega (arith, is.filled.sealed, more)

module _ {L B : Type 0} where
  last_of : (old new : EngineContent L B) → new ≡ old → new.down ≡ None → old.down ≡ None
  last_of old new same up = ap (λ (e : EngineContent L B). e.down) (sym same) ∙ up

module _ {L B : Type 0} (of_log : L → State) (of_backing : B → State) where
  -- the open segment is filled
  pub record IsFull (old filled : EngineContent L B) : Type 0 where
    pub rest : filled.absorbed % places filled.geometry ≡ 0
    pub cut : filled.numbers.sealed ≡ filled.numbers.first + filled.absorbed / places filled.geometry
    pub stands : (base : Image) (h : List HistoryEntry) → Standing of_log of_backing old base h
        → (count : ℕ) × Standing of_log of_backing filled base (h ++ replicate count (Void 0))
    pub synced : IsSynced of_log of_backing old → IsSynced of_log of_backing filled
    pub sealed : filled.numbers.sealed ≡ last_id old
    pub first : filled.numbers.first ≡ old.numbers.first
    pub stable : filled.numbers.stable ≡ old.numbers.stable
    pub kept : IsOffDevices old filled

  -- and then all are recorded, unless a device failed
  pub record IsEnded (old last : EngineContent L B) : Type 0 where
    pub filled : EngineContent L B
    pub full : IsFull old filled
    pub drained : IsDrained of_log of_backing filled last
    pub ordered : last.down ≡ None → IsOrdered last.geometry last.numbers

  -- that was done where the engine was up, and else nothing
  abbrev pub IsFinished : (old last : EngineContent L B) → Type 0
  IsFinished old last = ((old.down ≡ None) × IsEnded old last) ⊎ ((old.down ≡ None → ⊥) × (last ≡ old))

  -- ---- what it stands for

  module _ (old last : EngineContent L B) (ended : IsEnded old last) where
    ended_geometry : last.geometry ≡ old.geometry
    ended_geometry = ended.drained.moves.geometry ∙ ended.full.kept.geometry

    ended_sealed : last.numbers.sealed ≡ last_id old
    ended_sealed = ended.drained.moves.sealed ∙ ended.full.sealed

    ended_stands : (base : Image) (h : List HistoryEntry) → Standing of_log of_backing old base h
        → (count : ℕ) × Standing of_log of_backing last base (h ++ replicate count (Void 0))
    ended_stands base h stands =
        let full = ended.full.stands base h stands in
        (full.0, ended.drained.moves.stands base (h ++ replicate full.0 (Void 0)) full.1)

    ended_all : last.down ≡ None → AreAll last.numbers
    ended_all up = are_all last.geometry last.numbers (ended.ordered up) (ended.drained.done up)

    -- the segments have places for the whole history
    ended_room : (base : Image) (h : List HistoryEntry) → last.down ≡ None → Standing of_log of_backing last base h
        → length h ≤ places last.geometry * (last.numbers.recorded - last.numbers.first)
    ended_room base h up stands =
        let n : ℕ = places ended.filled.geometry in
        let a : ℕ = ended.filled.absorbed in
        let moves = ended.drained.moves in
        let index : last.numbers.recorded - last.numbers.first ≡ a / n = omega (arith, (ended_all up).recorded, moves.sealed, moves.first, ended.full.cut) in
        let whole : places last.geometry * (last.numbers.recorded - last.numbers.first) ≡ n * (a / n) =
        ap (λ (g : Geometry). places g * (last.numbers.recorded - last.numbers.first)) moves.geometry ∙ ap (λ (m : ℕ). n * m) index in
        omega (arith, whole, stands.places, moves.absorbed, ended.full.rest, div-add-mod a n)

    ended_content : last.down ≡ None → (base : Image) (h : List HistoryEntry) → Standing of_log of_backing old base h
        → (y : Image) → Told (of_backing last.backing) y → y ≡ after base h
    ended_content up base h stands y told =
        let at = ended_stands base h stands in
        let all = ended_all up in
        whole_image (line last base (h ++ voids at.0)) last.numbers y (omega (arith, all.recorded, all.back)) (all.stable ∙ sym all.recorded) (at.1.safe.on_backing.shown y (inl told))
        ∙ image_of_all (places last.geometry) last.numbers.first base h at.0 last.numbers.recorded (ended_room base (h ++ voids at.0) up at.1)

    ended_empty : last.down ≡ None → (base : Image) (h : List HistoryEntry) → Standing of_log of_backing old base h
        → (x : Image) → Told (of_log last.log) x → IsChain old.geometry x []
    ended_empty up base h stands x told =
        let at = ended_stands base h stands in
        let all = ended_all up in
        subst (λ (g : Geometry). IsChain g x []) ended_geometry
        (empty_chain last.geometry (line last base (h ++ voids at.0)) last.numbers x (all.tried ∙ sym all.recorded) (at.1.safe.on_log.shown x (inl told)))

    ended_recorded : last.down ≡ None → (base : Image) (h : List HistoryEntry) → Standing of_log of_backing old base h
        → (x : Image) → Told (of_log last.log) x → (record_of x ≡ last_id old) × SuperText x old.geometry 1
    ended_recorded up base h stands x told =
        let at = ended_stands base h stands in
        let all = ended_all up in
        let logs = at.1.safe.on_log.shown x (inl told) in
        (omega (arith, logs.from, logs.to, all.recorded, all.back, ended_sealed), subst (λ (g : Geometry). SuperText x g 1) ended_geometry logs.super)

    ended_crash : (base : Image) (h : List HistoryEntry) → Standing of_log of_backing old base h
        → CrashNow old.geometry (line old base h) old.numbers.stable (last_id old) (of_log last.log) (of_backing last.backing)
    ended_crash base h stands =
        let at = ended_stands base h stands in
        let moves = ended.drained.moves in
        let crash = exit_crash old.numbers.stable (last_id old) at.1.safe (omega (arith, ended.full.stable, moves.stable)) (omega (arith, at.1.safe.ordered.tried, ended_sealed)) in
        subst (λ (g : Geometry). CrashNow g (line_of (places g) old.numbers.first base h) old.numbers.stable (last_id old) (of_log last.log) (of_backing last.backing)) ended_geometry
        (subst (λ (k : ℕ). CrashNow last.geometry (line_of (places last.geometry) k base h) old.numbers.stable (last_id old) (of_log last.log) (of_backing last.backing))
        (moves.first ∙ ended.full.first)
        (crash_without_voids last.geometry (places last.geometry) last.numbers.first base h at.0 old.numbers.stable (last_id old) (of_log last.log) (of_backing last.backing) crash))

    ended_changed : (base : Image) (h : List HistoryEntry) → Standing of_log of_backing old base h
        → ContentPasses (PutsPartly h) (of_backing old.backing) (of_backing last.backing)
    ended_changed base h stands =
        let full = ended.full.stands base h stands in
        subst (λ (b : B). ContentPasses (PutsPartly h) (of_backing b) (of_backing last.backing)) ended.full.kept.backing
        (content_weaker (λ x y told put. puts_without_voids h full.0 x y put) (ended.drained.moves.changed base (h ++ voids full.0) full.1))

    ended_left : (base : Image) (h : List HistoryEntry) → Standing of_log of_backing old base h
        → Passes (PutsPartly h) (of_backing old.backing) (of_backing last.backing)
    ended_left base h stands =
        let full = ended.full.stands base h stands in
        subst (λ (b : B). Passes (PutsPartly h) (of_backing b) (of_backing last.backing)) ended.full.kept.backing
        (weaker (λ x y left put. puts_without_voids h full.0 x y put) (ended.drained.moves.left base (h ++ voids full.0) full.1))

    ended_durable : last.down ≡ None → IsSynced of_log of_backing old → NothingPending (of_log last.log) × NothingPending (of_backing last.backing)
    ended_durable up synced =
        let is = ended.drained.moves.synced (ended.full.synced synced) in
        let all = ended_all up in
        (is.written up (all.stable ∙ sym all.logged), is.written_back up)

  -- ---- the same whether or not the engine was up

  module _ (old last : EngineContent L B) (finished : IsFinished old last) where
    -- an engine that is up at the end was
    was_up : last.down ≡ None → IsEnded old last
    was_up up = elim finished [
      | inl ended ↦ ended.1
      | inr stayed ↦ absurd (stayed.0 (last_of old last stayed.1 up))
    ]

    pub finished_content : last.down ≡ None → (base : Image) (h : List HistoryEntry) → Standing of_log of_backing old base h
        → (y : Image) → Told (of_backing last.backing) y → y ≡ after base h
    finished_content up = ended_content old last (was_up up) up

    pub finished_empty : last.down ≡ None → (base : Image) (h : List HistoryEntry) → Standing of_log of_backing old base h
        → (x : Image) → Told (of_log last.log) x → IsChain old.geometry x []
    finished_empty up = ended_empty old last (was_up up) up

    pub finished_recorded : last.down ≡ None → (base : Image) (h : List HistoryEntry) → Standing of_log of_backing old base h
        → (x : Image) → Told (of_log last.log) x → (record_of x ≡ last_id old) × SuperText x old.geometry 1
    finished_recorded up = ended_recorded old last (was_up up) up

    pub finished_durable : last.down ≡ None → IsSynced of_log of_backing old → NothingPending (of_log last.log) × NothingPending (of_backing last.backing)
    finished_durable up = ended_durable old last (was_up up) up

    pub finished_crash : IsEngine of_log of_backing old → (base : Image) (h : List HistoryEntry) → Standing of_log of_backing old base h
        → CrashNow old.geometry (line old base h) old.numbers.stable (last_id old) (of_log last.log) (of_backing last.backing)
    finished_crash is base h stands = elim finished [
      | inl ended ↦ ended_crash old last ended.1 base h stands
      | inr stayed ↦
          subst (λ (e : EngineContent L B). CrashNow old.geometry (line old base h) old.numbers.stable (last_id old) (of_log e.log) (of_backing e.backing)) (sym stayed.1)
          (exit_crash old.numbers.stable (last_id old) stands.safe (omega arith) (omega (arith, stands.safe.ordered.tried, sealed_last old is)))
    ]

    pub finished_changed : (base : Image) (h : List HistoryEntry) → Standing of_log of_backing old base h
        → ContentPasses (PutsPartly h) (of_backing old.backing) (of_backing last.backing)
    finished_changed base h stands = elim finished [
      | inl ended ↦ ended_changed old last ended.1 base h stands
      | inr stayed ↦
          subst (λ (e : EngineContent L B). ContentPasses (PutsPartly h) (of_backing old.backing) (of_backing e.backing)) (sym stayed.1) (content_same (λ x told. puts_same h x) refl)
    ]

    pub finished_left : (base : Image) (h : List HistoryEntry) → Standing of_log of_backing old base h
        → Passes (PutsPartly h) (of_backing old.backing) (of_backing last.backing)
    finished_left base h stands = elim finished [
      | inl ended ↦ ended_left old last ended.1 base h stands
      | inr stayed ↦ subst (λ (e : EngineContent L B). Passes (PutsPartly h) (of_backing old.backing) (of_backing e.backing)) (sym stayed.1) (passes_same (λ x left. puts_same h x))
    ]

    pub finished_was_down : IfSome old.down (λ which. (last.down ≡ Some which) × (last.log ≡ old.log) × (last.backing ≡ old.backing))
    finished_was_down = elim finished [
      | inl ended ↦ subst (λ (d : Option Which). IfSome d (λ which. (last.down ≡ Some which) × (last.log ≡ old.log) × (last.backing ≡ old.backing))) (sym ended.0) tt
      | inr stayed ↦
          subst (λ (e : EngineContent L B). IfSome old.down (λ which. (e.down ≡ Some which) × (e.log ≡ old.log) × (e.backing ≡ old.backing))) (sym stayed.1) (itself old.down)
    ]
      where
        itself : (d : Option Which) → IfSome d (λ which. (d ≡ Some which) × (old.log ≡ old.log) × (old.backing ≡ old.backing))
        itself None = tt
        itself (Some which) = (refl, refl, refl)
