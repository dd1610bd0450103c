-- An entry comes to an engine: what it stands for, with the entry behind.
use Rattle.std.proofs.Common.{ℕ, suc, ◌≡◌, ◌+◌, ◌-◌, ◌*◌, ◌/◌, ◌%◌, ◌^◌, ◌<◌, ◌≤◌, List, [], ◌∷◌, ◌++◌, length, refl, ap, sym, ◌∙◌, subst, arith}
use Rattle.std.proofs.Math.Nat.{mul-suc, div-add-mod, mod-lt, mul-le-mul_left}
use Rattle.std.proofs.lemmas.List.{length_push}
use Rattle.wb_geometry.specs.Image.{Image}
use Rattle.wb_geometry.specs.Device.{State}
use Rattle.wb_geometry.specs.History.{HistoryEntry}
use Rattle.wb_geometry.specs.Layout.{places}
use Rattle.wb_geometry.specs.Line.{Line, segment}
use Rattle.wb_geometry.specs.declared.geometry.Geometry.{Geometry}
use Rattle.wb_geometry.proofs.Geometries.{places_few}
use Rattle.wb_geometry.proofs.Lines.{segment-kept, segment-push, segment-none}
use Rattle.wb_header.specs.Segments.{Segment}
use Rattle.wb_header.specs.Standing.{StandsFor}
use Rattle.wb_log.specs.Kept.{Kept, metas_at}
use Rattle.wb_crash.specs.Images.{IsOrdered, IsLogImage, IsBackingImage}
use Rattle.wb_crash.specs.Safety.{IsSafe}
use Rattle.wb_crash.specs.declared.numbers.Numbers.{Numbers}
use Rattle.wb_crash.proofs.Lines.{engine_along, grown}
use Rattle.wb_memory.specs.Memory.{MemoryContent, segment_at}
use Rattle.wb_engine.specs.Content.{EngineContent, IsEngine}
use Rattle.wb_engine.specs.Standing.{Standing, IsListed}
use Rattle.wb_engine.proofs.Held.{AreHeld, AreInTurn, held_push, held_front, held_last, held_same, turn_front, turn_last}

-- ---- places and segments

-- the places of the segments before the one of a place, and behind it
pub places_before : (n absorbed : ℕ) → 1 ≤ n → n * (absorbed / n) ≤ absorbed
places_before n absorbed some = omega (arith, div-add-mod absorbed n)

pub places_behind : (n absorbed : ℕ) → 1 ≤ n → absorbed < n * suc (absorbed / n)
places_behind n absorbed some =
    let rest : absorbed % n < n = mod-lt absorbed (let z : 0 < n = omega arith in z) in
    omega (arith, div-add-mod absorbed n, mul-suc n (absorbed / n))

-- a segment up to the last that is full stays as it is
pub full_kept : (n first absorbed s : ℕ) (h : List HistoryEntry) (e : HistoryEntry) → 1 ≤ n → length h ≡ absorbed → first < s → s ≤ first + absorbed / n
    → segment n first (h ++ e ∷ []) s ≡ segment n first h s
full_kept n first absorbed s h e some size above below =
    let few : n * (s - first) ≤ n * (absorbed / n) = mul-le-mul_left n (let z : s - first ≤ absorbed / n = omega arith in z) in
    segment-kept n first h (e ∷ []) s above (omega (arith, places_before n absorbed some))

-- the next takes the entry
pub next_pushed : (n first absorbed s : ℕ) (h : List HistoryEntry) (e : HistoryEntry) → 1 ≤ n → length h ≡ absorbed → s ≡ first + absorbed / n + 1
    → segment n first (h ++ e ∷ []) s ≡ segment n first h s ++ e ∷ []
next_pushed n first absorbed s h e some size is =
    let before : s - (first + 1) ≡ absorbed / n = omega arith in
    let behind : s - first ≡ suc (absorbed / n) = omega arith in
    segment-push n first h e s (omega arith)
    (subst (λ (k : ℕ). n * k ≤ length h) (sym before) (omega (arith, places_before n absorbed some)))
    (subst (λ (k : ℕ). length h < n * k) (sym behind) (omega (arith, places_behind n absorbed some)))

-- and one behind that has none
pub behind_none : (n first absorbed s : ℕ) (h : List HistoryEntry) → 1 ≤ n → length h ≡ absorbed → first + absorbed / n + 1 < s → segment n first h s ≡ []
behind_none n first absorbed s h some size past =
    let more : suc (absorbed / n) ≤ s - (first + 1) = omega arith in
    let room : n * suc (absorbed / n) ≤ n * (s - (first + 1)) = mul-le-mul_left n more in
    segment-none n first h s (omega (arith, places_behind n absorbed some))

-- ---- an entry

-- the places of the segments that were begun are taken
begun_full : (n first absorbed tried sealed : ℕ) → 1 ≤ n → tried ≤ sealed → sealed ≡ first + absorbed / n → n * (tried - first) ≤ absorbed
begun_full n first absorbed tried sealed some few is =
    let below : tried - first ≤ absorbed / n = omega arith in
    omega (arith, mul-le-mul_left n below, places_before n absorbed some)

-- what is kept of a segment in the log, of the same entries
listed_same : (logged now : Kept) (s : ℕ) (old new : List HistoryEntry) → now ≡ logged → new ≡ old → IsListed (metas_at logged s) old → IsListed (metas_at now s) new
listed_same logged now s old new same entries is =
    subst (IsListed (metas_at now s)) (sym entries) (subst (λ (k : Kept). IsListed (metas_at k s) old) (sym same) is)

-- the number of the last sealed segment says nothing of what the devices hold
ordered_sealed : (g : Geometry) (e : Numbers) → e.sealed + 1 ≤ 2 ^ 48 → IsOrdered g e → IsOrdered g (record e { sealed = e.sealed + 1 })
ordered_sealed g e ids is = record {
  start = is.start;
  recorded = is.recorded;
  back = is.back;
  stable = is.stable;
  logged = is.logged;
  tried = omega (arith, is.tried);
  one = is.one;
  room = is.room;
  ids = ids;
}

log_sealed : (g : Geometry) (line : Line) (e : Numbers) (x : Image) → IsLogImage g line e x → IsLogImage g line (record e { sealed = e.sealed + 1 }) x
log_sealed g line e x is = record { super = is.super; from = is.from; to = is.to; synced = is.synced; begun = is.begun; newest = is.newest }

backs_sealed : (line : Line) (e : Numbers) (y : Image) → IsBackingImage line e y → IsBackingImage line (record e { sealed = e.sealed + 1 }) y
backs_sealed line e y is = record { size = is.size; agrees = is.agrees }

pub safe_sealed : {g : Geometry} {line : Line} {e : Numbers} {log backing : State} → e.sealed + 1 ≤ 2 ^ 48 → IsSafe g line e log backing
    → IsSafe g line (record e { sealed = e.sealed + 1 }) log backing
safe_sealed {g} {line} {e} ids safe = record {
  ordered = ordered_sealed g e ids safe.ordered;
  start = safe.start;
  on_log = record { logged = safe.on_log.logged; shown = λ x shows. log_sealed g line e x (safe.on_log.shown x shows) };
  on_backing = record { shown = λ y shows. backs_sealed line e y (safe.on_backing.shown y shows) };
}

module _ {L B : Type 0} {of_log : L → State} {of_backing : B → State} where
  -- the open segment takes it
  pub standing_pushed : (e : EngineContent L B) (m : MemoryContent) (base : Image) (h : List HistoryEntry) (entry : HistoryEntry) → IsEngine of_log of_backing e
      → m.sealed ≡ e.memory.sealed → m.current.id ≡ e.memory.current.id → m.logged ≡ e.memory.logged
      → ((entries : List HistoryEntry) → StandsFor e.memory.current.blocks entries → StandsFor m.current.blocks (entries ++ entry ∷ []))
      → Standing of_log of_backing e base h → Standing of_log of_backing (record e { absorbed = e.absorbed + 1; memory = m }) base (h ++ entry ∷ [])
  standing_pushed e m base h entry is sealed same_id same_logged step stands =
      let n : ℕ = places e.geometry in
      let first : ℕ = e.numbers.first in
      let old : ℕ → List HistoryEntry = segment n first h in
      let new : ℕ → List HistoryEntry = segment n first (h ++ entry ∷ []) in
      let some : 1 ≤ n = (places_few e.geometry).0 in
      let start : first ≤ e.numbers.logged = omega (arith, is.ordered.start, is.ordered.recorded, is.ordered.back, is.ordered.stable) in
      let count : e.numbers.logged + length e.memory.sealed ≡ e.numbers.sealed = omega (arith, is.memory.count, is.ordered.logged, is.ordered.tried) in
      let kept : (s : ℕ) → first < s → s ≤ e.numbers.sealed → new s ≡ old s =
      λ s above below. full_kept n first e.absorbed s h entry some stands.places above (omega (arith, is.filled.sealed)) in
      let fronts : AreHeld old e.memory.sealed = held_front old e.memory.sealed e.memory.current stands.memory in
      let turn : AreInTurn e.numbers.logged e.memory.sealed = turn_front e.numbers.logged e.memory.sealed e.memory.current is.memory.ids in
      let front : AreHeld new e.memory.sealed = held_same old new e.memory.sealed
      (λ j lt. kept (segment_at e.memory.sealed j).id
      (omega (arith, turn j lt, start))
      (omega (arith, turn j lt, count))) fronts in
      let id : e.memory.current.id ≡ e.numbers.logged + 1 + length e.memory.sealed = turn_last e.numbers.logged e.memory.sealed e.memory.current is.memory.ids in
      let here : m.current.id ≡ first + e.absorbed / n + 1 = omega (arith, id, same_id, is.filled.sealed, count) in
      let last : StandsFor m.current.blocks (new m.current.id) =
      subst (StandsFor m.current.blocks) (sym (next_pushed n first e.absorbed m.current.id h entry some stands.places here))
      (step (old m.current.id) (subst (λ (i : ℕ). StandsFor e.memory.current.blocks (old i)) (sym same_id) (held_last old e.memory.sealed e.memory.current stands.memory))) in
      let begun : n * (e.numbers.tried - first) ≤ e.absorbed = begun_full n first e.absorbed e.numbers.tried e.numbers.sealed some is.ordered.tried is.filled.sealed in
      record {
        told = stands.told;
        places = length_push h entry ∙ ap (λ (k : ℕ). k + 1) stands.places;
        memory = subst (λ (segments : List Segment). AreHeld new (segments ++ m.current ∷ [])) (sym sealed) (held_push new e.memory.sealed m.current front last);
        logged = λ s low high.
            listed_same e.memory.logged m.logged s (old s) (new s) same_logged
            (kept s (omega (arith, low, is.ordered.start)) (omega (arith, high, is.ordered.logged, is.ordered.tried)))
            (stands.logged s low high);
        safe = engine_along (grown n first e.numbers.tried base h (entry ∷ []) (omega (arith, begun, stands.places))) stands.safe;
        record_is = stands.record_is;
      }

  -- the open segment is full, and sealed
  pub standing_sealed : (e : EngineContent L B) (m : MemoryContent) (s : Segment) (base : Image) (h : List HistoryEntry)
      → m.sealed ≡ e.memory.sealed ++ s ∷ [] → s.id ≡ e.memory.current.id → s.blocks ≡ e.memory.current.blocks → m.logged ≡ e.memory.logged → e.numbers.sealed + 1 ≤ 2 ^ 48
      → StandsFor m.current.blocks (segment (places e.geometry) e.numbers.first h m.current.id)
      → Standing of_log of_backing e base h → Standing of_log of_backing (record e { numbers = record e.numbers { sealed = e.numbers.sealed + 1 }; memory = m }) base h
  standing_sealed e m s base h more id blocks same_logged ids next is =
      let list : ℕ → List HistoryEntry = segment (places e.geometry) e.numbers.first h in
      let fronts : AreHeld list e.memory.sealed = held_front list e.memory.sealed e.memory.current is.memory in
      let full : StandsFor s.blocks (list s.id) =
      subst (λ (i : ℕ). StandsFor s.blocks (list i)) (sym id)
      (subst (λ (b : List _). StandsFor b (list e.memory.current.id)) (sym blocks) (held_last list e.memory.sealed e.memory.current is.memory)) in
      record {
        told = is.told;
        places = is.places;
        memory = subst (λ (segments : List Segment). AreHeld list (segments ++ m.current ∷ [])) (sym more)
            (held_push list (e.memory.sealed ++ s ∷ []) m.current (held_push list e.memory.sealed s fronts full) next);
        logged = λ t low high. listed_same e.memory.logged m.logged t (list t) (list t) same_logged refl (is.logged t low high);
        safe = safe_sealed ids is.safe;
        record_is = is.record_is;
      }
