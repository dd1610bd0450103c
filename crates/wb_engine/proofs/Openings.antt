-- What an engine that was just opened stands for: the image of the backing device, and no history; and why none is opened.
use Rattle.std.proofs.Common.{ℕ, ◌≡◌, ◌^◌, ◌≤◌, ◌<◌, List, [], ◌∷◌, ◌++◌, length, take, drop, Option, Some, None, Result, Err, inl, inr, refl, sym, ap, ◌∙◌, subst, arith}
use Rattle.std.specs.Option.{IsSome, IfSome, is_some}
use Rattle.std.proofs.lemmas.List.{length-append, length-drop, length-take-le}
use Rattle.wb_geometry.specs.Image.{Image}
use Rattle.wb_geometry.specs.Device.{State, IsDevice, OnlyRead, ContentPasses, NothingPending, IsSameDevice, CountsFaultsWhere}
use Rattle.wb_geometry.specs.History.{HistoryEntry}
use Rattle.wb_geometry.specs.Layout.{places}
use Rattle.wb_geometry.specs.Line.{segment}
use Rattle.wb_geometry.specs.declared.geometry.Geometry.{Geometry}
use Rattle.wb_geometry.proofs.Lines.{segment-none}
use Rattle.wb_geometry.proofs.Moments.{content_kept_before, same_device_trans, uncalled}
use Rattle.wb_super.specs.Found.{IsSuper}
use Rattle.wb_super.specs.Recording.{Records}
use Rattle.wb_super.specs.Superblock.{header_id}
use Rattle.wb_super.specs.declared.reading.Super.{Super}
use Rattle.wb_header.specs.Segments.{Segment}
use Rattle.wb_header.specs.Standing.{StandsFor}
use Rattle.wb_header.proofs.Standings.{stands_none}
use Rattle.wb_crash.specs.Numbers.{all_at}
use Rattle.wb_crash.specs.Safety.{IsSafe, IsFresh}
use Rattle.wb_crash.specs.declared.numbers.Numbers.{Numbers}
use Rattle.wb_crash.proofs.Shown.{shown_content}
use Rattle.wb_crash.proofs.Lines.{opened}
use Rattle.wb_replay.specs.Replaying.{GoesInTurn, IsAllPut}
use Rattle.wb_replay.specs.Stopping.{HasNoStray, RefusesSlots, StopsInTurn}
use Rattle.wb_replay.specs.declared.replaying.ReplayStop.{ReplayStop}
use Rattle.wb_replay.specs.declared.replaying.ReplayStop.TheVariants as stop
use Rattle.wb_replay.proofs.Turns.{synced_by_reads, synced_then, text_of}
use Rattle.wb_replay.proofs.Judged.{super_read, goes_judged}
use Rattle.wb_replay.proofs.Leavings.{crash_of, contents_of}
use Rattle.wb_engine.specs.Content.{EngineContent}
use Rattle.wb_engine.specs.Standing.{Standing, Told, line}
use Rattle.wb_engine.specs.Opening.{MayOpen, Goes, HasRecovered, HasStopped, RefusesLog, RefusesOpening, SaysLog, IsOnly, IsOpened, IsReady, recovered_to, cause_of}
use Rattle.wb_engine.specs.declared.opening.OpenCause.{OpenCause}
use Rattle.wb_engine.specs.declared.opening.OpenCause.TheVariants as cause
use Rattle.wb_engine.proofs.Held.{AreHeld, held_push}
use Rattle.wb_engine.proofs.Steps.{told_content}

-- a buffer that was lent whole has its size afterwards
pub buffer_size : (len n : ℕ) (lent items : List ℕ) → len ≡ n → length items ≡ n → length lent ≡ n → length (take len (lent ++ drop (length lent) items)) ≡ n
buffer_size len n lent items is whole size =
    let all : length (lent ++ drop (length lent) items) ≡ n = omega (arith, length-append lent (drop (length lent) items), length-drop (length lent) items, size, whole) in
    length-take-le len (lent ++ drop (length lent) items) (omega (arith, all, is)) ∙ is

-- ---- recovery, behind the reads of the superblock

-- what it did, wherever it ended
pub goes_opened : {log mid new backing new_backing : State} (found : Super) → MayOpen log backing.sectors found → OnlyRead log mid → IsDevice log → IsDevice backing
    → (IsSuper mid found → (x : Image) → mid.content ≡ Some x → GoesInTurn found.geometry x mid new backing new_backing)
    → IsSameDevice mid new → IsSameDevice backing new_backing → Goes found log new backing new_backing
goes_opened {log} {mid} {new} {backing} {new_backing} found may only log_device device goes same_log same_backing =
    let in_turn : (x : Image) → log.content ≡ Some x → GoesInTurn found.geometry x log new backing new_backing =
    λ x told. goes_judged found may.super only goes found.geometry x told (text_of log found x may.super told) in
    record {
      may = may;
      in_turn = in_turn;
      crash = λ x y z of nothing none. crash_of x y z log_device device (in_turn x of.log_told) of nothing none;
      contents = λ x y z of. contents_of x y z (text_of log found x may.super of.log_told) (in_turn x of.log_told) of;
      same_log = same_device_trans only.same same_log;
      same_backing = same_backing;
    }

-- no slot is a stray one, told by a content that stayed
strays_before : (g : Geometry) (limit : ℕ) (log mid : State) → mid.content ≡ log.content → HasNoStray g limit mid → HasNoStray g limit log
strays_before g limit log mid same none = subst (λ (o : Option Image). IfSome o (λ x. (slot : ℕ) → slot < g.slots → header_id g x slot ≤ limit)) same none

if_some : (P : Image → Type 0) (content : Option Image) (x : Image) → content ≡ Some x → IfSome content P → P x
if_some P content x told holds = subst (λ (o : Option Image). IfSome o P) told holds

-- it ended well
pub recovered_opened : {log mid new backing new_backing : State} (found : Super) → Goes found log new backing new_backing → OnlyRead log mid
    → HasNoStray found.geometry (recovered_to found) mid
    → (IsSuper mid found → (x : Image) → mid.content ≡ Some x → IsAllPut found.geometry x backing new_backing)
    → ContentPasses (Records (recovered_to found)) mid new
    → (IsSuper mid found → IfSome new.content (IsFresh found.geometry (recovered_to found)))
    → NothingPending new × NothingPending new_backing → HasRecovered found log new backing new_backing
recovered_opened {log} {mid} {new} found went only none all records fresh durable =
    let super : IsSuper mid found = super_read log mid found went.may.super only in
    record {
      went = went;
      no_stray = strays_before found.geometry (recovered_to found) log mid only.content none;
      all_put = λ x told. all super x (only.content ∙ told);
      records = content_kept_before only.content records;
      fresh = λ x told. if_some _ new.content x told (fresh super);
      durable = durable;
    }

-- it stopped
slots_before : (g : Geometry) (limit : ℕ) (log mid : State) (why : ReplayStop) → mid.content ≡ log.content → RefusesSlots g limit mid why → RefusesSlots g limit log why
slots_before g limit log mid (stop.Stray slot id) same refuses = (
  refuses.0,
  refuses.1,
  subst (λ (o : Option Image). IfSome o (λ x. (header_id g x slot ≡ id) × ((earlier : ℕ) → earlier < slot → header_id g x earlier ≤ limit))) same refuses.2,
)
slots_before g limit log mid stop.LogFault same refuses = tt
slots_before g limit log mid stop.BackingFault same refuses = tt

turn_before : (log mid new backing new_backing : State) (why : ReplayStop) → OnlyRead log mid → StopsInTurn why mid new backing new_backing → StopsInTurn why log new backing new_backing
turn_before log mid new backing new_backing (stop.Stray slot id) only stops = (synced_then (synced_by_reads only) stops.0, stops.1, stops.2, stops.3)
turn_before log mid new backing new_backing stop.LogFault only stops = stops
turn_before log mid new backing new_backing stop.BackingFault only stops = (synced_then (synced_by_reads only) stops.0, stops.1)

pub stopped_opened : {log mid new backing new_backing : State} (found : Super) (why : ReplayStop) → Goes found log new backing new_backing → OnlyRead log mid
    → RefusesSlots found.geometry (recovered_to found) mid why → StopsInTurn why mid new backing new_backing → HasStopped why log new backing new_backing
stopped_opened {log} {mid} {new} {backing} {new_backing} found why went only refuses stops = record {
  found = found;
  went = went;
  refused = slots_before found.geometry (recovered_to found) log mid why only.content refuses;
  so_far = turn_before log mid new backing new_backing why only stops;
}

-- it wasn't begun
pub unbegun_opened : (log new backing : State) (why : OpenCause) → RefusesLog log backing.sectors why → OnlyRead log new → RefusesOpening why log new backing backing
unbegun_opened log new backing why refuses only = inl (refuses, record { only_read = only; uncalled = uncalled backing })

-- ---- faults

never_log : (why : ReplayStop) → SaysLog (cause_of why) → why ≡ stop.LogFault
never_log (stop.Stray slot id) (inl early) = absurd (cc)
never_log (stop.Stray slot id) (inr late) = absurd (cc)
never_log stop.LogFault is = refl
never_log stop.BackingFault (inl early) = absurd (cc)
never_log stop.BackingFault (inr late) = absurd (cc)

never_backing : (why : ReplayStop) → cause_of why ≡ cause.BackingFault → why ≡ stop.BackingFault
never_backing (stop.Stray slot id) is = absurd (cc)
never_backing stop.LogFault is = absurd (cc)
never_backing stop.BackingFault is = refl

pub log_counts : {T : Type 0} (r : Result T ReplayStop) (why : ReplayStop) (before mid now : ℕ) → r ≡ Err why → mid ≡ before → CountsFaultsWhere (r ≡ Err stop.LogFault) mid now
    → CountsFaultsWhere (SaysLog (cause_of why)) before now
log_counts r why before mid now is kept counts = record {
  later = omega (arith, kept, counts.later);
  failed = λ says. let rose = counts.failed (is ∙ ap (λ (w : ReplayStop). Err w) (never_log why says)) in omega (arith, kept, rose);
  kept = λ not. counts.kept (λ failed. not (let same : why ≡ stop.LogFault = cc in inr (ap cause_of same))) ∙ kept;
}

pub backing_counts : {T : Type 0} (r : Result T ReplayStop) (why : ReplayStop) (before now : ℕ) → r ≡ Err why → CountsFaultsWhere (r ≡ Err stop.BackingFault) before now
    → CountsFaultsWhere (cause_of why ≡ cause.BackingFault) before now
backing_counts r why before now is counts = record {
  later = counts.later;
  failed = λ says. counts.failed (is ∙ ap (λ (w : ReplayStop). Err w) (never_backing why says));
  kept = λ not. counts.kept (λ failed. not (let same : why ≡ stop.BackingFault = cc in ap cause_of same));
}

-- ---- the engine

-- the open segment stands for no entries
held_opened : (list : ℕ → List HistoryEntry) (sealed : List Segment) (current : Segment) → sealed ≡ [] → current.blocks ≡ [] → list current.id ≡ [] → AreHeld list (sealed ++ current ∷ [])
held_opened list sealed current none empty nothing =
    subst (λ (segments : List Segment). AreHeld list (segments ++ current ∷ [])) (sym none)
    (held_push list [] current (λ j lt. absurd (omega arith))
    (subst (λ (entries : List HistoryEntry). StandsFor current.blocks entries) (sym nothing)
    (subst (λ (blocks : List _). StandsFor blocks []) (sym empty) stands_none)))

module _ {L B : Type 0} {of_log : L → State} {of_backing : B → State} where
  standing_opened : (log backing : State) (e : EngineContent L B) (base : Image) (found : Super) (recorded room : ℕ) (scratch : List ℕ)
      → HasRecovered found log (of_log e.log) backing (of_backing e.backing) → IsReady found e.geometry recorded e.memory room scratch → e.numbers ≡ all_at recorded → e.absorbed ≡ 0
      → IsOnly base (Told (of_backing e.backing)) → IsSome log.content → Standing of_log of_backing e base []
  standing_opened log backing e base found recorded room scratch recovered is numbers absorbed only some =
      let n : ℕ = places e.geometry in
      let first : ℕ = e.numbers.first in
      let recorded_is : e.numbers.recorded ≡ recorded = ap (λ (k : Numbers). k.recorded) numbers in
      let few : recorded ≤ 2 ^ 48 = omega (arith, recovered.went.may.ids, is.number) in
      let fresh : (x : Image) → (of_log e.log).content ≡ Some x → IsFresh e.geometry recorded x =
      λ x told.
      subst (λ (h : Geometry). IsFresh h recorded x) (sym is.geometry)
      (subst (λ (k : ℕ). IsFresh found.geometry k x) (sym is.number) (recovered.fresh x told)) in
      let safe : IsSafe e.geometry (line e base []) (all_at recorded) (of_log e.log) (of_backing e.backing) =
      opened recorded few (ap (λ (k : Numbers). k.first) numbers) recovered.durable.0 recovered.durable.1 fresh only.only in
      let told = told_content log.content some in
      record {
        told = ap is_some (recovered.records.told told.0 told.1).1;
        places = sym absorbed;
        memory = held_opened (segment n first []) e.memory.sealed e.memory.current is.sealed is.blocks (segment-none n first [] e.memory.current.id (omega arith));
        logged = λ s low high. absurd (omega (arith, low, high, recorded_is, ap (λ (k : Numbers). k.logged) numbers));
        safe = subst (λ (k : Numbers). IsSafe e.geometry (line e base []) k (of_log e.log) (of_backing e.backing)) (sym numbers) safe;
        record_is = λ x shows. inl ((fresh x (shown_content recovered.durable.0 x shows)).number ∙ sym recorded_is);
      }

  pub is_opened : (log backing : State) (e : EngineContent L B) (found : Super) (recorded room : ℕ) (scratch : List ℕ)
      → HasRecovered found log (of_log e.log) backing (of_backing e.backing) → IsReady found e.geometry recorded e.memory room scratch → e.numbers ≡ all_at recorded → e.absorbed ≡ 0
      → e.down ≡ None → (of_log e.log).faults ≡ log.faults → (of_backing e.backing).faults ≡ backing.faults → IsOpened of_log of_backing log backing e
  is_opened log backing e found recorded room scratch recovered is numbers absorbed up log_faults backing_faults = record {
    found = found;
    recovered = recovered;
    geometry = is.geometry;
    numbers = numbers ∙ ap all_at is.number;
    absorbed = absorbed;
    up = up;
    stands = λ base only some. standing_opened log backing e base found recorded room scratch recovered is numbers absorbed only some;
    synced = record { written_back = λ _. recovered.durable.1; written = λ _ _. recovered.durable.0 };
    log_faults = log_faults;
    backing_faults = backing_faults;
  }
