-- What a crash leaves in the course of recovery, and what recovery makes of that.
use Rattle.std.proofs.Common.{ℕ, ◌≡◌, ◌+◌, ◌≤◌, ◌^◌, List, Some, inl, inr, refl, ap, sym, ◌∙◌, subst, arith}
use Rattle.std.specs.List.{flat_map}
use Rattle.std.proofs.lemmas.Option.{same_Some}
use Rattle.wb_geometry.specs.Image.{Image}
use Rattle.wb_geometry.specs.Device.{State, NothingPending, Passes, ContentPasses, IsDevice}
use Rattle.wb_geometry.specs.History.{HistoryEntry, after, PutsPartly}
use Rattle.wb_geometry.specs.Line.{Line}
use Rattle.wb_geometry.specs.declared.geometry.Geometry.{Geometry}
use Rattle.wb_geometry.proofs.Histories.{after_same, puts_all}
use Rattle.wb_geometry.proofs.Moments.{left_from_content, left_is_content}
use Rattle.wb_header.specs.Standing.{entries_of}
use Rattle.wb_super.specs.Superblock.{SuperText, record_of}
use Rattle.wb_super.specs.Recording.{Records, RecordsOrNot}
use Rattle.wb_crash.specs.Chain.{IsRecovered, IsTidy}
use Rattle.wb_crash.specs.Crash.{WritesAlike, CrashInRecover, MakesOfContents}
use Rattle.wb_crash.specs.Numbers.{all_at}
use Rattle.wb_crash.specs.Safety.{IsSafe, IsFresh}
use Rattle.wb_crash.proofs.Lines.{opened}
use Rattle.wb_crash.proofs.Again.{again, makes_itself, fresh_recorded}

-- what is left of the backing device, from a content y0 on that some of the entries may be put over
again_left : {g : Geometry} {backing new_backing : State} (x0 y0 z y : Image) (entries : List HistoryEntry) (is : IsRecovered g x0 y0 z) → WritesAlike entries (flat_map entries_of is.chain)
    → IsDevice backing → NothingPending backing → backing.content ≡ Some y0 → Passes (PutsPartly entries) backing new_backing → new_backing.left_since backing.moment y → IsRecovered g x0 y z
again_left {g} x0 y0 z y entries is alike device nothing told pass left = elim (left_from_content device nothing told pass left) [
  | inl same ↦ subst (λ (u : Image). IsRecovered g x0 u z) (sym same) is
  | inr partly ↦ again g x0 y0 z y entries is alike partly
]

-- what the entries make of y0 is z
makes_z : {g : Geometry} (x0 y0 z : Image) (entries : List HistoryEntry) (is : IsRecovered g x0 y0 z) → WritesAlike entries (flat_map entries_of is.chain) → after y0 entries ≡ z
makes_z x0 y0 z entries is alike = after_same entries (flat_map entries_of is.chain) y0 alike ∙ sym is.all

-- ---- crashes, from nothing pending

-- before the record's write: the log is only read, and the entries of the chain are put
pub crash_before_record : {g : Geometry} {log new_log backing new_backing : State} (x0 y0 z : Image) (entries : List HistoryEntry) (is : IsRecovered g x0 y0 z)
    → WritesAlike entries (flat_map entries_of is.chain) → IsDevice log → IsDevice backing → NothingPending log → NothingPending backing → log.content ≡ Some x0 → backing.content ≡ Some y0
    → Passes (λ x y. y ≡ x) log new_log → Passes (PutsPartly entries) backing new_backing → CrashInRecover g x0 z log new_log backing new_backing
crash_before_record {g} {log} {new_log} {backing} {new_backing} x0 y0 z entries is alike log_device device log_nothing nothing log_told told log_pass pass = record {
  log_left = λ x left. inl (same x left);
  old_record = λ x y log_left left old.
      subst (λ (u : Image). IsRecovered g u y z) (sym (same x log_left)) (again_left x0 y0 z y entries is alike device nothing told pass left);
  new_record = λ x y log_left new left. absurd (new (ap record_of (same x log_left)));
}
  where
    same : (x : Image) → new_log.left_since log.moment x → x ≡ x0
    same x left = elim (left_from_content log_device log_nothing log_told log_pass left) [
      | inl is_old ↦ is_old
      | inr step ↦ step
    ]

-- from the end of the entries on, which a sync covered: the record is written
pub crash_in_record : {g : Geometry} {log new_log backing new_backing : State} (x0 y0 z : Image) (entries : List HistoryEntry) (is : IsRecovered g x0 y0 z)
    → WritesAlike entries (flat_map entries_of is.chain) → IsDevice log → IsDevice backing → NothingPending log → NothingPending backing → log.content ≡ Some x0 → backing.content ≡ Some y0
    → Passes (RecordsOrNot (record_of x0 + g.slots)) log new_log → Passes (PutsPartly entries) backing new_backing
    → NothingPending new_backing → ContentPasses (λ x y. y ≡ after x entries) backing new_backing → CrashInRecover g x0 z log new_log backing new_backing
crash_in_record {g} {log} {new_log} {backing} {new_backing} x0 y0 z entries is alike log_device device log_nothing nothing log_told told log_pass pass new_nothing content = record {
  log_left = log_left;
  old_record = λ x y log_was left old. elim (log_left x log_was) [
    | inl same ↦ subst (λ (u : Image). IsRecovered g u y z) (sym same) (again_left x0 y0 z y entries is alike device nothing told pass left)
    | inr records ↦ absurd (omega (arith, old, records.number, g.slots_fit.0))
  ];
  new_record = λ x y log_was new now.
      let to = content.told y0 told in
      left_is_content new_nothing to.1 now ∙ to.2 ∙ makes_z x0 y0 z entries is alike;
}
  where
    log_left : (x : Image) → new_log.left_since log.moment x → RecordsOrNot (record_of x0 + g.slots) x0 x
    log_left x left = elim (left_from_content log_device log_nothing log_told log_pass left) [
      | inl same ↦ inl same
      | inr step ↦ step
    ]

-- ---- the contents, whatever was pending

-- where the backing device failed, and the log is as it was
pub contents_before_record : {g : Geometry} {backing new_backing : State} (log : State) (x0 y0 z : Image) (entries : List HistoryEntry) (is : IsRecovered g x0 y0 z)
    → WritesAlike entries (flat_map entries_of is.chain) → log.content ≡ Some x0 → backing.content ≡ Some y0
    → ContentPasses (PutsPartly entries) backing new_backing → MakesOfContents g z log new_backing
contents_before_record {g} {backing} {new_backing} log x0 y0 z entries is alike log_told told content = record {
  each = λ x y now_log now.
      let was = content.from y now in
      let partly = subst (λ (u : Image). PutsPartly entries u y) (same_Some was.0 y0 (sym was.1 ∙ told)) was.2 in
      subst (λ (u : Image). IsRecovered g u y z) (same_Some x0 x (sym log_told ∙ now_log)) (again g x0 y0 z y entries is alike partly);
}

-- from the end of the entries on, whether the record is written or not
pub contents_in_record : {g : Geometry} {log new_log backing new_backing : State} (x0 y0 z : Image) (entries : List HistoryEntry) (is : IsRecovered g x0 y0 z)
    → WritesAlike entries (flat_map entries_of is.chain) → SuperText x0 g 1 → IsTidy g x0 → log.content ≡ Some x0 → backing.content ≡ Some y0
    → ContentPasses (RecordsOrNot (record_of x0 + g.slots)) log new_log → ContentPasses (λ x y. y ≡ after x entries) backing new_backing → MakesOfContents g z new_log new_backing
contents_in_record {g} {log} {new_log} {backing} {new_backing} x0 y0 z entries is alike super tidy log_told told log_content content = record {
  each = λ x y now_log now.
      let log_was = log_content.from x now_log in
      let was = content.from y now in
      let step = subst (λ (u : Image). RecordsOrNot (record_of x0 + g.slots) u x) (same_Some log_was.0 x0 (sym log_was.1 ∙ log_told)) log_was.2 in
      let whole : y ≡ after y0 entries = was.2 ∙ ap (λ (u : Image). after u entries) (same_Some was.0 y0 (sym was.1 ∙ told)) in
      elim step [
        | inl same ↦ subst (λ (u : Image). IsRecovered g u y z) (sym same) (again g x0 y0 z y entries is alike (subst (PutsPartly entries y0) (sym whole) (puts_all entries y0)))
        | inr records ↦
            subst (IsRecovered g x y) (whole ∙ makes_z x0 y0 z entries is alike)
            (makes_itself g (record_of x0 + g.slots) x y (fresh_recorded g x0 x super tidy records))
      ];
}

-- ---- at its end, whatever was pending

-- the log has the new record, and the backing device z, whatever a crash leaves
pub left_at_end : {g : Geometry} {log new_log backing new_backing : State} (x0 y0 z : Image) (entries : List HistoryEntry) (is : IsRecovered g x0 y0 z)
    → WritesAlike entries (flat_map entries_of is.chain) → log.content ≡ Some x0 → backing.content ≡ Some y0 → NothingPending new_log → NothingPending new_backing
    → ContentPasses (Records (record_of x0 + g.slots)) log new_log → ContentPasses (λ x y. y ≡ after x entries) backing new_backing
    → ((x : Image) → new_log.leaves_now x → Records (record_of x0 + g.slots) x0 x) × ((y : Image) → new_backing.leaves_now y → y ≡ z)
left_at_end {g} {log} {new_log} {backing} {new_backing} x0 y0 z entries is alike log_told told log_nothing nothing log_content content = (
  λ x left.
      let to = log_content.told x0 log_told in
      subst (Records (record_of x0 + g.slots) x0) (sym (left_is_content log_nothing to.1 left)) to.2,
  λ y left.
      let to = content.told y0 told in
      left_is_content nothing to.1 left ∙ to.2 ∙ makes_z x0 y0 z entries is alike,
)

-- and an engine over z is safe that begins there
pub opened_at_end : {g : Geometry} {line : Line} {log new_log backing new_backing : State} (x0 y0 : Image) (entries : List HistoryEntry) (is : IsRecovered g x0 y0 line.base)
    → WritesAlike entries (flat_map entries_of is.chain) → SuperText x0 g 1 → IsTidy g x0 → line.first ≡ record_of x0 + g.slots → line.first ≤ 2 ^ 48
    → log.content ≡ Some x0 → backing.content ≡ Some y0 → NothingPending new_log → NothingPending new_backing
    → ContentPasses (Records (record_of x0 + g.slots)) log new_log → ContentPasses (λ x y. y ≡ after x entries) backing new_backing → IsSafe g line (all_at line.first) new_log new_backing
opened_at_end {g} {line} {log} {new_log} {backing} {new_backing} x0 y0 entries is alike super tidy start few log_told told log_nothing nothing log_content content =
    opened line.first few refl log_nothing nothing
    (λ x now.
    let was = log_content.from x now in
    let records = subst (λ (u : Image). Records (record_of x0 + g.slots) u x) (same_Some was.0 x0 (sym was.1 ∙ log_told)) was.2 in
    subst (λ (n : ℕ). IsFresh g n x) (sym start) (fresh_recorded g x0 x super tidy records))
    (λ y now.
    let was = content.from y now in
    was.2 ∙ ap (λ (u : Image). after u entries) (same_Some was.0 y0 (sym was.1 ∙ told)) ∙ makes_z x0 y0 line.base entries is alike)
