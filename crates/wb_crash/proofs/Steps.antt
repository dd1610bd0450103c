-- What each step makes of one half, whether it is answered `Ok` or not; how the other half follows the numbers; and what the
-- step leaves in its course.
use Rattle.std.proofs.Common.{ℕ, ◌≡◌, ◌+◌, ◌-◌, ◌<◌, ◌≤◌, List, Some, inl, inr, sym, ◌∙◌, subst, arith}
use Rattle.std.proofs.lemmas.Bool.{cases_lt}
use Rattle.wb_geometry.specs.Image.{Image, overlay, IsPartlyWritten}
use Rattle.wb_geometry.specs.Device.{State, IsNotAfter, NothingPending, Passes, ContentPasses, LeavesOnly, IsDevice}
use Rattle.wb_geometry.specs.History.{HistoryEntry, after, PutsPartly}
use Rattle.wb_geometry.specs.Line.{Line, span}
use Rattle.wb_geometry.specs.declared.geometry.Geometry.{Geometry}
use Rattle.wb_geometry.proofs.Images.{IsPartlyWritten-same}
use Rattle.wb_geometry.proofs.Moments.{moment_same, content_weaker}
use Rattle.wb_super.specs.Recording.{Records, RecordsOrNot}
use Rattle.wb_crash.specs.Images.{IsOrdered, HoldsSegment, IsLogImage, IsBackingImage}
use Rattle.wb_crash.specs.Numbers.{trying, written, synced, put_up_to, recording}
use Rattle.wb_crash.specs.Safety.{IsLogSafe, IsBackingSafe}
use Rattle.wb_crash.specs.Crash.{IsNextText, WritesAlike}
use Rattle.wb_crash.specs.declared.numbers.Numbers.{Numbers}
use Rattle.wb_crash.proofs.Logs.{log_written, segment_kept, next_stands, next_partly, log_recorded, log_at_record, segment_recorded, log_at_sync, log_at_put, log_at_written}
use Rattle.wb_crash.proofs.Shown.{shown_from, shown_before, shown_content}
use Rattle.wb_crash.proofs.Backs.{backs_partly, backs_put, backs_at_record, backs_at_sync}

-- What a crash leaves in the course of a call was left before it, or comes by its step from what was.
pub leaves_only : {Step : Image → Image → Type 0} {P : Image → Type 0} {old new : State} → IsDevice old → Passes Step old new → ((x : Image) → old.leaves_now x → P x)
    → ((x y : Image) → old.leaves_now x → Step x y → P y) → LeavesOnly P old new
leaves_only {old = old} device pass before by = record {
  each = λ y left. elim (pass.since old.moment y (moment_same old.moment) left) [
    | inl earlier ↦ before y (device.only_now y earlier)
    | inr from ↦ by from.0 y from.1 from.2
  ];
}

-- the same of a further call
pub leaves_then : {Step : Image → Image → Type 0} {P : Image → Type 0} {old mid new : State} → IsNotAfter old.moment mid.moment → LeavesOnly P old mid → Passes Step mid new
    → ((x y : Image) → mid.leaves_now x → Step x y → P y) → LeavesOnly P old new
leaves_then {old = old} later before pass by = record {
  each = λ y left. elim (pass.since old.moment y later left) [
    | inl earlier ↦ before.each y earlier
    | inr from ↦ by from.0 y from.1 from.2
  ];
}

-- ---- the order of the numbers

pub ordered_trying : {g : Geometry} {e : Numbers} → IsOrdered g e → e.tried ≡ e.logged → e.tried < e.sealed → e.tried < e.recorded + g.slots → IsOrdered g (trying e)
ordered_trying ordered up sealed room = record {
  start = ordered.start;
  recorded = ordered.recorded;
  back = ordered.back;
  stable = ordered.stable;
  logged = omega (arith, up);
  tried = omega arith;
  one = omega (arith, up);
  room = omega arith;
  ids = ordered.ids;
}

pub ordered_written : {g : Geometry} {e : Numbers} → IsOrdered g e → e.tried ≡ e.logged → e.tried < e.sealed → e.tried < e.recorded + g.slots → IsOrdered g (written e)
ordered_written ordered up sealed room = record {
  start = ordered.start;
  recorded = ordered.recorded;
  back = ordered.back;
  stable = omega (arith, ordered.stable);
  logged = omega (arith, up);
  tried = omega arith;
  one = omega (arith, up);
  room = omega arith;
  ids = ordered.ids;
}

pub ordered_synced : {g : Geometry} {e : Numbers} → IsOrdered g e → IsOrdered g (synced e)
ordered_synced ordered = record {
  start = ordered.start;
  recorded = ordered.recorded;
  back = omega (arith, ordered.back, ordered.stable);
  stable = omega arith;
  logged = ordered.logged;
  tried = ordered.tried;
  one = ordered.one;
  room = ordered.room;
  ids = ordered.ids;
}

pub ordered_put : {g : Geometry} {e : Numbers} (k : ℕ) → IsOrdered g e → e.back ≤ k → k ≤ e.stable → IsOrdered g (put_up_to k e)
ordered_put k ordered from until = record {
  start = ordered.start;
  recorded = omega (arith, ordered.recorded, from);
  back = until;
  stable = ordered.stable;
  logged = ordered.logged;
  tried = ordered.tried;
  one = ordered.one;
  room = ordered.room;
  ids = ordered.ids;
}

pub ordered_recording : {g : Geometry} {e : Numbers} → IsOrdered g e → IsOrdered g (recording e)
ordered_recording ordered = record {
  start = omega (arith, ordered.start, ordered.recorded);
  recorded = omega arith;
  back = ordered.back;
  stable = ordered.stable;
  logged = ordered.logged;
  tried = ordered.tried;
  one = ordered.one;
  room = omega (arith, ordered.room, ordered.recorded);
  ids = ordered.ids;
}

-- ---- a call that changes nothing: a read, or a sync that isn't answered `Ok`

pub log_kept : {g : Geometry} {line : Line} {e : Numbers} {log new : State} → IsLogSafe g line e log
    → Passes (λ x y. y ≡ x) log new → new.content ≡ log.content → IsLogSafe g line e new
log_kept safe pass kept = record {
  logged = λ x told. safe.logged x (sym kept ∙ told);
  shown = λ x shows. safe.shown x (shown_before pass kept x shows);
}

pub backing_kept : {line : Line} {e : Numbers} {backing new : State} → IsBackingSafe line e backing
    → Passes (λ x y. y ≡ x) backing new → new.content ≡ backing.content → IsBackingSafe line e new
backing_kept safe pass kept = record { shown = λ y shows. safe.shown y (shown_before pass kept y shows) }

-- what it leaves in its course
pub kept_leaves : {g : Geometry} {line : Line} {e : Numbers} {log new : State} → IsLogSafe g line e log
    → IsDevice log → Passes (λ x y. y ≡ x) log new → LeavesOnly (IsLogImage g line e) log new
kept_leaves {g} {line} {e} safe device pass =
    leaves_only device pass (λ x left. safe.shown x (inr left)) (λ x y left step. subst (IsLogImage g line e) (sym step) (safe.shown x (inr left)))

-- ---- a sync of the log that is answered `Ok`

pub log_synced : {g : Geometry} {line : Line} {e : Numbers} {log new : State} → IsOrdered g e → e.tried ≡ e.logged → IsLogSafe g line e log
    → NothingPending new → new.content ≡ log.content → IsLogSafe g line (synced e) new
log_synced {g} {line} {e} ordered up safe nothing kept = record {
  logged = λ x told. safe.logged x (sym kept ∙ told);
  shown = λ x shows.
      let told = sym kept ∙ shown_content nothing x shows in
      log_at_sync g line e x ordered up (safe.shown x (inl told)) (safe.logged x told);
}

pub backing_at_sync : {g : Geometry} {line : Line} {e : Numbers} {backing : State} → IsOrdered g e → IsBackingSafe line e backing → IsBackingSafe line (synced e) backing
backing_at_sync {g} {line} {e} ordered safe = record { shown = λ y shows. backs_at_sync g line e y ordered (safe.shown y shows) }

-- ---- a write of the next segment to the log

-- however it ends
pub log_tried : {g : Geometry} {line : Line} {e : Numbers} {log new : State} {at : ℕ} {text : Image} → IsNextText g line e at text → IsOrdered g e → e.tried ≡ e.logged → IsLogSafe g line e log
    → Passes (IsPartlyWritten at text) log new → ContentPasses (IsPartlyWritten at text) log new → IsLogSafe g line (trying e) new
log_tried {g} {line} {e} {at = at} {text = text} next ordered up safe pass content = record {
  logged = λ y told s low high.
      let was = content.from y told in
      segment_kept g line e at text was.0 y s next was.2 low (omega (arith, high, up)) (safe.logged was.0 was.1 s low high);
  shown = λ y shows. let was = shown_from pass content y shows in log_written g line e at text was.0 y ordered next (safe.shown was.0 was.1) was.2;
}

pub backing_at_trying : {line : Line} {e : Numbers} {backing : State} → IsBackingSafe line e backing → IsBackingSafe line (trying e) backing
backing_at_trying safe = record { shown = λ y shows. let is = safe.shown y shows in record { size = is.size; agrees = is.agrees } }

-- where it is answered `Ok`
pub log_wrote : {g : Geometry} {line : Line} {e : Numbers} {log new : State} {at : ℕ} {text : Image} → IsNextText g line e at text → IsOrdered g e → e.tried ≡ e.logged → IsLogSafe g line e log
    → Passes (IsPartlyWritten at text) log new → ContentPasses (λ x y. y ≡ overlay at text x) log new → IsLogSafe g line (written e) new
log_wrote {g} {line} {e} {log} {new} {at} {text} next ordered up safe pass content = record {
  logged = logged;
  shown = λ y shows. log_at_written g line e y (tried.shown y shows);
}
  where
    partly : ContentPasses (IsPartlyWritten at text) log new
    partly = content_weaker (λ x y told is. subst (IsPartlyWritten at text x) (sym is) (next_partly g line e at text x next (safe.shown x (inl told)))) content

    tried : IsLogSafe g line (trying e) new
    tried = log_tried next ordered up safe pass partly

    logged : (y : Image) → new.content ≡ Some y → (s : ℕ) → e.recorded < s → s ≤ e.logged + 1 → HoldsSegment g line y s
    logged y told s low high = elim (cases_lt e.logged s) [
      | inr before ↦ tried.logged y told s low before
      | inl last ↦
          let was = content.from y told in
          let is : e.tried + 1 ≡ s = omega (arith, up) in
          subst (HoldsSegment g line y) is
          (subst (λ (u : Image). HoldsSegment g line u (e.tried + 1)) (sym was.2) (next_stands g line e at text was.0 next (safe.shown was.0 (inl was.1))))
    ]

pub backing_at_written : {line : Line} {e : Numbers} {backing : State} → IsBackingSafe line e backing → IsBackingSafe line (written e) backing
backing_at_written safe = record { shown = λ y shows. let is = safe.shown y shows in record { size = is.size; agrees = is.agrees } }

-- what it leaves in its course
pub write_leaves : {g : Geometry} {line : Line} {e : Numbers} {log new : State} {at : ℕ} {text : Image} → IsNextText g line e at text → IsOrdered g e → IsLogSafe g line e log
    → IsDevice log → Passes (IsPartlyWritten at text) log new → LeavesOnly (IsLogImage g line (trying e)) log new
write_leaves {g} {line} {e} {at = at} {text = text} next ordered safe device pass =
    leaves_only device pass
    (λ x left. log_written g line e at text x x ordered next (safe.shown x (inr left)) (IsPartlyWritten-same at text x))
    (λ x y left step. log_written g line e at text x y ordered next (safe.shown x (inr left)) step)

-- ---- a write of the record

-- however it ends
pub record_tried : {g : Geometry} {line : Line} {e : Numbers} {log new : State} → IsOrdered g e → IsLogSafe g line e log
    → Passes (RecordsOrNot e.back) log new → ContentPasses (RecordsOrNot e.back) log new → IsLogSafe g line e new
record_tried {g} {line} {e} ordered safe pass content = record {
  logged = λ y told s low high. let was = content.from y told in segment_recorded g line e.back was.0 y s was.2 (safe.logged was.0 was.1 s low high);
  shown = λ y shows. let was = shown_from pass content y shows in log_recorded g line e was.0 y ordered (safe.shown was.0 was.1) was.2;
}

-- where it is answered `Ok`
pub record_put : {g : Geometry} {line : Line} {e : Numbers} {log new : State} → IsOrdered g e → IsLogSafe g line e log
    → NothingPending new → ContentPasses (Records e.back) log new → IsLogSafe g line (recording e) new
record_put {g} {line} {e} ordered safe nothing content = record {
  logged = λ y told s low high.
      let was = content.from y told in
      segment_recorded g line e.back was.0 y s (inr was.2) (safe.logged was.0 was.1 s (omega (arith, low, ordered.recorded)) high);
  shown = λ y shows.
      let was = content.from y (shown_content nothing y shows) in
      log_at_record g line e was.0 y ordered (safe.shown was.0 (inl was.1)) was.2;
}

pub backing_at_record : {g : Geometry} {line : Line} {e : Numbers} {backing : State} → IsOrdered g e → IsBackingSafe line e backing → IsBackingSafe line (recording e) backing
backing_at_record {g} {line} {e} ordered safe = record { shown = λ y shows. backs_at_record g line e y ordered (safe.shown y shows) }

-- what it leaves in its course
pub record_leaves : {g : Geometry} {line : Line} {e : Numbers} {log new : State} → IsOrdered g e → IsLogSafe g line e log
    → IsDevice log → Passes (RecordsOrNot e.back) log new → LeavesOnly (IsLogImage g line e) log new
record_leaves {g} {line} {e} ordered safe device pass =
    leaves_only device pass (λ x left. safe.shown x (inr left)) (λ x y left step. log_recorded g line e x y ordered (safe.shown x (inr left)) step)

-- ---- writing segments back: those behind the last that is back, up to one that a sync of the log covered

-- however it ends
pub back_tried : {g : Geometry} {line : Line} {e : Numbers} {backing new : State} (k : ℕ) (entries : List HistoryEntry) → IsOrdered g e → IsBackingSafe line e backing → e.back ≤ k → k ≤ e.stable
    → WritesAlike entries (span line.list e.back (k - e.back))
    → Passes (PutsPartly entries) backing new → ContentPasses (PutsPartly entries) backing new → IsBackingSafe line e new
back_tried {g} {line} {e} k entries ordered safe from until alike pass content = record {
  shown = λ z shows.
      let was = shown_from pass content z shows in
      backs_partly g line e k entries was.0 z ordered from until alike (safe.shown was.0 was.1) was.2;
}

-- where it is answered `Ok`
pub put_back : {g : Geometry} {line : Line} {e : Numbers} {backing new : State} (k : ℕ) (entries : List HistoryEntry) → line.first ≡ e.first → IsOrdered g e → IsBackingSafe line e backing
    → e.back ≤ k → k ≤ e.stable → WritesAlike entries (span line.list e.back (k - e.back))
    → NothingPending new → ContentPasses (λ x y. y ≡ after x entries) backing new → IsBackingSafe line (put_up_to k e) new
put_back {g} {line} {e} k entries start ordered safe from until alike nothing content = record {
  shown = λ z shows.
      let was = content.from z (shown_content nothing z shows) in
      backs_put g line e k entries was.0 z start ordered from until alike (safe.shown was.0 (inl was.1)) was.2;
}

pub log_at_back : {g : Geometry} {line : Line} {e : Numbers} {log : State} (k : ℕ) → e.back ≤ k → IsLogSafe g line e log → IsLogSafe g line (put_up_to k e) log
log_at_back {g} {line} {e} k from safe = record {
  logged = safe.logged;
  shown = λ x shows. log_at_put g line e k x from (safe.shown x shows);
}

-- what it leaves in its course
pub back_leaves : {g : Geometry} {line : Line} {e : Numbers} {backing new : State} (k : ℕ) (entries : List HistoryEntry) → IsOrdered g e → IsBackingSafe line e backing → e.back ≤ k → k ≤ e.stable
    → WritesAlike entries (span line.list e.back (k - e.back)) → IsDevice backing → Passes (PutsPartly entries) backing new → LeavesOnly (IsBackingImage line e) backing new
back_leaves {g} {line} {e} k entries ordered safe from until alike device pass =
    leaves_only device pass (λ y left. safe.shown y (inr left))
    (λ y z left step. backs_partly g line e k entries y z ordered from until alike (safe.shown y (inr left)) step)
