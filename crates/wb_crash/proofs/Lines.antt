-- An engine as it begins, and as its history grows.
use Rattle.std.proofs.Common.{ℕ, ◌≡◌, ◌-◌, ◌*◌, ◌^◌, ◌≤◌, List, ◌++◌, length, Some, refl, ap, sym, ◌∙◌, subst, arith}
use Rattle.std.proofs.Math.Nat.{mul-le-mul_left}
use Rattle.wb_geometry.specs.Image.{Image, sector}
use Rattle.wb_geometry.specs.Device.{State, NothingPending}
use Rattle.wb_geometry.specs.History.{HistoryEntry, after, IsUnwritten}
use Rattle.wb_geometry.specs.Line.{Line, span, image, line_of, Agrees}
use Rattle.wb_geometry.specs.declared.geometry.Geometry.{Geometry}
use Rattle.wb_geometry.proofs.Lines.{span-same, segment-kept}
use Rattle.wb_header.specs.Slots.{IsTextOf}
use Rattle.wb_crash.specs.Images.{IsOrdered, HoldsSegment, BeginsSegment, IsLogImage, IsBackingImage}
use Rattle.wb_crash.specs.Numbers.{all_at}
use Rattle.wb_crash.specs.Safety.{IsLogSafe, IsBackingSafe, IsSafe, IsSameUpTo, IsFresh}
use Rattle.wb_crash.specs.declared.numbers.Numbers.{Numbers}
use Rattle.wb_crash.proofs.Shown.{shown_content}

-- ---- the first engine

ordered_all : (g : Geometry) (n : ℕ) → n ≤ 2 ^ 48 → IsOrdered g (all_at n)
ordered_all g n few = record {
  start = omega arith;
  recorded = omega arith;
  back = omega arith;
  stable = omega arith;
  logged = omega arith;
  tried = omega arith;
  one = omega arith;
  room = omega arith;
  ids = few;
}

log_all : (g : Geometry) (line : Line) (n : ℕ) (x : Image) → IsFresh g n x → IsLogImage g line (all_at n) x
log_all g line n x fresh = record {
  super = fresh.super;
  from = omega (arith, fresh.number);
  to = omega (arith, fresh.number);
  synced = λ s low high. absurd (omega (arith, low, high));
  begun = λ s low high. absurd (omega (arith, low, high));
  newest = fresh.newest;
}

backs_all : (line : Line) (n : ℕ) (y : Image) → line.first ≡ n → y ≡ line.base → IsBackingImage line (all_at n) y
backs_all line n y start is = record {
  size = ap length is;
  agrees = λ r low high. record {
    each = λ i none.
        let nothing : r - line.first ≡ 0 = omega (arith, low, high, start) in
        let first : image line r ≡ line.base = ap (λ (m : ℕ). after line.base (span line.list line.first m)) nothing in
        ap (λ (u : Image). sector u i) (is ∙ sym first);
  };
}

log_opened : {g : Geometry} {line : Line} {log : State} (n : ℕ) → NothingPending log → ((x : Image) → log.content ≡ Some x → IsFresh g n x) → IsLogSafe g line (all_at n) log
log_opened {g} {line} n nothing fresh = record {
  logged = λ x told s low high. absurd (omega (arith, low, high));
  shown = λ x shows. log_all g line n x (fresh x (shown_content nothing x shows));
}

backing_opened : {line : Line} {backing : State} (n : ℕ) → line.first ≡ n → NothingPending backing → ((y : Image) → backing.content ≡ Some y → y ≡ line.base)
    → IsBackingSafe line (all_at n) backing
backing_opened {line} n start nothing base = record { shown = λ y shows. backs_all line n y start (base y (shown_content nothing y shows)) }

-- Nothing is pending, the log's content has that record and no later id, and the backing device's is the image at the start.
pub opened : {g : Geometry} {line : Line} {log backing : State} (n : ℕ) → n ≤ 2 ^ 48 → line.first ≡ n → NothingPending log → NothingPending backing
    → ((x : Image) → log.content ≡ Some x → IsFresh g n x) → ((y : Image) → backing.content ≡ Some y → y ≡ line.base) → IsSafe g line (all_at n) log backing
opened {g} n few start nothing none fresh base = record {
  ordered = ordered_all g n few;
  start = start;
  on_log = log_opened n nothing fresh;
  on_backing = backing_opened n start none base;
}

-- ---- along a line

segment_along : (g : Geometry) (a b : Line) (x : Image) (s : ℕ) → b.list s ≡ a.list s → HoldsSegment g a x s → HoldsSegment g b x s
segment_along g a b x s same segment = record {
  text = segment.text;
  is = subst (λ (es : List HistoryEntry). IsTextOf g es s segment.text) (sym same) segment.is;
  stands = segment.stands;
}

begins_along : (g : Geometry) (a b : Line) (x : Image) (s : ℕ) → b.list s ≡ a.list s → BeginsSegment g a x s → BeginsSegment g b x s
begins_along g a b x s same begins = record {
  text = begins.text;
  is = subst (λ (es : List HistoryEntry). IsTextOf g es s begins.text) (sym same) begins.is;
  front = begins.front;
}

log_along : (g : Geometry) (a b : Line) (e : Numbers) (x : Image) → a.first ≡ e.first → IsOrdered g e → IsSameUpTo e.tried a b → IsLogImage g a e x → IsLogImage g b e x
log_along g a b e x start ordered same logs = record {
  super = logs.super;
  from = logs.from;
  to = logs.to;
  synced = λ s low high.
      segment_along g a b x s (same.list s (omega (arith, low, start, ordered.start)) (omega (arith, high, ordered.stable, ordered.logged))) (logs.synced s low high);
  begun = λ s low high.
      begins_along g a b x s (same.list s (omega (arith, low, start, ordered.start, ordered.recorded, ordered.back)) high) (logs.begun s low high);
  newest = logs.newest;
}

image_along : (a b : Line) (k r : ℕ) → IsSameUpTo k a b → r ≤ k → image b r ≡ image a r
image_along a b k r same high =
    ap (λ (u : Image). after u (span b.list b.first (r - b.first))) same.base
    ∙ ap (λ (f : ℕ). after a.base (span b.list f (r - f))) same.start
    ∙ ap (after a.base) (span-same b.list a.list a.first (r - a.first) (λ s low upto. same.list s low (omega (arith, low, upto, high))))

agrees_along : (a b : Line) (k r s : ℕ) (y : Image) → IsSameUpTo k a b → a.first ≤ r → r ≤ s → s ≤ k → Agrees a r s y → Agrees b r s y
agrees_along a b k r s y same low mid high agrees = record {
  each = λ i none.
      let spans : span b.list r (s - r) ≡ span a.list r (s - r) = span-same b.list a.list r (s - r) (λ t above upto. same.list t (omega arith) (omega arith)) in
      agrees.each i (subst (IsUnwritten i) spans none) ∙ ap (λ (u : Image). sector u i) (sym (image_along a b k r same (omega arith)));
}

backs_along : (g : Geometry) (a b : Line) (e : Numbers) (y : Image) → a.first ≡ e.first → IsOrdered g e → IsSameUpTo e.tried a b → IsBackingImage a e y → IsBackingImage b e y
backs_along g a b e y start ordered same backs = record {
  size = backs.size ∙ ap length (sym same.base);
  agrees = λ r low high.
      agrees_along a b e.tried r e.stable y same (omega (arith, start, ordered.start, low)) (omega (arith, high, ordered.back)) (omega (arith, ordered.stable, ordered.logged))
      (backs.agrees r low high);
}

log_safe_along : {g : Geometry} {a b : Line} {e : Numbers} {log : State} → a.first ≡ e.first → IsOrdered g e → IsSameUpTo e.tried a b → IsLogSafe g a e log → IsLogSafe g b e log
log_safe_along {g} {a} {b} {e} start ordered same safe = record {
  logged = λ x told s low high.
      segment_along g a b x s (same.list s (omega (arith, low, start, ordered.start)) (omega (arith, high, ordered.logged))) (safe.logged x told s low high);
  shown = λ x shows. log_along g a b e x start ordered same (safe.shown x shows);
}

backing_safe_along : {g : Geometry} {a b : Line} {e : Numbers} {backing : State} → a.first ≡ e.first → IsOrdered g e → IsSameUpTo e.tried a b → IsBackingSafe a e backing → IsBackingSafe b e backing
backing_safe_along {g} {a} {b} {e} start ordered same safe = record { shown = λ y shows. backs_along g a b e y start ordered same (safe.shown y shows) }

-- an engine is safe over any line that has the same segments up to the last that was begun
pub engine_along : {g : Geometry} {a b : Line} {e : Numbers} {log backing : State} → IsSameUpTo e.tried a b → IsSafe g a e log backing → IsSafe g b e log backing
engine_along same safe = record {
  ordered = safe.ordered;
  start = same.start ∙ safe.start;
  on_log = log_safe_along safe.start safe.ordered same safe.on_log;
  on_backing = backing_safe_along safe.start safe.ordered same safe.on_backing;
}

-- a history that grows keeps its full segments
pub grown : (places first k : ℕ) (base : Image) (history more : List HistoryEntry) → places * (k - first) ≤ length history
    → IsSameUpTo k (line_of places first base history) (line_of places first base (history ++ more))
grown places first k base history more full = record {
  start = refl;
  base = refl;
  list = λ s above upto.
      segment-kept places first history more s above (omega (arith, full, mul-le-mul_left {m = s - first} {n = k - first} places (omega arith)));
}
