-- Places behind a history that change nothing: blocks stand for the same entries, and each image after segments is the same.
use Rattle.std.proofs.Common.{ℕ, suc, zero, ◌≡◌, ◌+◌, ◌-◌, ◌*◌, ◌<◌, ◌≤◌, List, [], ◌∷◌, ◌++◌, length, take, drop, replicate, Option, None, inl, inr, refl, ap, sym, ◌∙◌, subst, arith, length-append}
use Rattle.std.proofs.lemmas.Bool.{cases_lt}
use Rattle.std.proofs.lemmas.List.{drop-replicate, length-replicate}
use Rattle.wb_geometry.specs.Image.{Image}
use Rattle.wb_geometry.specs.History.{HistoryEntry, Void, put, after, later, last_write}
use Rattle.wb_geometry.specs.Line.{segment, line_of, image}
use Rattle.wb_geometry.specs.declared.geometry.Geometry.{Geometry}
use Rattle.wb_geometry.proofs.Histories.{images_equal, length-put, sector-put, after-append, last_write-append}
use Rattle.wb_geometry.proofs.Lines.{image-cut, image-all}
use Rattle.wb_header.specs.Text.{TextBlock}
use Rattle.wb_header.specs.Standing.{StandsFor, block_at, first_at}
use Rattle.wb_header.specs.Slots.{IsTextOf}
use Rattle.wb_header.proofs.Standings.{first_at_inside, first_at_behind}
use Rattle.wb_crash.specs.Chain.{SumHolds, IsRecovered}
use Rattle.wb_crash.specs.Crash.{RecoversBetween, CrashNow}
use Rattle.wb_geometry.specs.Device.{State}

-- so many of them
abbrev pub voids : ℕ → List HistoryEntry
voids count = replicate count (Void 0)

-- ---- an image

put_void : (x : Image) → put x (Void 0) ≡ x
put_void x =
    images_equal (put x (Void 0)) x (length-put x (Void 0))
    (λ k below. sector-put x (Void 0) k (subst (λ (n : ℕ). k < n) (length-put x (Void 0)) below))

after_voids : (x : Image) (count : ℕ) → after x (voids count) ≡ x
after_voids x zero = refl
after_voids x (suc count) = ap (λ (y : Image). after y (voids count)) (put_void x) ∙ after_voids x count

after_with_voids : (x : Image) (entries : List HistoryEntry) (count : ℕ) → after x (entries ++ voids count) ≡ after x entries
after_with_voids x entries count = after-append x entries (voids count) ∙ after_voids (after x entries) count

-- ---- pieces of a history

take_voids : (m count : ℕ) → (left : ℕ) × (take m (voids count) ≡ voids left)
take_voids zero count = (0, refl)
take_voids (suc m) zero = (0, refl)
take_voids (suc m) (suc count) = let rest = take_voids m count in (suc rest.0, ap (λ (l : List HistoryEntry). Void 0 ∷ l) rest.1)

take_with_voids : (m count : ℕ) (h : List HistoryEntry) → (left : ℕ) × (take m (h ++ voids count) ≡ take m h ++ voids left)
take_with_voids zero count h = (0, refl)
take_with_voids (suc m) count [] = take_voids (suc m) count
take_with_voids (suc m) count (e ∷ h) = let rest = take_with_voids m count h in (rest.0, ap (λ (l : List HistoryEntry). e ∷ l) rest.1)

drop_with_voids : (m count : ℕ) (h : List HistoryEntry) → (left : ℕ) × (drop m (h ++ voids count) ≡ drop m h ++ voids left)
drop_with_voids zero count h = (count, refl)
drop_with_voids (suc m) count [] = (count - suc m, drop-replicate (suc m) count (Void 0))
drop_with_voids (suc m) count (e ∷ h) = drop_with_voids m count h

-- a segment has some of them behind its own entries
segment_with_voids : (n first : ℕ) (h : List HistoryEntry) (count s : ℕ) → (left : ℕ) × (segment n first (h ++ voids count) s ≡ segment n first h s ++ voids left)
segment_with_voids n first h count s =
    let dropped = drop_with_voids (n * (s - (first + 1))) count h in
    let taken = take_with_voids n dropped.0 (drop (n * (s - (first + 1))) h) in
    (taken.0, ap (take n) dropped.1 ∙ taken.1)

image_with_voids : (n first : ℕ) (base : Image) (h : List HistoryEntry) (count k : ℕ) → image (line_of n first base (h ++ voids count)) k ≡ image (line_of n first base h) k
image_with_voids n first base h count k =
    let taken = take_with_voids (n * (k - first)) count h in
    image-cut n first base (h ++ voids count) k
    ∙ ap (after base) taken.1 ∙ after_with_voids base (take (n * (k - first)) h) taken.0
    ∙ sym (image-cut n first base h k)

-- the image after all segments, where they have places for the history and the voids
pub image_of_all : (n first : ℕ) (base : Image) (h : List HistoryEntry) (count k : ℕ) → length (h ++ voids count) ≤ n * (k - first) → image (line_of n first base (h ++ voids count)) k ≡ after base h
image_of_all n first base h count k room = image-all n first base (h ++ voids count) k room ∙ after_with_voids base h count

-- ---- blocks

last_of_voids : (k count : ℕ) → last_write k (voids count) ≡ None
last_of_voids k zero = refl
last_of_voids k (suc count) = ap (λ (w : Option (List ℕ)). later None w) (last_of_voids k count)

first_in_voids : (number count : ℕ) → first_at number (voids count) ≡ count
first_in_voids number zero = refl
first_in_voids number (suc count) = ap (λ (n : ℕ). suc n) (first_in_voids number count)

-- where a block is written at all, the entries themselves write it
written_before_voids : (number count : ℕ) (entries : List HistoryEntry) → first_at number (entries ++ voids count) < length (entries ++ voids count) → first_at number entries < length entries
written_before_voids number count entries written = elim (cases_lt (first_at number entries) (length entries)) [
  | inl inside ↦ inside
  | inr past ↦
      absurd (omega (
        arith,
        written,
        first_at_behind number entries (voids count) past,
        first_in_voids number count,
        length-append entries (voids count),
        length-replicate {A = HistoryEntry} count (Void 0),
      ))
]

stands_without_voids : (blocks : List TextBlock) (entries : List HistoryEntry) (count : ℕ) → StandsFor blocks (entries ++ voids count) → StandsFor blocks entries
stands_without_voids blocks entries count stands = record {
  distinct = stands.distinct;
  each = λ k. stands.each k ∙ last_write-append k entries (voids count) ∙ ap (later (last_write k entries)) (last_of_voids k count);
  some = some;
  listed = λ number inside. stands.listed number (omega (arith, inside, first_at_inside number entries (voids count) inside, length-append entries (voids count)));
  order = λ i j less below.
      omega (
        arith,
        stands.order i j less below,
        first_at_inside (block_at blocks i).number entries (voids count) (some i (omega (arith, less, below))),
        first_at_inside (block_at blocks j).number entries (voids count) (some j below),
      );
}
  where
    some : (j : ℕ) → j < length blocks → first_at (block_at blocks j).number entries < length entries
    some j below = written_before_voids (block_at blocks j).number count entries (stands.some j below)

-- ---- what recovery makes

text_without_voids : (g : Geometry) (n first : ℕ) (h : List HistoryEntry) (count s : ℕ) (text : Image) → IsTextOf g (segment n first (h ++ voids count) s) s text → IsTextOf g (segment n first h s) s text
text_without_voids g n first h count s text is =
    let parts = segment_with_voids n first h count s in
    record {
      blocks = is.blocks;
      is = is.is;
      for = stands_without_voids is.blocks (segment n first h s) parts.0 (subst (StandsFor is.blocks) parts.1 is.for);
    }

recovers_without_voids : (g : Geometry) (n first : ℕ) (base : Image) (h : List HistoryEntry) (count low high : ℕ) (x y : Image)
    → RecoversBetween g (line_of n first base (h ++ voids count)) low high x y → RecoversBetween g (line_of n first base h) low high x y
recovers_without_voids g n first base h count low high x y recovers = record {
  super = recovers.super;
  tidy = recovers.tidy;
  makes = λ sums.
      let of_all : SumHolds g (line_of n first base (h ++ voids count)) x low high = record {
        whole = λ s text from until is. sums.whole s text from until (text_without_voids g n first h count s text is);
      } in
      let made = recovers.makes of_all in
      (made.0, made.1, made.2, subst (IsRecovered g x y) (image_with_voids n first base h count made.0) made.3);
}

pub crash_without_voids : (g : Geometry) (n first : ℕ) (base : Image) (h : List HistoryEntry) (count low high : ℕ) (log backing : State)
    → CrashNow g (line_of n first base (h ++ voids count)) low high log backing → CrashNow g (line_of n first base h) low high log backing
crash_without_voids g n first base h count low high log backing crash = record {
  each = λ x y log_left left. recovers_without_voids g n first base h count low high x y (crash.each x y log_left left);
}
