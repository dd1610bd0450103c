-- What a plan writes once the blocks of segments were added to it, and what that makes of a device.
use Rattle.std.proofs.Common.{ℕ, ◌≡◌, ◌⊎◌, ◌+◌, ◌*◌, ◌<◌, ◌≤◌, List, [], ◌∷◌, ◌++◌, map, length, take, inl, inr, refl, ap, sym, ◌∙◌, subst, arith}
use Rattle.std.specs.List.{All}
use Rattle.std.specs.List.Sorted.{IsPermutation}
use Rattle.std.proofs.lemmas.List.{length-map, length_push, get_or-map, take_all, take_more, map-append, append_assoc}
use Rattle.std.proofs.lemmas.List.Elements.{All-push}
use Rattle.std.proofs.lemmas.List.Sorted.{All-permutation}
use Rattle.wb_geometry.specs.Image.{Image}
use Rattle.wb_geometry.specs.History.{HistoryEntry, Write, written, later, last_write, after, PutsPartly}
use Rattle.wb_geometry.specs.Device.{State, Passes, ContentPasses}
use Rattle.wb_geometry.proofs.Histories.{last_write_push, last_write-append, after_same}
use Rattle.wb_geometry.proofs.Moments.{weaker, content_weaker}
use Rattle.wb_header.specs.Text.{TextBlock, no_block, AreDistinct}
use Rattle.wb_header.specs.Standing.{entry_of, entries_of, numbers_of, block_at}
use Rattle.wb_header.proofs.DistinctBlocks.{PutsPartly-same_last}
use Rattle.wb_back.specs.Plans.{IsArranged, AreInside}

-- the blocks write last what these entries do
pub record WritesLast (blocks : List TextBlock) (es : List HistoryEntry) : Type 0 where
  pub each : (k : ℕ) → last_write k (entries_of blocks) ≡ last_write k es

-- what `add` says of the blocks before and after
pub record Adds (old new : List TextBlock) (block : TextBlock) : Type 0 where
  pub put : (k : ℕ) → last_write k (entries_of new) ≡ later (last_write k (entries_of old)) (written k (Write 0 block.number block.bits block.payload))

-- ---- one block after another

pub WritesLast-none : WritesLast [] []
WritesLast-none = record { each = λ k. refl }

-- the blocks of a segment, behind any entries, j of them so far
pub WritesLast-more : (es : List HistoryEntry) (segment old new : List TextBlock) (j : ℕ) → j < length segment
    → WritesLast old (es ++ entries_of (take j segment)) → Adds old new (block_at segment j) → WritesLast new (es ++ entries_of (take (j + 1) segment))
WritesLast-more es segment old new j below so_far added = record {
  each = λ k.
      let block : TextBlock = block_at segment j in
      let front : List HistoryEntry = entries_of (take j segment) in
      let pushed : entries_of (take (j + 1) segment) ≡ front ++ entry_of block ∷ [] =
      ap (map entry_of) (take_more segment j no_block below) ∙ map-append entry_of (take j segment) (block ∷ []) in
      added.put k
      ∙ ap (λ w. later w (written k (entry_of block))) (so_far.each k)
      ∙ sym (last_write_push k (es ++ front) (entry_of block))
      ∙ ap (last_write k) (append_assoc es front (entry_of block ∷ []) ∙ ap (λ (fs : List HistoryEntry). es ++ fs) (sym pushed));
}

-- all of them
pub WritesLast-all : (es : List HistoryEntry) (segment blocks : List TextBlock) (j : ℕ) → length segment ≤ j → WritesLast blocks (es ++ entries_of (take j segment)) → WritesLast blocks (es ++ entries_of segment)
WritesLast-all es segment blocks j end so_far = subst (λ (bs : List TextBlock). WritesLast blocks (es ++ entries_of bs)) (take_all j segment end) so_far

-- where the blocks of the segment stand for entries, those entries
pub WritesLast-behind : (es fs gs : List HistoryEntry) (blocks : List TextBlock) → ((k : ℕ) → last_write k fs ≡ last_write k gs) → WritesLast blocks (es ++ fs) → WritesLast blocks (es ++ gs)
WritesLast-behind es fs gs blocks same holds = record {
  each = λ k. holds.each k ∙ last_write-append k es fs ∙ ap (later (last_write k es)) (same k) ∙ sym (last_write-append k es gs);
}

-- the same blocks in another order
pub WritesLast-arranged : (es : List HistoryEntry) (old new : List TextBlock) → ((k : ℕ) → last_write k (entries_of new) ≡ last_write k (entries_of old)) → WritesLast old es → WritesLast new es
WritesLast-arranged es old new same holds = record { each = λ k. same k ∙ holds.each k }

-- at most one block more
pub length-added : (old new : List TextBlock) (number : ℕ) → (numbers_of new ≡ numbers_of old) ⊎ (numbers_of new ≡ numbers_of old ++ number ∷ []) → length new ≤ length old + 1
length-added old new number numbers = elim numbers [
  | inl same ↦ omega (arith, ap length same, length-map new (λ (b : TextBlock). b.number), length-map old (λ (b : TextBlock). b.number))
  | inr more ↦ omega (arith, ap length more, length_push (numbers_of old) number, length-map new (λ (b : TextBlock). b.number), length-map old (λ (b : TextBlock). b.number))
]

-- ---- inside the device

numbers_inside : (sectors : ℕ) (blocks : List TextBlock) → AreInside sectors blocks → All (λ (n : ℕ). 8 * n + 8 ≤ sectors) (numbers_of blocks)
numbers_inside sectors blocks inside = λ j d below.
    let many : j < length blocks = omega (arith, length-map blocks (λ (b : TextBlock). b.number)) in
    subst (λ (n : ℕ). 8 * n + 8 ≤ sectors) (sym (get_or-map (λ (b : TextBlock). b.number) blocks j no_block d many)) (inside j no_block many)

inside_numbers : (sectors : ℕ) (blocks : List TextBlock) → All (λ (n : ℕ). 8 * n + 8 ≤ sectors) (numbers_of blocks) → AreInside sectors blocks
inside_numbers sectors blocks inside = λ j d below.
    subst (λ (n : ℕ). 8 * n + 8 ≤ sectors) (get_or-map (λ (b : TextBlock). b.number) blocks j d 0 below) (inside j 0 (omega (arith, length-map blocks (λ (b : TextBlock). b.number))))

pub AreInside-added : (sectors : ℕ) (old new : List TextBlock) (number : ℕ) → (numbers_of new ≡ numbers_of old) ⊎ (numbers_of new ≡ numbers_of old ++ number ∷ [])
    → AreInside sectors old → 8 * number + 8 ≤ sectors → AreInside sectors new
AreInside-added sectors old new number numbers inside fits = inside_numbers sectors new (elim numbers [
  | inl same ↦ subst (All (λ (n : ℕ). 8 * n + 8 ≤ sectors)) (sym same) (numbers_inside sectors old inside)
  | inr more ↦ subst (All (λ (n : ℕ). 8 * n + 8 ≤ sectors)) (sym more) (All-push (λ (n : ℕ). 8 * n + 8 ≤ sectors) (numbers_of old) number (numbers_inside sectors old inside) fits)
])

pub AreInside-arranged : (sectors : ℕ) (old new : List TextBlock) → IsPermutation old new → AreInside sectors old → AreInside sectors new
AreInside-arranged sectors old new same inside = All-permutation (λ (b : TextBlock). 8 * b.number + 8 ≤ sectors) old new same inside

-- ---- on the device

-- blocks that rise are distinct
pub AreDistinct-arranged : (blocks : List TextBlock) → IsArranged blocks → AreDistinct blocks
AreDistinct-arranged blocks arranged = λ i j less below same. absurd (omega (arith, arranged.rising i j less below, same))

-- they make the same image
pub after-written : {blocks : List TextBlock} {es : List HistoryEntry} (x : Image) → WritesLast blocks es → after x (entries_of blocks) ≡ after x es
after-written {blocks} {es} x holds = after_same (entries_of blocks) es x holds.each

-- what the plan leaves, whole or where it is stopped, the entries leave
pub content-written : {blocks : List TextBlock} {es : List HistoryEntry} {old new : State} → WritesLast blocks es
    → ContentPasses (λ x y. y ≡ after x (entries_of blocks)) old new → ContentPasses (λ x y. y ≡ after x es) old new
content-written holds pass = content_weaker (λ x y told is. is ∙ after-written x holds) pass

pub content-partly_written : {blocks : List TextBlock} {es : List HistoryEntry} {old new : State} → AreDistinct blocks → WritesLast blocks es
    → ContentPasses (PutsPartly (entries_of blocks)) old new → ContentPasses (PutsPartly es) old new
content-partly_written {blocks} {es} distinct holds pass = content_weaker (λ x y told partly. PutsPartly-same_last blocks es x y distinct holds.each partly) pass

pub crash-partly_written : {blocks : List TextBlock} {es : List HistoryEntry} {old new : State} → AreDistinct blocks → WritesLast blocks es
    → Passes (PutsPartly (entries_of blocks)) old new → Passes (PutsPartly es) old new
crash-partly_written {blocks} {es} distinct holds pass = weaker (λ x y left partly. PutsPartly-same_last blocks es x y distinct holds.each partly) pass
