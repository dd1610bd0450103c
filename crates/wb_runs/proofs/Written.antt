-- What the writes of a block's runs make of an image, run by run.
use Rattle.std.proofs.Common.{ℕ, ◌≡◌, ◌⊎◌, ◌+◌, ◌-◌, ◌*◌, ◌<◌, ◌≤◌, List, [], ◌∷◌, length, take, drop, Option, Some, None, refl, ap, sym, ◌∙◌, subst, inl, inr, arith}
use Rattle.std.specs.Int.{bit_at}
use Rattle.std.proofs.lemmas.Bool.{cases_lt}
use Rattle.std.proofs.lemmas.List.{length-take-le, length-drop}
use Rattle.std.proofs.lemmas.List.Elements.{All-contains_itself, Contains-get_or}
use Rattle.wb_geometry.specs.Image.{Image, sector, sectors_of, overlay, IsPartlyWritten}
use Rattle.wb_geometry.specs.History.{HistoryEntry, Write, written, standing, put, PutsPartly}
use Rattle.wb_geometry.specs.Device.{State, IsDevice, IsSameDevice, Passes, ContentPasses}
use Rattle.wb_geometry.proofs.Images.{length-sectors_of, length-overlay, sector-overlay_before, sector-overlay_inside, sector-overlay_behind}
use Rattle.wb_geometry.proofs.Histories.{length-put, sector-put, images_equal, written-inside, written-before, written-behind, written-clear, sector-sectors_of_take, sector-sectors_of_drop, puts_then}
use Rattle.wb_geometry.proofs.Moments.{passes_same, joined, content_same, content_weaker, content_joined, same_device, same_device_trans}
use Rattle.wb_runs.specs.Runs.{IsFirstRun}

-- ---- runs

-- the bytes of a run of sectors
abbrev pub run_of : (first count : ℕ) → List ℕ → List ℕ
run_of first count payload = take (512 * count) (drop (512 * first) payload)

pub length-run_of : (first count : ℕ) (payload : List ℕ) → first + count ≤ 8 → length payload ≡ 4096 → length (run_of first count payload) ≡ 512 * count
length-run_of first count payload inside size = length-take-le (512 * count) (drop (512 * first) payload) (omega (arith, length-drop (512 * first) payload))

-- as the code cuts it out
pub run_of_cut : (first count : ℕ) (payload : List ℕ) → take ((first + count) * 512 - first * 512) (drop (first * 512) payload) ≡ run_of first count payload
run_of_cut first count payload =
    let many : (first + count) * 512 - first * 512 ≡ 512 * count = omega arith in
    let place : first * 512 ≡ 512 * first = omega arith in
    ap (λ (n : ℕ). take n (drop (first * 512) payload)) many ∙ ap (λ (n : ℕ). take (512 * count) (drop n payload)) place

-- what holds of a write holds of it by its place and its bytes
pub of_write : (P : ℕ → List ℕ → Type 0) {at place : ℕ} {bytes run : List ℕ} → at ≡ place → bytes ≡ run → P at bytes → P place run
of_write P {place = place} {bytes = bytes} is_place is_run holds = subst (P place) is_run (subst (λ (n : ℕ). P n bytes) is_place holds)

length-run_sectors : (first count : ℕ) (payload : List ℕ) → first + count ≤ 8 → length payload ≡ 4096 → length (sectors_of (run_of first count payload)) ≡ count
length-run_sectors first count payload inside size =
    length-sectors_of (run_of first count payload) ∙ (omega (arith, length-run_of first count payload inside size))

sector-run_of : (first count j : ℕ) (payload : List ℕ) → first + count ≤ 8 → length payload ≡ 4096 → j < count
    → sector (sectors_of (run_of first count payload)) j ≡ sector (sectors_of payload) (first + j)
sector-run_of first count j payload inside size below =
    sector-sectors_of_take (drop (512 * first) payload) count j below (omega (arith, length-drop (512 * first) payload))
    ∙ sector-sectors_of_drop payload first j (omega arith)

-- the entry of a block
abbrev pub block_entry : (block bits : ℕ) → List ℕ → HistoryEntry
block_entry block bits payload = Write 0 block bits payload

-- y is x with the dirty sectors of a block below its sector `from` written
pub record IsPutBelow (from block bits : ℕ) (payload : List ℕ) (x y : Image) : Type 0 where
  pub size : length y ≡ length x
  pub put : (i : ℕ) → i < 8 * block + from → sector y i ≡ standing (sector x i) (written i (block_entry block bits payload))
  pub rest : (i : ℕ) → 8 * block + from ≤ i → sector y i ≡ sector x i

-- at first none is
pub put_below_none : (block bits : ℕ) (payload : List ℕ) (x : Image) → IsPutBelow 0 block bits payload x x
put_below_none block bits payload x = record {
  size = refl;
  put = λ i below. sym (ap (standing (sector x i)) (written-before 0 block bits payload i (omega arith)));
  rest = λ i start. refl;
}

-- a sector of a run
inside_run : (from first count block bits i : ℕ) (payload : List ℕ) → IsFirstRun bits from first count → 8 * block + first ≤ i → i < 8 * block + first + count
    → written i (block_entry block bits payload) ≡ Some (sector (sectors_of payload) (i - 8 * block))
inside_run from first count block bits i payload run start below =
    written-inside 0 block bits payload i (omega arith) (omega (arith, run.inside)) (run.set (i - 8 * block) (omega arith) (omega arith))

run_sector : (first count block i : ℕ) (payload : List ℕ) → first + count ≤ 8 → length payload ≡ 4096 → 8 * block + first ≤ i → i < 8 * block + first + count
    → sector (sectors_of (run_of first count payload)) (i - (8 * block + first)) ≡ sector (sectors_of payload) (i - 8 * block)
run_sector first count block i payload inside size start below =
    let place : first + (i - (8 * block + first)) ≡ i - 8 * block = omega arith in
    sector-run_of first count (i - (8 * block + first)) payload inside size (omega arith) ∙ ap (sector (sectors_of payload)) place

-- a sector of the block before the run, after the run is written
before_run : (from first count block bits i : ℕ) (payload : List ℕ) (x y : Image) → IsFirstRun bits from first count → IsPutBelow from block bits payload x y → i < 8 * block + first
    → sector y i ≡ standing (sector x i) (written i (block_entry block bits payload))
before_run from first count block bits i payload x y run so_far before = elim (cases_lt i (8 * block + from)) [
  | inl done ↦ so_far.put i done
  | inr clear ↦ so_far.rest i clear ∙ sym (ap (standing (sector x i)) (written-clear 0 block bits payload i (run.before (i - 8 * block) (omega arith) (omega arith))))
]

-- then those of one run more
pub put_below_more : (from first count block bits : ℕ) (payload : List ℕ) (x y z : Image) → IsFirstRun bits from first count → length payload ≡ 4096 → 8 * block + 8 ≤ length x
    → IsPutBelow from block bits payload x y → z ≡ overlay (8 * block + first) (sectors_of (run_of first count payload)) y → IsPutBelow (first + count) block bits payload x z
put_below_more from first count block bits payload x y z run size room so_far is =
    let at : ℕ = 8 * block + first in
    let new : Image = sectors_of (run_of first count payload) in
    let many : length new ≡ count = length-run_sectors first count payload run.inside size in
    let fits : at + length new ≤ length y = omega (arith, many, so_far.size, room, run.inside) in
    let laid : IsPutBelow (first + count) block bits payload x (overlay at new y) = record {
      size = length-overlay at new y fits ∙ so_far.size;
      put = λ i below. elim (cases_lt i at) [
        | inl before ↦ sector-overlay_before at new y i (omega (arith, fits)) before ∙ before_run from first count block bits i payload x y run so_far before
        | inr inside ↦
            sector-overlay_inside at new y i (omega (arith, fits)) inside (omega (arith, many, below))
            ∙ run_sector first count block i payload run.inside size inside (omega (arith, below))
            ∙ sym (ap (standing (sector x i)) (inside_run from first count block bits i payload run inside (omega (arith, below))))
      ];
      rest = λ i behind. sector-overlay_behind at new y i (omega (arith, fits)) (omega (arith, many, behind)) ∙ so_far.rest i (omega (arith, run.start, behind));
    } in
    subst (IsPutBelow (first + count) block bits payload x) (sym is) laid

unwritten : (from block bits i : ℕ) (payload : List ℕ) → ((j : ℕ) → from ≤ j → j < 8 → bit_at bits j ≡ 0) → 8 * block + from ≤ i → written i (block_entry block bits payload) ≡ None
unwritten from block bits i payload none rest = elim (cases_lt i (8 * block + 8)) [
  | inl inside ↦ written-clear 0 block bits payload i (none (i - 8 * block) (omega arith) (omega arith))
  | inr behind ↦ written-behind 0 block bits payload i behind
]

-- and where no dirty sector is left, the whole entry
pub put_below_all : (from block bits : ℕ) (payload : List ℕ) (x y : Image) → ((i : ℕ) → from ≤ i → i < 8 → bit_at bits i ≡ 0)
    → IsPutBelow from block bits payload x y → y ≡ put x (block_entry block bits payload)
put_below_all from block bits payload x y none so_far =
    let entry : HistoryEntry = block_entry block bits payload in
    images_equal y (put x entry) (so_far.size ∙ sym (length-put x entry))
    (λ i below.
    let inside : i < length x = omega (arith, so_far.size) in
    (elim (cases_lt i (8 * block + from)) [
      | inl done ↦ so_far.put i done
      | inr rest ↦ so_far.rest i rest ∙ sym (ap (standing (sector x i)) (unwritten from block bits i payload none rest))
    ])
    ∙ sym (sector-put x entry i inside))

-- what stands is what stood, or what was written
stands : (entry : HistoryEntry) (i : ℕ) (was now : List ℕ) (over : Option (List ℕ)) → written i entry ≡ over → now ≡ standing was over → (now ≡ was) ⊎ (written i entry ≡ Some now)
stands entry i was now None wrote is = inl is
stands entry i was now (Some t) wrote is = inr (wrote ∙ ap (λ (s : List ℕ). Some s) (sym is))

-- those that are written are some of the entry's
put_below_partly : (from block bits : ℕ) (payload : List ℕ) (x y : Image) → IsPutBelow from block bits payload x y → PutsPartly (block_entry block bits payload ∷ []) x y
put_below_partly from block bits payload x y so_far =
    let entry : HistoryEntry = block_entry block bits payload in
    record {
      size = so_far.size;
      each = λ i. elim (cases_lt i (8 * block + from)) [
        | inl done ↦ elim (stands entry i (sector x i) (sector y i) (written i entry) refl (so_far.put i done)) [
          | inl same ↦ inl same
          | inr put ↦ inr (entry, Contains-get_or (entry ∷ []) 0 entry (omega arith), put)
        ]
        | inr rest ↦ inl (so_far.rest i rest)
      ];
    }

-- so are those of a run
run_partly : (from first count block bits : ℕ) (payload : List ℕ) (x y : Image) → IsFirstRun bits from first count → length payload ≡ 4096
    → IsPartlyWritten (8 * block + first) (sectors_of (run_of first count payload)) x y → PutsPartly (block_entry block bits payload ∷ []) x y
run_partly from first count block bits payload x y run size some =
    let entry : HistoryEntry = block_entry block bits payload in
    record {
      size = some.size;
      each = λ i. elim (some.each i) [
        | inl kept ↦ inl kept
        | inr over ↦
            let below : i < 8 * block + first + count = omega (arith, over.1, length-run_sectors first count payload run.inside size) in
            inr (
              entry,
              Contains-get_or (entry ∷ []) 0 entry (omega arith),
              inside_run from first count block bits i payload run over.0 below
                  ∙ ap (λ (s : List ℕ). Some s) (sym (over.2 ∙ run_sector first count block i payload run.inside size over.0 below)),
            )
      ];
    }

-- The dirty sectors below sector `from` of the block are written, and no call failed.
pub record IsBegun (from block bits : ℕ) (payload : List ℕ) (old now : State) : Type 0 where
  pub content : ContentPasses (IsPutBelow from block bits payload) old now
  pub crash : Passes (PutsPartly (block_entry block bits payload ∷ [])) old now
  pub same : IsSameDevice old now
  pub faults : now.faults ≡ old.faults
  pub reads : now.reads ≡ old.reads
  pub syncs : now.syncs ≡ old.syncs

-- nothing is written yet
pub begun_none : {s : State} (block bits : ℕ) (payload : List ℕ) → IsBegun 0 block bits payload s s
begun_none {s} block bits payload = record {
  content = content_same (λ x told. put_below_none block bits payload x) refl;
  crash = passes_same (λ x left. put_below_partly 0 block bits payload x x (put_below_none block bits payload x));
  same = same_device s;
  faults = refl;
  reads = refl;
  syncs = refl;
}

-- a crash at any time while the next run is written
pub run_crash : {old mid new : State} (from first count block bits : ℕ) (payload : List ℕ) → IsFirstRun bits from first count → length payload ≡ 4096 → IsBegun from block bits payload old mid
    → Passes (IsPartlyWritten (8 * block + first) (sectors_of (run_of first count payload))) mid new → Passes (PutsPartly (block_entry block bits payload ∷ [])) old new
run_crash from first count block bits payload run size so_far step =
    let es : List HistoryEntry = block_entry block bits payload ∷ [] in
    joined (λ x y left one. one)
    (λ x y z left one two. puts_then es es x y z (All-contains_itself es) one (run_partly from first count block bits payload y z run size two))
    so_far.crash step

-- the content where that write failed
pub run_stopped : {old mid new : State} (from first count block bits : ℕ) (payload : List ℕ) → IsFirstRun bits from first count → length payload ≡ 4096 → IsBegun from block bits payload old mid
    → ContentPasses (IsPartlyWritten (8 * block + first) (sectors_of (run_of first count payload))) mid new → ContentPasses (PutsPartly (block_entry block bits payload ∷ [])) old new
run_stopped from first count block bits payload run size so_far step =
    let es : List HistoryEntry = block_entry block bits payload ∷ [] in
    content_joined
    (λ x y z told one two. puts_then es es x y z (All-contains_itself es) (put_below_partly from block bits payload x y one) (run_partly from first count block bits payload y z run size two))
    so_far.content step

-- the next run is written
pub run_more : {old mid new : State} (from first count block bits : ℕ) (payload : List ℕ) → IsDevice old → 8 * block + 8 ≤ old.sectors → IsFirstRun bits from first count → length payload ≡ 4096
    → IsBegun from block bits payload old mid
    → ContentPasses (λ x y. y ≡ overlay (8 * block + first) (sectors_of (run_of first count payload)) x) mid new
    → Passes (IsPartlyWritten (8 * block + first) (sectors_of (run_of first count payload))) mid new
    → IsSameDevice mid new → new.faults ≡ mid.faults → new.reads ≡ mid.reads → new.syncs ≡ mid.syncs → IsBegun (first + count) block bits payload old new
run_more from first count block bits payload device room run size so_far step crash same faults reads syncs = record {
  content = content_joined
      (λ x y z told one two. put_below_more from first count block bits payload x y z run size (omega (arith, room, (device.content x told).size)) one two)
      so_far.content step;
  crash = run_crash from first count block bits payload run size so_far crash;
  same = same_device_trans so_far.same same;
  faults = faults ∙ so_far.faults;
  reads = reads ∙ so_far.reads;
  syncs = syncs ∙ so_far.syncs;
}

-- all runs are written
pub runs_whole : {old new : State} (from block bits : ℕ) (payload : List ℕ) → ((i : ℕ) → from ≤ i → i < 8 → bit_at bits i ≡ 0) → IsBegun from block bits payload old new
    → ContentPasses (λ x y. y ≡ put x (block_entry block bits payload)) old new
runs_whole from block bits payload none so_far = content_weaker (λ x y told one. put_below_all from block bits payload x y none one) so_far.content
