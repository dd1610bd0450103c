-- What recovery makes of the images of an engine.
use Rattle.std.proofs.Common.{ℕ, suc, zero, ◌≡◌, ◌+◌, ◌-◌, ◌%◌, ◌<◌, ◌≤◌, List, [], ◌∷◌, length, inl, inr, refl, ap, sym, ◌∙◌, subst, arith, Option, None}
use Rattle.std.specs.List.{flat_map}
use Rattle.std.proofs.lemmas.Bool.{cases_lt}
use Rattle.std.proofs.lemmas.List.{ext_get_or}
use Rattle.wb_sum.specs.Crc32c.{sum_of}
use Rattle.wb_geometry.specs.Image.{Image, sector, bytes_of, bytes_at}
use Rattle.wb_geometry.specs.History.{HistoryEntry, later, last_write, after}
use Rattle.wb_geometry.specs.Layout.{slot_start}
use Rattle.wb_geometry.specs.Line.{Line, span, image, Agrees}
use Rattle.wb_geometry.specs.declared.geometry.Geometry.{Geometry}
use Rattle.wb_geometry.proofs.Histories.{last_write-append, length-after, after_same, images_equal}
use Rattle.wb_geometry.proofs.Lines.{Agrees-wider, Agrees-put}
use Rattle.wb_header.specs.Text.{TextBlock, blanked, sum_in}
use Rattle.wb_header.specs.Standing.{StandsFor, entries_of}
use Rattle.wb_header.specs.Slots.{Stands, HoldsText}
use Rattle.wb_super.specs.Superblock.{record_of, header_id}
use Rattle.wb_crash.specs.Chain.{member, IsChain, IsRecovered, SumHolds}
use Rattle.wb_crash.specs.Images.{IsOrdered, HoldsSegment, BeginsSegment, IsLogImage, IsBackingImage}
use Rattle.wb_crash.specs.declared.numbers.Numbers.{Numbers}
use Rattle.wb_crash.proofs.Texts.{some_sector, same_size, first_stands, front_is, one_held, one_segment_held, header_of_text}
use Rattle.wb_geometry.proofs.Slots.{slot_below}

-- ---- the texts of a log image

-- no text there has an id behind the last that was begun
pub found_tried : (g : Geometry) (line : Line) (e : Numbers) (x : Image) (s : ℕ) (blocks : List TextBlock) → IsLogImage g line e x → HoldsText g x s blocks → s ≤ e.tried
found_tried g line e x s blocks logs held =
    omega (arith, logs.newest ((s - 1) % g.slots) (slot_below g s), header_of_text x ((s - 1) % g.slots) held.is (first_stands held.stands (some_sector held.is)))

-- a text that is begun and isn't torn stands whole
pub whole_stands : (g : Geometry) (line : Line) (a b : ℕ) (x : Image) (s : ℕ) (blocks : List TextBlock) → SumHolds g line x a b → a < s → s ≤ b
    → (begins : BeginsSegment g line x s) → HoldsText g x s blocks → Stands (slot_start g s) begins.text x
whole_stands g line a b x s blocks sums low high begins held = elim begins.front [
  | inl same ↦
      let first : sector x (slot_start g s) ≡ sector held.text 0 = first_stands held.stands (some_sector held.is) in
      let size : length begins.text ≡ length held.text = same_size begins.is.is held.is (sym same ∙ first) in
      let bytes : bytes_at x (slot_start g s) (length begins.text) ≡ bytes_of held.text =
      ap (λ (n : ℕ). bytes_at x (slot_start g s) n) size ∙ ap bytes_of (front_is held.is held.stands) in
      sums.whole s begins.text low high begins.is same (subst (λ (b : List ℕ). sum_in b ≡ sum_of (blanked b)) (sym bytes) held.is.is.summed)
  | inr below ↦
      let is : header_id g x ((s - 1) % g.slots) ≡ s = header_of_text x ((s - 1) % g.slots) held.is (first_stands held.stands (some_sector held.is)) in
      absurd (omega (arith, below, is))
]

-- the blocks there stand for the segment's entries
held_stands : (g : Geometry) (line : Line) (x : Image) (s : ℕ) (blocks : List TextBlock) → HoldsSegment g line x s → HoldsText g x s blocks → StandsFor blocks (line.list s)
held_stands g line x s blocks segment held =
    subst (λ (b : List TextBlock). StandsFor b (line.list s)) (one_held segment.is.is held.is segment.stands held.stands) segment.is.for

pub found : (g : Geometry) (line : Line) (e : Numbers) (x : Image) (s : ℕ) (blocks : List TextBlock) → IsLogImage g line e x → SumHolds g line x e.stable e.tried
    → e.recorded < s → HoldsText g x s blocks → StandsFor blocks (line.list s)
found g line e x s blocks logs sums low held = elim (cases_lt e.stable s) [
  | inr synced ↦ held_stands g line x s blocks (logs.synced s low synced) held
  | inl behind ↦
      let high = found_tried g line e x s blocks logs held in
      let begins : BeginsSegment g line x s = logs.begun s behind high in
      held_stands g line x s blocks (record { text = begins.text; is = begins.is; stands = whole_stands g line e.stable e.tried x s blocks sums behind high begins held }) held
]

-- a segment's text is one
pub holds_text : {g : Geometry} {line : Line} {x : Image} {s : ℕ} (segment : HoldsSegment g line x s) → HoldsText g x s segment.is.blocks
holds_text segment = record { text = segment.text; is = segment.is.is; stands = segment.stands }

-- ---- chains

-- the blocks of segments that follow one another write as those segments do
pub chain_writes : (list : ℕ → List HistoryEntry) (chain : List (List TextBlock)) (r i : ℕ) → ((j : ℕ) → j < length chain → StandsFor (member chain j) (list (r + 1 + j)))
    → last_write i (flat_map entries_of chain) ≡ last_write i (span list r (length chain))
chain_writes list [] r i each = refl
chain_writes list (blocks ∷ chain) r i each =
    let head : last_write i (entries_of blocks) ≡ last_write i (list (suc r)) =
    (each 0 (omega arith)).each i ∙ ap (λ (s : ℕ). last_write i (list s)) (omega arith) in
    let rest = chain_writes list chain (suc r) i
    (λ j below. subst (λ (s : ℕ). StandsFor (member chain j) (list s)) (omega arith) (each (suc j) (omega arith))) in
    last_write-append i (entries_of blocks) (flat_map entries_of chain)
    ∙ ap (λ (o : Option (List ℕ)). later o (last_write i (flat_map entries_of chain))) head
    ∙ ap (later (last_write i (list (suc r)))) rest
    ∙ sym (last_write-append i (list (suc r)) (span list (suc r) (length chain)))

-- a chain ends at a segment from the last that a sync covered to the last that was begun
pub chain_ends : (g : Geometry) (line : Line) (e : Numbers) (x : Image) (chain : List (List TextBlock)) → IsOrdered g e → IsLogImage g line e x → IsChain g x chain
    → (e.stable ≤ record_of x + length chain) × (record_of x + length chain ≤ e.tried)
chain_ends g line e x chain ordered logs is = (from, until)
  where
    from : e.stable ≤ record_of x + length chain
    from = elim is.longest [
      | inl full ↦ omega (arith, full, ordered.room, ordered.stable, ordered.logged, logs.from)
      | inr none ↦ elim (cases_lt (record_of x + length chain) e.stable) [
        | inr far ↦ far
        | inl less ↦ absurd (none _ (holds_text (logs.synced (record_of x + 1 + length chain) (omega (arith, logs.from)) (omega (arith, less)))))
      ]
    ]

    last : (n : ℕ) → length chain ≡ n → record_of x + n ≤ e.tried
    last zero size = omega (arith, logs.to, ordered.back, ordered.stable, ordered.logged)
    last (suc n) size =
        omega (arith, found_tried g line e x (record_of x + 1 + n) (member chain n) logs (is.run.texts n (omega (arith, size))))

    until : record_of x + length chain ≤ e.tried
    until = last (length chain) refl

-- its members stand for the segments behind the record
pub chain_stands : (g : Geometry) (line : Line) (e : Numbers) (x : Image) (chain : List (List TextBlock)) → IsLogImage g line e x → SumHolds g line x e.stable e.tried → IsChain g x chain
    → (j : ℕ) → j < length chain → StandsFor (member chain j) (line.list (record_of x + 1 + j))
chain_stands g line e x chain logs sums is j below = found g line e x (record_of x + 1 + j) (member chain j) logs sums (omega (arith, logs.from)) (is.run.texts j below)

-- ---- recovery

-- Recovery makes the image after exactly the first segments, up to one from the last that a sync of the log covered to the
-- last that was begun.
pub recovers : (g : Geometry) (line : Line) (e : Numbers) (x y : Image) → line.first ≡ e.first → IsOrdered g e → IsLogImage g line e x → IsBackingImage line e y
    → SumHolds g line x e.stable e.tried → (z : Image) → IsRecovered g x y z → (k : ℕ) × (e.stable ≤ k) × (k ≤ e.tried) × (z ≡ image line k)
recovers g line e x y start ordered logs backs sums z is = (record_of x + length is.chain, ends.0, ends.1, images_equal z (image line (record_of x + length is.chain)) size each)
  where
    ends : (e.stable ≤ record_of x + length is.chain) × (record_of x + length is.chain ≤ e.tried)
    ends = chain_ends g line e x is.chain ordered logs is.is

    count : record_of x + length is.chain - record_of x ≡ length is.chain
    count = omega arith

    puts : z ≡ after y (span line.list (record_of x) (record_of x + length is.chain - record_of x))
    puts =
        is.all
        ∙ after_same (flat_map entries_of is.chain) (span line.list (record_of x) (length is.chain)) y
        (λ i. chain_writes line.list is.chain (record_of x) i (chain_stands g line e x is.chain logs sums is.is))
        ∙ ap (λ (n : ℕ). after y (span line.list (record_of x) n)) (sym count)

    low : line.first ≤ record_of x
    low = omega (arith, start, ordered.start, logs.from)

    before : Agrees line (record_of x) (record_of x + length is.chain) y
    before =
        Agrees-wider line (record_of x) e.stable (record_of x + length is.chain) y (omega (arith, logs.to, ordered.back)) ends.0
        (backs.agrees (record_of x) logs.from logs.to)

    behind : Agrees line (record_of x + length is.chain) (record_of x + length is.chain) z
    behind = Agrees-put line (record_of x) (record_of x + length is.chain) y z low (omega arith) backs.size before puts

    size : length z ≡ length (image line (record_of x + length is.chain))
    size =
        ap length puts ∙ length-after y (span line.list (record_of x) (record_of x + length is.chain - record_of x)) ∙ backs.size
        ∙ sym (length-after line.base (span line.list line.first (record_of x + length is.chain - line.first)))

    none : (n i : ℕ) → n ≡ 0 → last_write i (span line.list (record_of x + length is.chain) n) ≡ None
    none n i zero_is = ap (λ (m : ℕ). last_write i (span line.list (record_of x + length is.chain) m)) zero_is

    each : (i : ℕ) → i < length z → sector z i ≡ sector (image line (record_of x + length is.chain)) i
    each i below = behind.each i (none (record_of x + length is.chain - (record_of x + length is.chain)) i (omega arith))

-- ---- there is one chain

no_longer : (g : Geometry) (x : Image) (chain other : List (List TextBlock)) → IsChain g x chain → IsChain g x other → length other ≤ length chain
no_longer g x chain other is also = elim (cases_lt (length chain) (length other)) [
  | inr few ↦ few
  | inl longer ↦ elim is.longest [
    | inl full ↦ absurd (omega (arith, full, also.run.few))
    | inr none ↦ absurd (none (member other (length chain)) (also.run.texts (length chain) longer))
  ]
]

pub one_chain : (g : Geometry) (x : Image) (chain other : List (List TextBlock)) → IsChain g x chain → IsChain g x other → chain ≡ other
one_chain g x chain other is also =
    let size : length chain ≡ length other = omega (arith, no_longer g x chain other is also, no_longer g x other chain also is) in
    ext_get_or [] chain other size (λ i below. one_segment_held (is.run.texts i below) (also.run.texts i (omega (arith, size))))

-- recovery makes one image
pub one_recovered : (g : Geometry) (x y z other : Image) → IsRecovered g x y z → IsRecovered g x y other → z ≡ other
one_recovered g x y z other is also =
    is.all ∙ ap (λ (chain : List (List TextBlock)). after y (flat_map entries_of chain)) (one_chain g x is.chain also.chain is.is also.is) ∙ sym also.all
