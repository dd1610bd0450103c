-- Each log image has a chain, since the bytes of a slot decide whether a text stands there.
use Rattle.std.proofs.Common.{ℕ, suc, zero, ◌≡◌, ◌≢◌, ◌⊎◌, ◌+◌, ◌-◌, ◌*◌, ◌/◌, ◌<◌, ◌≤◌, List, [], ◌∷◌, ◌++◌, length, take, drop, take-append-drop, get_or, inl, inr, refl, ap, sym, ◌∙◌, subst, arith}
use Rattle.std.specs.List.{All, flat_map, slice_index}
use Rattle.std.specs.Int.{bit_at}
use Rattle.std.proofs.Math.Seq.{take-append_seam}
use Rattle.std.proofs.lemmas.Bool.{cases_lt, cases_eq}
use Rattle.std.proofs.lemmas.Grind.{flat_map-append}
use Rattle.std.proofs.lemmas.List.{length_push, get_or_append_left, take-take}
use Rattle.std.proofs.lemmas.List.Elements.{All-get_or, All-from_get_or}
use Rattle.std.proofs.lemmas.List.FromFn.{length-map-range_with_len}
use Rattle.wb_geometry.specs.Image.{Image, IsImage, bytes_of, bytes_at}
use Rattle.wb_geometry.specs.History.{after}
use Rattle.wb_geometry.specs.Layout.{places, slot_sectors, slot_start, log_sectors}
use Rattle.wb_geometry.specs.declared.geometry.Geometry.{Geometry}
use Rattle.wb_header.specs.Text.{TextBlock, no_block, IsText, IsZeroPlace, AreDistinct, id_in, sum_in, length_in, bits_in, block_in, blocks_in}
use Rattle.wb_header.specs.Refused.{front_of}
use Rattle.wb_header.specs.Standing.{entries_of}
use Rattle.wb_header.specs.Slots.{HoldsText}
use Rattle.wb_header.proofs.SlotTexts.{text_fits}
use Rattle.wb_super.specs.Superblock.{record_of}
use Rattle.wb_crash.specs.Chain.{IsRun, IsChain, IsRecovered}
use Rattle.wb_crash.proofs.Chains.{run_none, run_more}
use Rattle.wb_crash.proofs.Reading.{found_in_slot}
use Rattle.wb_crash.proofs.Texts.{front_is}

-- ---- facts that are so or not

abbrev Decided : Type 0 → Type 0
Decided P = P ⊎ (P → ⊥)

same_as : {P Q : Type 0} → (P → Q) → (Q → P) → Decided P → Decided Q
same_as there back one = elim one [
  | inl p ↦ inl (there p)
  | inr never ↦ inr (λ q. never (back q))
]

both : {P Q : Type 0} → Decided P → Decided Q → Decided (P × Q)
both one two = elim one [
  | inl p ↦ elim two [
    | inl q ↦ inl (p, q)
    | inr none ↦ inr (λ is. none is.1)
  ]
  | inr none ↦ inr (λ is. none is.0)
]

either : {P Q : Type 0} → Decided P → Decided Q → Decided (P ⊎ Q)
either {P} {Q} one two = elim one [
  | inl p ↦ inl (inl p)
  | inr never ↦ elim two [
    | inl q ↦ inl (inr q)
    | inr none ↦ inr (λ (is : P ⊎ Q). elim is [
      | inl p ↦ never p
      | inr q ↦ none q
    ])
  ]
]

isnt : {P : Type 0} → Decided P → Decided (P → ⊥)
isnt one = elim one [
  | inl p ↦ inr (λ none. none p)
  | inr never ↦ inl never
]

implies : {P Q : Type 0} → Decided P → Decided Q → Decided (P → Q)
implies one two = elim one [
  | inl p ↦ elim two [
    | inl q ↦ inl (λ _. q)
    | inr none ↦ inr (λ is. none (is p))
  ]
  | inr never ↦ inl (λ p. absurd (never p))
]

below : (m n : ℕ) → Decided (m < n)
below m n = elim (cases_lt m n) [
  | inl is ↦ inl is
  | inr far ↦ inr (λ is. absurd (omega (arith, far, is)))
]

at_most : (m n : ℕ) → Decided (m ≤ n)
at_most m n = elim (cases_lt n m) [
  | inl far ↦ inr (λ is. absurd (omega (arith, far, is)))
  | inr is ↦ inl is
]

-- of each number below another
each_below : (P : ℕ → Type 0) → ((k : ℕ) → Decided (P k)) → (n : ℕ) → Decided ((k : ℕ) → k < n → P k)
each_below P cases zero = inl (λ k less. absurd (omega (arith, less)))
each_below P cases (suc n) = elim (each_below P cases n) [
  | inl all ↦ elim (cases n) [
    | inl last ↦ inl (λ k less. elim (cases_lt k n) [
      | inl before ↦ all k before
      | inr from ↦ let is : n ≡ k = omega (arith, from, less) in subst P is last
    ])
    | inr none ↦ inr (λ is. none (is n (omega arith)))
  ]
  | inr none ↦ inr (λ is. none (λ k less. is k (omega (arith, less))))
]

-- of some number below another
some_below : (P : ℕ → Type 0) → ((k : ℕ) → Decided (P k)) → (n : ℕ) → Decided ((k : ℕ) × (k < n) × P k)
some_below P cases zero = inr (λ is. absurd (omega (arith, is.1)))
some_below P cases (suc n) = elim (some_below P cases n) [
  | inl some ↦ inl (some.0, omega (arith, some.1), some.2)
  | inr none ↦ elim (cases n) [
    | inl last ↦ inl (n, omega arith, last)
    | inr never ↦ inr (λ is. elim (cases_lt is.0 n) [
      | inl before ↦ none (is.0, before, is.2)
      | inr from ↦ let same : is.0 ≡ n = omega (arith, from, is.1) in never (subst P same is.2)
    ])
  ]
]

all_of : {X : Type 0} (P : X → Type 0) → ((x : X) → Decided (P x)) → (d : X) (xs : List X) → Decided (All P xs)
all_of P cases d xs =
    same_as (λ each. All-from_get_or P xs d each) (λ all k less. All-get_or P xs k d less all)
    (each_below (λ k. P (get_or xs k d)) (λ k. cases (get_or xs k d)) (length xs))

-- ---- a text

abbrev IsInEntry : (at j : ℕ) → Type 0
IsInEntry at j = (521 + 16 * j ≤ at) × (at < 528 + 16 * j)

abbrev IsInBlock : (bytes : List ℕ) → (at j : ℕ) → Type 0
IsInBlock bytes at j = (4096 * (j + 1) ≤ at) × ((at < 4096 * (j + 2)) × (bit_at (bits_in bytes j) ((at - 4096 * (j + 1)) / 512) ≢ 1))

zero_entry : (count at : ℕ) → Decided ((j : ℕ) × (j < count) × (521 + 16 * j ≤ at) × (at < 528 + 16 * j))
zero_entry count at =
    same_as (λ (some : (j : ℕ) × (j < count) × IsInEntry at j). (some.0, some.1, some.2.0, some.2.1)) (λ is. (is.0, is.1, (is.2, is.3)))
    (some_below (IsInEntry at) (λ j. both (at_most (521 + 16 * j) at) (below at (528 + 16 * j))) count)

zero_block : (count : ℕ) (bytes : List ℕ) (at : ℕ)
    → Decided ((j : ℕ) × (j < count) × (4096 * (j + 1) ≤ at) × (at < 4096 * (j + 2)) × (bit_at (bits_in bytes j) ((at - 4096 * (j + 1)) / 512) ≢ 1))
zero_block count bytes at =
    same_as (λ (some : (j : ℕ) × (j < count) × IsInBlock bytes at j). (some.0, some.1, some.2.0, some.2.1.0, some.2.1.1)) (λ is. (is.0, is.1, (is.2, (is.3, is.4))))
    (some_below (IsInBlock bytes at)
    (λ j. both (at_most (4096 * (j + 1)) at) (both (below at (4096 * (j + 2))) (isnt (cases_eq (bit_at (bits_in bytes j) ((at - 4096 * (j + 1)) / 512)) 1)))) count)

zero_place : (count : ℕ) (bytes : List ℕ) (at : ℕ) → Decided (IsZeroPlace count bytes at)
zero_place count bytes at =
    either (both (at_most 13 at) (below at 512)) (either (zero_entry count at) (either (both (at_most (512 + 16 * count) at) (below at 4096)) (zero_block count bytes at)))

-- no such place lies behind the text
zero_inside : (count : ℕ) (bytes : List ℕ) (at : ℕ) → IsZeroPlace count bytes at → at < 4096 * (count + 1) + 16 * count
zero_inside count bytes at is = elim is [
  | inl header ↦ omega (arith, header.1)
  | inr rest ↦ elim rest [
    | inl entry ↦ omega (arith, entry.1, entry.3)
    | inr more ↦ elim more [
      | inl table ↦ omega (arith, table.1)
      | inr block ↦ omega (arith, block.1, block.3)
    ]
  ]
]

zeros_of : (count : ℕ) (bytes : List ℕ) → Decided ((at : ℕ) → IsZeroPlace count bytes at → slice_index bytes at ≡ 0)
zeros_of count bytes =
    same_as (λ each at is. each at (zero_inside count bytes at is) is) (λ all at less is. all at is)
    (each_below (λ at. IsZeroPlace count bytes at → slice_index bytes at ≡ 0) (λ at. implies (zero_place count bytes at) (cases_eq (slice_index bytes at) 0)) (4096 * (count + 1) + 16 * count))

distinct_of : (blocks : List TextBlock) → Decided (AreDistinct blocks)
distinct_of blocks =
    same_as (λ each i j less inside. each j inside i less) (λ all j inside i less. all i j less inside)
    (each_below (λ j. (i : ℕ) → i < j → (get_or blocks i no_block).number ≢ (get_or blocks j no_block).number)
    (λ j. each_below (λ i. (get_or blocks i no_block).number ≢ (get_or blocks j no_block).number) (λ i. isnt (cases_eq (get_or blocks i no_block).number (get_or blocks j no_block).number)) j)
    (length blocks))

-- what is asked of the bytes alone, and of the blocks
abbrev AreBytesOf : (room id sum : ℕ) → List ℕ → List TextBlock → Type 0
AreBytesOf room id sum bytes blocks =
    (1 ≤ length blocks) × (length blocks ≤ room) × (length bytes ≡ 4096 * (1 + length blocks)) × All (λ byte. byte < 256) bytes
    × (id_in bytes ≡ id) × (sum_in bytes ≡ sum)

abbrev AreBlocksOf : (limit : ℕ) → List ℕ → List TextBlock → Type 0
AreBlocksOf limit bytes blocks =
    All (λ block. block.number < limit) blocks × All (λ block. block.bits ≢ 0) blocks × AreDistinct blocks
    × ((at : ℕ) → IsZeroPlace (length blocks) bytes at → slice_index bytes at ≡ 0)

bytes_cases : (room id sum : ℕ) (bytes : List ℕ) (blocks : List TextBlock) → Decided (AreBytesOf room id sum bytes blocks)
bytes_cases room id sum bytes blocks =
    same_as (λ is. (is.0.0, is.0.1.0, is.0.1.1, is.1.0, is.1.1.0, is.1.1.1)) (λ is. ((is.0, (is.1, is.2)), (is.3, (is.4, is.5))))
    (both (both (at_most 1 (length blocks)) (both (at_most (length blocks) room) (cases_eq (length bytes) (4096 * (1 + length blocks)))))
    (both (all_of (λ (byte : ℕ). byte < 256) (λ byte. below byte 256) 0 bytes) (both (cases_eq (id_in bytes) id) (cases_eq (sum_in bytes) sum))))

blocks_cases : (limit : ℕ) (bytes : List ℕ) (blocks : List TextBlock) → Decided (AreBlocksOf limit bytes blocks)
blocks_cases limit bytes blocks =
    same_as (λ is. (is.0.0, is.0.1, is.1.0, is.1.1)) (λ is. ((is.0, is.1), (is.2, is.3)))
    (both (both (all_of (λ (block : TextBlock). block.number < limit) (λ block. below block.number limit) no_block blocks) (all_of (λ (block : TextBlock). block.bits ≢ 0) (λ block. isnt (cases_eq block.bits 0)) no_block blocks))
    (both (distinct_of blocks) (zeros_of (length blocks) bytes)))

-- whether they are a text, of the blocks that they have
text_cases : (room limit : ℕ) (bytes : List ℕ) (id : ℕ) → Decided (IsText room limit bytes id (blocks_in (length_in bytes) bytes))
text_cases room limit bytes id =
    same_as
    (λ is. record {
      some = is.0.0;
      few = is.0.1;
      size = is.0.2;
      bounded = is.0.3;
      named = is.0.4;
      summed = is.0.5;
      counted = counted;
      listed = ap (λ (n : ℕ). blocks_in n bytes) counted;
      inside = is.1.0;
      dirty = is.1.1;
      distinct = is.1.2;
      zeros = is.1.3;
    })
    (λ text. ((text.some, text.few, text.size, text.bounded, text.named, text.summed), (text.inside, text.dirty, text.distinct, text.zeros)))
    (both (bytes_cases room id _ bytes (blocks_in (length_in bytes) bytes)) (blocks_cases limit bytes (blocks_in (length_in bytes) bytes)))
  where
    counted : length_in bytes ≡ length (blocks_in (length_in bytes) bytes)
    counted = sym (length-map-range_with_len (block_in bytes) 0 (length_in bytes))

-- ---- a slot

abbrev HoldsSome : (g : Geometry) (x : Image) (s : ℕ) → Type 0
HoldsSome g x s = (blocks : List TextBlock) × HoldsText g x s blocks

abbrev HoldsNone : (g : Geometry) (x : Image) (s : ℕ) → Type 0
HoldsNone g x s = (blocks : List TextBlock) → HoldsText g x s blocks → ⊥

-- a text that stands there is the front of the slot's bytes
held_front : (g : Geometry) (x : Image) (s : ℕ) (blocks : List TextBlock) → HoldsText g x s blocks
    → IsText (places g) (g.backing_sectors / 8) (front_of (bytes_at x (slot_start g s) (slot_sectors g))) s
    (blocks_in (length_in (front_of (bytes_at x (slot_start g s) (slot_sectors g)))) (front_of (bytes_at x (slot_start g s) (slot_sectors g))))
held_front g x s blocks held = subst (λ (b : List ℕ). IsText (places g) (g.backing_sectors / 8) b s (blocks_in (length_in b) b)) whole (subst (IsText (places g) (g.backing_sectors / 8) (bytes_of held.text) s) listed held.is.is)
  where
    slot : Image
    slot = take (slot_sectors g) (drop (slot_start g s) x)

    rest : List ℕ
    rest = bytes_of (drop (length held.text) (take (slot_sectors g) (drop (slot_start g s) x)))

    listed : blocks ≡ blocks_in (length_in (bytes_of held.text)) (bytes_of held.text)
    listed = held.is.is.listed ∙ ap (λ (n : ℕ). blocks_in n (bytes_of held.text)) (sym held.is.is.counted)

    text : take (length held.text) (take (slot_sectors g) (drop (slot_start g s) x)) ≡ held.text
    text = take-take (length held.text) (slot_sectors g) (drop (slot_start g s) x) (text_fits g held.text s blocks held.is) ∙ front_is held.is held.stands

    parts : bytes_of (take (slot_sectors g) (drop (slot_start g s) x)) ≡ bytes_of held.text ++ bytes_of (drop (length held.text) (take (slot_sectors g) (drop (slot_start g s) x)))
    parts =
        ap bytes_of (sym (take-append-drop (length held.text) (take (slot_sectors g) (drop (slot_start g s) x))))
        ∙ flat_map-append (λ (sector : List ℕ). sector) (take (length held.text) (take (slot_sectors g) (drop (slot_start g s) x))) (drop (length held.text) (take (slot_sectors g) (drop (slot_start g s) x)))
        ∙ ap (λ (front : Image). bytes_of front ++ bytes_of (drop (length held.text) (take (slot_sectors g) (drop (slot_start g s) x)))) text

    counted : length_in (bytes_at x (slot_start g s) (slot_sectors g)) ≡ length blocks
    counted =
        ap length_in parts
        ∙ get_or_append_left (bytes_of held.text) (bytes_of (drop (length held.text) (take (slot_sectors g) (drop (slot_start g s) x)))) 0 12 (omega (arith, held.is.is.size))
        ∙ held.is.is.counted

    size : 4096 * (1 + length_in (bytes_at x (slot_start g s) (slot_sectors g))) ≡ length (bytes_of held.text)
    size = omega (arith, counted, held.is.is.size)

    whole : bytes_of held.text ≡ front_of (bytes_at x (slot_start g s) (slot_sectors g))
    whole =
        sym (ap (λ (n : ℕ). take n (bytes_at x (slot_start g s) (slot_sectors g))) size
        ∙ ap (λ (b : List ℕ). take (length (bytes_of held.text)) b) parts
        ∙ take-append_seam (bytes_of held.text) (bytes_of (drop (length held.text) (take (slot_sectors g) (drop (slot_start g s) x)))))

-- whether the slot of a segment begins with a text of it
held_cases : (g : Geometry) (n : ℕ) (x : Image) (s : ℕ) → IsImage n x → log_sectors g ≤ n → HoldsSome g x s ⊎ HoldsNone g x s
held_cases g n x s image room =
    let bytes : List ℕ = front_of (bytes_at x (slot_start g s) (slot_sectors g)) in
    elim (text_cases (places g) (g.backing_sectors / 8) bytes s) [
      | inl text ↦ inl (blocks_in (length_in bytes) bytes, found_in_slot g n x s (blocks_in (length_in bytes) bytes) image room text)
      | inr none ↦ inr (λ blocks held. none (held_front g x s blocks held))
    ]

-- ---- the chain

-- the longest of at most so many
abbrev Longest : (g : Geometry) (x : Image) (most : ℕ) → Type 0
Longest g x most = (chain : List (List TextBlock)) × IsRun g x chain × ((length chain ≡ most) ⊎ HoldsNone g x (record_of x + 1 + length chain))

longest : (g : Geometry) (n : ℕ) (x : Image) (most : ℕ) → most ≤ g.slots → IsImage n x → log_sectors g ≤ n → Longest g x most
longest g n x zero few image room = ([], run_none g x, inl refl)
longest g n x (suc most) few image room =
    let so_far : Longest g x most = longest g n x most (omega (arith, few)) image room in
    elim so_far.2 [
      | inl full ↦ elim (held_cases g n x (record_of x + 1 + length so_far.0) image room) [
        | inl held ↦ (so_far.0 ++ held.0 ∷ [], run_more g x so_far.0 held.0 so_far.1 (omega (arith, full, few)) held.1, inl (omega (arith, length_push so_far.0 held.0, full)))
        | inr none ↦ (so_far.0, so_far.1, inr none)
      ]
      | inr none ↦ (so_far.0, so_far.1, inr none)
    ]

pub every_chain : (g : Geometry) (n : ℕ) (x : Image) → IsImage n x → log_sectors g ≤ n → (chain : List (List TextBlock)) × IsChain g x chain
every_chain g n x image room =
    let all : Longest g x g.slots = longest g n x g.slots (omega arith) image room in
    (all.0, record { run = all.1; longest = all.2 })

pub every_recovered : (g : Geometry) (n : ℕ) (x y : Image) → IsImage n x → log_sectors g ≤ n → (z : Image) × IsRecovered g x y z
every_recovered g n x y image room =
    let chain = every_chain g n x image room in
    (after y (flat_map entries_of chain.0), record { chain = chain.0; is = chain.1; all = refl })
