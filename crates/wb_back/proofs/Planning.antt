-- A plan in memory: what adding a block and sorting do to the blocks that it stands for.
use Rattle.std.proofs.Common.{ℕ, ◌≡◌, ◌≢◌, ◌⊎◌, ◌+◌, ◌-◌, ◌*◌, ◌/◌, ◌<◌, ◌≤◌, List, [], ◌∷◌, ◌++◌, map, length, get_or, set, eqb, ltb, Bool, true, false, cond, Some, None, inl, inr, refl, ap, sym, ◌∙◌, subst, arith}
use Rattle.std.specs.Prelude.{bit_or}
use Rattle.std.specs.List.{All, AllPairs, Contains, position, position_or_len}
use Rattle.std.specs.List.Sorted.{IsPermutation, IsNonDecreasingBy}
use Rattle.std.proofs.lemmas.Bool.{cases_lt, cases_eq}
use Rattle.std.proofs.lemmas.Bool.Decides.{nat_tests}
use Rattle.std.proofs.lemmas.Nat.Bits.{bit_at-zero}
use Rattle.std.proofs.lemmas.List.{length-map, get_or-map, map-append, map-set, set-get_or, length-set, get_or-set_same, get_or-set_other, get_or_default, get_or_push, length_push, ext_get_or}
use Rattle.std.proofs.lemmas.List.Elements.{All-map, All-set, All-push}
use Rattle.std.proofs.lemmas.List.Quantifiers.{position-Some, all_pairs_push}
use Rattle.std.proofs.lemmas.List.Sums.{fails_before_first}
use Rattle.std.proofs.lemmas.List.Sorted.{All-permutation, IsPermutation-map, length_permutation}
use Rattle.wb_geometry.specs.History.{HistoryEntry, Write, written, later, last_write}
use Rattle.wb_geometry.specs.Block.{joined_byte}
use Rattle.wb_geometry.proofs.Histories.{written-clear, last_write_push}
use Rattle.wb_geometry.proofs.Blocks.{sector-join, written-join}
use Rattle.wb_header.specs.Text.{TextBlock, no_block, AreDistinct}
use Rattle.wb_header.specs.Standing.{entry_of, entries_of, numbers_of, block_at}
use Rattle.wb_header.proofs.DistinctBlocks.{apart_permuted, written_other, last_write-set, last_write-permuted}
use Rattle.wb_back.specs.Plans.{PlanContent, IsPlan, IsArranged, AreInside}
use Rattle.wb_back.specs.Stored.{block_of, content_of, IsStored, no_entry, blank, HasPlace}
use Rattle.wb_back.specs.declared.plan.Planned.{Planned}

-- ---- what is stored is a plan

distinct_blocks : (payloads : List (List ℕ)) (planned : List Planned) → AllPairs (λ (one other : Planned). one.block ≢ other.block) planned → AreDistinct (map (block_of payloads) planned)
distinct_blocks payloads planned distinct = λ i j lt below.
    let last : j < length planned = omega (arith, length-map planned (block_of payloads)) in
    let one : get_or (map (block_of payloads) planned) i no_block ≡ block_of payloads (get_or planned i no_entry) = get_or-map (block_of payloads) planned i no_entry no_block (omega arith) in
    let other : get_or (map (block_of payloads) planned) j no_block ≡ block_of payloads (get_or planned j no_entry) = get_or-map (block_of payloads) planned j no_entry no_block last in
    λ is. distinct i j no_entry lt last (sym (ap (λ (b : TextBlock). b.number) one) ∙ is ∙ ap (λ (b : TextBlock). b.number) other)

-- where the payload of an entry stands
pub payload_below : {capacity : ℕ} (planned : List Planned) (payloads : List (List ℕ)) (i : ℕ) (d : Planned) → IsStored capacity planned payloads → i < length planned → (get_or planned i d).at < length payloads
payload_below planned payloads i d stored below = omega (arith, stored.below i d below, stored.fits)

pub IsPlan-stored : {capacity : ℕ} (planned : List Planned) (payloads : List (List ℕ)) → IsStored capacity planned payloads → IsPlan (content_of planned payloads)
IsPlan-stored planned payloads stored = record {
  distinct = distinct_blocks payloads planned stored.distinct;
  fits = omega (arith, length-map planned (block_of payloads), stored.fits);
  whole = All-map (λ (b : TextBlock). length b.payload ≡ 4096) (block_of payloads) planned
      (λ i d below. stored.whole (get_or planned i d).at [] (payload_below planned payloads i d stored below));
}

-- ---- the entries in turn

-- The entry of a block, as the code has it. The entries are read out of the plan, whose content is this.
pub entry_there : {capacity : ℕ} (read planned : List Planned) (payloads : List (List ℕ)) (plan : PlanContent) (i : ℕ) (payload : List ℕ)
    → read ≡ planned → content_of planned payloads ≡ plan → IsStored capacity planned payloads → i < length read → payload ≡ get_or payloads (get_or read i no_entry).at payload
    → (i < length (entries_of plan.blocks))
    × (get_or (entries_of plan.blocks) i (Write 0 (get_or read i no_entry).block (get_or read i no_entry).bits payload) ≡ Write 0 (get_or read i no_entry).block (get_or read i no_entry).bits payload)
entry_there {capacity} read planned payloads plan i payload same are holds below is =
    let stored : IsStored capacity read payloads = subst (λ (entries : List Planned). IsStored capacity entries payloads) (sym same) holds in
    let blocks_are : map (block_of payloads) read ≡ plan.blocks = ap (map (block_of payloads)) same ∙ ap (λ (p : PlanContent). p.blocks) are in
    let one : Planned = get_or read i no_entry in
    let entry : HistoryEntry = Write 0 one.block one.bits payload in
    let inside : one.at < length payloads = payload_below read payloads i no_entry stored below in
    let found_payload : get_or payloads one.at [] ≡ payload = get_or_default payloads one.at [] payload inside ∙ sym is in
    let here : i < length (map (block_of payloads) read) = omega (arith, length-map read (block_of payloads)) in
    let found : get_or (entries_of (map (block_of payloads) read)) i entry ≡ entry =
    get_or-map entry_of (map (block_of payloads) read) i no_block entry here
    ∙ ap entry_of (get_or-map (block_of payloads) read i no_entry no_block below)
    ∙ ap (λ (bytes : List ℕ). Write 0 one.block one.bits bytes) found_payload in
    let many : i < length (entries_of (map (block_of payloads) read)) = omega (arith, length-map (map (block_of payloads) read) entry_of) in
    (subst (λ (bs : List TextBlock). i < length (entries_of bs)) blocks_are many, subst (λ (bs : List TextBlock). get_or (entries_of bs) i entry ≡ entry) blocks_are found)

-- how many there are
pub entries_end : (read planned : List Planned) (payloads : List (List ℕ)) (plan : PlanContent) (i : ℕ) → read ≡ planned → content_of planned payloads ≡ plan → length read ≤ i → length (entries_of plan.blocks) ≤ i
entries_end read planned payloads plan i same are end =
    let blocks_are : map (block_of payloads) read ≡ plan.blocks = ap (map (block_of payloads)) same ∙ ap (λ (p : PlanContent). p.blocks) are in
    subst (λ (bs : List TextBlock). length (entries_of bs) ≤ i) blocks_are (omega (arith, length-map (map (block_of payloads) read) entry_of, length-map read (block_of payloads)))

-- each is inside the device
pub block_inside : (read planned : List Planned) (payloads : List (List ℕ)) (plan : PlanContent) (i sectors : ℕ) → read ≡ planned → content_of planned payloads ≡ plan → AreInside sectors plan.blocks → i < length read
    → 8 * (get_or read i no_entry).block + 8 ≤ sectors
block_inside read planned payloads plan i sectors same are inside below =
    let blocks_are : map (block_of payloads) read ≡ plan.blocks = ap (map (block_of payloads)) same ∙ ap (λ (p : PlanContent). p.blocks) are in
    let all : AreInside sectors (map (block_of payloads) read) = subst (AreInside sectors) (sym blocks_are) inside in
    subst (λ (b : TextBlock). 8 * b.number + 8 ≤ sectors) (get_or-map (block_of payloads) read i no_entry no_block below) (all i no_block (omega (arith, length-map read (block_of payloads))))

-- ---- finding a block

none_at : (n : ℕ) (b : Bool) → cond b (Some n) None ≡ None → b ≡ false
none_at n true is = cc
none_at n false is = refl

is_number : (block number : ℕ) → eqb block number ≡ true → block ≡ number
is_number block number is = grind (arith, nat_tests)

is_other : (block number : ℕ) → eqb block number ≡ false → block ≢ number
is_other block number is = grind (arith, nat_tests)

not_below : (a b : ℕ) → ltb a b ≡ false → b ≤ a
not_below a b past = grind (arith, nat_tests)

-- it is where it is found
pub place_found : (planned : List Planned) (block index : ℕ) → position (λ (one : Planned). eqb one.block block) planned ≡ Some index → HasPlace planned planned block index
place_found planned block index found =
    let first = position-Some (λ (one : Planned). eqb one.block block) planned index no_entry found in
    record { entries = inl refl; inside = first.0; there = is_number (get_or planned index no_entry).block block first.1 }

-- it isn't there where it isn't found
pub place_none : (planned : List Planned) (block : ℕ) → position (λ (one : Planned). eqb one.block block) planned ≡ None → All (λ (one : Planned). one.block ≢ block) planned
place_none planned block none =
    let test : Planned → Bool = λ one. eqb one.block block in
    let past : ltb (position_or_len test planned) (length planned) ≡ false = none_at (position_or_len test planned) (ltb (position_or_len test planned) (length planned)) none in
    let all : length planned ≤ position_or_len test planned = not_below (position_or_len test planned) (length planned) past in
    λ i d below. is_other (get_or planned i d).block block (fails_before_first test planned i d (omega (arith, all)))

-- so there is room for it
pub place_room : (planned : List Planned) (block size capacity : ℕ) → size ≡ length planned → All (λ (one : Planned). one.block ≢ block) planned
    → Contains (map (λ (one : Planned). one.block) planned) block ⊎ (size < capacity) → size < capacity
place_room planned block size capacity is none either = elim either [
  | inl there ↦
      let below : there.0 < length planned = omega (arith, there.1, length-map planned (λ (one : Planned). one.block)) in
      absurd (none there.0 no_entry below (sym (get_or-map (λ (one : Planned). one.block) planned there.0 no_entry block below) ∙ there.2))
  | inr room ↦ room
]

-- and it comes to the end
pub place_added : (planned new : List Planned) (block index : ℕ) → All (λ (one : Planned). one.block ≢ block) planned → index ≡ length planned
    → new ≡ planned ++ record { block = block; bits = 0; at = index } ∷ [] → HasPlace planned new block index
place_added planned new block index none is are =
    let added : new ≡ planned ++ blank block (length planned) ∷ [] = are ∙ ap (λ (n : ℕ). planned ++ blank block n ∷ []) is in
    record {
      entries = inr (added, none);
      inside = omega (arith, ap length are, length_push planned (blank block index));
      there = ap (λ (entries : List Planned). (get_or entries index no_entry).block) are ∙ ap (λ (one : Planned). one.block) (get_or_push planned (blank block index) no_entry index (sym is));
    }

-- ---- a block more, with no dirty bit

numbers_are : (payloads : List (List ℕ)) (planned : List Planned) → numbers_of (map (block_of payloads) planned) ≡ map (λ (one : Planned). one.block) planned
numbers_are payloads [] = refl
numbers_are payloads (one ∷ more) = ap (λ (ns : List ℕ). one.block ∷ ns) (numbers_are payloads more)

-- there is room for it, or it is there
pub stored_room : (planned : List Planned) (payloads : List (List ℕ)) (plan : PlanContent) (block : ℕ) → content_of planned payloads ≡ plan
    → Contains (numbers_of plan.blocks) block ⊎ (length plan.blocks < plan.room)
    → Contains (map (λ (one : Planned). one.block) planned) block ⊎ (length planned < length payloads)
stored_room planned payloads plan block are either =
    let here : Contains (numbers_of (map (block_of payloads) planned)) block ⊎ (length (map (block_of payloads) planned) < length payloads) =
    subst (λ (p : PlanContent). Contains (numbers_of p.blocks) block ⊎ (length p.blocks < p.room)) (sym are) either in
    elim here [
      | inl among ↦ inl (subst (λ (ns : List ℕ). Contains ns block) (numbers_are payloads planned) among)
      | inr room ↦ inr (omega (arith, room, length-map planned (block_of payloads)))
    ]

-- also for its entry
pub entry_room : {capacity : ℕ} (planned : List Planned) (payloads : List (List ℕ)) (block size : ℕ) → IsStored capacity planned payloads → size ≡ length planned
    → Contains (map (λ (one : Planned). one.block) planned) block ⊎ (length planned < length payloads)
    → Contains (map (λ (one : Planned). one.block) planned) block ⊎ (size < capacity)
entry_room planned payloads block size stored is either = elim either [
  | inl among ↦ inl among
  | inr room ↦ inr (omega (arith, room, is, stored.capacious))
]

-- it is stored
pub stored_placed : {capacity larger : ℕ} (planned new : List Planned) (payloads : List (List ℕ)) (block index : ℕ) → IsStored capacity planned payloads → HasPlace planned new block index → capacity ≤ larger
    → Contains (map (λ (one : Planned). one.block) planned) block ⊎ (length planned < length payloads) → IsStored larger new payloads
stored_placed {capacity} {larger} planned new payloads block index stored place grown room = elim place.entries [
  | inl same ↦ subst (λ (entries : List Planned). IsStored larger entries payloads) (sym same) (record {
    fits = stored.fits;
    capacious = omega (arith, stored.capacious, grown);
    distinct = stored.distinct;
    apart = stored.apart;
    below = stored.below;
    whole = stored.whole;
  })
  | inr added ↦ subst (λ (entries : List Planned). IsStored larger entries payloads) (sym added.0) (record {
    fits = omega (arith, length_push planned (blank block (length planned)), place_room planned block (length planned) (length payloads) refl added.1 room);
    capacious = omega (arith, stored.capacious, grown);
    distinct = all_pairs_push (λ (one other : Planned). one.block ≢ other.block) planned (blank block (length planned)) stored.distinct added.1;
    apart = all_pairs_push (λ (one other : Planned). one.at ≢ other.at) planned (blank block (length planned)) stored.apart
        (λ k d below e. let less = stored.below k d below in absurd (omega (arith, less, e)));
    below = All-push (λ (one : Planned). one.at < length (planned ++ blank block (length planned) ∷ [])) planned (blank block (length planned))
        (λ k d below. omega (arith, stored.below k d below, length_push planned (blank block (length planned)))) (omega (arith, length_push planned (blank block (length planned))));
    whole = stored.whole;
  })
]

-- it writes nothing
pub last_write-placed : (k : ℕ) (planned new : List Planned) (payloads : List (List ℕ)) (block index : ℕ) → HasPlace planned new block index
    → last_write k (entries_of (map (block_of payloads) new)) ≡ last_write k (entries_of (map (block_of payloads) planned))
last_write-placed k planned new payloads block index place = elim place.entries [
  | inl same ↦ ap (λ (entries : List Planned). last_write k (entries_of (map (block_of payloads) entries))) same
  | inr added ↦
      let more : TextBlock = block_of payloads (blank block (length planned)) in
      ap (λ (entries : List Planned). last_write k (entries_of (map (block_of payloads) entries))) added.0
      ∙ ap (λ (bs : List TextBlock). last_write k (entries_of bs)) (map-append (block_of payloads) planned (blank block (length planned) ∷ []))
      ∙ ap (last_write k) (map-append entry_of (map (block_of payloads) planned) (more ∷ []))
      ∙ last_write_push k (entries_of (map (block_of payloads) planned)) (entry_of more)
      ∙ ap (later (last_write k (entries_of (map (block_of payloads) planned)))) (written-clear 0 block 0 more.payload k (bit_at-zero (k - 8 * block)))
]

-- the numbers
pub numbers_placed : (planned new : List Planned) (payloads : List (List ℕ)) (block index : ℕ) → HasPlace planned new block index
    → (numbers_of (map (block_of payloads) new) ≡ numbers_of (map (block_of payloads) planned))
    ⊎ (numbers_of (map (block_of payloads) new) ≡ numbers_of (map (block_of payloads) planned) ++ block ∷ [])
numbers_placed planned new payloads block index place = elim place.entries [
  | inl same ↦ inl (ap (λ (entries : List Planned). numbers_of (map (block_of payloads) entries)) same)
  | inr added ↦ inr (
      ap (λ (entries : List Planned). numbers_of (map (block_of payloads) entries)) added.0
      ∙ ap numbers_of (map-append (block_of payloads) planned (blank block (length planned) ∷ []))
      ∙ map-append (λ (b : TextBlock). b.number) (map (block_of payloads) planned) (block_of payloads (blank block (length planned)) ∷ [])
      )
]

-- ---- sectors joined to a block

-- an entry with more dirty bits
abbrev pub with_bits : Planned → ℕ → Planned
with_bits one bits = record { block = one.block; bits = bit_or one.bits bits; at = one.at }

-- what stays in the place of an entry stays in each
kept_field : (f : Planned → ℕ) (planned : List Planned) (i : ℕ) (old new : Planned) → i < length planned → old ≡ get_or planned i old → f new ≡ f old
    → (k : ℕ) (d : Planned) → f (get_or (set planned i new) k d) ≡ f (get_or planned k d)
kept_field f planned i old new below is same k d = elim (cases_eq k i) [
  | inl here ↦
      ap (λ (j : ℕ). f (get_or (set planned i new) j d)) here
      ∙ ap f (get_or-set_same planned i new d below)
      ∙ same ∙ ap f is
      ∙ ap f (get_or_default planned i old d below)
      ∙ sym (ap (λ (j : ℕ). f (get_or planned j d)) here)
  | inr other ↦ ap f (get_or-set_other planned i k new d other)
]

kept_pairs : (f : Planned → ℕ) (planned new : List Planned) → length new ≡ length planned → ((k : ℕ) (d : Planned) → f (get_or new k d) ≡ f (get_or planned k d))
    → AllPairs (λ (one other : Planned). f one ≢ f other) planned → AllPairs (λ (one other : Planned). f one ≢ f other) new
kept_pairs f planned new size same pairs = λ i j d lt below e. pairs i j d lt (omega (arith, size)) (sym (same i d) ∙ e ∙ same j d)

pub stored_joined : {capacity : ℕ} (planned : List Planned) (payloads : List (List ℕ)) (i bits : ℕ) (one : Planned) (payload : List ℕ) → IsStored capacity planned payloads → i < length planned
    → one ≡ get_or planned i one → length payload ≡ 4096 → IsStored capacity (set planned i (with_bits one bits)) (set payloads one.at payload)
stored_joined planned payloads i bits one payload stored below is size =
    let new : List Planned = set planned i (with_bits one bits) in
    let many : length new ≡ length planned = length-set planned i (with_bits one bits) in
    let room : length (set payloads one.at payload) ≡ length payloads = length-set payloads one.at payload in
    record {
      fits = omega (arith, many, room, stored.fits);
      capacious = omega (arith, room, stored.capacious);
      distinct = kept_pairs (λ (e : Planned). e.block) planned new many (kept_field (λ (e : Planned). e.block) planned i one (with_bits one bits) below is refl) stored.distinct;
      apart = kept_pairs (λ (e : Planned). e.at) planned new many (kept_field (λ (e : Planned). e.at) planned i one (with_bits one bits) below is refl) stored.apart;
      below = λ k d less. omega (arith, kept_field (λ (e : Planned). e.at) planned i one (with_bits one bits) below is refl k d, stored.below k d (omega (arith, many, less)), many);
      whole = All-set (λ (bytes : List ℕ). length bytes ≡ 4096) payloads one.at payload size stored.whole;
    }

-- the block that it is then
abbrev joined_block : Planned → ℕ → List ℕ → TextBlock
joined_block one bits payload = record { number = one.block; bits = bit_or one.bits bits; payload = payload }

apart_at : (planned : List Planned) (i k : ℕ) (d : Planned) → AllPairs (λ (one other : Planned). one.at ≢ other.at) planned → i < length planned → k < length planned → k ≢ i
    → (get_or planned k d).at ≢ (get_or planned i d).at
apart_at planned i k d apart first second other = elim (cases_lt i k) [
  | inl less ↦ λ e. apart i k d less second (sym e)
  | inr rest ↦ λ e. apart k i d (omega arith) first e
]

blocks_joined : {capacity : ℕ} (planned : List Planned) (payloads : List (List ℕ)) (i bits : ℕ) (one : Planned) (payload : List ℕ) → IsStored capacity planned payloads → i < length planned → one ≡ get_or planned i one
    → map (block_of (set payloads one.at payload)) (set planned i (with_bits one bits)) ≡ set (map (block_of payloads) planned) i (joined_block one bits payload)
blocks_joined planned payloads i bits one payload stored below is =
    let new : List Planned = set planned i (with_bits one bits) in
    let many : length new ≡ length planned = length-set planned i (with_bits one bits) in
    let many_blocks : length (map (block_of payloads) planned) ≡ length planned = length-map planned (block_of payloads) in
    let first : i < length (map (block_of payloads) planned) = omega (arith, many_blocks, below) in
    let inside : one.at < length payloads = subst (λ (e : Planned). e.at < length payloads) (sym is) (payload_below planned payloads i one stored below) in
    ext_get_or no_block (map (block_of (set payloads one.at payload)) new) (set (map (block_of payloads) planned) i (joined_block one bits payload))
    (length-map new (block_of (set payloads one.at payload)) ∙ many ∙ sym many_blocks ∙ sym (length-set (map (block_of payloads) planned) i (joined_block one bits payload)))
    (λ k less.
    let small : k < length new = omega (arith, less, length-map new (block_of (set payloads one.at payload))) in
    get_or-map (block_of (set payloads one.at payload)) new k one no_block small
    ∙ (elim (cases_eq k i) [
      | inl here ↦
          ap (λ (j : ℕ). block_of (set payloads one.at payload) (get_or new j one)) here
          ∙ ap (block_of (set payloads one.at payload)) (get_or-set_same planned i (with_bits one bits) one below)
          ∙ ap (joined_block one bits) (get_or-set_same payloads one.at payload [] inside)
          ∙ sym (get_or-set_same (map (block_of payloads) planned) i (joined_block one bits payload) no_block first)
          ∙ sym (ap (λ (j : ℕ). get_or (set (map (block_of payloads) planned) i (joined_block one bits payload)) j no_block) here)
      | inr other ↦
          let at_other : (get_or planned k one).at ≢ one.at = λ e. apart_at planned i k one stored.apart below (omega (arith, many, small)) other (e ∙ ap (λ (p : Planned). p.at) is) in
          ap (block_of (set payloads one.at payload)) (get_or-set_other planned i k (with_bits one bits) one other)
          ∙ ap (λ (bytes : List ℕ). joined_number (get_or planned k one) bytes) (get_or-set_other payloads one.at (get_or planned k one).at payload [] at_other)
          ∙ sym (get_or-map (block_of payloads) planned k one no_block (omega (arith, many, small)))
          ∙ sym (get_or-set_other (map (block_of payloads) planned) i k (joined_block one bits payload) no_block other)
    ]))
  where
    joined_number : Planned → List ℕ → TextBlock
    joined_number e bytes = record { number = e.block; bits = e.bits; payload = bytes }

-- what it writes then
pub last_write-joined : {capacity : ℕ} (k : ℕ) (planned : List Planned) (payloads : List (List ℕ)) (i bits : ℕ) (one : Planned) (old over new : List ℕ)
    → IsStored capacity planned payloads → i < length planned → one ≡ get_or planned i one → old ≡ get_or payloads one.at old → length over ≡ 4096 → length new ≡ 4096
    → ((at : ℕ) → at < 4096 → get_or new at 0 ≡ joined_byte at old bits over)
    → last_write k (entries_of (map (block_of (set payloads one.at new)) (set planned i (with_bits one bits))))
    ≡ later (last_write k (entries_of (map (block_of payloads) planned))) (written k (Write 0 one.block bits over))
last_write-joined k planned payloads i bits one old over new stored below is was over_size size joined =
    let blocks : List TextBlock = map (block_of payloads) planned in
    let here : block_at blocks i ≡ block_of payloads one = get_or-map (block_of payloads) planned i one no_block below ∙ ap (block_of payloads) (sym is) in
    let inside : one.at < length payloads = subst (λ (e : Planned). e.at < length payloads) (sym is) (payload_below planned payloads i one stored below) in
    let same : get_or payloads one.at [] ≡ old = get_or_default payloads one.at [] old inside ∙ sym was in
    let old_size : length old ≡ 4096 = ap length (sym same) ∙ stored.whole one.at [] inside in
    let put : written k (entry_of (joined_block one bits new)) ≡ later (written k (entry_of (block_of payloads one))) (written k (Write 0 one.block bits over)) =
    written-join k one.block one.bits bits old new over (λ j less. sector-join bits old over new j old_size over_size size less joined)
    ∙ ap (λ (bytes : List ℕ). later (written k (Write 0 one.block one.bits bytes)) (written k (Write 0 one.block bits over))) (sym same) in
    ap (λ (bs : List TextBlock). last_write k (entries_of bs)) (blocks_joined planned payloads i bits one new stored below is)
    ∙ last_write-set k blocks i (joined_block one bits new) (written k (Write 0 one.block bits over)) (distinct_blocks payloads planned stored.distinct) (omega (arith, length-map planned (block_of payloads)))
    (ap (λ (b : TextBlock). b.number) (sym here))
    (put ∙ ap (λ (b : TextBlock). later (written k (entry_of b)) (written k (Write 0 one.block bits over))) (sym here))
    (elim (cases_eq one.block (k / 8)) [
      | inl mine ↦ inr (ap (λ (b : TextBlock). b.number) here ∙ mine)
      | inr other ↦ inl (written_other (record { number = one.block; bits = bits; payload = over }) k other)
    ])

-- its number stays
pub numbers_joined : {capacity : ℕ} (planned : List Planned) (payloads : List (List ℕ)) (i bits : ℕ) (one : Planned) (payload : List ℕ) → IsStored capacity planned payloads → i < length planned → one ≡ get_or planned i one
    → numbers_of (map (block_of (set payloads one.at payload)) (set planned i (with_bits one bits))) ≡ numbers_of (map (block_of payloads) planned)
numbers_joined planned payloads i bits one payload stored below is =
    let blocks : List TextBlock = map (block_of payloads) planned in
    let many : i < length blocks = omega (arith, length-map planned (block_of payloads)) in
    let number : TextBlock → ℕ = λ b. b.number in
    let here : number (get_or blocks i no_block) ≡ one.block = ap number (get_or-map (block_of payloads) planned i one no_block below) ∙ ap (λ (e : Planned). e.block) (sym is) in
    ap numbers_of (blocks_joined planned payloads i bits one payload stored below is)
    ∙ map-set number blocks i (joined_block one bits payload)
    ∙ ap (set (numbers_of blocks) i) (sym here ∙ sym (get_or-map number blocks i no_block 0 many))
    ∙ set-get_or (numbers_of blocks) i 0

-- ---- sorting

pub stored_sorted : {capacity same_capacity : ℕ} (planned new : List Planned) (payloads : List (List ℕ)) → IsStored capacity planned payloads → IsPermutation planned new → same_capacity ≡ capacity → IsStored same_capacity new payloads
stored_sorted planned new payloads stored moved kept =
    let many : length new ≡ length planned = length_permutation planned new moved in
    record {
      fits = omega (arith, many, stored.fits);
      capacious = omega (arith, kept, stored.capacious);
      distinct = apart_permuted (λ (one : Planned). one.block) no_entry planned new moved stored.distinct;
      apart = apart_permuted (λ (one : Planned). one.at) no_entry planned new moved stored.apart;
      below = All-permutation (λ (one : Planned). one.at < length new) planned new moved (λ k d less. omega (arith, many, stored.below k d less));
      whole = stored.whole;
    }

pub IsArranged-sorted : {capacity : ℕ} (planned : List Planned) (payloads : List (List ℕ)) → IsStored capacity planned payloads → IsNonDecreasingBy (λ (one : Planned). one.block) planned → IsArranged (map (block_of payloads) planned)
IsArranged-sorted planned payloads stored rising = record {
  rising = λ i j lt below.
      let last : j < length planned = omega (arith, length-map planned (block_of payloads)) in
      let one : (block_at (map (block_of payloads) planned) i).number ≡ (get_or planned i no_entry).block = ap (λ (b : TextBlock). b.number) (get_or-map (block_of payloads) planned i no_entry no_block (omega arith)) in
      let other : (block_at (map (block_of payloads) planned) j).number ≡ (get_or planned j no_entry).block = ap (λ (b : TextBlock). b.number) (get_or-map (block_of payloads) planned j no_entry no_block last) in
      let le : (get_or planned i no_entry).block ≤ (get_or planned j no_entry).block = rising i j no_entry (omega arith) last in
      let different : (get_or planned i no_entry).block ≢ (get_or planned j no_entry).block = stored.distinct i j no_entry lt last in
      omega (arith, one, other, le, different);
}

pub last_write-sorted : {capacity : ℕ} (k : ℕ) (planned new : List Planned) (payloads : List (List ℕ)) → IsStored capacity planned payloads → IsPermutation planned new
    → last_write k (entries_of (map (block_of payloads) new)) ≡ last_write k (entries_of (map (block_of payloads) planned))
last_write-sorted k planned new payloads stored moved =
    last_write-permuted k (map (block_of payloads) planned) (map (block_of payloads) new) (distinct_blocks payloads planned stored.distinct)
    (distinct_blocks payloads new (apart_permuted (λ (one : Planned). one.block) no_entry planned new moved stored.distinct)) (IsPermutation-map (block_of payloads) planned new moved)
