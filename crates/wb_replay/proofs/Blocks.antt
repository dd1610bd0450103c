-- The blocks of a text, put one after another.
use Rattle.std.proofs.Common.{ℕ, ◌≡◌, ◌+◌, ◌*◌, ◌<◌, ◌≤◌, List, [], ◌∷◌, ◌++◌, length, drop, take-append-drop, refl, ap, sym, ◌∙◌, subst, arith}
use Rattle.std.specs.List.{All}
use Rattle.std.proofs.lemmas.List.{length-take-le, length-drop, map-append}
use Rattle.std.proofs.lemmas.List.FromFn.{length-map-range_with_len, get_or-map-range_with_len, map-range_with_len_more, take-map-range_with_len}
use Rattle.std.proofs.lemmas.List.Elements.{All-get_or}
use Rattle.wb_geometry.specs.History.{HistoryEntry, Write}
use Rattle.wb_geometry.specs.Device.{State}
use Rattle.wb_header.specs.Text.{TextBlock, no_block, length_in, number_in, bits_in, payload_in, block_in, blocks_in}
use Rattle.wb_header.specs.Standing.{entry_of, entries_of}
use Rattle.wb_replay.specs.Replaying.{PutsSome}
use Rattle.wb_replay.specs.Putting.{PutsAll, IsUnsynced, entries_in}
use Rattle.wb_replay.proofs.Puts.{all_none, all_then, some_then, some_front, unsynced_none, unsynced_then}

-- the entries of the first blocks
abbrev pub first_entries : List ℕ → ℕ → List HistoryEntry
first_entries text i = entries_of (blocks_in i text)

-- The first blocks of a text are put, and no call failed.
pub record IsPut (text : List ℕ) (i : ℕ) (old now : State) : Type 0 where
  pub few : i ≤ length_in text
  pub puts : PutsAll (first_entries text i) old now
  pub unsynced : IsUnsynced old now
  pub faults : now.faults ≡ old.faults

pub put_none : (text : List ℕ) (s : State) → IsPut text 0 s s
put_none text s = record { few = omega arith; puts = all_none s; unsynced = unsynced_none s; faults = refl }

-- ---- block i

-- it is inside the device
pub block_room : (text : List ℕ) (i sectors : ℕ) → All (λ (block : TextBlock). 8 * block.number + 8 ≤ sectors) (blocks_in (length_in text) text) → i < length_in text → 8 * number_in text i + 8 ≤ sectors
block_room text i sectors inside below =
    subst (λ (block : TextBlock). 8 * block.number + 8 ≤ sectors) (get_or-map-range_with_len (block_in text) 0 (length_in text) i i no_block below (omega arith))
    (All-get_or (λ (block : TextBlock). 8 * block.number + 8 ≤ sectors) (blocks_in (length_in text) text) i no_block (omega (arith, below, length-map-range_with_len (block_in text) 0 (length_in text))) inside)

pub payload_size : (text : List ℕ) (i : ℕ) → 4096 * (1 + length_in text) ≤ length text → i < length_in text → length (payload_in text i) ≡ 4096
payload_size text i size below = length-take-le 4096 (drop (4096 * (i + 1)) text) (omega (arith, size, below, length-drop (4096 * (i + 1)) text))

one_more : (text : List ℕ) (i : ℕ) → first_entries text (i + 1) ≡ first_entries text i ++ entry_of (block_in text i) ∷ []
one_more text i =
    ap entries_of (map-range_with_len_more (block_in text) 0 i i (omega arith)) ∙ map-append entry_of (blocks_in i text) (block_in text i ∷ [])

-- the first blocks are a front of all
front : (text : List ℕ) (i : ℕ) → i ≤ length_in text → entries_in text ≡ first_entries text i ++ entries_of (drop i (blocks_in (length_in text) text))
front text i few =
    ap entries_of (sym (take-append-drop i (blocks_in (length_in text) text)) ∙ ap (λ (blocks : List TextBlock). blocks ++ drop i (blocks_in (length_in text) text)) (take-map-range_with_len (block_in text) 0 (length_in text) i few))
    ∙ map-append entry_of (blocks_in i text) (drop i (blocks_in (length_in text) text))

entry_is : (text : List ℕ) (i number bits : ℕ) (payload : List ℕ) → number ≡ number_in text i → bits ≡ bits_in text i → payload ≡ payload_in text i → Write 0 number bits payload ≡ entry_of (block_in text i)
entry_is text i number bits payload same_number same_bits same_payload =
    ap (λ (n : ℕ). Write 0 n bits payload) same_number ∙ ap (λ (b : ℕ). Write 0 (number_in text i) b payload) same_bits ∙ ap (λ (p : List ℕ). Write 0 (number_in text i) (bits_in text i) p) same_payload

-- one block more is put
pub put_more : {old mid new : State} (text : List ℕ) (i number bits : ℕ) (payload : List ℕ) → i < length_in text → number ≡ number_in text i → bits ≡ bits_in text i → payload ≡ payload_in text i
    → IsPut text i old mid → PutsAll (Write 0 number bits payload ∷ []) mid new → IsUnsynced mid new → new.faults ≡ mid.faults → IsPut text (i + 1) old new
put_more {old} {mid} {new} text i number bits payload below same_number same_bits same_payload so_far puts unsynced faults =
    let e : HistoryEntry = Write 0 number bits payload in
    let list : first_entries text (i + 1) ≡ first_entries text i ++ e ∷ [] = one_more text i ∙ ap (λ (f : HistoryEntry). first_entries text i ++ f ∷ []) (sym (entry_is text i number bits payload same_number same_bits same_payload)) in
    record {
      few = omega (arith, below);
      puts = subst (λ (es : List HistoryEntry). PutsAll es old new) (sym list) (all_then (first_entries text i) (e ∷ []) so_far.puts puts);
      unsynced = unsynced_then so_far.unsynced unsynced;
      faults = faults ∙ so_far.faults;
    }

-- or some of it
pub put_stopped : {old mid new : State} (text : List ℕ) (i number bits : ℕ) (payload : List ℕ) → i < length_in text → number ≡ number_in text i → bits ≡ bits_in text i → payload ≡ payload_in text i
    → IsPut text i old mid → PutsSome (Write 0 number bits payload ∷ []) mid new → PutsSome (entries_in text) old new
put_stopped {old} {mid} {new} text i number bits payload below same_number same_bits same_payload so_far puts =
    let e : HistoryEntry = Write 0 number bits payload in
    let list : first_entries text i ++ e ∷ [] ≡ first_entries text (i + 1) = ap (λ (f : HistoryEntry). first_entries text i ++ f ∷ []) (entry_is text i number bits payload same_number same_bits same_payload) ∙ sym (one_more text i) in
    some_front (entries_in text) (first_entries text i ++ e ∷ []) (entries_of (drop (i + 1) (blocks_in (length_in text) text)))
    (front text (i + 1) (omega (arith, below)) ∙ ap (λ (es : List HistoryEntry). es ++ entries_of (drop (i + 1) (blocks_in (length_in text) text))) (sym list))
    (some_then (first_entries text i) (e ∷ []) so_far.puts puts)

-- all are put
pub put_whole : {old new : State} (text : List ℕ) (i : ℕ) → IsPut text i old new → length_in text ≤ i → PutsAll (entries_in text) old new
put_whole {old} {new} text i so_far all =
    let is : i ≡ length_in text = omega (arith, so_far.few, all) in
    subst (λ (n : ℕ). PutsAll (first_entries text n) old new) is so_far.puts
