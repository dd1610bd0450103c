-- What entries do to an image, sector by sector, and the entries of a write request.
use Rattle.std.proofs.Common.{ℕ, suc, zero, ◌≡◌, ◌≢◌, ◌⊎◌, ◌+◌, ◌-◌, ◌*◌, ◌/◌, ◌<◌, ◌≤◌, List, [], ◌∷◌, ◌++◌, map, length, get_or, take, drop, max, replicate, inl, inr, Option, Some, None, refl, ap, sym, ◌∙◌, subst, arith}
use Rattle.std.specs.List.{All, Contains, enumerate_from, range_with_len, sum_by}
use Rattle.std.specs.Int.{bit_at}
use Rattle.std.proofs.lemmas.Bool.{cases_lt, cases_eq, cond-false, ne_eqb}
use Rattle.std.proofs.lemmas.Bool.Decides.{nat_tests}
use Rattle.std.proofs.lemmas.List.Elements.{All-nil, All-cons, All-contains, All-contains_itself, Contains-get_or, Contains-append_right}
use Rattle.std.proofs.lemmas.List.Sums.{sum_by-cons}
use Rattle.std.proofs.lemmas.Nat.Bits.{bit_at-lt, bit_at_mask_inside, bit_at_mask_below, bit_at_mask_above}
use Rattle.std.proofs.lemmas.List.{length-map, get_or_past, get_or-map, ext_get_or, get_or-drop, drop_more, take_more, append-nil, take_all, drop-drop, append_assoc, length-append, length-replicate, length-drop, length-take-le, take-take, drop-take, drop_at, drop-append-le, take-append-le}
use Rattle.std.proofs.lemmas.Grind.{flat_map-append}
use Rattle.std.proofs.lemmas.List.FromFn.{length-enumerate_from, get_or-enumerate_from, length-map-range_with_len, get_or-map-range_with_len}
use Rattle.wb_geometry.specs.declared.request.Part.{Part}
use Rattle.wb_geometry.specs.Image.{Image, IsImage, sector, sectors_of, bytes_of, bytes_at, overlay}
use Rattle.wb_geometry.specs.History.{HistoryEntry, Write, Void, written, standing, put, after, later, last_write, PutsPartly}
use Rattle.wb_geometry.proofs.Images.{length-sectors_of, sector-sectors_of, sectors_of-one, length-overlay, sector-overlay_before, sector-overlay_inside, sector-overlay_behind}
use Rattle.wb_geometry.specs.Requests.{part_in, blocks_touched, parts, entry_of, entries_of}

-- an entry keeps the number of sectors
pub length-put : (x : Image) (e : HistoryEntry) → length (put x e) ≡ length x
length-put x e = length-map (enumerate_from 0 x) _ ∙ length-enumerate_from 0 x

-- so do entries
pub length-after : (x : Image) (es : List HistoryEntry) → length (after x es) ≡ length x
length-after x [] = refl
length-after x (e ∷ es) = length-after (put x e) es ∙ length-put x e

-- a sector after an entry is what the entry writes to it, or what it was
pub sector-put : (x : Image) (e : HistoryEntry) (k : ℕ) → k < length x → sector (put x e) k ≡ standing (sector x k) (written k e)
sector-put x e k h =
    let l : k < length (enumerate_from 0 x) = rw length-enumerate_from h in
    get_or-map _ (enumerate_from 0 x) k (0, []) [] l
    ∙ ap (λ (p : ℕ × List ℕ). standing p.1 (written p.0 e)) (get_or-enumerate_from 0 x k (0, []) h)
    ∙ ap (λ (i : ℕ). standing (sector x k) (written i e)) (let z : 0 + k ≡ k = omega arith in z)

-- what stands after two writes is what stands after the later of them
pub standing-later : (s : List ℕ) (a b : Option (List ℕ)) → standing s (later a b) ≡ standing (standing s a) b
standing-later s a None = refl
standing-later s a (Some t) = refl

-- a sector after entries is what the last of them that writes it writes, or what it was
pub sector-after : (x : Image) (es : List HistoryEntry) (k : ℕ) → k < length x → sector (after x es) k ≡ standing (sector x k) (last_write k es)
sector-after x [] k h = refl
sector-after x (e ∷ es) k h =
    sector-after (put x e) es k (rw length-put h)
    ∙ ap (λ (s : List ℕ). standing s (last_write k es)) (sector-put x e k h)
    ∙ sym (standing-later (sector x k) (written k e) (last_write k es))

-- the later of a write and of none is that write
pub later-None : (a : Option (List ℕ)) → later None a ≡ a
later-None None = refl
later-None (Some t) = refl

-- it does not matter which two of three writes are compared first
pub later_assoc : (a b c : Option (List ℕ)) → later (later a b) c ≡ later a (later b c)
later_assoc a b None = refl
later_assoc a b (Some t) = refl

-- the last write of two lists of entries is the later of theirs
pub last_write-append : (k : ℕ) (xs ys : List HistoryEntry) → last_write k (xs ++ ys) ≡ later (last_write k xs) (last_write k ys)
last_write-append k [] ys = sym (later-None (last_write k ys))
last_write-append k (e ∷ xs) ys =
    ap (later (written k e)) (last_write-append k xs ys)
    ∙ sym (later_assoc (written k e) (last_write k xs) (last_write k ys))

-- one more entry at the end: what it writes is last, where it writes
pub last_write_push : (k : ℕ) (es : List HistoryEntry) (e : HistoryEntry) → last_write k (es ++ e ∷ []) ≡ later (last_write k es) (written k e)
last_write_push k es e = last_write-append k es (e ∷ [])

-- the image after two lists of entries
pub after-append : (x : Image) (xs ys : List HistoryEntry) → after x (xs ++ ys) ≡ after (after x xs) ys
after-append x [] ys = refl
after-append x (e ∷ xs) ys = after-append (put x e) xs ys

-- one more entry at the end is put last
pub after_push : (x : Image) (es : List HistoryEntry) (e : HistoryEntry) → after x (es ++ e ∷ []) ≡ put (after x es) e
after_push x es e = after-append x es (e ∷ [])

-- two images of one length with equal sectors are equal
pub images_equal : (x y : Image) → length x ≡ length y → ((k : ℕ) → k < length x → sector x k ≡ sector y k) → x ≡ y
images_equal x y l each = ext_get_or [] x y l each

-- the bytes of one sector
pub bytes_at-one : (x : Image) (s : ℕ) → s < length x → bytes_at x s 1 ≡ sector x s
bytes_at-one x s h = ap (λ (y : Image). bytes_of (take 1 y)) (drop_more x s [] h) ∙ append-nil (sector x s)

-- the bytes of one sector more
pub bytes_at_more : (x : Image) (at count : ℕ) → at + count < length x → bytes_at x at (count + 1) ≡ bytes_at x at count ++ sector x (at + count)
bytes_at_more x at count h =
    let below : count < length (drop at x) = omega (arith, length-drop at x) in
    ap bytes_of (take_more (drop at x) count [] below)
    ∙ flat_map-append (λ (s : List ℕ). s) (take count (drop at x)) (get_or (drop at x) count [] ∷ [])
    ∙ ap (λ (bytes : List ℕ). bytes_at x at count ++ bytes) (append-nil (get_or (drop at x) count []) ∙ get_or-drop at x count [])

-- the bytes of one sector after entries
pub bytes_at-after_one : (x : Image) (es : List HistoryEntry) (s : ℕ) → s < length x → bytes_at (after x es) s 1 ≡ standing (sector x s) (last_write s es)
bytes_at-after_one x es s h = bytes_at-one (after x es) s (rw length-after h) ∙ sector-after x es s h

-- ---- one entry

-- an entry writes what its payload has at a sector of its block whose bit is set
pub written-inside : (client block bits : ℕ) (payload : List ℕ) (k : ℕ) → 8 * block ≤ k → k < 8 * block + 8 → bit_at bits (k - 8 * block) ≡ 1 → written k (Write client block bits payload) ≡ Some (sector (sectors_of payload) (k - 8 * block))
written-inside client block bits payload k ge lt set = grind (arith, nat_tests)

-- an entry writes nothing before its block
pub written-before : (client block bits : ℕ) (payload : List ℕ) (k : ℕ) → k < 8 * block → written k (Write client block bits payload) ≡ None
written-before client block bits payload k lt = grind (arith, nat_tests)

-- an entry writes nothing behind its block
pub written-behind : (client block bits : ℕ) (payload : List ℕ) (k : ℕ) → 8 * block + 8 ≤ k → written k (Write client block bits payload) ≡ None
written-behind client block bits payload k ge = grind (arith, nat_tests)

-- an entry writes nothing to a sector whose bit is not set
pub written-clear : (client block bits : ℕ) (payload : List ℕ) (k : ℕ) → bit_at bits (k - 8 * block) ≡ 0 → written k (Write client block bits payload) ≡ None
written-clear client block bits payload k clear = grind (arith, nat_tests)

-- bytes keep their sectors between sectors of zeros
pub sector-sectors_of_padded : (front behind j : ℕ) (bytes : List ℕ) → 512 * j + 512 ≤ length bytes → sector (sectors_of (replicate (512 * front) 0 ++ bytes ++ replicate (512 * behind) 0)) (front + j) ≡ sector (sectors_of bytes) j
sector-sectors_of_padded front behind j bytes h =
    let before : List ℕ = replicate (512 * front) 0 in
    let after_it : List ℕ = replicate (512 * behind) 0 in
    let size : length (before ++ bytes ++ after_it) ≡ 512 * front + length bytes + 512 * behind =
    omega (arith, length-append {A = ℕ}, length-replicate {A = ℕ}) in
    let e : 512 * (front + j) ≡ 512 * front + 512 * j = omega arith in
    let fits : 512 * (front + j) + 512 ≤ length (before ++ bytes ++ after_it) = omega arith in
    let room : 512 * j ≤ length bytes = omega arith in
    let more : 512 ≤ length (drop (512 * j) bytes) = omega (arith, length-drop (512 * j) bytes) in
    sector-sectors_of (before ++ bytes ++ after_it) (front + j) (omega arith)
    ∙ ap (take 512)
    (ap (λ (n : ℕ). drop n (before ++ bytes ++ after_it)) e
    ∙ sym (drop-drop (512 * j) (512 * front) (before ++ bytes ++ after_it))
    ∙ ap (drop (512 * j))
    (ap (drop (512 * front)) (append_assoc before bytes after_it)
    ∙ drop_at before (bytes ++ after_it) (512 * front) (length-replicate (512 * front) 0))
    ∙ drop-append-le (512 * j) bytes after_it room)
    ∙ take-append-le 512 (drop (512 * j) bytes) after_it more
    ∙ sym (sector-sectors_of bytes j (omega arith))

-- ---- the entry of a part

-- the entry of a part writes the part's sectors of its bytes
pub written-entry_of : (client : ℕ) (part : Part) (bytes : List ℕ) (k : ℕ) → part.from + part.count ≤ 8 → length bytes ≡ 512 * part.count → 8 * part.block + part.from ≤ k → k < 8 * part.block + part.from + part.count → written k (entry_of client part bytes) ≡ Some (sector (sectors_of bytes) (k - (8 * part.block + part.from)))
written-entry_of client part bytes k room size ge lt =
    let at : part.from ≤ k - 8 * part.block = omega arith in
    let end : k - 8 * part.block < part.from + part.count = omega arith in
    let low : 8 * part.block ≤ k = omega arith in
    let high : k < 8 * part.block + 8 = omega arith in
    let j : ℕ = k - (8 * part.block + part.from) in
    let is : k - 8 * part.block ≡ part.from + j = omega arith in
    let payload : List ℕ = replicate (512 * part.from) 0 ++ bytes ++ replicate (512 * (8 - (part.from + part.count))) 0 in
    written-inside client part.block _ payload k low high (bit_at_mask_inside part.from (part.from + part.count) (k - 8 * part.block) at end)
    ∙ ap (λ (s : List ℕ). Some s)
    (ap (sector (sectors_of payload)) is
    ∙ sector-sectors_of_padded part.from (8 - (part.from + part.count)) j bytes (omega arith))

-- the entry of a part writes nothing before the part
pub written-entry_of_before : (client : ℕ) (part : Part) (bytes : List ℕ) (k : ℕ) → k < 8 * part.block + part.from → written k (entry_of client part bytes) ≡ None
written-entry_of_before client part bytes k lt =
    elim (cases_lt k (8 * part.block)) [
      | inl before ↦ written-before client part.block _ _ k before
      | inr inside ↦ written-clear client part.block _ _ k (bit_at_mask_below part.from (part.from + part.count) (k - 8 * part.block) (omega arith))
    ]

-- the entry of a part writes nothing behind the part
pub written-entry_of_behind : (client : ℕ) (part : Part) (bytes : List ℕ) (k : ℕ) → 8 * part.block + part.from + part.count ≤ k → written k (entry_of client part bytes) ≡ None
written-entry_of_behind client part bytes k ge =
    written-clear client part.block _ _ k (bit_at_mask_above part.from (part.from + part.count) (k - 8 * part.block) (omega arith))

-- the entry of a part puts the part's sectors over the image
pub put-entry_of : (x : Image) (client : ℕ) (part : Part) (bytes : List ℕ) → part.from + part.count ≤ 8 → length bytes ≡ 512 * part.count → 8 * part.block + part.from + part.count ≤ length x → put x (entry_of client part bytes) ≡ overlay (8 * part.block + part.from) (sectors_of bytes) x
put-entry_of x client part bytes small size room =
    let n : length (sectors_of bytes) ≡ part.count = length-sectors_of bytes ∙ (omega arith) in
    let fits : 8 * part.block + part.from + length (sectors_of bytes) ≤ length x = omega arith in
    images_equal (put x (entry_of client part bytes)) (overlay (8 * part.block + part.from) (sectors_of bytes) x)
    (length-put x (entry_of client part bytes) ∙ sym (length-overlay (8 * part.block + part.from) (sectors_of bytes) x fits))
    (λ k h.
    let l : k < length x = omega (arith, length-put x (entry_of client part bytes)) in
    sector-put x (entry_of client part bytes) k l
    ∙ (elim (cases_lt k (8 * part.block + part.from)) [
      | inl before ↦ ap (standing (sector x k)) (written-entry_of_before client part bytes k before) ∙ sym (sector-overlay_before (8 * part.block + part.from) (sectors_of bytes) x k (omega arith) before)
      | inr from ↦ elim (cases_lt k (8 * part.block + part.from + part.count)) [
        | inl inside ↦ ap (standing (sector x k)) (written-entry_of client part bytes k small size from inside) ∙ sym (sector-overlay_inside (8 * part.block + part.from) (sectors_of bytes) x k (omega arith) from (omega arith))
        | inr behind ↦ ap (standing (sector x k)) (written-entry_of_behind client part bytes k behind) ∙ sym (sector-overlay_behind (8 * part.block + part.from) (sectors_of bytes) x k (omega arith) (omega arith))
      ]
    ]))

-- ---- a request of one sector

-- the part of a request of one sector begins at it
pub start_one : (s : ℕ) → 8 * (s / 8) + (part_in s 1 (s / 8)).from ≡ s
start_one s = omega arith

-- it has one sector
pub count_one : (s : ℕ) → (part_in s 1 (s / 8)).count ≡ 1
count_one s = omega arith

-- it ends within its block
pub small_one : (s : ℕ) → (part_in s 1 (s / 8)).from + (part_in s 1 (s / 8)).count ≤ 8
small_one s = omega arith

blocks_touched-one : (s : ℕ) → blocks_touched s 1 ≡ 1
blocks_touched-one s = let e : s + 1 - 1 ≡ s = omega arith in rw e (omega arith)

-- a request of one sector has one part
pub parts-one : (s : ℕ) → parts s 1 ≡ part_in s 1 (s / 8) ∷ []
parts-one s = ap (λ (n : ℕ). map (part_in s 1) (range_with_len (s / 8) n)) (blocks_touched-one s)

-- a write of one sector has one entry
pub entries_of-one : (client s : ℕ) (bytes : List ℕ) → length bytes ≡ 512 → entries_of client (parts s 1) bytes ≡ entry_of client (part_in s 1 (s / 8)) bytes ∷ []
entries_of-one client s bytes size =
    ap (λ (ps : List Part). entries_of client ps bytes) (parts-one s)
    ∙ ap (λ (b : List ℕ). entry_of client (part_in s 1 (s / 8)) b ∷ []) (take_all _ bytes (omega (arith, count_one s)))

-- the entry of a write of sector s writes its bytes there
pub written-one_same : (client s : ℕ) (bytes : List ℕ) → length bytes ≡ 512 → written s (entry_of client (part_in s 1 (s / 8)) bytes) ≡ Some bytes
written-one_same client s bytes size =
    let z : s - (8 * (s / 8) + (part_in s 1 (s / 8)).from) ≡ 0 = omega (arith, start_one s) in
    written-entry_of client (part_in s 1 (s / 8)) bytes s (small_one s) (omega (arith, count_one s)) (omega (arith, start_one s)) (omega (arith, start_one s, count_one s))
    ∙ ap (λ (i : ℕ). Some (sector (sectors_of bytes) i)) z
    ∙ ap (λ (y : Image). Some (sector y 0)) (sectors_of-one bytes size)

-- and nothing to another sector
pub written-one_other : (client s k : ℕ) (bytes : List ℕ) → k ≢ s → written k (entry_of client (part_in s 1 (s / 8)) bytes) ≡ None
written-one_other client s k bytes other =
    elim (cases_lt k s) [
      | inl lt ↦ written-entry_of_before client (part_in s 1 (s / 8)) bytes k (omega (arith, start_one s))
      | inr ge ↦ written-entry_of_behind client (part_in s 1 (s / 8)) bytes k (omega (arith, start_one s, count_one s))
    ]

-- the entry of a write of sector s puts its bytes over the image there
pub put-one : (x : Image) (client s : ℕ) (bytes : List ℕ) → length bytes ≡ 512 → s < length x → put x (entry_of client (part_in s 1 (s / 8)) bytes) ≡ overlay s (sectors_of bytes) x
put-one x client s bytes size h =
    put-entry_of x client (part_in s 1 (s / 8)) bytes (small_one s) (omega (arith, count_one s)) (omega (arith, start_one s, count_one s))
    ∙ ap (λ (at : ℕ). overlay at (sectors_of bytes) x) (start_one s)

-- ---- whole sectors

-- each sector that the entry writes has 512 bytes
pub record WritesWhole (e : HistoryEntry) : Type 0 where
  pub each : (k : ℕ) (t : List ℕ) → written k e ≡ Some t → length t ≡ 512

-- an entry whose payload has eight whole sectors writes whole sectors
pub WritesWhole-Write : (client block bits : ℕ) (payload : List ℕ) → length payload ≡ 4096 → WritesWhole (Write client block bits payload)
WritesWhole-Write client block bits payload size = record {
  each = λ k t is.
      elim (cases_lt k (8 * block)) [
        | inl before ↦ let none = written-before client block bits payload k before in cc
        | inr ge ↦ elim (cases_lt k (8 * block + 8)) [
          | inr behind ↦ let none = written-behind client block bits payload k behind in cc
          | inl lt ↦ elim (cases_eq (bit_at bits (k - 8 * block)) 1) [
            | inr clear ↦ let none = written-clear client block bits payload k (omega (arith, bit_at-lt bits (k - 8 * block))) in cc
            | inl set ↦
                let some = written-inside client block bits payload k ge lt set in
                let j : ℕ = k - 8 * block in
                let fits : 512 * j + 512 ≤ length payload = omega arith in
                let same : t ≡ sector (sectors_of payload) j = cc in
                ap length same ∙ ap length (sector-sectors_of payload j (omega arith))
                ∙ length-take-le 512 (drop (512 * j) payload) (omega (arith, length-drop (512 * j) payload))
          ]
        ]
      ];
}

-- so does a place that changes nothing
pub WritesWhole-Void : (client : ℕ) → WritesWhole (Void client)
WritesWhole-Void client = record { each = λ k t is. cc }

-- so does the entry of a part with its bytes
pub WritesWhole-entry_of : (client : ℕ) (part : Part) (bytes : List ℕ) → part.from + part.count ≤ 8 → length bytes ≡ 512 * part.count → WritesWhole (entry_of client part bytes)
WritesWhole-entry_of client part bytes small size =
    WritesWhole-Write client part.block _ _ (omega (arith, length-append {A = ℕ}, length-replicate {A = ℕ}))

standing_whole : (s : List ℕ) (o : Option (List ℕ)) → length s ≡ 512 → ((t : List ℕ) → o ≡ Some t → length t ≡ 512) → length (standing s o) ≡ 512
standing_whole s None old new = old
standing_whole s (Some t) old new = new t refl

-- an image stays one under an entry that writes whole sectors
pub IsImage-put : (n : ℕ) (x : Image) (e : HistoryEntry) → IsImage n x → WritesWhole e → IsImage n (put x e)
IsImage-put n x e is whole = record {
  size = length-put x e ∙ is.size;
  whole = λ i h.
      ap length (sector-put x e i (omega (arith, is.size)))
      ∙ standing_whole (sector x i) (written i e) (is.whole i h) (whole.each i);
}

-- and under such entries
pub IsImage-after : (n : ℕ) (x : Image) (es : List HistoryEntry) → IsImage n x → All WritesWhole es → IsImage n (after x es)
IsImage-after n x [] is whole = is
IsImage-after n x (e ∷ es) is whole =
    IsImage-after n (put x e) es (IsImage-put n x e is (whole 0 e (omega arith))) (λ k d h. whole (suc k) d (omega arith))

-- ---- requests of many sectors

-- the part has some sectors of one block, and they are among the n sectors from s on
pub record IsPartOf (s n : ℕ) (p : Part) : Type 0 where
  pub some : 1 ≤ p.count
  pub small : p.from + p.count ≤ 8
  pub start : s ≤ 8 * p.block + p.from
  pub end : 8 * p.block + p.from + p.count ≤ s + n

-- so a block that the request touches has a part of it
pub IsPartOf-part_in : (s n b : ℕ) → 1 ≤ n → s < 8 * b + 8 → 8 * b < s + n → IsPartOf s n (part_in s n b)
IsPartOf-part_in s n b some low high = record { some = omega arith; small = omega arith; start = omega arith; end = omega arith }

-- a request touches the blocks from that of its first sector to that of its last
pub blocks_touched-some : (s n : ℕ) → 1 ≤ n → blocks_touched s n ≡ suc ((s + n - 1) / 8 - s / 8)
blocks_touched-some s n some = cond-false _ 0 _ (ne_eqb n 0 (λ e. omega arith)) ∙ (omega arith)

-- a request of some sectors has a part for each block from that of its first sector to that of its last
pub length-parts : (s n : ℕ) → 1 ≤ n → length (parts s n) ≡ (s + n - 1) / 8 + 1 - s / 8
length-parts s n some = length-map-range_with_len (part_in s n) (s / 8) (blocks_touched s n) ∙ blocks_touched-some s n some ∙ (omega arith)

-- a request of at most 256 sectors has at most 33 parts
pub length-parts_le : (s n : ℕ) → n ≤ 256 → length (parts s n) ≤ 33
length-parts_le s zero few = omega arith
length-parts_le s (suc n) few = omega (arith, length-parts s (suc n) (omega arith))

-- the i-th part is that of the i-th block
pub get_or-parts : (s n i : ℕ) (d : Part) → i < length (parts s n) → get_or (parts s n) i d ≡ part_in s n (s / 8 + i)
get_or-parts s n i d h =
    let l : i < blocks_touched s n = omega (arith, length-map-range_with_len (part_in s n) (s / 8) (blocks_touched s n)) in
    get_or-map-range_with_len (part_in s n) (s / 8) (blocks_touched s n) i (s / 8 + i) d l refl

-- a request of no sector has no part
pub parts-none : (s : ℕ) → parts s 0 ≡ []
parts-none s = refl

-- parts that follow one another, from sector `at` up to sector `end`
abbrev pub IsRun : (at end : ℕ) → List Part → Type 0
IsRun at end [] = at ≡ end
IsRun at end (p ∷ ps) = (8 * p.block + p.from ≡ at) × (p.from + p.count ≤ 8) × IsRun (at + p.count) end ps

run_from : (s n b m at : ℕ) → 1 ≤ n → at ≡ max s (8 * b) → s < 8 * b + 8 → 8 * (b + m) < s + n → s + n ≤ 8 * (b + m) + 8 → IsRun at (s + n) (map (part_in s n) (range_with_len b (suc m)))
run_from s n b zero at some is low high end = (omega arith, omega arith, omega arith)
run_from s n b (suc m) at some is low high end =
    (omega arith, omega arith, run_from s n (b + 1) m _ some (omega arith) (omega arith) (omega arith) (omega arith))

-- the parts of a request follow one another, over all of its sectors
pub IsRun-parts : (s n : ℕ) → IsRun s (s + n) (parts s n)
IsRun-parts s zero = omega arith
IsRun-parts s (suc n) =
    subst (λ (m : ℕ). IsRun s (s + suc n) (map (part_in s (suc n)) (range_with_len (s / 8) m)))
    (sym (blocks_touched-some s (suc n) (omega arith)))
    (run_from s (suc n) (s / 8) ((s + suc n - 1) / 8 - s / 8) s (omega arith) (omega arith) (omega arith) (omega arith) (omega arith))

run_le : (at end : ℕ) (ps : List Part) → IsRun at end ps → at ≤ end
run_le at end [] run = omega arith
run_le at end (p ∷ ps) run = let more = run_le (at + p.count) end ps run.2 in omega arith

-- their counts sum to the sectors from `at` up to `end`
pub sum_by-run : (at end : ℕ) (ps : List Part) → IsRun at end ps → at + sum_by (λ (p : Part). p.count) ps ≡ end
sum_by-run at end [] run = omega arith
sum_by-run at end (p ∷ ps) run =
    omega (arith, sum_by-run (at + p.count) end ps run.2, sum_by-cons (λ (q : Part). q.count) p ps)

-- the counts of the parts of a request sum to its count
pub sum_by-parts : (s n : ℕ) → sum_by (λ (p : Part). p.count) (parts s n) ≡ n
sum_by-parts s n = omega (arith, sum_by-run s (s + n) (parts s n) (IsRun-parts s n))

-- the front of bytes has the same sectors
pub sector-sectors_of_take : (bytes : List ℕ) (c i : ℕ) → i < c → 512 * c ≤ length bytes → sector (sectors_of (take (512 * c) bytes)) i ≡ sector (sectors_of bytes) i
sector-sectors_of_take bytes c i lt size =
    let m : ℕ = 512 * c - 512 * i in
    let e : 512 * c ≡ 512 * i + m = omega arith in
    let long : 512 * i + 512 ≤ length (take (512 * c) bytes) = omega (arith, length-take-le (512 * c) bytes size) in
    sector-sectors_of (take (512 * c) bytes) i (omega arith)
    ∙ ap (λ (n : ℕ). take 512 (drop (512 * i) (take n bytes))) e
    ∙ ap (take 512) (drop-take (512 * i) m bytes)
    ∙ take-take 512 m (drop (512 * i) bytes) (omega arith)
    ∙ sym (sector-sectors_of bytes i (omega arith))

-- the rest of bytes has the sectors from there on
pub sector-sectors_of_drop : (bytes : List ℕ) (c i : ℕ) → 512 * (c + i) + 512 ≤ length bytes → sector (sectors_of (drop (512 * c) bytes)) i ≡ sector (sectors_of bytes) (c + i)
sector-sectors_of_drop bytes c i size =
    let e : 512 * c + 512 * i ≡ 512 * (c + i) = omega arith in
    sector-sectors_of (drop (512 * c) bytes) i (omega (arith, length-drop (512 * c) bytes))
    ∙ ap (take 512) (drop-drop (512 * i) (512 * c) bytes ∙ ap (λ (n : ℕ). drop n bytes) e)
    ∙ sym (sector-sectors_of bytes (c + i) (omega arith))

-- the entries of parts write nothing before them and nothing behind them
last_write-run_before : (client at end : ℕ) (ps : List Part) (bytes : List ℕ) (k : ℕ) → IsRun at end ps → k < at → last_write k (entries_of client ps bytes) ≡ None
last_write-run_before client at end [] bytes k run lt = refl
last_write-run_before client at end (p ∷ ps) bytes k run lt =
    ap (later (written k (entry_of client p (take (512 * p.count) bytes)))) (last_write-run_before client (at + p.count) end ps (drop (512 * p.count) bytes) k run.2 (omega arith))
    ∙ written-entry_of_before client p (take (512 * p.count) bytes) k (omega (arith, run.0))

last_write-run_behind : (client at end : ℕ) (ps : List Part) (bytes : List ℕ) (k : ℕ) → IsRun at end ps → end ≤ k → last_write k (entries_of client ps bytes) ≡ None
last_write-run_behind client at end [] bytes k run ge = refl
last_write-run_behind client at end (p ∷ ps) bytes k run ge =
    ap (later (written k (entry_of client p (take (512 * p.count) bytes)))) (last_write-run_behind client (at + p.count) end ps (drop (512 * p.count) bytes) k run.2 ge)
    ∙ written-entry_of_behind client p (take (512 * p.count) bytes) k (omega (arith, run.0, run_le (at + p.count) end ps run.2))

-- the entries of parts write each sector of the bytes to its place
last_write-run : (client at end : ℕ) (ps : List Part) (bytes : List ℕ) (k : ℕ) → IsRun at end ps → length bytes ≡ 512 * (end - at) → at ≤ k → k < end → last_write k (entries_of client ps bytes) ≡ Some (sector (sectors_of bytes) (k - at))
last_write-run client at end [] bytes k run size ge lt = absurd (omega arith)
last_write-run client at end (p ∷ ps) bytes k run size ge lt =
    let le : at + p.count ≤ end = run_le (at + p.count) end ps run.2 in
    let room : 512 * p.count ≤ length bytes = omega arith in
    let front : length (take (512 * p.count) bytes) ≡ 512 * p.count = length-take-le (512 * p.count) bytes room in
    let rest : length (drop (512 * p.count) bytes) ≡ 512 * (end - (at + p.count)) = omega (arith, length-drop (512 * p.count) bytes) in
    let entry : HistoryEntry = entry_of client p (take (512 * p.count) bytes) in
    elim (cases_lt k (at + p.count)) [
      | inl here ↦
          let same : k - (8 * p.block + p.from) ≡ k - at = omega (arith, run.0) in
          ap (later (written k entry)) (last_write-run_before client (at + p.count) end ps (drop (512 * p.count) bytes) k run.2 here)
          ∙ written-entry_of client p (take (512 * p.count) bytes) k run.1 front (omega (arith, run.0)) (omega (arith, run.0))
          ∙ ap (λ (i : ℕ). Some (sector (sectors_of (take (512 * p.count) bytes)) i)) same
          ∙ ap (λ (s : List ℕ). Some s) (sector-sectors_of_take bytes p.count (k - at) (omega arith) room)
      | inr there ↦
          let same : p.count + (k - (at + p.count)) ≡ k - at = omega arith in
          ap (later (written k entry)) (last_write-run client (at + p.count) end ps (drop (512 * p.count) bytes) k run.2 rest there lt)
          ∙ ap (λ (s : List ℕ). Some s) (sector-sectors_of_drop bytes p.count (k - (at + p.count)) (omega arith))
          ∙ ap (λ (i : ℕ). Some (sector (sectors_of bytes) i)) same
    ]

-- a write of n sectors from s on writes each of them its bytes
pub last_write-entries_of : (client s n : ℕ) (bytes : List ℕ) (k : ℕ) → length bytes ≡ 512 * n → s ≤ k → k < s + n → last_write k (entries_of client (parts s n) bytes) ≡ Some (sector (sectors_of bytes) (k - s))
last_write-entries_of client s n bytes k size ge lt = last_write-run client s (s + n) (parts s n) bytes k (IsRun-parts s n) (omega arith) ge lt

-- and nothing to a sector before them
pub last_write-entries_of_before : (client s n : ℕ) (bytes : List ℕ) (k : ℕ) → k < s → last_write k (entries_of client (parts s n) bytes) ≡ None
last_write-entries_of_before client s n bytes k lt = last_write-run_before client s (s + n) (parts s n) bytes k (IsRun-parts s n) lt

-- nor to a sector behind them
pub last_write-entries_of_behind : (client s n : ℕ) (bytes : List ℕ) (k : ℕ) → s + n ≤ k → last_write k (entries_of client (parts s n) bytes) ≡ None
last_write-entries_of_behind client s n bytes k ge = last_write-run_behind client s (s + n) (parts s n) bytes k (IsRun-parts s n) ge

-- a write puts its sectors over the image
pub after-entries_of : (x : Image) (client s n : ℕ) (bytes : List ℕ) → length bytes ≡ 512 * n → s + n ≤ length x → after x (entries_of client (parts s n) bytes) ≡ overlay s (sectors_of bytes) x
after-entries_of x client s n bytes size room =
    let es : List HistoryEntry = entries_of client (parts s n) bytes in
    let many : length (sectors_of bytes) ≡ n = length-sectors_of bytes ∙ (omega arith) in
    let fits : s + length (sectors_of bytes) ≤ length x = omega arith in
    images_equal (after x es) (overlay s (sectors_of bytes) x)
    (length-after x es ∙ sym (length-overlay s (sectors_of bytes) x fits))
    (λ k h.
    sector-after x es k (omega (arith, length-after x es))
    ∙ (elim (cases_lt k s) [
      | inl before ↦ ap (standing (sector x k)) (last_write-entries_of_before client s n bytes k before) ∙ sym (sector-overlay_before s (sectors_of bytes) x k (omega arith) before)
      | inr from ↦ elim (cases_lt k (s + n)) [
        | inl inside ↦ ap (standing (sector x k)) (last_write-entries_of client s n bytes k size from inside) ∙ sym (sector-overlay_inside s (sectors_of bytes) x k (omega arith) from (omega arith))
        | inr behind ↦ ap (standing (sector x k)) (last_write-entries_of_behind client s n bytes k behind) ∙ sym (sector-overlay_behind s (sectors_of bytes) x k (omega arith) (omega arith))
      ]
    ]))

WritesWhole-run : (client at end : ℕ) (ps : List Part) (bytes : List ℕ) → IsRun at end ps → length bytes ≡ 512 * (end - at) → All WritesWhole (entries_of client ps bytes)
WritesWhole-run client at end [] bytes run size = All-nil WritesWhole
WritesWhole-run client at end (p ∷ ps) bytes run size =
    let le : at + p.count ≤ end = run_le (at + p.count) end ps run.2 in
    All-cons WritesWhole (entry_of client p (take (512 * p.count) bytes)) (entries_of client ps (drop (512 * p.count) bytes))
    (WritesWhole-entry_of client p (take (512 * p.count) bytes) run.1 (length-take-le (512 * p.count) bytes (omega arith)))
    (WritesWhole-run client (at + p.count) end ps (drop (512 * p.count) bytes) run.2 (omega (arith, length-drop (512 * p.count) bytes)))

-- the entries of a write write whole sectors
pub WritesWhole-entries_of : (client s n : ℕ) (bytes : List ℕ) → length bytes ≡ 512 * n → All WritesWhole (entries_of client (parts s n) bytes)
WritesWhole-entries_of client s n bytes size = WritesWhole-run client s (s + n) (parts s n) bytes (IsRun-parts s n) (omega arith)

-- what the parts of a request of n sectors from s on are: pieces of it, by rising block; each sector lies in the part of its block; the counts sum to n
pub record IsSplit (s n : ℕ) (ps : List Part) : Type 0 where
  pub each : All (IsPartOf s n) ps
  pub rising : (i j : ℕ) (d : Part) → i < j → j < length ps → (get_or ps i d).block < (get_or ps j d).block
  pub covers : (k : ℕ) (d : Part) → s ≤ k → k < s + n → (i : ℕ) × (i < length ps) × ((get_or ps i d).block ≡ k / 8) × (8 * (k / 8) + (get_or ps i d).from ≤ k) × (k < 8 * (k / 8) + (get_or ps i d).from + (get_or ps i d).count)
  pub total : sum_by (λ (p : Part). p.count) ps ≡ n

split_some : (s n : ℕ) → 1 ≤ n → IsSplit s n (parts s n)
split_some s n some = record {
  each = λ i d h. subst (IsPartOf s n) (sym (get_or-parts s n i d h)) (IsPartOf-part_in s n (s / 8 + i) some (omega arith) (omega (arith, length-parts s n some)));
  rising = λ i j d lt h.
      let l : i < length (parts s n) = omega arith in
      rw (get_or-parts s n i d l, get_or-parts s n j d h) (omega arith);
  covers = λ k d ge lt.
      let i : ℕ = k / 8 - s / 8 in
      let l : i < length (parts s n) = omega (arith, length-parts s n some) in
      let at : s / 8 + i ≡ k / 8 = omega arith in
      let is : get_or (parts s n) i d ≡ part_in s n (k / 8) = get_or-parts s n i d l ∙ ap (part_in s n) at in
      (i, l, ap (λ (p : Part). p.block) is, rw is (omega arith), rw is (omega arith));
  total = sum_by-parts s n;
}

-- the parts of a request are a split of it
pub IsSplit-parts : (s n : ℕ) → IsSplit s n (parts s n)
IsSplit-parts s zero = record {
  each = All-nil (IsPartOf s 0);
  rising = λ i j d lt h. absurd (omega arith);
  covers = λ k d ge lt. absurd (omega arith);
  total = refl;
}
IsSplit-parts s (suc n) = split_some s (suc n) (omega arith)

-- ---- putting partly

later_cases : (a b : Option (List ℕ)) (t : List ℕ) → later a b ≡ Some t → (a ≡ Some t) ⊎ (b ≡ Some t)
later_cases a None t is = inl is
later_cases a (Some u) t is = inr is

-- the last write is that of some entry
last_write-by : (k : ℕ) (es : List HistoryEntry) (t : List ℕ) → last_write k es ≡ Some t → (e : HistoryEntry) × Contains es e × (written k e ≡ Some t)
last_write-by k [] t is = absurd (cc)
last_write-by k (e ∷ es) t is = elim (later_cases (written k e) (last_write k es) t is) [
  | inl here ↦ (e, Contains-get_or (e ∷ es) 0 e (omega arith), here)
  | inr there ↦ let by = last_write-by k es t there in (by.0, Contains-append_right (e ∷ []) es by.0 by.1, by.2)
]

stood : (es fs : List HistoryEntry) (x : Image) (i : ℕ) (now : List ℕ) (last : Option (List ℕ)) → All (Contains es) fs → last_write i fs ≡ last → now ≡ standing (sector x i) last
    → (now ≡ sector x i) ⊎ ((e : HistoryEntry) × Contains es e × (written i e ≡ Some now))
stood es fs x i now None all was is = inl is
stood es fs x i now (Some t) all was is =
    let by = last_write-by i fs t was in
    inr (by.0, All-contains (Contains es) fs by.0 all by.1, by.2 ∙ ap (λ (s : List ℕ). Some s) (sym is))

-- some of the entries, put whole
pub puts_some : (es fs : List HistoryEntry) (x : Image) → All (Contains es) fs → PutsPartly es x (after x fs)
puts_some es fs x all = record {
  size = length-after x fs;
  each = λ i. elim (cases_lt i (length x)) [
    | inl lt ↦ stood es fs x i (sector (after x fs) i) (last_write i fs) all refl (sector-after x fs i lt)
    | inr past ↦ inl (get_or_past (after x fs) i [] (omega (arith, length-after x fs)) ∙ sym (get_or_past x i [] past))
  ];
}

-- all of them
pub puts_all : (es : List HistoryEntry) (x : Image) → PutsPartly es x (after x es)
puts_all es x = puts_some es es x (All-contains_itself es)

-- some of them, and then some of entries that are among them
pub puts_then : (es fs : List HistoryEntry) (x y z : Image) → All (Contains es) fs → PutsPartly es x y → PutsPartly fs y z → PutsPartly es x z
puts_then es fs x y z all first second = record {
  size = second.size ∙ first.size;
  each = λ i. elim (second.each i) [
    | inl same ↦ elim (first.each i) [
      | inl was ↦ inl (same ∙ was)
      | inr by ↦ inr (by.0, by.1, by.2 ∙ ap (λ (s : List ℕ). Some s) (sym same))
    ]
    | inr by ↦ inr (by.0, All-contains (Contains es) fs by.0 all by.1, by.2)
  ];
}

-- ---- the last writes alone

-- entries with the same last writes make the same image
pub after_same : (es fs : List HistoryEntry) (x : Image) → ((k : ℕ) → last_write k es ≡ last_write k fs) → after x es ≡ after x fs
after_same es fs x same =
    images_equal (after x es) (after x fs) (length-after x es ∙ sym (length-after x fs))
    (λ k h.
    let l : k < length x = omega (arith, length-after x es) in
    sector-after x es k l ∙ ap (standing (sector x k)) (same k) ∙ sym (sector-after x fs k l))

-- each sector of y is as it was in x, or as the last of the entries that write it does
pub record PutsLast (entries : List HistoryEntry) (x y : Image) : Type 0 where
  pub size : length y ≡ length x
  pub each : (i : ℕ) → (sector y i ≡ sector x i) ⊎ (last_write i entries ≡ Some (sector y i))

pub PutsLast-same : (es fs : List HistoryEntry) (x y : Image) → ((k : ℕ) → last_write k es ≡ last_write k fs) → PutsLast es x y → PutsLast fs x y
PutsLast-same es fs x y same last = record {
  size = last.size;
  each = λ i. elim (last.each i) [
    | inl kept ↦ inl kept
    | inr put ↦ inr (sym (same i) ∙ put)
  ];
}

-- so it is as one of them writes it
pub PutsPartly-from_last : (es : List HistoryEntry) (x y : Image) → PutsLast es x y → PutsPartly es x y
PutsPartly-from_last es x y last = record {
  size = last.size;
  each = λ i. elim (last.each i) [
    | inl kept ↦ inl kept
    | inr put ↦ inr (last_write-by i es (sector y i) put)
  ];
}
