-- The bytes of a sector of a block, as they lie in memory.
use Rattle.std.proofs.Common.{ℕ, ◌≡◌, ◌≢◌, ◌+◌, ◌-◌, ◌*◌, ◌/◌, ◌^◌, ◌<◌, List, length, take, drop, get_or, Some, None, sym, ap, ◌∙◌, bit_and, arith}
use Rattle.std.specs.List.{position}
use Rattle.std.specs.Int.{bit_at}
use Rattle.std.proofs.lemmas.Nat.{and_mask}
use Rattle.std.proofs.lemmas.Nat.Bits.{bit_at-lt}
use Rattle.std.proofs.lemmas.List.{length-map, get_or-map}
use Rattle.wb_geometry.specs.Image.{sector, sectors_of}
use Rattle.wb_geometry.specs.History.{last_write}
use Rattle.wb_geometry.proofs.Images.{sector-sectors_of}
use Rattle.wb_header.specs.Text.{TextBlock, no_block, AreDistinct}
use Rattle.wb_header.specs.Segments.{block_of, blocks_of}
use Rattle.wb_header.specs.Standing.{entries_of, block_at}
use Rattle.wb_header.specs.declared.sealed.Cached.{Cached}
use Rattle.wb_header.proofs.Standings.{AreDistinct-one, last_write-block, last_write-no_block}
use Rattle.wb_ram.proofs.Merges.{has_number, found_inside, found_number, unfound_at}

-- no block of this number
pub sector_unfound : (blocks : List Cached) (number i : ℕ) → i < 8 → position (has_number number) blocks ≡ None → last_write (8 * number + i) (entries_of (blocks_of blocks)) ≡ None
sector_unfound blocks number i eight none =
    last_write-no_block (blocks_of blocks) number i eight (λ j below is. absurd (unfound_at blocks number j none below is))

-- the block that was found
block_found : (blocks : List Cached) (number index : ℕ) (cached : Cached) → position (has_number number) blocks ≡ Some index → cached ≡ get_or blocks index cached → block_at (blocks_of blocks) index ≡ block_of cached
block_found blocks number index cached found read =
    get_or-map block_of blocks index cached no_block (omega (arith, found_inside blocks number index found, length-map blocks block_of)) ∙ ap block_of (sym read)

-- it hasn't the bit
pub sector_unset : (blocks : List Cached) (number index i : ℕ) (cached : Cached) → i < 8 → AreDistinct (blocks_of blocks) → position (has_number number) blocks ≡ Some index → cached ≡ get_or blocks index cached
    → bit_and (cached.payload.value.bits / 2 ^ i) 1 ≡ 0 → last_write (8 * number + i) (entries_of (blocks_of blocks)) ≡ None
sector_unset blocks number index i cached eight distinct found read unset =
    last_write-no_block (blocks_of blocks) number i eight (λ j below is set.
    let one : j ≡ index = AreDistinct-one (blocks_of blocks) j index distinct below (found_inside blocks number index found) (is ∙ sym (found_number blocks number index found)) in
    let here : block_at (blocks_of blocks) j ≡ block_of cached = ap (block_at (blocks_of blocks)) one ∙ block_found blocks number index cached found read in
    let bit : bit_at cached.payload.value.bits i ≡ 1 = sym (ap (λ (b : TextBlock). bit_at b.bits i) here) ∙ set in
    absurd (omega (arith, unset, and_mask (cached.payload.value.bits / 2 ^ i) 1, bit)))

-- it has the bit
pub sector_set : (blocks : List Cached) (number index i start : ℕ) (cached : Cached) → i < 8 → AreDistinct (blocks_of blocks) → position (has_number number) blocks ≡ Some index → cached ≡ get_or blocks index cached
    → bit_and (cached.payload.value.bits / 2 ^ i) 1 ≢ 0 → length cached.payload.value.payload ≡ 4096 → start ≡ i * 512
    → Some (take (start + 512 - start) (drop start cached.payload.value.payload)) ≡ last_write (8 * number + i) (entries_of (blocks_of blocks))
sector_set blocks number index i start cached eight distinct found read set size at =
    let here : block_at (blocks_of blocks) index ≡ block_of cached = block_found blocks number index cached found read in
    let bit : bit_at cached.payload.value.bits i ≡ 1 = omega (arith, set, and_mask (cached.payload.value.bits / 2 ^ i) 1, bit_at-lt cached.payload.value.bits i) in
    let front : start ≡ 512 * i = omega arith in
    let count : start + 512 - start ≡ 512 = omega arith in
    ap (λ (n : ℕ). Some (take n (drop start cached.payload.value.payload))) count
    ∙ ap (λ (n : ℕ). Some (take 512 (drop n cached.payload.value.payload))) front
    ∙ ap (λ (s : List ℕ). Some s) (sym (sector-sectors_of cached.payload.value.payload i (omega arith)))
    ∙ sym (ap (λ (b : TextBlock). Some (sector (sectors_of b.payload) i)) here)
    ∙ sym (last_write-block (blocks_of blocks) index i distinct (found_inside blocks number index found) eight (ap (λ (b : TextBlock). bit_at b.bits i) here ∙ bit))
    ∙ ap (λ (n : ℕ). last_write (8 * n + i) (entries_of (blocks_of blocks))) (found_number blocks number index found)
