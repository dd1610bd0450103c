-- What has been written of a segment's text.
use Rattle.std.specs.Prelude.{ℕ, ◌≡◌, ◌⊎◌, ◌+◌, ◌*◌, ◌<◌, ◌≤◌, List, length, slice_index}
use Rattle.wb_geometry.specs.Block.{IsClean}
use Rattle.wb_header.specs.Text.{id_in, length_in, number_in, bits_in, payload_in}

-- only bytes from `from` on and before `until` may differ
pub record IsSameOutside (from until : ℕ) (old new : List ℕ) : Type 0 where
  pub size : length new ≡ length old
  pub each : (at : ℕ) → (at < from) ⊎ (until ≤ at) → slice_index new at ≡ slice_index old at

-- the id and the number of blocks, and zeros to the end of the header
pub record HoldsFront (id count : ℕ) (text : List ℕ) : Type 0 where
  pub named : id_in text ≡ id
  pub counted : length_in text ≡ count
  pub zeros : (at : ℕ) → 13 ≤ at → at < 4096 → slice_index text at ≡ 0

-- the entry of block j, with its zeros
pub record HoldsEntry (number bits : ℕ) (text : List ℕ) (j : ℕ) : Type 0 where
  pub named : number_in text j ≡ number
  pub marked : bits_in text j ≡ bits
  pub zeros : (at : ℕ) → 521 + 16 * j ≤ at → at < 528 + 16 * j → slice_index text at ≡ 0

-- the bytes of block j, of which only the marked sectors hold others than zeros
pub record HoldsPayload (bits : ℕ) (payload text : List ℕ) (j : ℕ) : Type 0 where
  pub part : payload_in text j ≡ payload
  pub size : length payload ≡ 4096
  pub clean : IsClean bits payload
