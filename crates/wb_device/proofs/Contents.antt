-- What a read and a write of a list of bytes are in sectors.
use Rattle.std.proofs.Common.{◌≡◌, ℕ, ◌+◌, ◌-◌, ◌*◌, ◌/◌, ◌%◌, ◌≤◌, List, ◌++◌, length, take, drop, Vec, Some, sym, ◌∙◌, ap, arith, append_assoc, length-append, length-take, length-drop}
use Rattle.std.specs.Vec.{with_items}
use Rattle.std.proofs.lemmas.List.{drop-drop, with_items_is}
use Rattle.std.proofs.lemmas.Option.{same_Some}
use Rattle.wb_geometry.specs.Image.{sectors_of, bytes_at, overlay}
use Rattle.wb_geometry.proofs.Images.{bytes_at-sectors_of, sectors_of-overlay}
use Rattle.wb_geometry.specs.Device.{State, HoldsContent}

-- a read of n bytes from `start` on, where the sector `at` begins
pub read_holds : {s : State} (at n start : ℕ) (into bytes : List ℕ) → s.content ≡ Some (sectors_of bytes) → start ≡ at * 512
    → length into ≡ n → n % 512 ≡ 0 → at + n / 512 ≤ length bytes / 512 → into ≡ take (start + n - start) (drop start bytes) → HoldsContent at into s
read_holds {s} at n start into bytes content begins size whole inside copied = record {
  told = λ x told.
      let first : start ≡ 512 * at = omega arith in
      let count : start + n - start ≡ n = omega arith in
      let sectors : n ≡ 512 * (n / 512) = omega arith in
      let read : into ≡ bytes_at (sectors_of bytes) at (n / 512) =
      copied ∙ ap (λ (k : ℕ). take k (drop start bytes)) (count ∙ sectors) ∙ ap (λ (k : ℕ). take (512 * (n / 512)) (drop k bytes)) first
      ∙ sym (bytes_at-sectors_of bytes at (n / 512) inside) in
      rw (size, same_Some x (sectors_of bytes) (sym told ∙ content)) read;
}

-- a write of these bytes from `start` on, where the sector `at` begins
pub lays_over : (at start n : ℕ) (written bytes : List ℕ) → start ≡ at * 512 → n ≡ length written → length written % 512 ≡ 0
    → at + length written / 512 ≤ length bytes / 512
    → sectors_of (take start bytes ++ (written ++ drop n (drop start bytes))) ≡ overlay at (sectors_of written) (sectors_of bytes)
lays_over at start n written bytes begins size whole inside =
    let first : start ≡ 512 * at = omega arith in
    let room : 512 * at + length written ≤ length bytes = omega arith in
    let parts : take start bytes ++ (written ++ drop n (drop start bytes)) ≡ take (512 * at) bytes ++ written ++ drop (512 * at + length written) bytes =
    rw (drop-drop n start bytes, first, size, ← append_assoc) in
    ap sectors_of parts ∙ sectors_of-overlay at written bytes whole room

-- the same in a vector
pub write_lays_over : {Z : Type 0} (at start n : ℕ) (written : List ℕ) (v : Vec ℕ Z) → start ≡ at * 512 → n ≡ length written → length written % 512 ≡ 0
    → at + length written / 512 ≤ length v.items / 512
    → sectors_of (with_items v (take start v.items ++ (written ++ drop n (drop start v.items)))).items ≡ overlay at (sectors_of written) (sectors_of v.items)
write_lays_over at start n written v begins size whole inside =
    ap sectors_of (with_items_is v _ (simp (length-append, length-take, length-drop) (omega (arith, v.ok.0)))) ∙ lays_over at start n written v.items begins size whole inside
