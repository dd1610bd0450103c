-- Lemmas on reading a script and on what a run answers for.
use Rattle.std.proofs.Common.{◌≡◌, ◌+◌, ◌<◌, ◌≤◌, List, [], ◌++◌, length, take, ℕ, refl, sym, ◌∙◌, ap, arith, append_assoc, append-nil, Option, Some, None}
use Rattle.std.proofs.Math.Seq.{take-append_seam, take_all}
use Rattle.std.specs.Io.KnownBytes.{Consumes, IsAtEnd}
use Rattle.wb_script.specs.Grammar.{most_bytes}
use Rattle.wb_tool.specs.Run.{script_bytes}
use Rattle.wb_tool.specs.Reads.{IsRead, IsPiece}

-- these bytes were taken from the source, and no more than may be
pub record IsReading (before now : Option (List ℕ)) (bytes : List ℕ) : Type 0 where
  pub taken : Consumes before now bytes
  pub few : length bytes ≤ most_bytes + 1

abbrev Known : Type 0
Known = Option (List ℕ)

Consumes-more : (a b c : Known) (xs ys : List ℕ) → Consumes a b xs → Consumes b c ys → Consumes a c (xs ++ ys)
Consumes-more None b c xs ys first second = tt
Consumes-more (Some x) None c xs ys first second = absurd first
Consumes-more (Some x) (Some y) None xs ys first second = absurd second
Consumes-more (Some x) (Some y) (Some z) xs ys first second = first ∙ ap (λ l. xs ++ l) second ∙ sym (append_assoc xs ys z)

-- before the first piece
pub reading_nothing : (a : Known) → IsReading a a []
reading_nothing None = record { taken = tt; few = omega arith }
reading_nothing (Some x) = record { taken = refl; few = omega arith }

-- one piece more
pub reading_more : (a b c : Known) (old new : List ℕ) (count : ℕ) → IsReading a b old → IsPiece b c old new count → IsReading a c new
reading_more a b c old new count so_far next = record {
  taken = rw next.grew (Consumes-more a b c old next.piece so_far.taken next.taken);
  few = next.few;
}

front_all : (n : ℕ) (xs bytes ys : List ℕ) → xs ≡ bytes ++ ys → ys ≡ [] → length bytes ≤ n → bytes ≡ take n xs
front_all n xs bytes ys split none fits = sym (ap (take n) (split ∙ ap (λ l. bytes ++ l) none ∙ append-nil bytes) ∙ take_all n bytes fits)

front_cut : (n : ℕ) (xs bytes ys : List ℕ) → xs ≡ bytes ++ ys → length bytes ≡ n → bytes ≡ take n xs
front_cut n xs bytes ys split size = sym (ap (take n) split ∙ ap (λ k. take k (bytes ++ ys)) (sym size) ∙ take-append_seam bytes ys)

-- the source is at its end
pub read_whole : (a b : Known) (bytes : List ℕ) → IsReading a b bytes → IsAtEnd b → IsRead a b bytes
unfolding script_bytes
read_whole None b bytes so_far end = record { bytes_are = tt; at_end = λ _. end; taken = so_far.taken; few = so_far.few }
read_whole (Some x) None bytes so_far end = absurd so_far.taken
read_whole (Some x) (Some y) bytes so_far end = record { bytes_are = front_all (most_bytes + 1) x bytes y so_far.taken end so_far.few; at_end = λ _. end; taken = so_far.taken; few = so_far.few }

-- there are more bytes than a script may have
pub read_cut : (a b : Known) (bytes : List ℕ) → IsReading a b bytes → most_bytes < length bytes → IsRead a b bytes
unfolding script_bytes
read_cut None b bytes so_far many = record { bytes_are = tt; at_end = λ few. absurd (omega arith); taken = so_far.taken; few = so_far.few }
read_cut (Some x) None bytes so_far many = absurd so_far.taken
read_cut (Some x) (Some y) bytes so_far many = record {
  bytes_are = front_cut (most_bytes + 1) x bytes y so_far.taken (omega (arith, so_far.few));
  at_end = λ few. absurd (omega arith);
  taken = so_far.taken;
  few = so_far.few;
}
