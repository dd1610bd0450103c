-- The lines that are told of a slot.
use Rattle.std.proofs.Common.{◌≡◌, ◌+◌, ◌++◌, ◌∷◌, List, [], ℕ, zero, suc, sym, ap, ◌∙◌, arith, append_assoc, append-nil, codes}
use Rattle.std.specs.List.{flat_map, range_with_len}
use Rattle.std.specs.Fmt.{decimal}
use Rattle.std.proofs.lemmas.Grind.{flat_map-append}
use Rattle.wb_header.specs.Text.{id_in, length_in, sum_in}
use Rattle.wb_script.specs.Output.{newline}
use Rattle.wb_script.specs.Output.{sum_text}
use Rattle.wb_tool.specs.SlotTexts.{slot_name, segment_line, entry_line, entries_text}
use Rattle.wb_tool.proofs.Shapes.{segment_shape}

pub segment_told : (slot id size sum : ℕ) (bytes digits : List ℕ) → id ≡ id_in bytes → size ≡ length_in bytes → sum ≡ sum_in bytes → digits ≡ sum_text sum
    → codes "slot " ++ (decimal slot ++ (codes " id " ++ (decimal id ++ (codes " length " ++ (decimal size ++ (codes " sum " ++ (digits ++ newline))))))) ≡ segment_line slot bytes
segment_told slot id size sum bytes digits id_is size_is sum_is digits_are =
    segment_shape (decimal slot) (decimal id) (decimal size) digits
    ∙ ap (λ (t : List ℕ). slot_name slot ++ codes " id " ++ decimal id ++ codes " length " ++ decimal size ++ codes " sum " ++ t ++ newline) (digits_are ∙ ap sum_text sum_is)
    ∙ ap (λ (n : ℕ). slot_name slot ++ codes " id " ++ decimal n ++ codes " length " ++ decimal size ++ codes " sum " ++ sum_text (sum_in bytes) ++ newline) id_is
    ∙ ap (λ (n : ℕ). slot_name slot ++ codes " id " ++ decimal (id_in bytes) ++ codes " length " ++ decimal n ++ codes " sum " ++ sum_text (sum_in bytes) ++ newline) size_is

range_more : (a n : ℕ) → range_with_len a (suc n) ≡ range_with_len a n ++ (a + n) ∷ []
range_more a zero = let same : a ≡ a + 0 = omega arith in ap (λ (k : ℕ). k ∷ []) same
range_more a (suc n) =
    let same : (a + 1) + n ≡ a + suc n = omega arith in
    ap (λ (xs : List ℕ). a ∷ xs) (range_more (a + 1) n ∙ ap (λ (k : ℕ). range_with_len (a + 1) n ++ k ∷ []) same)

-- one line more
pub entries_more : (bytes : List ℕ) (n : ℕ) → entries_text bytes n ++ entry_line bytes n ≡ entries_text bytes (suc n)
entries_more bytes n =
    let same : 0 + n ≡ n = omega arith in
    sym (ap (flat_map (entry_line bytes)) (range_more 0 n ∙ ap (λ (k : ℕ). range_with_len 0 n ++ k ∷ []) same)
    ∙ flat_map-append (entry_line bytes) (range_with_len 0 n) (n ∷ [])
    ∙ ap (λ (t : List ℕ). entries_text bytes n ++ t) (append-nil (entry_line bytes n)))

-- a line behind the others
pub line_more : (first bytes text line : List ℕ) (n : ℕ) → text ≡ first ++ entries_text bytes n → line ≡ entry_line bytes n → text ++ line ≡ first ++ entries_text bytes (n + 1)
line_more first bytes text line n so_far next =
    ap (λ (t : List ℕ). t ++ line) so_far ∙ ap (λ (t : List ℕ). (first ++ entries_text bytes n) ++ t) next
    ∙ append_assoc first (entries_text bytes n) (entry_line bytes n) ∙ ap (λ (t : List ℕ). first ++ t) (let next_is : suc n ≡ n + 1 = omega arith in entries_more bytes n ∙ ap (entries_text bytes) next_is)
