-- The words of a line that are kept, next to all of them.
use Rattle.std.proofs.Common.{ℕ, ◌≡◌, ◌<◌, ◌≤◌, List, [], length, take, Bor, map, get_or, inl, inr, sym, ap, ◌∙◌, arith}
use Rattle.std.proofs.lemmas.Bool.{cases_lt}
use Rattle.std.proofs.lemmas.List.{length-take, length-map, get_or-take, get_or-map, get_or_past}

-- one of the words that are kept, the first six
pub kept_word : (parts : List (List ℕ)) (first : List (Bor (List ℕ))) (count at : ℕ) (other : Bor (List ℕ)) → map (λ part. part.now) (take count first) ≡ take 6 parts
    → at < count → at < 6 → other.now ≡ [] → (get_or first at other).now ≡ get_or parts at []
kept_word parts first count at other kept below six none =
    elim (cases_lt at (length first)) [
      | inl inside ↦
          let within : at < length (take count first) = omega (arith, length-take count first) in
          ap (λ part. part.now) (sym (get_or-take count first at other below))
          ∙ sym (get_or-map (λ part. part.now) (take count first) at other [] within)
          ∙ ap (λ all. get_or all at []) kept ∙ get_or-take 6 parts at [] six
      | inr past ↦
          let few : length parts ≤ at = omega (arith, ap length kept, length-map (take count first) (λ part. part.now), length-take count first, length-take 6 parts) in
          ap (λ part. part.now) (get_or_past first at other past) ∙ none ∙ sym (get_or_past parts at [] few)
    ]

-- there is no such word
pub no_word : (parts : List (List ℕ)) (count at : ℕ) → count ≡ length (take 6 parts) → count ≤ at → at < 6 → get_or parts at [] ≡ []
no_word parts count at counted past six = get_or_past parts at [] (omega (arith, length-take 6 parts))
