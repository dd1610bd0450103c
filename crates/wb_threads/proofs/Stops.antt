-- Which lines say that a write was stopped for want of an id.
use Rattle.std.proofs.Common.{◌≡◌, ℕ, ◌+◌, ◌<◌, ◌≤◌, inl, inr, List, length, slice_index_or, Any, Bool, true, false, refl, sym, ap, ◌∙◌, subst, arith}
use Rattle.std.proofs.lemmas.Bool.{cases_eq, cases_Bool}
use Rattle.wb_script.specs.Transcripts.{HasStop}
use Rattle.wb_script.specs.declared.transcript.Line.{Line}
use Rattle.wb_script.specs.declared.transcript.Stop.TheVariants.{Ids}
use Rattle.wb_serve.specs.Playing.{is_stopped_line}
use Rattle.wb_serve.proofs.Flags.{line_stopped}

pub line_goes_on : (line : Line) → is_stopped_line line ≡ false → HasStop Ids line → ⊥
line_goes_on line not has = let both : true ≡ false = sym (line_stopped line has) ∙ not in absurd (cc)

-- of the first so many there is none of which this holds
abbrev pub AreNone : {X : Type 0} (P : X → Type 0) (xs : List X) (n : ℕ) → Type 0
AreNone {X} P xs n = (k : ℕ) (d : X) → k < n → P (slice_index_or xs k d) → ⊥

pub none_first : {X : Type 0} (P : X → Type 0) (xs : List X) → AreNone P xs 0
none_first P xs k d low has = absurd (omega (arith, low))

pub none_next : {X : Type 0} (P : X → Type 0) (xs : List X) (n : ℕ) → AreNone P xs n → ((d : X) → P (slice_index_or xs n d) → ⊥) → AreNone P xs (n + 1)
none_next {X} P xs n before here k d low = elim (cases_eq k n) [
  | inl this ↦ subst (λ (j : ℕ). P (slice_index_or xs j d) → ⊥) (sym this) (here d)
  | inr other ↦ before k d (omega (arith, low, other))
]

pub none_of_all : {X : Type 0} (P : X → Type 0) (xs : List X) (n : ℕ) → length xs ≤ n → AreNone P xs n → Any P xs → ⊥
none_of_all P xs n all none has = none has.0 has.1 (omega (arith, has.2, all)) (subst P (sym has.3) has.4)
