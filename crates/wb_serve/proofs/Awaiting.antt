-- The flushes that a client posted, line after line.
use Rattle.std.proofs.Common.{ℕ, ◌≡◌, ◌+◌, ◌<◌, ◌≤◌, List, [], length, get_or, max, Option, None, Some, refl, sym, ap, ◌∙◌, subst, inl, inr, arith}
use Rattle.std.specs.List.{slice_get}
use Rattle.std.specs.Prelude.{IfSome}
use Rattle.std.proofs.lemmas.Option.{get_or_from_slice_get, none-some}
use Rattle.std.proofs.lemmas.Bool.{cases_lt}
use Rattle.wb_geometry.specs.Device.{State}
use Rattle.wb_geometry.specs.declared.which.Which.{Which}
use Rattle.wb_script.specs.Transcripts.{covered_line}
use Rattle.wb_script.specs.declared.transcript.Line.{Line}
use Rattle.wb_engine.specs.Content.{EngineContent}
use Rattle.wb_engine.specs.Settling.{stable_places}
use Rattle.wb_serve.specs.Playing.{HasMoved, awaited_line}
use Rattle.wb_serve.proofs.Played.{stable_later}

-- who is up later was up before
pub was_up : (before now : Option Which) → IfSome before (λ which. now ≡ Some which) → now ≡ None → before ≡ None
was_up None now stays up = refl
was_up (Some which) now stays up = absurd (none-some which (sym up ∙ stays))

-- what an awaited line covers, where the engine is up
abbrev pub IsCovered : {L B : Type 0} → EngineContent L B → Line → Type 0
IsCovered e line = covered_line line ≤ max (awaited_line line) (stable_places e)

module _ {L B : Type 0} {of_log : L → State} {of_backing : B → State} where
  -- the first so many lines were awaited, and now one more
  pub awaited_more : {e f : EngineContent L B} (lines : List Line) (index : ℕ) (line : Line) → slice_get lines index ≡ Some line → HasMoved of_log of_backing e f [] 0 0
      → (e.down ≡ None → (k : ℕ) (d : Line) → k < index → k < length lines → IsCovered e (get_or lines k d))
      → (f.down ≡ None → IsCovered f line)
      → f.down ≡ None → (k : ℕ) (d : Line) → k < index + 1 → k < length lines → IsCovered f (get_or lines k d)
  awaited_more {e} {f} lines index line at moved before here up k d below inside = elim (cases_lt k index) [
    | inl less ↦
        let covers = before (was_up e.down f.down moved.stays_down up) k d less inside in
        let later : stable_places e ≤ stable_places f = stable_later moved in
        omega (arith, covers, later)
    | inr past ↦
        let is : k ≡ index = omega (arith, past, below) in
        let read : get_or lines k d ≡ line = ap (λ (i : ℕ). get_or lines i d) is ∙ get_or_from_slice_get lines index line d at in
        subst (IsCovered f) (sym read) (here up)
  ]
