-- The passes of a front that was just opened.
use Rattle.std.proofs.Common.{ℕ, ◌≡◌, List, [], ◌∷◌, ◌++◌, length, Some, refl, ap, sym, ◌∙◌}
use Rattle.std.specs.Prelude.{slice_get}
use Rattle.atomic_table.specs.Seated.{TableId}
use Rattle.wb_steps.specs.declared.view.View.{View}
use Rattle.wb_intake.specs.Passes.{pass_name, client_of_pass, view_of, AreNewcomers}
use Rattle.wb_intake.specs.declared.pass.Pass.{Pass}

-- the one behind these has done nothing, and is of the client of its number
pub newcomer_at : (name : TableId) (limit n : ℕ) (passes front more : List Pass) (p : Pass) → passes ≡ front ++ p ∷ more → length front ≡ n → AreNewcomers name limit passes
    → ((pass_name p ≡ name) × ((view_of p).unfilled ≡ [])) × (client_of_pass p ≡ n) × ((view_of p).told ≡ []) × ((view_of p).heard ≡ [])
newcomer_at name limit n passes front more p is count each =
    let h = each (length front) p (ap (λ (l : List Pass). slice_get l (length front)) is ∙ seam front) in
    ((h.0, ap (λ (v : View). v.unfilled) h.1), sym p.owns.1 ∙ ap (λ (v : View). v.client) h.1 ∙ count, ap (λ (v : View). v.told) h.1, ap (λ (v : View). v.heard) h.1)
  where
    seam : (xs : List Pass) → slice_get (xs ++ p ∷ more) (length xs) ≡ Some p
    seam [] = refl
    seam (x ∷ xs) = seam xs
