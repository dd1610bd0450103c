-- Once all ids are spent they stay so.
use Rattle.std.proofs.Common.{ℕ, ◌≡◌, ◌-◌, ◌*◌, ◌^◌, List, [], length, ap, subst, ◌∙◌, arith}
use Rattle.wb_geometry.specs.History.{HistoryEntry}
use Rattle.wb_geometry.specs.Layout.{places}
use Rattle.wb_geometry.specs.Device.{State}
use Rattle.wb_geometry.specs.declared.geometry.Geometry.{Geometry}
use Rattle.wb_engine.specs.Content.{EngineContent}
use Rattle.wb_serve.specs.Playing.{HasMoved, AreSpent}

module _ {L B : Type 0} {of_log : L → State} {of_backing : B → State} where
  pub still_spent : {e f : EngineContent L B} {es : List HistoryEntry} {m n : ℕ} → HasMoved of_log of_backing e f es m n → es ≡ [] → AreSpent e → AreSpent f
  still_spent {e} {f} {es} moved none spent =
      let size : length es ≡ 0 = ap length none in
      let still : f.absorbed ≡ e.absorbed = omega (arith, size, moved.absorbed) in
      let P : Geometry × ℕ → Type 0 = λ t. e.absorbed ≡ places t.0 * (2 ^ 48 - t.1) in
      let was : P (e.geometry, e.numbers.first) = spent in
      let same : (e.geometry, e.numbers.first) ≡ (f.geometry, f.numbers.first) = cc (moved.kept.geometry, moved.kept.first) in
      still ∙ subst P same was
