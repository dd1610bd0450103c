use Rattle.std.proofs.Common.{inr, refl, ◌∙◌}
use Rattle.wb_tool.proofs.Servings.{took_same}
use Rattle.wb_tool.proofs.opening.refuse_stray.Goals as goal

pub returns : goal.returns
returns g c = inr (refl, took_same _ _ _ c.tell.ensures (c.as_str.ensures.value ∙ c.in-Ok.ensures))
