use Rattle.std.proofs.Common.{inl, inr, refl, ◌∙◌}
use Rattle.wb_tool.proofs.Servings.{took_same}
use Rattle.wb_tool.proofs.serving.tell_fault.Goals as goal

pub returns : goal.returns
returns g c =
    inr (inr (inr (inl (
      (c.if-session.false, c.if-session-2.false),
      c.if-not-session.false,
      refl,
      took_same _ _ _ c.tell-2.ensures (c.as_str.ensures.value ∙ c.in-Ok.ensures),
    ))))
