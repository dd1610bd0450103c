use Rattle.std.proofs.Common.{refl, ◌∙◌, append_assoc}
use Rattle.std.proofs.lemmas.Result.{IfOk-weaker}
use Rattle.wb_tool.proofs.texts.super_text.Goals as goal

pub returns-in_ok-computed-in-Sum : goal.returns-in_ok-computed-in-Sum
returns-in_ok-computed-in-Sum c =
    rw c.in-Sum.is (IfOk-weaker c.format-in-Sum.result _ _ (λ text same. same ∙ rw (c.in_ok-stored-in-Sum.ensures, c.in_ok-computed-in-Sum.ensures) (simp append_assoc refl)) c.format-in-Sum.ensures.ok)
