use Rattle.std.proofs.Common.{refl, ◌∙◌, append_assoc}
use Rattle.std.proofs.lemmas.Result.{IfOk-weaker}
use Rattle.wb_tool.proofs.texts.stray_text.Goals as goal

pub returns : goal.returns
returns c = IfOk-weaker c.format.result _ _ (λ text same. same ∙ simp append_assoc refl) c.format.ensures.ok
