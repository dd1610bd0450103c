use Rattle.std.proofs.Common.{◌≡◌, refl, sym, subst, ◌∙◌, append_assoc, IfOk}
use Rattle.std.proofs.lemmas.Result.{IfOk-weaker}
use Rattle.std.specs.String.{string_bytes}
use Rattle.wb_geometry.specs.declared.which.Which.TheVariants.{Log, Backing}
use Rattle.wb_tool.specs.Texts.{small_line}
use Rattle.wb_tool.proofs.texts.small_text.Goals as goal

pub returns-in-Log : goal.returns-in-Log
returns-in-Log c =
    subst (λ device. IfOk c.format.result (λ text. string_bytes text ≡ small_line device c.args.has c.args.needs)) (sym c.in-Log.is)
    (IfOk-weaker c.format.result _ (λ text. string_bytes text ≡ small_line Log c.args.has c.args.needs) (λ text same. same ∙ simp append_assoc refl) c.format.ensures.ok)

pub returns-in-Backing : goal.returns-in-Backing
returns-in-Backing c =
    subst (λ device. IfOk c.format-in-Backing.result (λ text. string_bytes text ≡ small_line device c.args.has c.args.needs)) (sym c.in-Backing.is)
    (IfOk-weaker c.format-in-Backing.result _ (λ text. string_bytes text ≡ small_line Backing c.args.has c.args.needs) (λ text same. same ∙ simp append_assoc refl) c.format-in-Backing.ensures.ok)
