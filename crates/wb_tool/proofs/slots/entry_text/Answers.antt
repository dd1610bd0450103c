use Rattle.std.proofs.Common.{◌∙◌, ◌++◌, ◌∷◌, [], ap, sym, codes, ℕ}
use Rattle.std.proofs.lemmas.Result.{IfOk-weaker}
use Rattle.std.specs.Fmt.{decimal}
use Rattle.hex.specs.Hex.{encode_lower}
use Rattle.wb_header.specs.Text.{number_in}
use Rattle.wb_script.specs.Output.{newline}
use Rattle.wb_tool.proofs.Shapes.{entry_shape}
use Rattle.wb_tool.proofs.slots.entry_text.Goals as goal

pub returns : goal.returns
returns c = λ bytes j block bits. IfOk-weaker c.format.result _ _ (λ text same.
    same ∙ entry_shape (decimal c.args.entry.block) _
    ∙ ap (λ digits. codes "block " ++ decimal c.args.entry.block ++ codes " bits " ++ digits ++ newline) c.in_ok-bits.ensures
    ∙ ap (λ (n : ℕ). codes "block " ++ decimal n ++ codes " bits " ++ encode_lower (c.args.entry.bits ∷ []) ++ newline) (sym block)
    ∙ ap (λ (n : ℕ). codes "block " ++ decimal (number_in bytes j) ++ codes " bits " ++ encode_lower (n ∷ []) ++ newline) (sym bits))
    c.format.ensures.ok
