use Rattle.std.proofs.Common.{[], refl, sym, ap, ◌∙◌, get_or}
use Rattle.wb_script.proofs.Words.{kept_word, no_word}
use Rattle.wb_script.specs.Grammar.{words}
use Rattle.wb_script.proofs.parsing.words.Words.get.Goals as goal

pub returns-then-index-self : goal.returns-then-index-self
returns-then-index-self c =
    kept_word (words c.self.inside.line.now) c.self.inside.first c.self.inside.count c.args.index _ c.self.invariant.1 c.if-index-self.true c.requires refl
    ∙ ap (λ parts. get_or parts c.args.index []) c.self.view_is

pub returns-else-index-self : goal.returns-else-index-self
returns-else-index-self c =
    sym (no_word (words c.self.inside.line.now) c.self.inside.count c.args.index c.self.invariant.0 c.if-index-self.false c.requires)
    ∙ ap (λ parts. get_or parts c.args.index []) c.self.view_is
