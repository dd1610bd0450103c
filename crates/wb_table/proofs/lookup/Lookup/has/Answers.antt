-- A block is there where a look-up finds it.
use Rattle.std.proofs.Common.{◌≡◌, ◌∙◌, sym, ap}
use Rattle.std.specs.Option.{is_some}
use Rattle.wb_table.specs.Tables.{spots_in}
use Rattle.wb_table.proofs.Soundness.{there_from_lookup, lookup_from_there}
use Rattle.wb_table.proofs.lookup.Lookup.has.Goals as goal

pub returns : goal.returns
returns c =
    let table = c.args.self.now in
    let is : c.is_some.result ≡ is_some (spots_in table c.args.block) =
    c.is_some.ensures ∙ ap is_some c.get.ensures ∙ ap (λ t. is_some (spots_in t c.args.block)) c.self.view_is in
    (λ found. there_from_lookup table c.args.block (sym is ∙ found), λ there. is ∙ lookup_from_there table c.args.block there)
