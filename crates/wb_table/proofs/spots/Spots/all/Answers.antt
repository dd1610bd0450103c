-- One more spot.
use Rattle.std.proofs.Common.{◌∙◌, arith, sym, inl, inr, subst, ◌≡◌, slice_index_or, slice_set}
use Rattle.std.proofs.lemmas.Bool.{cases_eq}
use Rattle.std.proofs.lemmas.List.{get_or-set_same, get_or-set_other, length-set}
use Rattle.wb_table.specs.Lookup.{nowhere}
use Rattle.wb_table.specs.Tables.{spot_of}
use Rattle.wb_table.proofs.spots.Spots.all.Goals as goal

pub loop-i-preserved : goal.loop-i-preserved
loop-i-preserved c = record {
  size = length-set c.loop-i.all c.loop-i.i c.get.result ∙ c.loop-i.invariant.size;
  done = λ k low. elim (cases_eq k c.loop-i.i) [
    | inl same ↦ subst (λ at. slice_index_or (slice_set c.loop-i.all c.loop-i.i c.get.result) at nowhere ≡ spot_of c.args.self.now at) (sym same)
        (get_or-set_same c.loop-i.all c.loop-i.i c.get.result nowhere (omega (arith, c.loop-i.invariant.size)) ∙ c.get.ensures)
    | inr other ↦ get_or-set_other c.loop-i.all c.loop-i.i k c.get.result nowhere other ∙ c.loop-i.invariant.done k (omega arith)
  ];
}
