use Rattle.std.proofs.Common.{◌+◌, ◌*◌, ◌≤◌, length, ◌∙◌, inl, inr, arith, below_more}
use Rattle.wb_header.proofs.Writing.{HoldsEntry-kept, HoldsEntry-of, wider, then}
use Rattle.wb_header.proofs.encoding.write_entries.Goals as goal

pub write_entry-requires-clause-zeros : goal.write_entry-requires-clause-zeros
write_entry-requires-clause-zeros c at first last =
    let few : length c.args.segment.now.blocks ≤ 127 = c.len-count.ensures.segment.few in
    c.loop-index.invariant.others.each at (inr (omega arith)) ∙ c.requires.zeros at (omega arith) (omega arith)

pub loop-index-preserved : goal.loop-index-preserved
loop-index-preserved c =
    let blocks = c.args.segment.now.blocks in
    let i = c.loop-index.index in
    let few : length blocks ≤ 127 = c.len-count.ensures.segment.few in
    record {
      entries = below_more _ _
          (λ j below. HoldsEntry-kept _ _ j c.write_entry.ensures.others (c.loop-index.invariant.entries j below) (inl (omega arith)) (omega arith))
          (HoldsEntry-of _ _ _ _ c.meta-meta.ensures.block c.meta-meta.ensures.bits c.write_entry.ensures.entry);
      others = then (wider 512 (512 + 16 * (i + 1)) c.loop-index.invariant.others (omega arith) (omega arith)) (wider 512 (512 + 16 * (i + 1)) c.write_entry.ensures.others (omega arith) (omega arith));
    }
