use Rattle.std.proofs.Common.{◌+◌, ◌*◌, inl, arith, below_more}
use Rattle.wb_header.proofs.Writing.{HoldsPayload-kept, HoldsPayload-of, wider, then}
use Rattle.wb_header.proofs.encoding.write_payloads.Goals as goal

pub loop-index-preserved : goal.loop-index-preserved
loop-index-preserved c =
    let blocks = c.args.segment.now.blocks in
    let i = c.loop-index.index in
    record {
      payloads = below_more _ _
          (λ j below. HoldsPayload-kept _ _ j c.write_payload.ensures.others (c.loop-index.invariant.payloads j below) (inl (omega arith)) (omega arith))
          (HoldsPayload-of _ _ c.payload.ensures.bytes c.write_payload.ensures.part c.payload.ensures.size c.payload.ensures.clean);
      others = then (wider 4096 (4096 * (1 + (i + 1))) c.loop-index.invariant.others (omega arith) (omega arith)) (wider 4096 (4096 * (1 + (i + 1))) c.write_payload.ensures.others (omega arith) (omega arith));
    }
