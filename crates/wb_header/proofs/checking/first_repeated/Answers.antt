use Rattle.std.proofs.Common.{arith}
use Rattle.wb_header.specs.Refused.{IsRepeated}
use Rattle.wb_header.proofs.Checkings.{none_more}
use Rattle.wb_header.proofs.checking.first_repeated.Goals as goal

pub loop-index-preserved : goal.loop-index-preserved
loop-index-preserved c = none_more (IsRepeated c.args.bytes.now) c.loop-index.index c.loop-index.invariant (λ has. let yes = c.is_repeated.ensures.1 has in let no = c.if-is_repeated.false in cc)

pub returns : goal.returns
returns c = λ k start inside has. c.loop-index.invariant k start (omega arith) has
