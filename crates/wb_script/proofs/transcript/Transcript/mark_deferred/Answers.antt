-- One line more is marked.
use Rattle.std.proofs.Common.{arith}
use Rattle.std.proofs.lemmas.Grind.{common_steps}
use Rattle.std.proofs.lemmas.List.Edits.{map_over_more}
use Rattle.wb_script.specs.Keeping.{marked}
use Rattle.wb_script.proofs.transcript.Transcript.mark_deferred.Goals as goal

pub loop-line-preserved : goal.loop-line-preserved
loop-line-preserved c = grind (arith, common_steps, map_over_more (marked c.args.stable c.args.device))
