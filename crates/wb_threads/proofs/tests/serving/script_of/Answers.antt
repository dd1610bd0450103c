use Rattle.wb_script.proofs.Validity.{valid_script}
use Rattle.wb_threads.proofs.tests.serving.script_of.Goals as goal

pub returns : goal.returns
returns c = valid_script _ _ _ c.in_ok-parse.ensures.script.is
