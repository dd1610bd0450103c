-- That a script that was read is valid.
use Rattle.wb_script.proofs.Validity.{valid_script}
use Rattle.wb_serve.proofs.tests.script_of.Goals as goal

pub returns : goal.returns
returns c = valid_script _ _ _ c.in_ok-parse.ensures.script.is
