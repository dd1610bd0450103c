use Rattle.wb_tool.proofs.Words.{fits_32}
use Rattle.wb_tool.proofs.command.number_32.Goals as goal

pub returns : goal.returns
returns c = rw c.ok.ensures.value (fits_32 _ _ _ (rw c.as_bytes.ensures.value at c.in_ok-number.ensures) c.try_from.ensures)
