-- The slots are cleared, then the record.
use Rattle.std.proofs.lemmas.Result.{on_ok_weaker, on_err_weaker}
use Rattle.wb_super.proofs.Formattings.{clears_whole, clears_stopped, clears_crash}
use Rattle.wb_super.proofs.formatting.clear.Goals as goal

pub returns-clause-ok : goal.returns-clause-ok
returns-clause-ok g c = on_ok_weaker c.store.result (clears_whole c.args.g.now c.in_ok-clear_slots.ensures.ok) c.store.ensures.ok

pub returns-clause-err : goal.returns-clause-err
returns-clause-err g c = on_err_weaker c.store.result (clears_stopped c.args.g.now c.in_ok-clear_slots.ensures.ok) c.store.ensures.err

pub returns-clause-crash : goal.returns-clause-crash
returns-clause-crash g c = clears_crash c.args.g.now c.clear_slots.ensures.crash c.store.ensures.crash
