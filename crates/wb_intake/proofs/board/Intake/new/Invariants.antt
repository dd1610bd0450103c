use Rattle.std.proofs.Common.{◌≡◌, length}
use Rattle.wb_steps.specs.Views.{beginning}
use Rattle.wb_steps.specs.Rule.{cells}
use Rattle.wb_steps.specs.declared.view.Role.TheVariants.{Drain}
use Rattle.wb_intake.specs.Passes.{name_of, drain_name, drain_view, AreNewcomers}
use Rattle.wb_intake.proofs.board.Intake.new.Given as goal

-- so many passes were made, and the drain has counted them
abbrev pub invariant-loop-client : goal.invariant-loop-client
invariant-loop-client l = record {
  count : length l.passes.items ≡ l.client;
  passes : AreNewcomers (name_of l.intake) (cells l.intake.shape) l.passes.items;
  own : drain_name l.drain ≡ name_of l.intake;
  drain : drain_view l.drain ≡ beginning Drain l.client (cells l.intake.shape);
}
