use Rattle.std.proofs.Common.{refl, sym, subst}
use Rattle.wb_steps.specs.Rule.{Intake, cells}
use Rattle.wb_steps.specs.Views.{beginning}
use Rattle.wb_steps.specs.Machines.{IsStanding}
use Rattle.wb_steps.specs.declared.view.Role.TheVariants.{Drain}
use Rattle.wb_steps.proofs.Bounds.{some_cells}
use Rattle.wb_steps.proofs.Starts.{starts, owned_at, drain_at}
use Rattle.wb_steps.proofs.machine.Machine.new.Goals as goal

pub invariant_of-result : goal.invariant_of-result
invariant_of-result c =
    subst (λ (s : Intake). IsStanding (record { shape = c.of-shape.result; clients = c.args.clients; state = s }))
    (λ i. record { words = sym c.in_ok-words.ensures i; homes = sym c.in_ok-cells.ensures i; views = sym c.in_ok-views.ensures i })
    (record {
      shape = c.of-shape.ensures.fits;
      lawful = starts c.of-shape.result c.args.clients (some_cells c.of-shape.result c.of-shape.ensures.fits);
      owners = owned_at c.args.clients (cells c.of-shape.result);
      drain = (beginning Drain c.args.clients (cells c.of-shape.result), drain_at c.args.clients (cells c.of-shape.result), refl);
    })
