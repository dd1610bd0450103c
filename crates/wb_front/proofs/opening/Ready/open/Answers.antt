use Rattle.std.proofs.Common.{inr, refl, sym, ap, ◌∙◌, subst}
use Rattle.wb_steps.specs.Rule.{shape_of, cells}
use Rattle.wb_steps.specs.Views.{beginning}
use Rattle.wb_steps.specs.declared.shape.Shape.{Shape}
use Rattle.wb_steps.specs.declared.view.Role.TheVariants.{Drain as TheDrain}
use Rattle.wb_intake.specs.Passes.{name_of, AreNewcomers}
use Rattle.wb_engine.specs.Opening.{HasRecovered}
use Rattle.wb_front.proofs.opening.Ready.open.Goals as goal

pub returns-in-Ok-clause-opened : goal.returns-in-Ok-clause-opened
returns-in-Ok-clause-opened g c =
    let made = c.in-Ok.ensures in record {
      engine = c.in_ok-engine.ensures.opened;
      intake = record {
        shape = made.shape ∙ (λ i. shape_of (c.geometry.ensures.geometry i) (c.first.ensures i));
        drain = made.drain.0;
        view = made.drain.1 ∙ ap (λ (k : Shape). beginning TheDrain c.args.clients (cells k)) (sym made.shape);
      };
      count = made.count;
      passes = subst (λ (k : Shape). AreNewcomers (name_of c.in-Ok.intake) (cells k) c.in-Ok.passes.items) (sym made.shape) made.passes;
    }

pub returns-in-Err-clause-refused : goal.returns-in-Err-clause-refused
returns-in-Err-clause-refused g c =
    let opened = c.in_ok-engine.ensures.opened in
    let log = subst (λ x. HasRecovered opened.found (g.L.Device.state c.args.log) (g.L.Device.state x) (g.B.Device.state c.args.backing) (g.B.Device.state c.in_ok-engine.engine.backing)) (sym c.into_devices-log.ensures.log) opened.recovered in
    inr (refl, (opened.found, subst (λ y. HasRecovered opened.found (g.L.Device.state c.args.log) (g.L.Device.state c.into_devices-log.result.0) (g.B.Device.state c.args.backing) (g.B.Device.state y)) (sym c.into_devices-log.ensures.backing) log))
