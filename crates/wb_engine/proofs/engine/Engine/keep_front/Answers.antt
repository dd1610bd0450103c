-- The front segment goes from the segments in memory.
use Rattle.std.proofs.Common.{◌≡◌, None, refl, sym, subst}
use Rattle.wb_engine.specs.Stepping.{MayLog}
use Rattle.wb_engine.proofs.Logging.{engine_front_gone, written_level}
use Rattle.wb_engine.proofs.engine.Engine.keep_front.Goals as goal

pub invariant_of-self : goal.invariant_of-self
invariant_of-self g c =
    let up = subst (λ e. e.down ≡ None) (sym c.self.view_is) c.requires.up in
    let may = subst (λ e. MayLog e.geometry e.numbers) (sym c.self.view_is) c.requires.may in
    let gone = c.keep_front.ensures in (
      engine_front_gone _ _ c.keep_front.new.self c.self.invariant.0 up may (written_level c.self.inside.numbers (c.self.invariant.0.up up))
          (record { sealed = gone.sealed; logged = gone.logged; current = gone.current }) gone.sizes,
      c.self.invariant.1,
      c.self.invariant.2,
    )

pub returns : goal.returns
returns g c =
    let up = subst (λ e. e.down ≡ None) (sym c.self.view_is) c.requires.up in
    let gone = c.keep_front.ensures in
    rw (← c.self.view_is) (record {
      numbers = written_level c.self.inside.numbers (c.self.invariant.0.up up);
      sealed = gone.sealed;
      logged = gone.logged;
      current = gone.current;
      kept = record { geometry = refl; down = refl; log = refl; backing = refl };
      absorbed = refl;
    })
