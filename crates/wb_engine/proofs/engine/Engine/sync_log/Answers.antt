-- The log was synced, or it failed.
use Rattle.std.proofs.Common.{◌≡◌, None, refl, sym, subst}
use Rattle.wb_engine.proofs.Syncing.{synced_step, unsynced_step}
use Rattle.wb_engine.proofs.engine.Engine.sync_log.Goals as goal

pub returns-in-Ok-clause-step : goal.returns-in-Ok-clause-step
returns-in-Ok-clause-step g c =
    let up = subst (λ e. e.down ≡ None) (sym c.self.view_is) c.requires.up in
    rw (← c.self.view_is) (synced_step _ _ _ c.self.invariant.0 up refl c.sync.ensures.content c.sync.ensures.crash c.sync.ensures.same
    (g.met.L.Device.sound c.self.inside.log) (g.met.B.Device.sound c.self.inside.backing) (record { geometry = refl; numbers_are = refl; absorbed = refl; down_is = up; log = refl; backing = refl }) c.in-Ok.ensures.ok)

pub returns-in-Err-clause-step : goal.returns-in-Err-clause-step
returns-in-Err-clause-step g c =
    let up = subst (λ e. e.down ≡ None) (sym c.self.view_is) c.requires.up in
    rw (← c.self.view_is) (unsynced_step _ _ _ c.self.invariant.0 up refl c.sync.ensures.content c.sync.ensures.crash c.sync.ensures.same
    (g.met.L.Device.sound c.self.inside.log) (g.met.B.Device.sound c.self.inside.backing) (record { geometry = refl; numbers_are = refl; absorbed = refl; down_is = refl; log = refl; backing = refl }))
