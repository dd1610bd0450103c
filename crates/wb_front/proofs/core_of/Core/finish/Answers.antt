-- What the engine's close leaves, with the flags.
use Rattle.std.proofs.Common.{◌≡◌, ◌⊎◌, ◌<◌, ◌≤◌, inl, inr, List, true, subst, Some}
use Rattle.std.specs.Prelude.{◌↔◌}
use Rattle.std.specs.List.{All}
use Rattle.wb_geometry.specs.History.{client_of}
use Rattle.wb_geometry.specs.declared.which.Which.TheVariants.{Log, Backing}
use Rattle.wb_intake.specs.Passes.{view_of, drain_view}
use Rattle.wb_intake.specs.declared.pass.Pass.{Pass}
use Rattle.wb_front.specs.Joined.{CoreContent, drained}
use Rattle.wb_front.specs.Closing.{IsFinished, IsShown}
use Rattle.wb_front.specs.declared.closing.Finished.{Finished}
use Rattle.wb_front.proofs.Closings.{Closes, finished, flag_by}
use Rattle.wb_front.proofs.core_of.Core.finish.Goals as goal

pub returns : goal.returns
returns g c =
    let inside : CoreContent g.row.L.Denot g.row.B.Denot = record { engine = c.self.inside.engine; drain = c.self.inside.drain } in
    let left : Finished g.row.L.Denot g.row.B.Denot = record {
      log = c.close-log.result.log;
      backing = c.close-log.result.backing;
      fault = c.close-log.result.fault;
      places = c.absorbed-places.result;
      first = c.first-first.result;
      log_failed = c.has_failed.result;
      backing_failed = c.has_failed-2.result;
    } in
    let j = c.self.invariant in
    let done = c.close-log.ensures in
    let closes : Closes g.L.Device.state g.B.Device.state c.self.inside.engine left = record {
      content = done.content;
      empty = done.empty;
      recorded = done.recorded;
      crash = done.crash;
      changed = done.changed;
      durable = done.durable;
      was_down = done.was_down;
      log_cause = done.log_cause;
      backing_cause = done.backing_cause;
    } in
    let seen = (drain_view c.self.inside.drain).seen.fault in
    let log : (left.log_failed ≡ true) ↔ ((1 ≤ seen.log_reads) ⊎ (left.fault ≡ Some Log)) = flag_by seen.log_reads c.self.inside.log_reads j.1 c.has_failed.ensures in
    let backing : (left.backing_failed ≡ true) ↔ ((1 ≤ seen.backing_reads) ⊎ (left.fault ≡ Some Backing)) = flag_by seen.backing_reads c.self.inside.backing_reads j.2 c.has_failed-2.ensures in
    subst (λ (core : CoreContent g.row.L.Denot g.row.B.Denot). (passes : List Pass) → All (λ p. IsShown (drain_view core.drain) (view_of p)) passes → All (λ e. client_of e < g.T.Named.carried.clients) (drained core)
    → IsFinished g.L.Device.state g.B.Device.state g.T.Named.carried passes left) c.self.view_is
    (finished g.L.Device.state g.B.Device.state g.T.Named.carried inside left j.0 c.geometry-geometry.ensures.sound closes c.absorbed-places.ensures c.first-first.ensures
    log.0 (λ h. log.1 (inl h)) (λ h. log.1 (inr h)) backing.0 (λ h. backing.1 (inl h)) (λ h. backing.1 (inr h)))
