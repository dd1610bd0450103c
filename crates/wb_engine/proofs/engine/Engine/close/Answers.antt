use Rattle.std.proofs.Common.{inl, inr, sym, ◌∙◌, subst}
use Rattle.wb_engine.specs.Content.{IsEngine}
use Rattle.wb_engine.specs.Standing.{Told}
use Rattle.wb_engine.proofs.Drained.{up_there, not_up}
use Rattle.wb_engine.proofs.Ends.{IsEnded, IsFinished, finished_content, finished_empty, finished_recorded, finished_crash, finished_changed, finished_left, finished_durable, finished_was_down}
use Rattle.wb_engine.proofs.engine.Engine.close.Goals.{then-is_none, else-is_none}
use Rattle.wb_engine.proofs.engine.Engine.close.Given as given
use Rattle.wb_engine.proofs.engine.Engine.close.Goals as goal

pub drain-requires : goal.drain-requires
drain-requires g c = c.fill_open.ensures.kept.down ∙ up_there c.engine.view_is c.if-is_none.ensures

-- what was done by the end
finished : (g : given.Over) (c : goal.After-into_devices-log g) → IsFinished g.L.Device.state g.B.Device.state c.args.self c.if-is_none.engine
finished g c = elim c.if-is_none.branch [
  | then-is_none w ↦ inl (
    up_there c.engine.view_is w.if-is_none.ensures,
    subst (λ e. IsEnded g.L.Device.state g.B.Device.state c.args.self e) (sym w.engine-is) (record {
      filled = w.fill_open.new.self;
      full = record {
        rest = w.fill_open.ensures.filled;
        cut = w.fill_open.ensures.cut;
        stands = w.fill_open.ensures.stands;
        synced = w.fill_open.ensures.synced;
        sealed = w.fill_open.ensures.sealed;
        first = w.fill_open.ensures.first;
        stable = w.fill_open.ensures.stable;
        kept = w.fill_open.ensures.kept;
      };
      drained = w.drain.ensures.drained;
      ordered = w.drain.ensures.ordered;
    }),
  )
  | else-is_none w ↦ inr (λ up. not_up c.engine.view_is w.if-is_none.ensures up, w.engine-is)
]

pub returns-clause-content : goal.returns-clause-content
returns-clause-content g c = λ fine base h stands image told.
    finished_content _ _ _ _ (finished g c) (sym c.down-fault.ensures ∙ fine) base h stands image (subst (λ b. Told (g.B.Device.state b) image) c.into_devices-log.ensures.backing told)

pub returns-clause-empty : goal.returns-clause-empty
returns-clause-empty g c = λ fine base h stands image told.
    finished_empty _ _ _ _ (finished g c) (sym c.down-fault.ensures ∙ fine) base h stands image (subst (λ l. Told (g.L.Device.state l) image) c.into_devices-log.ensures.log told)

pub returns-clause-recorded : goal.returns-clause-recorded
returns-clause-recorded g c = λ fine base h stands image told.
    finished_recorded _ _ _ _ (finished g c) (sym c.down-fault.ensures ∙ fine) base h stands image (subst (λ l. Told (g.L.Device.state l) image) c.into_devices-log.ensures.log told)

pub returns-clause-crash : goal.returns-clause-crash
returns-clause-crash g c = λ base h stands.
    let is = subst (IsEngine g.L.Device.state g.B.Device.state) c.engine.view_is c.engine.invariant.0 in
    rw (c.into_devices-log.ensures.log, c.into_devices-log.ensures.backing) (finished_crash _ _ _ _ (finished g c) is base h stands)

pub returns-clause-changed : goal.returns-clause-changed
returns-clause-changed g c = λ base h stands. rw c.into_devices-log.ensures.backing (finished_changed _ _ _ _ (finished g c) base h stands)

pub returns-clause-left : goal.returns-clause-left
returns-clause-left g c = λ base h stands. rw c.into_devices-log.ensures.backing (finished_left _ _ _ _ (finished g c) base h stands)

pub returns-clause-durable : goal.returns-clause-durable
returns-clause-durable g c = λ fine synced.
    rw (c.into_devices-log.ensures.log, c.into_devices-log.ensures.backing) (finished_durable _ _ _ _ (finished g c) (sym c.down-fault.ensures ∙ fine) synced)

pub returns-clause-was_down : goal.returns-clause-was_down
returns-clause-was_down g c =
    rw (c.down-fault.ensures, c.into_devices-log.ensures.log, c.into_devices-log.ensures.backing) (finished_was_down g.L.Device.state g.B.Device.state _ _ (finished g c))
