use Rattle.std.proofs.Common.{map, refl, subst}
use Rattle.std.specs.String.{string_bytes}
use Rattle.wb_tool.specs.Commands.{IsForm}
use Rattle.wb_geometry.proofs.Moments.{uncalled}
use Rattle.wb_tool.specs.declared.command.Command.TheVariants.{Format, Serve, Recover, Inspect, InspectSlot, Workload}
use Rattle.wb_tool.proofs.Accounts.{accounted, usage_accounted, untouched}
use Rattle.wb_tool.proofs.Begun.{answers_for, ended_begun}
use Rattle.wb_tool.proofs.Formatted.{format_ends}
use Rattle.wb_tool.proofs.running.begin.Goals as goal

pub returns-in-None : goal.returns-in-None
returns-in-None g c =
    ended_begun g.L.Device.state g.B.Device.state _ _ _ _ _ _ _ _ c.without_session.result (g.met.L.Device.sound c.args.log) c.without_session.ensures (λ in_turn. usage_accounted _ _ c.in-None.ensures (record {
      status = refl;
      told = c.tell.ensures;
      no_session = record { transcripts = refl; places = refl };
      backing = uncalled _;
      unread = untouched _ _;
      log = uncalled _;
    }))

pub returns-in-Some-Format : goal.returns-in-Some-Format
returns-in-Some-Format g c =
    ended_begun g.L.Device.state g.B.Device.state _ _ _ _ _ _ _ _ c.without_session-in-Some-Format.result (g.met.L.Device.sound c.args.log) c.without_session-in-Some-Format.ensures
    (λ in_turn. accounted (Format c.in-Some-Format.numbers) _ _ (subst (λ command. IsForm command (map string_bytes c.args.words.now)) c.in-Some-Format.field-0-is c.in-Some-Format.ensures) (record {
      no_session = record { transcripts = refl; places = refl };
      backing = uncalled _;
      unread = untouched _ _;
      ends = format_ends _ _ _ _ _ _ _ _ c.sectors.ensures refl c.format_log-status.ensures;
    }))

pub returns-in-Some-Recover : goal.returns-in-Some-Recover
returns-in-Some-Recover g c =
    ended_begun g.L.Device.state g.B.Device.state _ _ _ _ _ _ _ _ c.without_session-in-Some-Recover.result (g.met.L.Device.sound c.args.log) c.without_session-in-Some-Recover.ensures
    (λ in_turn. accounted Recover _ _ (subst (λ command. IsForm command (map string_bytes c.args.words.now)) c.in-Some-Recover.field-0-is c.in-Some-Recover.ensures) (record {
      no_session = record { transcripts = refl; places = refl };
      unread = untouched _ _;
      ends = c.recover_log-status.ensures;
    }))

pub returns-in-Some-InspectSlot : goal.returns-in-Some-InspectSlot
returns-in-Some-InspectSlot g c =
    ended_begun g.L.Device.state g.B.Device.state _ _ _ _ _ _ _ _ c.without_session-in-Some-InspectSlot.result (g.met.L.Device.sound c.args.log) c.without_session-in-Some-InspectSlot.ensures
    (λ in_turn. accounted (InspectSlot c.in-Some-InspectSlot.slot) _ _ (subst (λ command. IsForm command (map string_bytes c.args.words.now)) c.in-Some-InspectSlot.field-0-is c.in-Some-InspectSlot.ensures) (record {
      no_session = record { transcripts = refl; places = refl };
      backing = uncalled _;
      unread = untouched _ _;
      ends = c.inspect_slot-status.ensures;
    }))

pub returns-in-Some-Inspect : goal.returns-in-Some-Inspect
returns-in-Some-Inspect g c =
    ended_begun g.L.Device.state g.B.Device.state _ _ _ _ _ _ _ _ c.without_session-in-Some-Inspect.result (g.met.L.Device.sound c.args.log) c.without_session-in-Some-Inspect.ensures
    (λ in_turn. accounted Inspect _ _ (subst (λ command. IsForm command (map string_bytes c.args.words.now)) c.in-Some-Inspect.field-0-is c.in-Some-Inspect.ensures) (record {
      no_session = record { transcripts = refl; places = refl };
      backing = uncalled _;
      unread = untouched _ _;
      ends = c.inspect_log-status.ensures;
    }))

pub returns-in-Err : goal.returns-in-Err
returns-in-Err g c in_turn =
    answers_for _ _ (g.met.L.Device.sound c.args.log) (accounted Serve _ _ (subst (λ command. IsForm command (map string_bytes c.args.words.now)) c.in-Some-Serve.field-0-is c.in-Some-Serve.ensures) (c.in-Err.ensures.ended in_turn))

pub prepare_workload-requires : goal.prepare_workload-requires
prepare_workload-requires g c =
    let form = subst (λ command. IsForm command (map string_bytes c.args.words.now)) c.in-Some-Workload.field-0-is c.in-Some-Workload.ensures in
    record { some = form.spelled.some; few = form.spelled.few }

pub returns-in-Ok-prepare_workload : goal.returns-in-Ok-prepare_workload
returns-in-Ok-prepare_workload g c =
    (subst (λ command. IsForm command (map string_bytes c.args.words.now)) c.in-Some-Workload.field-0-is c.in-Some-Workload.ensures, untouched _ _, c.in-Ok-prepare_workload.ensures.kept, c.in-Ok-prepare_workload.ensures.begun)

pub returns-in-Err-prepare_workload : goal.returns-in-Err-prepare_workload
returns-in-Err-prepare_workload g c in_turn =
    answers_for _ _ (g.met.L.Device.sound c.args.log) (accounted (Workload c.in-Some-Workload.numbers) _ _ (subst (λ command. IsForm command (map string_bytes c.args.words.now)) c.in-Some-Workload.field-0-is c.in-Some-Workload.ensures)
    (c.in-Err-prepare_workload.ensures.ended in_turn _ (untouched _ _)))
