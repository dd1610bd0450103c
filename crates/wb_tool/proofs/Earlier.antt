-- A run of which the log was read before: what it answers for holds from the log's earlier state on.
use Rattle.std.proofs.Common.{◌≡◌, ◌⊎◌, ℕ, [], inl, inr}
use Rattle.wb_geometry.specs.Device.{State, OnlyRead, IsDevice}
use Rattle.wb_super.specs.declared.reading.Super.{Super}
use Rattle.wb_super.proofs.Superblocks.{reads_only}
use Rattle.wb_replay.specs.declared.replaying.ReplayStop.TheVariants as stop
use Rattle.wb_replay.proofs.Turns.{synced_by_reads, synced_then}
use Rattle.wb_script.specs.Content.{ScriptContent}
use Rattle.wb_serve.specs.Session.{devices}
use Rattle.wb_tool.specs.Run.{Run, Lent}
use Rattle.wb_tool.specs.Served.{Served}
use Rattle.wb_tool.specs.Ends.{Leaves, EndsUnopened, IsUnbegun, IsLeftBy, IsStopped, EndsServing, IsUnserved, IsOpened, ServingAccount}
use Rattle.wb_tool.specs.Serve.{EndsReading, IsLeftFrom, ServeAccount}
use Rattle.wb_tool.specs.Stages.{IsGood}
use Rattle.wb_tool.specs.Workload.{ServedWorkload, EndsWorkload, IsLeftByWorkload, line_of, script_of, region_of}
use Rattle.wb_tool.specs.declared.command.WorkloadNumbers.{WorkloadNumbers}
use Rattle.wb_tool.proofs.Moved.{super_before, refuses_before, AreDevices, recovered_before, stopped_before, earlier, cut_before, early_before, base_after, served_before}

unopened_before : (sink : Lent) (old mid : State) (sectors status : ℕ) → OnlyRead old mid
    → EndsUnopened sink mid sectors status → EndsUnopened sink old sectors status
unopened_before sink old mid sectors status read (inl refused) =
    inl (record { cause = refused.cause; why = refuses_before old mid read.same.size read.content refused.cause refused.why; ended = refused.ended; told = refused.told })
unopened_before sink old mid sectors status read (inr (inl spent)) = inr (inl (spent.0, super_before old mid read spent.0 spent.1, spent.2))
unopened_before sink old mid sectors status read (inr (inr small)) = inr (inr (small.0, super_before old mid read small.0 small.1, small.2, small.3))

-- the same run, from an earlier log on
abbrev Earlier : State → Run → Run
Earlier old run = record run { before = earlier old run.before }

unbegun_before : (old : State) (run : Run) → OnlyRead old run.before.log → IsUnbegun run → IsUnbegun (Earlier old run)
unbegun_before old run read unbegun =
    let none = unbegun.no_session in record {
      no_session = record { transcripts = none.transcripts; places = none.places };
      backing = unbegun.backing;
      log = reads_only read unbegun.log;
    }

stops_before : (old : State) (parsed : ℕ) (run : Run) → AreDevices old run.before → IsStopped parsed run → IsStopped parsed (Earlier old run)
stops_before old parsed run are (none, ends) = (
  record { transcripts = none.transcripts; places = none.places },
  elim ends [
    | inl stray ↦ inl (record { slot = stray.slot; id = stray.id; stopped = stopped_before (stop.Stray stray.slot stray.id) are stray.stopped; ended = stray.ended; told = stray.told })
    | inr rest ↦ elim rest [
      | inl fault ↦ inr (inl (record { stopped = stopped_before stop.LogFault are fault.stopped; ended = fault.ended; told = fault.told }))
      | inr rest ↦ elim rest [
        | inl fault ↦ inr (inr (inl (record { stopped = stopped_before stop.BackingFault are fault.stopped; ended = fault.ended; told = fault.told })))
        | inr change ↦
            inr (inr (inr (record { found = change.found; recovered = recovered_before change.found are change.recovered; fewer = change.fewer; ended = change.ended; told = change.told })))
      ]
    ]
  ],
)

serving_before : (Ends : Run → Type 0) (old : State) (parsed : ℕ) (run : Run) → AreDevices old run.before → (Ends run → Ends (Earlier old run))
    → EndsServing Ends parsed run → EndsServing Ends parsed (Earlier old run)
serving_before Ends old parsed run are before (inl (unbegun, unopened)) =
    inl (unbegun_before old run are.read unbegun, unopened_before run.sink old run.before.log run.before.backing.sectors run.status are.read unopened)
serving_before Ends old parsed run are before (inr (inl stopped)) = inr (inl (stops_before old parsed run are stopped))
serving_before Ends old parsed run are before (inr (inr served)) = inr (inr (before served))

reading_before : (old : State) (sectors : ℕ) (run : Run) → AreDevices old run.before → run.before.log.faults ≡ old.faults → EndsReading sectors run
    → EndsReading sectors (Earlier old run)
reading_before old sectors run are kept (inl (unbegun, inl source)) =
    inl (unbegun_before old run are.read unbegun, inl (record { failed = source.failed; ended = source.ended; told = source.told }))
reading_before old sectors run are kept (inl (unbegun, inr script)) =
    inl (
      unbegun_before old run are.read unbegun,
      inr (record {
        kept = script.kept;
        bytes = script.bytes;
        read = script.read;
        few = script.few;
        line = script.line;
        cause = script.cause;
        refused = script.refused;
        ended = script.ended;
        told = script.told;
      }),
    )
reading_before old sectors run are kept (inr scripted) = inr (record {
  kept = scripted.kept;
  script = scripted.script;
  spelled = scripted.spelled;
  valid = scripted.valid;
  made_for = scripted.made_for;
  at_end = scripted.at_end;
  ends = serving_before (Served scripted.script) old scripted.script.sectors run are (served_before _ _ scripted.script old run are.read kept) scripted.ends;
})

workload_served_before : (numbers : WorkloadNumbers) (region : ℕ) (old : State) (run : Run) → OnlyRead old run.before.log → run.before.log.faults ≡ old.faults
    → ServedWorkload numbers region run → ServedWorkload numbers region (Earlier old run)
workload_served_before numbers region old run read kept served = record {
  sum = served.sum;
  served = served_before [] (line_of numbers region served.sum) (script_of numbers region) old run read kept served.served;
  history = λ tells base is. served.history tells base (base_after old run.before served.served.found base read is);
  device = served.device;
}

workload_before : (numbers : WorkloadNumbers) (old : State) (sectors : ℕ) (run : Run) → AreDevices old run.before → run.before.log.faults ≡ old.faults
    → EndsWorkload numbers sectors run → EndsWorkload numbers sectors (Earlier old run)
workload_before numbers old sectors run are kept (inl (unbegun, small)) = inl (unbegun_before old run are.read unbegun, small)
workload_before numbers old sectors run are kept (inr (some, ends)) =
    inr (some, serving_before (ServedWorkload numbers (region_of sectors)) old (region_of sectors) run are (workload_served_before numbers (region_of sectors) old run are.read kept) ends)

-- want of memory behind that reading

left_by_before : (script : ScriptContent) (old : State) (run : Run) → AreDevices old run.before → run.before.log.faults ≡ old.faults → IsLeftBy script run → IsLeftBy script (Earlier old run)
left_by_before script old run are kept (inl (log, backing)) = inl (synced_then (synced_by_reads are.read) log, backing)
left_by_before script old run are kept (inr (inl (found, recovered))) = inr (inl (found, recovered_before found are recovered))
left_by_before script old run are kept (inr (inr (inl (found, cut)))) = inr (inr (inl (found, cut_before old run.before run.after found script are.read kept cut)))
left_by_before script old run are kept (inr (inr (inr (apart, (found, early))))) = inr (inr (inr (apart, (found, early_before old run.before run.after found script are.read kept early))))

left_before : (old : State) (sectors : ℕ) (run : Run) → AreDevices old run.before → run.before.log.faults ≡ old.faults → IsLeftFrom sectors run → IsLeftFrom sectors (Earlier old run)
left_before old sectors run are kept (inl (log, backing)) = inl (reads_only are.read log, backing)
left_before old sectors run are kept (inr (script, spelled, left)) = inr (script, spelled, left_by_before script old run are kept left)

workload_left_before : (numbers : WorkloadNumbers) (old : State) (sectors : ℕ) (run : Run) → AreDevices old run.before → run.before.log.faults ≡ old.faults
    → IsLeftByWorkload numbers sectors run → IsLeftByWorkload numbers sectors (Earlier old run)
workload_left_before numbers old sectors run are kept (inl (log, backing)) = inl (reads_only are.read log, backing)
workload_left_before numbers old sectors run are kept (inr left) = inr (left_by_before (script_of numbers (region_of sectors)) old run are kept left)

-- both devices were judged and are good, and the run went on

pub are_devices : {old log backing : State} → OnlyRead old log → IsDevice old → IsDevice backing → AreDevices old (devices log backing)
are_devices read on_log on_backing = record { read = read; on_log = on_log; on_backing = on_backing }

module _ (Ends Wants : (sectors : ℕ) → Run → Type 0) (old : State) (run : Run) (found : Super) (judged : Lent) where
  opened : IsGood judged old run.before.log run.before.backing.sectors found → (Ends found.geometry.backing_sectors run → Ends found.geometry.backing_sectors (Earlier old run))
      → (run.status ≡ 1) ⊎ Ends found.geometry.backing_sectors run → (run.status ≡ 1) ⊎ IsUnserved (Earlier old run) ⊎ IsOpened Ends (Earlier old run)
  opened good before (inl one) = inl one
  opened good before (inr ends) = inr (inr (record { found = found; super = good.super; ids = good.ids; room = good.room; ends = before ends }))

  good_account : IsGood judged old run.before.log run.before.backing.sectors found → (Ends found.geometry.backing_sectors run → Ends found.geometry.backing_sectors (Earlier old run))
      → (Wants found.geometry.backing_sectors run → Wants found.geometry.backing_sectors (Earlier old run))
      → Leaves (Ends found.geometry.backing_sectors) (Wants found.geometry.backing_sectors) run → ServingAccount Ends Wants (Earlier old run)
  good_account good ends_before wants_before leaves = record {
    log_faults = rw good.faults at leaves.log_faults;
    backing_faults = leaves.backing_faults;
    wanting = λ one. inr (found, good.super, wants_before (leaves.wanting one));
    ends = opened good ends_before leaves.ends;
  }

pub serve_account : (old : State) (run : Run) (found : Super) (judged : Lent) → AreDevices old run.before → IsGood judged old run.before.log run.before.backing.sectors found
    → Leaves (EndsReading found.geometry.backing_sectors) (IsLeftFrom found.geometry.backing_sectors) run → ServeAccount (Earlier old run)
serve_account old run found judged are good =
    let sectors = found.geometry.backing_sectors in
    good_account EndsReading IsLeftFrom old run found judged good (reading_before old sectors run are good.faults) (left_before old sectors run are good.faults)

pub workload_account : (numbers : WorkloadNumbers) (old : State) (run : Run) (found : Super) (judged : Lent) → AreDevices old run.before → IsGood judged old run.before.log run.before.backing.sectors found
    → Leaves (EndsWorkload numbers found.geometry.backing_sectors) (IsLeftByWorkload numbers found.geometry.backing_sectors) run
    → ServingAccount (EndsWorkload numbers) (IsLeftByWorkload numbers) (Earlier old run)
workload_account numbers old run found judged are good =
    let sectors = found.geometry.backing_sectors in
    good_account (EndsWorkload numbers) (IsLeftByWorkload numbers) old run found judged good (workload_before numbers old sectors run are good.faults) (workload_left_before numbers old sectors run are good.faults)
