-- A segment in memory has the first sector, or one in the log, or the backing device.
use Rattle.std.proofs.Common.{◌+◌, ◌/◌, ◌≤◌, ◌∙◌, length, refl, sym, subst, arith}
use Rattle.std.proofs.lemmas.List.{length-take-le}
use Rattle.wb_engine.specs.Content.{EngineContent}
use Rattle.wb_engine.proofs.LineReads.{read_here, read_logged, read_backing, logged_upto, as_front, size_of_front}
use Rattle.wb_engine.proofs.ReadLoops.{log_read_one}
use Rattle.wb_engine.proofs.engine.Engine.read_run.Goals as goal
use Rattle.wb_engine.proofs.engine.Engine.read_run.Goals.{in-Ok, in-Err, in-Ok-read, in-Err-read}

pub copy_from_slice-requires : goal.copy_from_slice-requires
copy_from_slice-requires g c = length-take-le 512 c.args.into.now c.requires.some ∙ sym c.in-Here.ensures.newest.1

pub returns-in-Here-clause-ok : goal.returns-in-Here-clause-ok
returns-in-Here-clause-ok g c =
    let inside = subst (λ (e : EngineContent g.row.L.Denot g.row.B.Denot). c.args.sector + length c.args.into.now / 512 ≤ e.geometry.backing_sectors) (sym c.self.view_is) c.requires.inside in
    let size = c.copy_from_slice.ensures.len ∙ length-take-le 512 c.args.into.now c.requires.some in
    rw (← c.self.view_is) (as_front _ 512 c.copy_from_slice.new.self _ c.args.sector 1 size
    (read_here _ c.args.sector c.copy_from_slice.new.self c.in-Here.bytes.now c.self.invariant.0 (g.met.B.Device.sound c.self.inside.backing)
    (omega (arith, inside, c.requires.some)) c.in-Here.ensures.newest.0 c.copy_from_slice.ensures.after))

pub returns-after-read_sectors-clause-ok : goal.returns-after-read_sectors-clause-ok
returns-after-read_sectors-clause-ok g c = elim c.match-read_sectors.branch [
  | in-Ok w ↦
      let inside = subst (λ (e : EngineContent g.row.L.Denot g.row.B.Denot). c.args.sector + length c.args.into.now / 512 ≤ e.geometry.backing_sectors) (sym c.self.view_is) c.requires.inside in
      let there = c.in-Logged.ensures.newest in
      let few = c.run_of-count.ensures.few in
      let size = size_of_front c.run_of-count.result (length c.args.into.now / 512) c.args.into.now c.read_sectors.new.into (omega (arith, few, c.min.ensures)) refl c.read_sectors.ensures.size in
      rw (w.result-is, ← c.self.view_is) (as_front _ _ c.read_sectors.new.into _ c.args.sector c.run_of-count.result size
      (read_logged _ c.args.sector c.run_of-count.result c.in-Logged.spot c.read_sectors.new.into c.self.invariant.0 c.in-Logged.ensures.sound
      (g.met.L.Device.sound c.self.inside.log) (g.met.B.Device.sound c.self.inside.backing)
      (omega (arith, few, c.min.ensures, inside)) (omega (arith, few, c.min.ensures, c.from.ensures)) there.1 c.run_of-count.ensures.same there.2 there.3
      (omega (arith, there.4, c.self.invariant.0.memory.places)) size w.in-Ok.ensures.ok))
  | in-Err w ↦ rw w.result-is tt
]

pub returns-after-read_sectors-clause-log_reads : goal.returns-after-read_sectors-clause-log_reads
returns-after-read_sectors-clause-log_reads g c =
    let there = c.in-Logged.ensures.newest in
    rw (← c.self.view_is) (log_read_one c.self.inside.numbers.logged _ _ c.self.inside.memory.lookup c.args.sector c.in-Logged.spot there.1 there.2
    (logged_upto _ c.in-Logged.spot.id c.self.invariant.0 there.3) c.read_sectors.ensures.reads)

pub returns-after-read-clause-ok : goal.returns-after-read-clause-ok
returns-after-read-clause-ok g c = elim c.match-read.branch [
  | in-Ok-read w ↦
      let inside = subst (λ (e : EngineContent g.row.L.Denot g.row.B.Denot). c.args.sector + length c.args.into.now / 512 ≤ e.geometry.backing_sectors) (sym c.self.view_is) c.requires.inside in
      let run = c.run_of-count-in-Backing in
      let size = size_of_front run.result (length c.args.into.now / 512) c.args.into.now c.read.new.into run.ensures.few refl c.read.auto.into in
      rw (w.result-is, ← c.self.view_is) (as_front _ _ c.read.new.into _ c.args.sector run.result size
      (read_backing _ c.args.sector run.result c.read.new.into c.self.invariant.0 c.in-Backing.ensures.sound (g.met.B.Device.sound c.self.inside.backing)
      (omega (arith, run.ensures.few, inside)) c.in-Backing.ensures.newest.1 run.ensures.same size w.in-Ok-read.ensures.ok))
  | in-Err-read w ↦ rw w.result-is tt
]
