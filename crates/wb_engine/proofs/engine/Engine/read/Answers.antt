-- One run after another.
use Rattle.std.proofs.Common.{ℕ, ◌≡◌, ◌+◌, ◌-◌, ◌*◌, ◌/◌, ◌≤◌, ◌∙◌, length, take, refl, ap, sym, arith}
use Rattle.std.proofs.lemmas.List.{take_all}
use Rattle.std.proofs.lemmas.Slice.{take-put_mid}
use Rattle.wb_geometry.specs.Image.{bytes_at}
use Rattle.wb_geometry.specs.History.{after}
use Rattle.wb_geometry.specs.declared.geometry.Geometry.{Geometry}
use Rattle.wb_super.proofs.Superblocks.{reads_only}
use Rattle.wb_engine.proofs.ReadLoops.{in_log_le, on_backing_le, rest_size, front_of_piece, same_trans, standing_read, synced_read, read_none, log_reads_next, backing_reads_next, read_more}
use Rattle.wb_engine.proofs.engine.Engine.read.Goals as goal

pub loop-done-init : goal.loop-done-init
loop-done-init g c = record { few = omega arith; read = read_none c.args.self.now c.args.sector }

-- a run that can't be read

pub returns-in_err-done-clause-stands : goal.returns-in_err-done-clause-stands
returns-in_err-done-clause-stands g c = λ base history stands.
    standing_read _ _ base history (same_trans _ _ _ c.loop-done.invariant.read.same c.read_run.ensures.same)
    (reads_only c.loop-done.invariant.read.log_read c.read_run.ensures.log) (reads_only c.loop-done.invariant.read.backing_read c.read_run.ensures.backing) stands

pub returns-in_err-done-clause-synced : goal.returns-in_err-done-clause-synced
returns-in_err-done-clause-synced g c = λ synced.
    synced_read _ _ (same_trans _ _ _ c.loop-done.invariant.read.same c.read_run.ensures.same)
    (reads_only c.loop-done.invariant.read.log_read c.read_run.ensures.log) (reads_only c.loop-done.invariant.read.backing_read c.read_run.ensures.backing) synced

pub returns-in_err-done-clause-same : goal.returns-in_err-done-clause-same
returns-in_err-done-clause-same g c = same_trans _ _ _ c.loop-done.invariant.read.same c.read_run.ensures.same

pub returns-in_err-done-clause-log : goal.returns-in_err-done-clause-log
returns-in_err-done-clause-log g c = reads_only c.loop-done.invariant.read.log_read c.read_run.ensures.log

pub returns-in_err-done-clause-backing : goal.returns-in_err-done-clause-backing
returns-in_err-done-clause-backing g c = reads_only c.loop-done.invariant.read.backing_read c.read_run.ensures.backing

pub returns-in_err-done-clause-log_reads : goal.returns-in_err-done-clause-log_reads
returns-in_err-done-clause-log_reads g c =
    omega (
      arith,
      log_reads_next _ c.args.sector c.loop-done.done 1 _ (omega arith) c.loop-done.invariant.read c.read_run.ensures.log_reads,
      in_log_le c.args.self.now.numbers.logged c.args.self.now.memory.lookup c.args.sector (c.loop-done.done + 1) (length c.args.into.now / 512) (omega (arith, c.loop-done-test.true)),
    )

pub returns-in_err-done-clause-backing_reads : goal.returns-in_err-done-clause-backing_reads
returns-in_err-done-clause-backing_reads g c =
    omega (
      arith,
      backing_reads_next _ c.args.sector c.loop-done.done 1 _ (omega arith) c.loop-done.invariant.read c.read_run.ensures.backing_reads,
      on_backing_le c.args.self.now.memory.lookup c.args.sector (c.loop-done.done + 1) (length c.args.into.now / 512) (omega (arith, c.loop-done-test.true)),
    )

-- a run that was read

pub loop-done-preserved : goal.loop-done-preserved
loop-done-preserved g c =
    let done = c.loop-done.done in
    let run = c.in_ok-done.field-0 in
    let start : 512 * done ≤ length c.loop-done.into = omega (arith, c.loop-done.invariant.few, c.loop-done.auto.into) in
    let rest : length c.read_run.new.into ≡ length c.loop-done.into - 512 * done = rest_size (512 * done) c.loop-done.into c.read_run.new.into start c.read_run.auto.into in
    let below : 512 * run ≤ length c.read_run.new.into = omega (arith, c.in_ok-done.ensures.few, c.read_run.ensures.size) in
    let inside : c.args.sector + done + run ≤ (g.B.Device.state c.loop-done.self.backing).sectors =
    omega (arith, below, rest, c.loop-done.auto.into, c.requires.inside, ap (λ (x : Geometry). x.backing_sectors) c.loop-done.invariant.read.same.geometry, c.read_run.ensures.room) in
    record {
      few = omega (arith, below, rest, c.loop-done.auto.into);
      read =
          read_more c.args.sector done run _ (take (512 * run) c.read_run.new.into) _ c.in_ok-done.ensures.some
          c.loop-done.invariant.read (g.met.B.Device.sound c.loop-done.self.backing) inside c.in_ok-done.ensures.ok
          c.read_run.ensures.same c.read_run.ensures.log c.read_run.ensures.backing
          (c.in_ok-done.ensures.log_cause.kept (λ failed. cc)) (c.in_ok-done.ensures.backing_cause.kept (λ failed. cc))
          c.read_run.ensures.log_reads c.read_run.ensures.backing_reads
          (front_of_piece (512 * done) _ (512 * run) c.loop-done.into c.read_run.new.into _ start (omega arith) below
          (take-put_mid (512 * done) _ c.loop-done.into c.read_run.new.into (512 * done + length c.read_run.new.into) refl start));
    }

-- all of them

pub returns-clause-ok : goal.returns-clause-ok
returns-clause-ok g c = λ base image history told stands.
    let all : c.loop-done.done ≡ length c.args.into.now / 512 = omega (arith, c.loop-done-test.false, c.loop-done.invariant.few) in
    let whole : 512 * c.loop-done.done ≡ length c.args.into.now = omega (arith, all, c.requires.whole) in
    sym (take_all (512 * c.loop-done.done) c.loop-done.into (omega (arith, whole, c.loop-done.auto.into)))
    ∙ c.loop-done.invariant.read.bytes_are base image history told stands
    ∙ ap (λ (n : ℕ). bytes_at (after base history) c.args.sector n) all

pub returns-clause-stands : goal.returns-clause-stands
returns-clause-stands g c = λ base history stands.
    standing_read _ _ base history c.loop-done.invariant.read.same c.loop-done.invariant.read.log_read c.loop-done.invariant.read.backing_read stands

pub returns-clause-synced : goal.returns-clause-synced
returns-clause-synced g c = λ synced.
    synced_read _ _ c.loop-done.invariant.read.same c.loop-done.invariant.read.log_read c.loop-done.invariant.read.backing_read synced

pub returns-clause-same : goal.returns-clause-same
returns-clause-same g c = c.loop-done.invariant.read.same

pub returns-clause-log : goal.returns-clause-log
returns-clause-log g c = c.loop-done.invariant.read.log_read

pub returns-clause-backing : goal.returns-clause-backing
returns-clause-backing g c = c.loop-done.invariant.read.backing_read

pub returns-clause-log_cause : goal.returns-clause-log_cause
returns-clause-log_cause g c =
    record { later = omega (arith, c.loop-done.invariant.read.log_faults); failed = λ is. absurd (cc); kept = λ isnt. c.loop-done.invariant.read.log_faults }

pub returns-clause-backing_cause : goal.returns-clause-backing_cause
returns-clause-backing_cause g c =
    record { later = omega (arith, c.loop-done.invariant.read.backing_faults); failed = λ is. absurd (cc); kept = λ isnt. c.loop-done.invariant.read.backing_faults }

pub returns-clause-log_reads : goal.returns-clause-log_reads
returns-clause-log_reads g c =
    omega (
      arith,
      c.loop-done.invariant.read.log_reads,
      in_log_le c.args.self.now.numbers.logged c.args.self.now.memory.lookup c.args.sector c.loop-done.done (length c.args.into.now / 512) c.loop-done.invariant.few,
    )

pub returns-clause-backing_reads : goal.returns-clause-backing_reads
returns-clause-backing_reads g c =
    omega (
      arith,
      c.loop-done.invariant.read.backing_reads,
      on_backing_le c.args.self.now.memory.lookup c.args.sector c.loop-done.done (length c.args.into.now / 512) c.loop-done.invariant.few,
    )
