-- Each write adds a run, or where it fails some of one.
use Rattle.std.proofs.Common.{◌≡◌, ◌+◌, ◌*◌, ℕ, List, ap}
use Rattle.wb_geometry.specs.Image.{overlay, sectors_of, IsPartlyWritten}
use Rattle.wb_geometry.specs.Device.{Passes, ContentPasses}
use Rattle.wb_geometry.proofs.Moments.{on_err}
use Rattle.wb_runs.proofs.Written.{run_of_cut, of_write, run_crash, run_stopped, run_more, runs_whole}
use Rattle.wb_runs.proofs.writing.write_block.Goals as goal

pub loop-first-preserved : goal.loop-first-preserved
loop-first-preserved g c =
    let first : ℕ = c.in-Some.first in
    let count : ℕ = c.in-Some.count in
    let payload : List ℕ = c.args.payload.now in
    let place : c.first_sector-start.result + first ≡ 8 * c.args.block + first = ap (λ (n : ℕ). n + first) c.first_sector-start.ensures in
    let cut = run_of_cut first count payload in
    record {
      inside = c.in-Some.ensures.inside;
      begun = run_more c.loop-first.from first count c.args.block c.args.bits payload (g.met.B.Device.sound c.args.backing.now) c.requires.room c.in-Some.ensures c.requires.size c.loop-first.invariant.begun
          (of_write (λ at bytes. ContentPasses (λ x y. y ≡ overlay at (sectors_of bytes) x) (g.B.Device.state c.loop-first.backing) (g.B.Device.state c.write.new.self)) place cut c.in_ok-write.ensures.ok)
          (of_write (λ at bytes. Passes (IsPartlyWritten at (sectors_of bytes)) (g.B.Device.state c.loop-first.backing) (g.B.Device.state c.write.new.self)) place cut c.write.ensures.crash)
          c.write.ensures.same c.in_ok-write.ensures.cause.kept c.write.ensures.reads c.write.ensures.syncs;
    }

pub returns-in_err-write-clause-err : goal.returns-in_err-write-clause-err
returns-in_err-write-clause-err g c =
    let first : ℕ = c.in-Some.first in
    let place : c.first_sector-start.result + first ≡ 8 * c.args.block + first = ap (λ (n : ℕ). n + first) c.first_sector-start.ensures in
    on_err c.from_residual.result
    (run_stopped c.loop-first.from first c.in-Some.count c.args.block c.args.bits c.args.payload.now c.in-Some.ensures c.requires.size c.loop-first.invariant.begun
    (of_write (λ at bytes. ContentPasses (IsPartlyWritten at (sectors_of bytes)) (g.B.Device.state c.loop-first.backing) (g.B.Device.state c.write.new.self))
    place (run_of_cut first c.in-Some.count c.args.payload.now) c.in_err-write.ensures.err))

pub returns-in_err-write-clause-crash : goal.returns-in_err-write-clause-crash
returns-in_err-write-clause-crash g c =
    let first : ℕ = c.in-Some.first in
    let place : c.first_sector-start.result + first ≡ 8 * c.args.block + first = ap (λ (n : ℕ). n + first) c.first_sector-start.ensures in
    run_crash c.loop-first.from first c.in-Some.count c.args.block c.args.bits c.args.payload.now c.in-Some.ensures c.requires.size c.loop-first.invariant.begun
    (of_write (λ at bytes. Passes (IsPartlyWritten at (sectors_of bytes)) (g.B.Device.state c.loop-first.backing) (g.B.Device.state c.write.new.self))
    place (run_of_cut first c.in-Some.count c.args.payload.now) c.write.ensures.crash)

pub returns-clause-ok : goal.returns-clause-ok
returns-clause-ok g c = runs_whole c.loop-first.from c.args.block c.args.bits c.args.payload.now c.in_default.ensures c.loop-first.invariant.begun
