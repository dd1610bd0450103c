-- What follows from the calls that were made.
use Rattle.std.proofs.Common.{ℕ, ◌+◌, refl, ap, sym, subst}
use Rattle.wb_geometry.specs.Device.{ContentPasses}
use Rattle.wb_super.specs.Recording.{Records}
use Rattle.wb_replay.proofs.Turns.{number_of, text_of}
use Rattle.wb_replay.proofs.Leavings.{crash_of, contents_of, left_of, tells_of, all_put_of}
use Rattle.wb_replay.proofs.replaying.replay.Goals as goal

pub returns-in_err-followed-clause-crash : goal.returns-in_err-followed-clause-crash
returns-in_err-followed-clause-crash g c =
    λ super x0 y0 z of nothing backing_nothing.
    crash_of x0 y0 z (g.met.L.Device.sound c.args.log.now) (g.met.B.Device.sound c.args.backing.now) (c.follow.ensures.goes super x0 of.log_told) of nothing backing_nothing

pub returns-in_err-followed-clause-contents : goal.returns-in_err-followed-clause-contents
returns-in_err-followed-clause-contents g c =
    λ super x0 y0 z of.
    contents_of x0 y0 z (text_of (g.L.Device.state c.args.log.now) c.args.found.now x0 super of.log_told) (c.follow.ensures.goes super x0 of.log_told) of

pub returns-clause-chain : goal.returns-clause-chain
returns-clause-chain g c =
    λ super x told.
    tells_of x c.args.found.now.recorded c.in_ok-followed.followed _ (number_of (g.L.Device.state c.args.log.now) c.args.found.now x super told) (c.in_ok-followed.ensures.follows super x told)
    refl refl (ap (λ (n : ℕ). c.args.found.now.recorded + n) c.from.ensures) refl

pub returns-clause-crash : goal.returns-clause-crash
returns-clause-crash g c =
    λ super x0 y0 z of nothing backing_nothing.
    crash_of x0 y0 z (g.met.L.Device.sound c.args.log.now) (g.met.B.Device.sound c.args.backing.now) (c.follow.ensures.goes super x0 of.log_told) of nothing backing_nothing

pub returns-clause-left : goal.returns-clause-left
returns-clause-left g c =
    λ super x0 y0 z of.
    left_of x0 y0 z of
    (subst (λ (n : ℕ). ContentPasses (Records (n + c.args.found.now.geometry.slots)) (g.L.Device.state c.args.log.now) (g.L.Device.state c.follow.new.log))
    (sym (number_of (g.L.Device.state c.args.log.now) c.args.found.now x0 super of.log_told)) c.in_ok-followed.ensures.records)
    c.in_ok-followed.ensures.durable.0
    (all_put_of (g.L.Device.state c.args.log.now) c.args.found.now x0 super of.log_told c.in_ok-followed.ensures.no_stray (c.in_ok-followed.ensures.follows super x0 of.log_told) c.in_ok-followed.ensures.durable.1)

pub returns-clause-contents : goal.returns-clause-contents
returns-clause-contents g c =
    λ super x0 y0 z of.
    contents_of x0 y0 z (text_of (g.L.Device.state c.args.log.now) c.args.found.now x0 super of.log_told) (c.follow.ensures.goes super x0 of.log_told) of
