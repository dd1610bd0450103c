-- Each turn puts a segment, or finds that the slot is refused.
use Rattle.std.proofs.Common.{◌+◌, Option, refl, subst, arith}
use Rattle.wb_header.specs.declared.checking.Refused.{Refused}
use Rattle.wb_replay.specs.Putting.{TakesSegment}
use Rattle.wb_replay.proofs.Chains.{following_none, following_more, follows_refused, follows_whole, follows_partly, follows_stopped, whole_partly, none_is}
use Rattle.wb_replay.proofs.following.put_chain.Goals as goal

pub loop-count-init : goal.loop-count-init
loop-count-init g c = following_none c.args.found.now.geometry c.args.found.now.recorded c.args.slot.now (g.L.Device.state c.args.log.now) (g.B.Device.state c.args.backing.now) c.requires.buffer

-- a device fails

pub returns-in_err-stopped-clause-partly : goal.returns-in_err-stopped-clause-partly
returns-in_err-stopped-clause-partly g c =
    follows_stopped c.args.found.now.geometry c.args.found.now.recorded c.loop-count.count c.loop-count.slot c.loop-count.invariant
    (omega (arith, c.loop-count-test.true, c.from-count-end.ensures)) c.in_err-stopped.ensures.stops

-- the slot is refused

pub returns-in-Some-clause-follows : goal.returns-in-Some-clause-follows
returns-in-Some-clause-follows g c =
    follows_refused c.args.found.now.geometry c.args.found.now.recorded c.loop-count.count c.loop-count.slot _ c.loop-count.invariant
    (g.met.L.Device.sound c.args.log.now) c.requires.log_room refl (λ x told. subst (λ (o : Option Refused). TakesSegment c.args.found.now.geometry x (c.args.found.now.recorded + 1 + c.loop-count.count) o (g.B.Device.state c.loop-count.backing) (g.B.Device.state c.put_segment.new.backing)) c.in-Some.is (c.in_ok-stopped.ensures.takes x told))

pub returns-in-Some-clause-partly : goal.returns-in-Some-clause-partly
returns-in-Some-clause-partly g c =
    λ x told is. whole_partly (follows_refused c.args.found.now.geometry c.args.found.now.recorded c.loop-count.count c.loop-count.slot (record { count = c.loop-count.count; stopped = c.in-Some.stopped }) c.loop-count.invariant
    (g.met.L.Device.sound c.args.log.now) c.requires.log_room refl (λ y told_too. subst (λ (o : Option Refused). TakesSegment c.args.found.now.geometry y (c.args.found.now.recorded + 1 + c.loop-count.count) o (g.B.Device.state c.loop-count.backing) (g.B.Device.state c.put_segment.new.backing)) c.in-Some.is (c.in_ok-stopped.ensures.takes y told_too)) x told is)

-- the segment is put

pub loop-count-preserved : goal.loop-count-preserved
loop-count-preserved g c =
    following_more c.args.found.now.geometry c.args.found.now.recorded c.loop-count.count c.loop-count.slot c.put_segment.new.slot (omega (arith, c.loop-count-test.true, c.from-count-end.ensures)) c.put_segment.auto.slot
    c.loop-count.invariant c.put_segment.ensures.only_read (c.in_ok-stopped.ensures.log_cause.kept (λ is. cc)) c.put_segment.ensures.reads
    c.put_segment.ensures.unsynced (c.in_ok-stopped.ensures.backing_cause.kept (λ is. cc))
    (λ x told. subst (λ (o : Option Refused). TakesSegment c.args.found.now.geometry x (c.args.found.now.recorded + 1 + c.loop-count.count) o (g.B.Device.state c.loop-count.backing) (g.B.Device.state c.put_segment.new.backing)) (none_is c.in_ok-stopped.field-0 c.in_default.not-Some) (c.in_ok-stopped.ensures.takes x told))

-- all slots had one

pub returns-clause-follows : goal.returns-clause-follows
returns-clause-follows g c =
    follows_whole c.args.found.now.geometry c.args.found.now.recorded c.loop-count.count c.loop-count.slot _ c.loop-count.invariant
    (g.met.L.Device.sound c.args.log.now) c.requires.log_room (omega (arith, c.loop-count-test.false, c.from-count-end.ensures)) c.from.ensures refl

pub returns-clause-partly : goal.returns-clause-partly
returns-clause-partly g c = follows_partly c.args.found.now.geometry c.args.found.now.recorded c.loop-count.count c.loop-count.slot c.loop-count.invariant
