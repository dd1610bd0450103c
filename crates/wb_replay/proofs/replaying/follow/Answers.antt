-- All calls, one after another.
use Rattle.std.proofs.Common.{◌≡◌, ◌+◌, ◌∙◌, Err, ap, arith}
use Rattle.wb_super.specs.Superblock.{record_of}
use Rattle.std.proofs.lemmas.Result.{err_from_is_err_and}
use Rattle.wb_replay.specs.declared.replaying.ReplayStop.{ReplayStop}
use Rattle.wb_replay.proofs.Turns.{synced_by_reads, synced_then, nothing_read, partly_between, whole_between, number_of, tidy_of, goes_partly, goes_whole, goes_ended, ends_in_turn, at_err, synced_none}
use Rattle.wb_replay.proofs.replaying.follow.Goals as goal

-- a device fails in the chain

pub returns-in_err-followed-clause-goes : goal.returns-in_err-followed-clause-goes
returns-in_err-followed-clause-goes g c =
    λ super x told.
    let number = number_of (g.L.Device.state c.args.log.now) c.args.found.now x super told in
    let limit : c.args.found.now.recorded + c.from.result ≡ record_of x + c.args.found.now.geometry.slots = omega (arith, number, c.from.ensures) in
    goes_partly c.args.found.now.geometry x (synced_then c.settle.ensures.log (synced_by_reads c.put_chain.ensures.only_read))
    (tidy_of c.args.found.now.geometry (c.args.found.now.recorded + c.from.result) (g.L.Device.state c.args.log.now) x c.in_ok-settle.ensures.no_stray told limit)
    (partly_between c.settle.ensures.backing (c.put_chain.ensures.partly x (c.settle.ensures.log.content ∙ told) number) (synced_none (g.B.Device.state c.put_chain.new.backing)))

-- at the end

pub returns-in_err-finish-clause-in_turn : goal.returns-in_err-finish-clause-in_turn
returns-in_err-finish-clause-in_turn g c =
    let p = err_from_is_err_and c.from_residual-in_err-finish.result c.from_residual-in_err-finish.ensures.1 in
    at_err _ c.from_residual-in_err-finish.result c.in_err-finish.field-0.0 (p.1 ∙ ap (λ (why : ReplayStop). Err why) p.2)
    (ends_in_turn (g.L.Device.state c.finish.new.log) (g.B.Device.state c.args.backing.now) (g.B.Device.state c.finish.new.backing) c.in_err-finish.field-0.0 c.in_err-finish.ensures.refused (synced_then c.settle.ensures.log (synced_by_reads c.put_chain.ensures.only_read))
    (nothing_read c.put_chain.ensures.only_read c.in_ok-settle.ensures.settled.0)
    (omega (arith, c.in_ok-settle.ensures.synced, c.put_chain.ensures.unsynced.syncs, c.finish.ensures.calls.from)))

pub returns-in_err-finish-clause-goes : goal.returns-in_err-finish-clause-goes
returns-in_err-finish-clause-goes g c =
    λ super x told.
    let number = number_of (g.L.Device.state c.args.log.now) c.args.found.now x super told in
    let limit : c.args.found.now.recorded + c.from.result ≡ record_of x + c.args.found.now.geometry.slots = omega (arith, number, c.from.ensures) in
    goes_ended c.args.found.now.geometry x (c.args.found.now.recorded + c.from.result) c.in_ok-followed.followed c.in_err-finish.field-0.0 limit
    (tidy_of c.args.found.now.geometry (c.args.found.now.recorded + c.from.result) (g.L.Device.state c.args.log.now) x c.in_ok-settle.ensures.no_stray told limit)
    (synced_then c.settle.ensures.log (synced_by_reads c.put_chain.ensures.only_read)) c.finish.ensures.content c.finish.ensures.crash
    (whole_between c.settle.ensures.backing (c.in_ok-followed.ensures.follows x (c.settle.ensures.log.content ∙ told) number) c.finish.ensures.backing) c.in_err-finish.ensures.refused

-- all is done

pub returns-clause-follows : goal.returns-clause-follows
returns-clause-follows g c =
    λ super x told.
    let number = number_of (g.L.Device.state c.args.log.now) c.args.found.now x super told in
    whole_between c.settle.ensures.backing (c.in_ok-followed.ensures.follows x (c.settle.ensures.log.content ∙ told) number) c.finish.ensures.backing

pub returns-clause-goes : goal.returns-clause-goes
returns-clause-goes g c =
    λ super x told.
    let number = number_of (g.L.Device.state c.args.log.now) c.args.found.now x super told in
    let limit : c.args.found.now.recorded + c.from.result ≡ record_of x + c.args.found.now.geometry.slots = omega (arith, number, c.from.ensures) in
    goes_whole c.args.found.now.geometry x (c.args.found.now.recorded + c.from.result) c.in_ok-followed.followed limit
    (tidy_of c.args.found.now.geometry (c.args.found.now.recorded + c.from.result) (g.L.Device.state c.args.log.now) x c.in_ok-settle.ensures.no_stray told limit)
    (synced_then c.settle.ensures.log (synced_by_reads c.put_chain.ensures.only_read)) c.finish.ensures.content c.finish.ensures.crash
    (whole_between c.settle.ensures.backing (c.in_ok-followed.ensures.follows x (c.settle.ensures.log.content ∙ told) number) c.finish.ensures.backing) c.in_ok-finish.ensures.durable.1
