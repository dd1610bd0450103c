-- The clients were served, and the front was closed with their passes.
use Rattle.std.proofs.Common.{◌≡◌, List, subst, sym, ap, ◌∙◌, Option, Some, None, refl}
use Rattle.std.specs.Prelude.{IfSome}
use Rattle.std.proofs.lemmas.Result.{IfOk-weaker, IfErr-weaker}
use Rattle.wb_front.specs.declared.closing.Finished.{Finished}
use Rattle.wb_engine.specs.declared.opening.OpenCause.TheVariants.{Memory}
use Rattle.wb_serve.specs.declared.serving.ServeStop.{ServeStop}
use Rattle.wb_serve.specs.declared.serving.ServeStop.TheVariants.{Open}
use Rattle.wb_serve.specs.declared.serving.Session.{Session}
use Rattle.wb_threads.specs.Threads.{HaveAllPlayed, TellsOf, HasServed, HasEndedEarly}
use Rattle.wb_threads.proofs.Ended.{served}
use Rattle.wb_threads.proofs.serving.serve_ready.Goals as goal

pub returns-clause-session : goal.returns-clause-session
returns-clause-session g c =
    let t = g.T.Named.carried in
    let f : Finished g.row.L.Denot g.row.B.Denot = c.close-finished.result in
    IfOk-weaker c.session_of.result.answer
    (λ (session : Session). (c.play_all-passes.result.1 ≡ Some session.transcripts) × TellsOf f session)
    (λ (session : Session). HasServed g.L.Device.state g.B.Device.state t c.args.script.now c.session_of.result.log c.session_of.result.backing session)
    (λ session told.
    served g.L.Device.state g.B.Device.state t c.args.script.now c.play_all-passes.result.0.items f session.transcripts.items c.requires.valid c.requires.count.1 c.play_all-passes.ensures.passes c.close-finished.ensures
    (subst (λ o. IfSome o (λ all. HaveAllPlayed t c.args.script.now.requests c.play_all-passes.result.0.items all.items)) told.0 c.play_all-passes.ensures.played)
    c.session_of.result.log c.session_of.result.backing session c.session_of.ensures.devices refl told.1)
    c.session_of.ensures.session

pub returns-clause-memory : goal.returns-clause-memory
returns-clause-memory g c =
    let t = g.T.Named.carried in
    let f : Finished g.row.L.Denot g.row.B.Denot = c.close-finished.result in
    IfErr-weaker c.session_of.result.answer
    (λ (why : ServeStop). (why ≡ Open Memory) × (c.play_all-passes.result.1 ≡ None))
    (λ (why : ServeStop). (why ≡ Open Memory) × HasEndedEarly g.L.Device.state g.B.Device.state t c.session_of.result.log c.session_of.result.backing)
    (λ why told. (
      told.0,
      record {
        passes = c.play_all-passes.result.0.items;
        finished = f;
        closed = c.close-finished.ensures;
        devices = (sym c.session_of.ensures.devices.0, sym c.session_of.ensures.devices.1);
      },
    ))
    c.session_of.ensures.memory
