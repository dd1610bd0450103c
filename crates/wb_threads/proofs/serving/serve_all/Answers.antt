-- The session of a cache that was opened for it.
use Rattle.std.proofs.Common.{ℕ, ◌≡◌, ◌≤◌, inl, refl, sym, ap, ◌∙◌, subst, arith}
use Rattle.std.proofs.lemmas.Result.{IfOk-weaker, IfErr-weaker}
use Rattle.wb_geometry.specs.declared.geometry.Geometry.{Geometry}
use Rattle.wb_super.specs.declared.reading.Super.{Super}
use Rattle.wb_intake.specs.Carried.{Carried}
use Rattle.wb_engine.specs.declared.opening.OpenCause.TheVariants.{Memory}
use Rattle.wb_engine.specs.Opening.{recovered_to}
use Rattle.wb_front.specs.Beginning.{engine_of, IsReadied}
use Rattle.wb_serve.specs.Session.{devices, IsSession, report_of}
use Rattle.wb_serve.specs.declared.serving.ServeStop.{ServeStop}
use Rattle.wb_serve.specs.declared.serving.ServeStop.TheVariants.{Open}
use Rattle.wb_serve.specs.declared.serving.Session.{Session}
use Rattle.wb_threads.specs.Threads.{BeginsFrom, HasServed, HasEndedEarly, IsUnservedOnThreads}
use Rattle.wb_threads.proofs.Begun.{carried_of, carries, newcomers, begins}
use Rattle.wb_threads.proofs.Left.{ended_early}
use Rattle.wb_threads.proofs.Sessions.{session_threads}
use Rattle.wb_threads.proofs.serving.serve_all.Goals as goal

pub returns-then-found-parsed-clause-unserved : goal.returns-then-found-parsed-clause-unserved
returns-then-found-parsed-clause-unserved g c =
    let opens = c.in-Ok.ensures.opened.engine in (
      c.sectors-parsed.ensures,
      c.if-found-parsed.true,
      (
        opens.found,
        rw (c.into_devices-log.ensures.log, c.into_devices-log.ensures.backing) opens.recovered,
        ap (λ (n : Geometry). n.backing_sectors) (c.geometry.ensures ∙ opens.geometry),
      ),
    )

pub serve_ready-requires-clause-carried : goal.serve_ready-requires-clause-carried
serve_ready-requires-clause-carried g c κs within =
    carries g.L.Device.state g.B.Device.state (g.L.Device.state c.args.log) (g.B.Device.state c.args.backing) c.args.script.now.clients c.in-Ok.opened.0 c.in-Ok.opened.1.items
    (subst (λ (n : ℕ). IsReadied g.L.Device.state g.B.Device.state (g.L.Device.state c.args.log) (g.B.Device.state c.args.backing) n c.in-Ok.opened.0 c.in-Ok.opened.1.items) c.clients.ensures c.in-Ok.ensures.opened)

pub serve_ready-requires-clause-passes : goal.serve_ready-requires-clause-passes
serve_ready-requires-clause-passes g c κs within =
    newcomers g.L.Device.state g.B.Device.state (g.L.Device.state c.args.log) (g.B.Device.state c.args.backing) c.args.script.now.clients c.in-Ok.opened.0 c.in-Ok.opened.1.items
    (subst (λ (n : ℕ). IsReadied g.L.Device.state g.B.Device.state (g.L.Device.state c.args.log) (g.B.Device.state c.args.backing) n c.in-Ok.opened.0 c.in-Ok.opened.1.items) c.clients.ensures c.in-Ok.ensures.opened)

pub returns-clause-served : goal.returns-clause-served
returns-clause-served g c =
    let before = devices (g.L.Device.state c.args.log) (g.B.Device.state c.args.backing) in
    let script = c.args.script.now in
    let t : Carried = carried_of g.L.Device.state g.B.Device.state script.clients c.in-Ok.opened.0 in
    let ready : IsReadied g.L.Device.state g.B.Device.state (g.L.Device.state c.args.log) (g.B.Device.state c.args.backing) script.clients c.in-Ok.opened.0 c.in-Ok.opened.1.items =
    subst (λ (n : ℕ). IsReadied g.L.Device.state g.B.Device.state (g.L.Device.state c.args.log) (g.B.Device.state c.args.backing) n c.in-Ok.opened.0 c.in-Ok.opened.1.items) c.clients.ensures c.in-Ok.ensures.opened in
    let fits : script.sectors ≤ (engine_of c.in-Ok.opened.0).geometry.backing_sectors = omega (arith, c.if-found-parsed.false, c.sectors-parsed.ensures, ap (λ (n : Geometry). n.backing_sectors) c.geometry.ensures) in
    IfOk-weaker c.serve_ready.result.answer
    (λ (s : Session). HasServed g.L.Device.state g.B.Device.state t script c.serve_ready.result.log c.serve_ready.result.backing s)
    (λ (s : Session). (found : Super) × (u : Carried) × BeginsFrom found script before u × HasServed g.L.Device.state g.B.Device.state u script c.serve_ready.result.log c.serve_ready.result.backing s)
    (λ s served. (ready.engine.found, t, begins g.L.Device.state g.B.Device.state (g.L.Device.state c.args.log) (g.B.Device.state c.args.backing) script.clients c.in-Ok.opened.0 c.in-Ok.opened.1.items ready script refl fits, served))
    c.serve_ready.ensures.session

pub returns-clause-unserved : goal.returns-clause-unserved
returns-clause-unserved g c =
    let before = devices (g.L.Device.state c.args.log) (g.B.Device.state c.args.backing) in
    let script = c.args.script.now in
    let t : Carried = carried_of g.L.Device.state g.B.Device.state script.clients c.in-Ok.opened.0 in
    let ready : IsReadied g.L.Device.state g.B.Device.state (g.L.Device.state c.args.log) (g.B.Device.state c.args.backing) script.clients c.in-Ok.opened.0 c.in-Ok.opened.1.items =
    subst (λ (n : ℕ). IsReadied g.L.Device.state g.B.Device.state (g.L.Device.state c.args.log) (g.B.Device.state c.args.backing) n c.in-Ok.opened.0 c.in-Ok.opened.1.items) c.clients.ensures c.in-Ok.ensures.opened in
    let fits : script.sectors ≤ (engine_of c.in-Ok.opened.0).geometry.backing_sectors = omega (arith, c.if-found-parsed.false, c.sectors-parsed.ensures, ap (λ (n : Geometry). n.backing_sectors) c.geometry.ensures) in
    let now = devices (g.L.Device.state c.serve_ready.result.log) (g.B.Device.state c.serve_ready.result.backing) in
    let from = begins g.L.Device.state g.B.Device.state (g.L.Device.state c.args.log) (g.B.Device.state c.args.backing) script.clients c.in-Ok.opened.0 c.in-Ok.opened.1.items ready script refl fits in
    IfErr-weaker c.serve_ready.result.answer
    (λ (why : ServeStop). (why ≡ Open Memory) × HasEndedEarly g.L.Device.state g.B.Device.state t c.serve_ready.result.log c.serve_ready.result.backing)
    (IsUnservedOnThreads script before now)
    (λ why early. subst (IsUnservedOnThreads script before now) (sym early.0)
    (inl (refl, (ready.engine.found, ended_early g.L.Device.state g.B.Device.state ready.engine.found script before t c.serve_ready.result.log c.serve_ready.result.backing from early.1))))
    c.serve_ready.ensures.memory

pub returns-clause-session : goal.returns-clause-session
returns-clause-session g c =
    let before = devices (g.L.Device.state c.args.log) (g.B.Device.state c.args.backing) in
    let script = c.args.script.now in
    let t : Carried = carried_of g.L.Device.state g.B.Device.state script.clients c.in-Ok.opened.0 in
    let ready : IsReadied g.L.Device.state g.B.Device.state (g.L.Device.state c.args.log) (g.B.Device.state c.args.backing) script.clients c.in-Ok.opened.0 c.in-Ok.opened.1.items =
    subst (λ (n : ℕ). IsReadied g.L.Device.state g.B.Device.state (g.L.Device.state c.args.log) (g.B.Device.state c.args.backing) n c.in-Ok.opened.0 c.in-Ok.opened.1.items) c.clients.ensures c.in-Ok.ensures.opened in
    let fits : script.sectors ≤ (engine_of c.in-Ok.opened.0).geometry.backing_sectors = omega (arith, c.if-found-parsed.false, c.sectors-parsed.ensures, ap (λ (n : Geometry). n.backing_sectors) c.geometry.ensures) in
    let from = begins g.L.Device.state g.B.Device.state (g.L.Device.state c.args.log) (g.B.Device.state c.args.backing) script.clients c.in-Ok.opened.0 c.in-Ok.opened.1.items ready script refl fits in
    IfOk-weaker c.serve_ready.result.answer
    (λ (s : Session). HasServed g.L.Device.state g.B.Device.state t script c.serve_ready.result.log c.serve_ready.result.backing s)
    (λ (s : Session). (found : Super) × IsSession found script before (devices (g.L.Device.state c.serve_ready.result.log) (g.B.Device.state c.serve_ready.result.backing)) (report_of s) × (s.first ≡ recovered_to found))
    (λ s served.
    let is = session_threads g.L.Device.state g.B.Device.state ready.engine.found script before t c.serve_ready.result.log c.serve_ready.result.backing s from served in
    (ready.engine.found, is.0, is.1))
    c.serve_ready.ensures.session
