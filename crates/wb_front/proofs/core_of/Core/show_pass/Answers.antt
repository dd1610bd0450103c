-- The pass met the drain, read and looked, so it is shown.
use Rattle.std.proofs.Common.{◌≡◌, ◌≤◌, length, sym, ap, subst, arith}
use Rattle.wb_steps.specs.declared.view.View.{View}
use Rattle.wb_intake.specs.Passes.{view_of, drain_view}
use Rattle.wb_front.specs.Joined.{CoreContent, drained}
use Rattle.wb_front.specs.Closing.{IsShown}
use Rattle.wb_front.proofs.Closings.{shown_read}
use Rattle.wb_front.proofs.core_of.Core.show_pass.Goals as goal

pub returns-clause-shown : goal.returns-clause-shown
returns-clause-shown g c =
    let v : View = view_of c.meet.new.pass in
    let d : View = drain_view c.meet.new.drain in
    let same : v ≡ view_of c.args.pass = c.meet.ensures.same.0 in
    let before : (view_of c.args.pass).seen.cursor ≤ length (drain_view c.self.inside.drain).known =
    subst (λ (x : CoreContent g.row.L.Denot g.row.B.Denot). (view_of c.args.pass).seen.cursor ≤ length (drained x)) (sym c.self.view_is) c.requires.reached in
    let known : length d.known ≡ length (drain_view c.self.inside.drain).known = ap (λ (x : View). length x.known) c.meet.ensures.looks.2 in
    let cursor : v.seen.cursor ≡ (view_of c.args.pass).seen.cursor = ap (λ (x : View). x.seen.cursor) same in
    let shown : IsShown d v = shown_read d v (view_of c.show.new.pass) c.meet.ensures.behind c.show.ensures.read (omega (arith, before, known, cursor)) c.show.ensures.alike in
    subst (λ (e : View). IsShown e (view_of c.args.pass)) (sym c.show.ensures.same) (subst (λ (x : View). IsShown d x) same shown)
