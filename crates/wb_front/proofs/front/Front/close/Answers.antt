-- All that the passes have seen was drained, so each is shown as it was.
use Rattle.std.proofs.Common.{ℕ, ◌≡◌, ◌≤◌, List, length, subst, sym, ap, arith, Some}
use Rattle.std.specs.Prelude.{slice_get}
use Rattle.std.specs.List.{All}
use Rattle.wb_intake.specs.Passes.{pass_name, view_of, drain_view}
use Rattle.wb_intake.specs.declared.pass.Pass.{Pass}
use Rattle.wb_front.specs.Joined.{drained}
use Rattle.wb_front.specs.Closing.{IsShown}
use Rattle.wb_front.proofs.Closings.{reached_ready, shown_back, written_back}
use Rattle.wb_front.proofs.front.Front.close.Goals as goal

pub drain_all-requires-clause-passes : goal.drain_all-requires-clause-passes
drain_all-requires-clause-passes g c = λ i p is. (c.requires.passes.each i p (subst (λ (ps : List Pass). slice_get ps i ≡ Some p) c.as_mut_slice.ensures.value is)).0

pub show_all-requires-clause-reached : goal.show_all-requires-clause-reached
show_all-requires-clause-reached g c =
    let ps : List Pass = c.as_mut_slice.result.now in
    let qs : List Pass = c.drain_all.new.passes in
    let reached : ℕ = length (drained c.drain_all.new.core) in
    let same : length qs ≡ length ps = omega (arith, c.drain_all.auto.passes) in
    let whole : c.args.passes.len ≡ length qs = omega (arith, same, c.args.passes.ok.0, ap length c.as_mut_slice.ensures.value) in
    subst (λ (xs : List Pass). All (λ p. (pass_name p ≡ g.T.Named.carried.intake) × ((view_of p).seen.cursor ≤ reached)) xs) (sym (written_back c.args.passes.items qs c.args.passes.len whole))
    (reached_ready reached g.T.Named.carried.intake ps qs same c.drain_all.ensures
    (λ i p is. (c.requires.passes.each i p (subst (λ (xs : List Pass). slice_get xs i ≡ Some p) c.as_mut_slice.ensures.value is)).0))

pub returns : goal.returns
returns g c =
    let ps : List Pass = c.as_mut_slice.result.now in
    let qs : List Pass = c.drain_all.new.passes in
    let d = drain_view c.show_all.new.self.drain in
    let same : length qs ≡ length ps = omega (arith, c.drain_all.auto.passes) in
    let whole : c.args.passes.len ≡ length qs = omega (arith, same, c.args.passes.ok.0, ap length c.as_mut_slice.ensures.value) in
    let shown : All (λ p. IsShown d (view_of p)) qs = subst (λ (xs : List Pass). All (λ p. IsShown d (view_of p)) xs) (written_back c.args.passes.items qs c.args.passes.len whole) c.show_all.ensures.shown in
    let before : All (λ p. IsShown d (view_of p)) ps = shown_back (length (drained c.drain_all.new.core)) d ps qs same c.drain_all.ensures shown in
    c.finish.ensures c.args.passes.items (subst (λ (xs : List Pass). All (λ p. IsShown d (view_of p)) xs) c.as_mut_slice.ensures.value before) c.show_all.ensures.clients
