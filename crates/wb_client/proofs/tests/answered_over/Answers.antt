-- The script is valid, and each pass is that of its client.
use Rattle.std.proofs.Common.{ℕ, ◌≡◌, ◌≤◌, [], ◌∷◌, ◌++◌, List, length, ap, ◌∙◌, arith}
use Rattle.std.proofs.lemmas.List.{append_assoc, length-append}
use Rattle.wb_geometry.specs.declared.geometry.Geometry.{Geometry}
use Rattle.wb_intake.specs.Passes.{name_of}
use Rattle.wb_intake.specs.declared.pass.Pass.{Pass}
use Rattle.wb_script.proofs.Validity.{valid_script}
use Rattle.wb_front.specs.Beginning.{intake_of}
use Rattle.wb_client.proofs.Newcomers.{newcomer_at}
use Rattle.wb_client.proofs.tests.answered_over.Goals as goal

pub answered-requires-clause-valid : goal.answered-requires-clause-valid
answered-requires-clause-valid g c = valid_script _ _ _ c.in-Ok-parse.ensures.script.is

pub answered-requires-clause-fits : goal.answered-requires-clause-fits
answered-requires-clause-fits g c = omega (arith, c.in-Ok-parse.ensures.script.is.sectors_are, ap (λ (n : Geometry). n.backing_sectors) c.geometry.ensures)

-- all passes, the last two apart
parted : (all front : List Pass) (first second : Pass) (most : List Pass) → all ≡ most ++ second ∷ [] → most ≡ front ++ first ∷ [] → all ≡ front ++ first ∷ second ∷ []
parted all front first second most last next = last ∙ ap (λ (l : List Pass). l ++ second ∷ []) next ∙ append_assoc front (first ∷ []) (second ∷ [])

pub answered-requires-clause-first : goal.answered-requires-clause-first
answered-requires-clause-first g c =
    let first = c.in-Some-pop.first in
    let second = c.in-Some.second in
    let front = c.pop-2.new.self.items in
    let all = parted c.in-Ok.passes.items front first second c.pop.new.self.items c.in-Some.ensures.items c.in-Some-pop.ensures.items in
    let count : length front ≡ 0 = omega (arith, ap length all, length-append front (first ∷ second ∷ []), c.in-Ok.ensures.opened.count) in
    newcomer_at (name_of (intake_of c.in-Ok.ready)) _ 0 c.in-Ok.passes.items front (second ∷ []) first all count c.in-Ok.ensures.opened.passes

pub answered-requires-clause-second : goal.answered-requires-clause-second
answered-requires-clause-second g c =
    let second = c.in-Some.second in
    let most = c.pop.new.self.items in
    let count : length most ≡ 1 = omega (arith, ap length c.in-Some.ensures.items, length-append most (second ∷ []), c.in-Ok.ensures.opened.count) in
    newcomer_at (name_of (intake_of c.in-Ok.ready)) _ 1 c.in-Ok.passes.items most [] second c.in-Some.ensures.items count c.in-Ok.ensures.opened.passes
