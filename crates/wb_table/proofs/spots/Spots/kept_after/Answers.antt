-- The sector at which the walk stands is on the backing device where its segment is forgotten.
use Rattle.std.proofs.Common.{ℕ, ◌≢◌, ◌≤◌, ◌<◌, sym, ap, ◌∙◌, subst, arith}
use Rattle.wb_table.specs.Lookup.{kept_after}
use Rattle.wb_table.specs.Tables.{spot_of}
use Rattle.wb_table.proofs.Sectors.{step_done, step_rest, kept_after-gone, kept_after-stays}
use Rattle.wb_table.proofs.spots.Spots.kept_after.Goals as goal
use Rattle.wb_table.proofs.spots.Spots.kept_after.Goals.{then-get-id, else-get-id}

pub loop-i-preserved : goal.loop-i-preserved
loop-i-preserved c =
    let i = c.loop-i.i in
    let initial = λ (k : ℕ). spot_of c.args.self.now k in
    let wanted = λ (k : ℕ). kept_after c.args.id (initial k) in
    let old = λ (k : ℕ). spot_of c.loop-i.spots k in
    let new = λ (k : ℕ). spot_of c.if-get-id.spots k in
    let held = c.loop-i.invariant in
    elim c.if-get-id.branch [
      | then-get-id w ↦
          let here = ap (λ spots. spot_of spots i) w.spots-is ∙ w.set.ensures.here ∙ sym (kept_after-gone c.args.id (initial i) (subst (λ spot. spot.id ≤ c.args.id) c.get.ensures w.if-get-id.true)) in
          let others = λ (k : ℕ) (other : k ≢ i). ap (λ spots. spot_of spots k) w.spots-is ∙ w.set.ensures.others k other in
          record { done = step_done wanted initial old new i held.done held.rest here others; rest = step_rest wanted initial old new i held.done held.rest here others }
      | else-get-id w ↦
          let same = λ (k : ℕ). ap (λ spots. spot_of spots k) w.spots-is in
          let here = same i ∙ held.rest i (omega arith) ∙ sym (kept_after-stays c.args.id (initial i) (subst (λ spot. c.args.id < spot.id) c.get.ensures w.if-get-id.false)) in
          record { done = step_done wanted initial old new i held.done held.rest here (λ (k : ℕ) (other : k ≢ i). same k); rest = step_rest wanted initial old new i held.done held.rest here (λ (k : ℕ) (other : k ≢ i). same k) }
    ]
