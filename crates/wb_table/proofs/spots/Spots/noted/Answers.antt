-- The sector at which the walk stands gets the spot where its bit is set.
use Rattle.std.proofs.Common.{ℕ, ◌≢◌, true, sym, ap, ◌∙◌, arith}
use Rattle.wb_table.specs.Lookup.{noted}
use Rattle.wb_table.specs.Tables.{spot_of}
use Rattle.wb_table.proofs.Sectors.{step_done, step_rest, noted-set, noted-clear}
use Rattle.wb_table.proofs.spots.Spots.noted.Goals as goal
use Rattle.wb_table.proofs.spots.Spots.noted.Goals.{then-bits-i-eq1, else-bits-i-eq1}

pub loop-i-preserved : goal.loop-i-preserved
loop-i-preserved c =
    let i = c.loop-i.i in
    let initial = λ (k : ℕ). spot_of c.args.self.now k in
    let wanted = λ (k : ℕ). noted (initial k) true c.args.bits k c.args.spot in
    let old = λ (k : ℕ). spot_of c.loop-i.spots k in
    let new = λ (k : ℕ). spot_of c.if-bits-i-eq1.spots k in
    let held = c.loop-i.invariant in
    elim c.if-bits-i-eq1.branch [
      | then-bits-i-eq1 w ↦
          let here = ap (λ spots. spot_of spots i) w.spots-is ∙ w.set.ensures.here ∙ sym (noted-set (initial i) c.args.bits i c.args.spot w.if-bits-i-eq1.true) in
          let others = λ (k : ℕ) (other : k ≢ i). ap (λ spots. spot_of spots k) w.spots-is ∙ w.set.ensures.others k other in
          record { done = step_done wanted initial old new i held.done held.rest here others; rest = step_rest wanted initial old new i held.done held.rest here others }
      | else-bits-i-eq1 w ↦
          let same = λ (k : ℕ). ap (λ spots. spot_of spots k) w.spots-is in
          let here = same i ∙ held.rest i (omega arith) ∙ sym (noted-clear (initial i) c.args.bits i c.args.spot w.if-bits-i-eq1.false) in
          record { done = step_done wanted initial old new i held.done held.rest here (λ (k : ℕ) (other : k ≢ i). same k); rest = step_rest wanted initial old new i held.done held.rest here (λ (k : ℕ) (other : k ≢ i). same k) }
    ]
