use Rattle.std.proofs.Common.{ℕ, ◌≡◌, ◌+◌, ◌-◌, ◌∙◌, ap, arith, subst}
use Rattle.wb_super.proofs.Superblocks.{reads_only}
use Rattle.wb_engine.proofs.Plannings.{IsPlanning, planning_more, planning_done, kept_more, kept_within}
use Rattle.wb_engine.specs.Stepping.{blocks_kept}
use Rattle.wb_engine.proofs.stepping.plan_segments.Goals as goal

pub returns-in_err-add_segment-clause-reads : goal.returns-in_err-add_segment-clause-reads
returns-in_err-add_segment-clause-reads g c =
    let m : ℕ = c.loop-before.before - c.args.back in
    let kept = c.args.memory.now.logged in
    omega (
      arith,
      c.loop-before.invariant.3,
      c.add_segment.ensures.reads,
      kept_more kept c.args.back m (c.loop-before.before + 1) (omega (arith, c.loop-before.auto.before)),
      kept_within kept c.args.back (m + 1) (c.args.last - c.args.back) (omega (arith, c.loop-before.auto.before, c.loop-before-test.true)),
    )

pub loop-before-preserved : goal.loop-before-preserved
loop-before-preserved g c =
    let m : ℕ = c.loop-before.before - c.args.back in
    let next : m + 1 ≡ c.loop-before.before + 1 - c.args.back = omega (arith, c.loop-before.auto.before) in
    let id : c.loop-before.before + 1 ≡ c.args.back + m + 1 = omega (arith, c.loop-before.auto.before) in
    let kept = c.args.memory.now.logged in (
      subst (λ (n : ℕ). IsPlanning c.args.geometry.now kept c.args.back (g.L.Device.state c.args.log.now) n c.args.plan.now.room c.add_segment.new.plan) next
          (planning_more c.args.geometry.now kept c.args.back (g.L.Device.state c.args.log.now) (g.L.Device.state c.loop-before.log) m c.args.plan.now.room (c.loop-before.before + 1)
          c.loop-before.plan c.add_segment.new.plan id c.loop-before.invariant.1.content c.loop-before.invariant.0 c.in_ok-add_segment.ensures.added c.add_segment.ensures.few c.add_segment.ensures.room),
      reads_only c.loop-before.invariant.1 c.add_segment.ensures.only_read,
      c.in_ok-add_segment.ensures.cause.kept ∙ c.loop-before.invariant.2,
      omega (arith, c.loop-before.invariant.3, c.add_segment.ensures.reads, kept_more kept c.args.back m (c.loop-before.before + 1) id, ap (blocks_kept kept c.args.back) next),
    )

pub returns-clause-planned : goal.returns-clause-planned
returns-clause-planned g c =
    planning_done c.args.geometry.now c.args.memory.now.logged c.args.back c.args.last (g.L.Device.state c.args.log.now) (c.loop-before.before - c.args.back) c.args.plan.now.room c.loop-before.plan
    c.arrange.new.self (omega (arith, c.requires.some)) (omega (arith, c.loop-before-test.false, c.loop-before.auto.before-end)) c.loop-before.invariant.0 c.arrange.ensures.arranged c.arrange.ensures.same c.arrange.ensures.put
