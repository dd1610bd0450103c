use Rattle.std.proofs.Common.{◌/◌, length, refl, arith}
use Rattle.wb_device.proofs.Media.{recorded_sync, within_push}
use Rattle.wb_device.proofs.medium.Medium.keep.Goals as goal

pub invariant_of-self-clause-within : goal.invariant_of-self-clause-within
invariant_of-self-clause-within c =
    within_push _ (length c.args.self.now.first.items / 512) c.args.self.now.recorded.items _ (refl, omega arith) c.push.ensures.items c.args.self.now.within

pub invariant_of-self-clause-content : goal.invariant_of-self-clause-content
invariant_of-self-clause-content c = recorded_sync _ c.args.self.now.recorded.items _ _ _ refl c.push.ensures.items c.args.self.now.content
