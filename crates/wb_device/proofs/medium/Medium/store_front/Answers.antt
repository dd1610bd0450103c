use Rattle.std.proofs.Common.{◌≡◌, ◌*◌, ◌/◌, length, min, arith}
use Rattle.wb_device.proofs.Media.{front_sectors}
use Rattle.wb_device.proofs.medium.Medium.store_front.Goals as goal

pub returns-clause-recorded : goal.returns-clause-recorded
returns-clause-recorded c =
    let stored : c.min.result * 512 ≡ min c.args.count (length c.args.bytes.now / 512) * 512 = omega (arith, c.min.ensures) in
    rw (← front_sectors c.args.count (c.min.result * 512) c.args.bytes.now stored) c.store.ensures.recorded

pub returns-clause-written : goal.returns-clause-written
returns-clause-written c =
    let stored : c.min.result * 512 ≡ min c.args.count (length c.args.bytes.now / 512) * 512 = omega (arith, c.min.ensures) in
    rw (← front_sectors c.args.count (c.min.result * 512) c.args.bytes.now stored) c.store.ensures.written
