use Rattle.std.proofs.Common.{◌-◌, ap, sym, arith}
use Rattle.wb_device.specs.Recorded.{change_of}
use Rattle.wb_device.proofs.Media.{alone_after_sync}
use Rattle.wb_device.proofs.medium.Medium.synced_count.Goals as goal

pub returns-in-Synced-clause-alone : goal.returns-in-Synced-clause-alone
returns-in-Synced-clause-alone c =
    alone_after_sync c.args.self.now.recorded.items (c.loop-place.place - 1) c.index.result.now (omega arith) (sym c.index.ensures) (ap change_of c.in-Synced.is)
