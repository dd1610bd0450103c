-- The table has the newest spots.
use Rattle.wb_engine.proofs.SectorReads.{spots_newest}
use Rattle.wb_engine.proofs.engine.Engine.spots.Goals as goal

pub returns-clause-newest : goal.returns-clause-newest
returns-clause-newest g c =
    spots_newest _ _ c.args.block c.spots.result c.self.view_is c.self.invariant.0 c.spots.ensures.sound c.spots.ensures.table
