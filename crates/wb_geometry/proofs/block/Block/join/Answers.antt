use Rattle.std.proofs.Common.{rules}
use Rattle.wb_geometry.proofs.Blocks.{IsClean-join, sector-join}
use Rattle.wb_geometry.proofs.block.Block.join.Goals as goal

pub invariant_of-self : goal.invariant_of-self
invariant_of-self c = record {
  clean = IsClean-join c.args.self.now.bits c.args.later.now.bits c.args.self.now.payload c.args.later.now.payload c.join_sectors.new.payload c.args.self.now.clean c.join_sectors.ensures.joined;
}

pub returns-clause-payload : goal.returns-clause-payload
returns-clause-payload c i below =
    sector-join c.args.later.now.bits c.args.self.now.payload c.args.later.now.payload c.join_sectors.new.payload i (search rules) (search rules) c.join_sectors.ensures.size below c.join_sectors.ensures.joined
