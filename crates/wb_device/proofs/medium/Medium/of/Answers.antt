use Rattle.wb_geometry.proofs.Images.{sectors_of-whole}
use Rattle.wb_device.proofs.medium.Medium.of.Goals as goal

pub returns-clause-content : goal.returns-clause-content
returns-clause-content c = rw (c.truncate.ensures.items, c.len.ensures, c.len-2.ensures, c.args.bytes.ok.0) (sectors_of-whole c.args.bytes.items)
