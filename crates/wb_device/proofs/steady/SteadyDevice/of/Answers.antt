-- What is cut off is in no whole sector.
use Rattle.std.proofs.Common.{Some, ap}
use Rattle.wb_geometry.specs.Image.{Image}
use Rattle.wb_geometry.proofs.Images.{sectors_of-whole}
use Rattle.wb_device.proofs.steady.SteadyDevice.of.Goals as goal

pub returns-clause-content : goal.returns-clause-content
returns-clause-content c = ap (λ (x : Image). Some x) (rw (c.truncate.ensures.items, c.len.ensures, c.len-2.ensures, c.args.bytes.ok.0) (sectors_of-whole c.args.bytes.items))
