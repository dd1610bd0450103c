use Rattle.wb_sum.proofs.Lookups.{look}
use Rattle.wb_sum.proofs.register.look_up.Goals as goal

pub returns : goal.returns
returns c = λ behind h. look c.args.byte c.args.row c.args.tables.now behind c.told-tables h c.requires.row c.requires.byte
