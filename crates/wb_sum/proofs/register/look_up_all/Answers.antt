use Rattle.std.proofs.Common.{sym, arith}
use Rattle.wb_sum.proofs.Lookups.{word_bytes}
use Rattle.wb_sum.proofs.register.look_up_all.Goals as goal

pub returns : goal.returns
returns c = λ behind h.
    rw (
      c.look_up-a.ensures behind h,
      c.look_up-b.ensures behind h,
      c.look_up-c.ensures behind h,
      c.look_up-d.ensures behind h,
      c.look_up-e.ensures behind h,
      c.look_up-f.ensures behind h,
      c.look_up-g.ensures behind h,
      c.look_up-h.ensures behind h,
    )
    (sym (word_bytes behind c.args.word (omega arith)))
