use Rattle.std.proofs.Common.{set, refl, ap, arith}
use Rattle.wb_script.proofs.Progress.{IsReadSoFar-more, IsReadSoFar-size}
use Rattle.wb_script.proofs.parsing.reading.Reading.add.Goals as goal

pub returns-clause-read : goal.returns-clause-read
returns-clause-read c = λ all clients owned so_far.
    let size = IsReadSoFar-size all clients owned c.args.self.now so_far in
    IsReadSoFar-more all clients owned c.args.client c.args.request c.args.self.now c.count.new.self _ c.index_mut.result.now so_far c.in_ok-count.ensures.counted (omega arith)
    c.index_mut.ensures.value (ap (set c.count.new.self.requests.items c.args.client) c.in_ok-push.ensures.ok) refl refl
