-- No note for the client was passed; the requests that are left grow fewer.
use Rattle.std.proofs.Common.{◌≡◌, length}
use Rattle.wb_client.specs.Played.{counts_from}
use Rattle.wb_client.proofs.teller.Teller.next.Given as goal

abbrev pub invariant-loop-first : goal.invariant-loop-first
invariant-loop-first l = counts_from l.fn.self.told l.hearer l.fn.self.rest.now ≡ counts_from l.self.told l.hearer l.self.rest.now

abbrev pub decreases-loop-first : goal.decreases-loop-first
decreases-loop-first l = length l.self.rest.now
