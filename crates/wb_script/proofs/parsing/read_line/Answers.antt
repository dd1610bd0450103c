use Rattle.std.proofs.Common.{arith}
use Rattle.std.proofs.lemmas.Result.{on_ok_weaker}
use Rattle.wb_script.proofs.Progress.{IsReadSoFar-size}
use Rattle.wb_script.proofs.parsing.read_line.Goals as goal

pub add-requires-clause-few : goal.add-requires-clause-few
add-requires-clause-few c = omega (arith, c.requires.few, IsReadSoFar-size c.requires.read.0 c.args.clients c.requires.read.1 c.args.reading.now c.requires.read.2)

pub add-requires-clause-client : goal.add-requires-clause-client
add-requires-clause-client c =
    omega (arith, c.in_ok-client.ensures.request.0, IsReadSoFar-size c.requires.read.0 c.args.clients c.requires.read.1 c.args.reading.now c.requires.read.2)

pub add-requires-clause-asked : goal.add-requires-clause-asked
add-requires-clause-asked c = (c.args.sectors, c.args.clients, c.in_ok-client.ensures.request.1)

pub returns-clause-read : goal.returns-clause-read
returns-clause-read c =
    on_ok_weaker c.add.result
    (λ each. (c.in_ok-client.client, c.in_ok-client.request, c.in_ok-client.ensures.request, λ all owned so_far. each all c.args.clients owned so_far))
    c.add.ensures.read
