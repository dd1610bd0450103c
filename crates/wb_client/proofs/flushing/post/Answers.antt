-- The ticket tells what was posted.
use Rattle.std.proofs.Common.{refl}
use Rattle.wb_geometry.specs.Layout.{places}
use Rattle.wb_intake.specs.Passes.{client_of_pass, view_of, loads_of}
use Rattle.wb_client.proofs.Passes.{numbered_posted}
use Rattle.wb_client.proofs.flushing.post.Goals as goal

pub returns-clause-posted : goal.returns-clause-posted
returns-clause-posted g c =
    let p = c.args.pass.now in
    let ticket = c.post_flush-ticket in
    record {
      numbered = numbered_posted (client_of_pass p) (view_of p) (view_of ticket.new.pass) ticket.result (places g.T.Named.carried.geometry) (loads_of p).cursor (loads_of ticket.new.pass).cursor _
          ticket.ensures.few p.owns.1 refl refl ticket.ensures.number ticket.ensures.posted;
      whole = ticket.ensures.number.rounded.0;
      up = refl;
    }
