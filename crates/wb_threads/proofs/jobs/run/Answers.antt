-- The client's requests were answered.
use Rattle.std.proofs.Common.{◌∙◌}
use Rattle.wb_threads.proofs.jobs.run.Goals as goal

pub returns-in-Ok : goal.returns-in-Ok
returns-in-Ok g c =
    let own = c.in-Ok.ensures.own in
    record {
      own = (own.0 ∙ c.requires.ready.0.own.0, own.2);
      client_is = own.1;
      played = c.in-Ok.ensures.played;
      few = c.in-Ok.ensures.few;
    }
