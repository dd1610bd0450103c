use Rattle.std.proofs.Common.{ap, ◌∙◌}
use Rattle.wb_steps.specs.Views.{hearing}
use Rattle.wb_intake.specs.Passes.{view_of, drain_view}
use Rattle.wb_front.proofs.Hearings.{shown}
use Rattle.wb_front.proofs.fetching.show.Goals as goal

pub returns-clause-read : goal.returns-clause-read
returns-clause-read c =
    shown (view_of c.args.pass.now) (view_of c.look.new.pass) (view_of c.hear.new.pass) (view_of c.look-2.new.pass) (drain_view c.args.drain.now) c.look.ensures.saw
    (c.hear.ensures.heard ∙ ap (hearing (view_of c.look.new.pass)) c.tell_drained-note.ensures.note.1) c.look-2.ensures.saw c.requires.behind c.requires.drained c.look.ensures.below c.look-2.ensures.legal c.look-2.ensures.few
