use Rattle.std.proofs.Common.{ℕ, List, [], ◌∷◌, sym, ◌∙◌, subst}
use Rattle.std.specs.Prelude.{Option, None}
use Rattle.wb_geometry.specs.History.{HistoryEntry}
use Rattle.wb_steps.specs.Views.{beginning}
use Rattle.wb_steps.specs.Rule.{Home, cells, IsLawful}
use Rattle.wb_steps.specs.declared.view.Role.TheVariants.{Drain}
use Rattle.wb_steps.proofs.Bounds.{some_cells}
use Rattle.wb_steps.proofs.Starts.{founder_starts}
use Rattle.wb_intake.proofs.Results.{all_home}
use Rattle.wb_intake.proofs.Lifted.{founder_met}
use Rattle.wb_intake.proofs.board.Intake.vacant.Goals as goal

pub vacant-requires : goal.vacant-requires
vacant-requires c = (
  subst (λ (x : List ℕ × List Home). IsLawful c.args.shape record { words = x.0; homes = x.1; views = beginning Drain 0 (cells c.args.shape) ∷ [] })
      (λ i. (sym (c.deref.ensures.value ∙ c.in_ok-words.ensures) i, sym (all_home {X = Option HistoryEntry} (cells c.args.shape) None) i))
      (founder_starts c.args.shape (some_cells c.args.shape c.requires)),
  founder_met c.args.shape,
)
