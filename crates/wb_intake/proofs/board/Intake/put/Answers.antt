use Rattle.std.proofs.Common.{◌≡◌, ◌+◌, ◌%◌, [], ◌∷◌, refl, sym, ap, ◌∙◌, arith}
use Rattle.std.specs.Prelude.{Some}
use Rattle.atomic_table.specs.Table.{rest}
use Rattle.wb_steps.specs.Views.{holding}
use Rattle.wb_steps.specs.Rule as rule
use Rattle.wb_steps.specs.declared.shape.Shape.{Shape}
use Rattle.wb_intake.specs.Plays.{Sat, with_view, first_unfilled}
use Rattle.wb_intake.proofs.Moves as moves
use Rattle.wb_intake.proofs.board.Intake.put.Goals as goal

pub load-requires : goal.load-requires
load-requires c = (
  c.requires.own,
  omega (arith, c.args.self.now.table.0, c.cell_of-cell.ensures.inside),
  moves.enters_as c.args.self.now.cells.shared.key c.args.self.now.cells.shared.table_id.slots c.args.seat.now.id c.args.seat.now.me (4 + c.cell_of-cell.result) c.args.place c.requires.first.0 c.requires.owner.0 c.requires.first.1 c.requires.owner.1
      (c.args.self.now.table.1 ∙ ap rule.cells (sym c.args.self.now.key)) (let e = ap (λ (k : Shape). c.args.place % rule.cells k) c.args.self.now.key in omega (arith, e, c.cell_of-cell.ensures.cell)),
)

-- what the seat knows and holds before the fill
holds : (c : goal.After-swap-arg-1) → c.exchange-empty.new.seat.me ≡ (with_view c.args.seat.now.me.0 (holding c.args.seat.now.me.0.view c.args.place), (c.args.place % rule.cells c.args.self.now.cells.shared.key, Some c.args.item) ∷ [])
holds c =
    let first : first_unfilled c.args.seat.now.me.0.view.unfilled ≡ c.args.place = ap first_unfilled c.requires.first.1 in
    let cell : c.cell_of-cell.result ≡ c.args.place % rule.cells c.args.self.now.cells.shared.key = c.cell_of-cell.ensures.cell ∙ ap (λ (k : Shape). c.args.place % rule.cells k) (sym c.args.self.now.key) in
    c.exchange-empty.ensures.3
    ∙ ap (λ (m : Sat). (m.0, (c.cell_of-cell.result, Some c.args.item) ∷ rest m.1)) c.load.ensures.2
    ∙ (λ i. (with_view c.args.seat.now.me.0 (holding c.args.seat.now.me.0.view (first i)), (cell i, Some c.args.item) ∷ c.requires.owner.2 i))

pub swap-requires : goal.swap-requires
swap-requires c = (
  c.exchange-empty.ensures.0 ∙ c.load.ensures.0 ∙ c.requires.own,
  omega (arith, c.args.self.now.table.0, c.cell_of-cell.ensures.inside),
  moves.fills_at c.args.self.now.cells.shared.key c.args.self.now.cells.shared.table_id.slots c.exchange-empty.new.seat.id c.args.seat.now.me.0 c.exchange-empty.new.seat.me (4 + c.cell_of-cell.result) (c.args.place + 1) c.args.place c.requires.named.0 c.args.item c.requires.first.0
      (holds c) c.requires.owner.0 c.requires.first.1 c.requires.named.1 (let e = ap (λ (k : Shape). c.args.place % rule.cells k) c.args.self.now.key in omega (arith, e, c.cell_of-cell.ensures.cell)) refl,
)
