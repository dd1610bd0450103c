use Rattle.std.proofs.Common.{◌≡◌, ◌+◌, ◌%◌, ℕ, List, ◌∷◌, sym, ap, ◌∙◌, subst, arith, length}
use Rattle.std.specs.Prelude.{Some, None}
use mathlib.Core.Option.{none}
use Rattle.atomic_table.specs.Table.{rest, step, Allows}
use Rattle.wb_geometry.specs.History.{HistoryEntry}
use Rattle.wb_steps.specs.Views.{taking}
use Rattle.wb_steps.specs.Rule as rule
use Rattle.wb_steps.specs.declared.shape.Shape.{Shape}
use Rattle.wb_intake.specs.Sights.{Holds}
use Rattle.wb_intake.specs.Plays.{Sat, with_cell_load, takes_out}
use Rattle.wb_intake.proofs.Moves as moves
use Rattle.wb_intake.proofs.board.Intake.take_out.Goals as goal

pub load-found-requires : goal.load-found-requires
load-found-requires g c = (
  c.requires.own,
  omega (arith, c.args.self.now.table.0, c.cell_of-cell.ensures.inside),
  subst (λ (k : Shape). Allows (Holds c.args.self.now.cells.shared.key) c.args.self.now.cells.shared.table_id.slots c.args.seat.now.id c.args.seat.now.me (4 + c.cell_of-cell.result) (λ y. y) (takes_out k (step c.args.self.now.cells.shared.table_id.slots (4 + c.cell_of-cell.result) 0 0 none) c.args.seat.now.me)) (c.args.self.now.key ∙ sym c.requires.shape)
      (moves.takes_as c.args.self.now.cells.shared.key (subst rule.IsShape (sym c.args.self.now.key) c.args.self.now.fits) c.args.self.now.cells.shared.table_id.slots c.args.seat.now.id c.args.seat.now.me (4 + c.cell_of-cell.result) c.requires.drain.0 c.requires.drain.1
      (c.args.self.now.table.1 ∙ ap rule.cells (sym c.args.self.now.key)) (let e = ap (λ (k : Shape). c.args.place % rule.cells k) c.args.self.now.key in (let g : 4 + c.cell_of-cell.result ≡ c.args.place % rule.cells c.args.self.now.cells.shared.key + 4 = omega (arith, e, c.cell_of-cell.ensures.cell) in g) ∙ ap (λ (p : ℕ). rule.cell_word c.args.self.now.cells.shared.key p) c.requires.place)),
)

-- the cell of the next place, by the number of cells of the table
cell_is : (place cell slots n : ℕ) (known : List HistoryEntry) → place ≡ length known → cell ≡ place % n → slots ≡ n → length known % slots ≡ cell
cell_is place cell slots n known is at size = (λ i. sym is i % size i) ∙ sym at

pub exchange-item-requires : goal.exchange-item-requires
exchange-item-requires g c =
    let f = c.load-found.ensures.2.0 (c.if-found-place.false ∙ ap (λ (p : ℕ). p + 1) c.requires.place) in
    let cell = cell_is c.args.place c.cell_of-cell.result c.args.self.now.cells.shared.table_id.slots (rule.cells c.args.self.now.shape) c.args.seat.now.me.0.view.known c.requires.place c.cell_of-cell.ensures.cell c.args.self.now.table.1 in
    (c.load-found.ensures.0 ∙ c.requires.own, (Some f.2, ap (λ (m : Sat). m.1) f.4 ∙ (λ i. (cell i, Some f.2) ∷ rest (sym f.4 i).1)))

pub swap-requires : goal.swap-requires
swap-requires g c =
    let f = c.load-found.ensures.2.0 (c.if-found-place.false ∙ ap (λ (p : ℕ). p + 1) c.requires.place) in
    let key : Shape = c.args.self.now.cells.shared.key in
    let cell : c.cell_of-cell.result ≡ length c.args.seat.now.me.0.view.known % rule.cells key = c.cell_of-cell.ensures.cell ∙ (λ i. c.requires.place i % rule.cells (sym c.args.self.now.key i)) in (
      c.exchange-item.ensures.0 ∙ c.load-found.ensures.0 ∙ c.requires.own,
      omega (arith, c.args.self.now.table.0, c.cell_of-cell.ensures.inside),
      moves.gives_at key c.args.self.now.cells.shared.table_id.slots c.exchange-item.new.seat.id c.args.seat.now.me.0 c.exchange-item.new.seat.me (4 + c.cell_of-cell.result) c.load-found.result f.2
          (c.exchange-item.ensures.3 ∙ ap (λ (m : Sat). (m.0, (c.cell_of-cell.result, None) ∷ rest m.1)) f.4 ∙ (λ i. (with_cell_load c.args.seat.now.me.0 (taking c.args.seat.now.me.0.view f.2) (4 + c.cell_of-cell.result) c.load-found.result, (cell i, None) ∷ c.requires.drain.2 i)))
          c.requires.drain.0 (let g : 4 + c.cell_of-cell.result ≡ length c.args.seat.now.me.0.view.known % rule.cells key + 4 = omega (arith, cell) in g),
    )
