-- Passes, notes and the drain, as callers see them.
use Rattle.std.specs.Prelude.{ℕ, ◌≡◌, List, slice_get, Some}
use Rattle.atomic_table.specs.Seated.{TableId}
use Rattle.wb_steps.specs.Views.{beginning}
use Rattle.wb_steps.specs.declared.view.Role.TheVariants.{Owner}
use Rattle.wb_steps.specs.declared.view.View.{View}
use Rattle.wb_steps.specs.declared.shape.Shape.{Shape}
use Rattle.wb_intake.specs.declared.answers.Claim.{Claim}
use Rattle.wb_intake.specs.declared.sight.Loads.{Loads}
use Rattle.wb_intake.specs.declared.board.Intake.{Intake}
use Rattle.wb_intake.specs.declared.pass.Pass.{Pass}
use Rattle.wb_intake.specs.declared.pass.Drain.{Drain}
use Rattle.wb_intake.specs.declared.pass.Note.{Note}

-- what no other intake shares with it
abbrev pub name_of : Intake → TableId
name_of i = i.cells.shared.table_id

abbrev pub pass_name : Pass → TableId
pass_name p = p.seat.table_id

abbrev pub drain_name : Drain → TableId
drain_name d = d.seat.table_id

abbrev pub note_name : Note → TableId
note_name n = n.seat.table_id

-- the numbers of an intake, the client of a pass, and the place and the block of a claim
abbrev pub numbers_of : Intake → Shape
numbers_of i = i.shape

abbrev pub client_of_pass : Pass → ℕ
client_of_pass p = p.client

abbrev pub place_of : Claim → ℕ
place_of c = c.place

abbrev pub block_of : Claim → ℕ
block_of c = c.block

-- what a pass knows, names and has seen, and the loads that it made
abbrev pub view_of : Pass → View
view_of p = p.seat.me.0.view

abbrev pub loads_of : Pass → Loads
loads_of p = p.seat.me.0.loads

-- what the drain knows, and the loads that it made
abbrev pub drain_view : Drain → View
drain_view d = d.seat.me.0.view

abbrev pub drain_loads : Drain → Loads
drain_loads d = d.seat.me.0.loads

-- what a note has
abbrev pub note_view : Note → View
note_view n = n.seat.me.0.view

-- the passes of this intake, each of the client of its number, which know nothing yet
abbrev pub AreNewcomers : TableId → (limit : ℕ) → List Pass → Type 0
AreNewcomers name limit passes = (i : ℕ) (p : Pass) → slice_get passes i ≡ Some p → (pass_name p ≡ name) × (view_of p ≡ beginning Owner i limit)
