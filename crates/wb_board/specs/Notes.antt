-- The notes that clients leave for each other.
use Rattle.std.specs.Prelude.{ℕ, ◌≡◌, ◌≤◌, List, [], ◌∷◌, ◌++◌, All}
use Rattle.atomic_table.specs.Seated.{TableId}
use Rattle.wb_intake.specs.Sights.{number_in}
use Rattle.wb_intake.specs.Passes.{note_name, note_view}
use Rattle.wb_intake.specs.declared.pass.Note.{Note}

-- The note is of this intake, and carries just what its client had told up to it: what it had told before, and the cursor that
-- it had seen, which whoever hears the note has then seen.
pub record IsToldIn (intake : TableId) (note : Note) : Type 0 where
  pub own : note_name note ≡ intake
  pub told : List ℕ
  pub last : ℕ
  pub carries : (note_view note).heard ≡ ((note_view note).client, told ++ last ∷ []) ∷ []
  pub seen : last ≤ (note_view note).seen.cursor

-- so do all of these
abbrev pub AreToldIn : TableId → List Note → Type 0
AreToldIn intake notes = All (IsToldIn intake) notes

-- it has this number among the notes of this client
abbrev pub IsNumbered : (client number : ℕ) → Note → Type 0
IsNumbered client number note = ((note_view note).client ≡ client) × (number_in (note_view note).heard ≡ number)
