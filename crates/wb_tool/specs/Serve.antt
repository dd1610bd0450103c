-- What `serve` answers for: how it ends, with the cause of each status, stage by stage.
use Rattle.std.specs.Prelude.{ℕ, ◌≡◌, ◌⊎◌, ◌≤◌, ◌+◌, List, length}
use Rattle.std.specs.Io.KnownBytes.{Consumes, IsAtEnd}
use Rattle.wb_script.specs.Grammar.{most_bytes}
use Rattle.wb_script.specs.Content.{ScriptContent}
use Rattle.wb_script.specs.Valid.{IsValid}
use Rattle.wb_script.specs.declared.refusal.Cause.{Cause}
use Rattle.wb_tool.specs.Run.{Run, HasFailed, HasNotFailed, Spells, Refuses, Took}
use Rattle.wb_tool.specs.Texts.{source_line, refused_line}
use Rattle.wb_tool.specs.Served.{Served}
use Rattle.wb_tool.specs.Ends.{IsUnbegun, IsLeftBy, OnlyLogRead, EndsServing, ServingAccount}

-- the source failed
pub record EndsBySource (run : Run) : Type 0 where
  pub failed : HasFailed run.source
  pub ended : run.status ≡ 4
  pub told : Took run.sink source_line

-- the script is refused; no more of the source is read than one byte more than a script may have
pub record EndsByScript (sectors : ℕ) (run : Run) : Type 0 where
  pub kept : HasNotFailed run.source
  pub bytes : List ℕ
  pub read : Consumes run.source.before run.source.after bytes
  pub few : length bytes ≤ most_bytes + 1
  pub line : ℕ
  pub cause : Cause
  pub refused : Refuses sectors run.source line cause
  pub ended : run.status ≡ 3
  pub told : Took run.sink (refused_line line cause)

-- The source held a valid script for a cache of so many backing sectors, and nothing is left of it. It is served, where the
-- cache can be opened.
pub record IsScripted (sectors : ℕ) (run : Run) : Type 0 where
  pub kept : HasNotFailed run.source
  pub script : ScriptContent
  pub spelled : Spells sectors run.source script
  pub valid : IsValid script
  pub made_for : script.sectors ≡ sectors
  pub at_end : IsAtEnd run.source.after
  pub ends : EndsServing (Served script) script.sectors run

-- the ends from the source on: a script is read, and served where it is good
abbrev pub EndsReading : (sectors : ℕ) → Run → Type 0
EndsReading sectors run = (IsUnbegun run × (EndsBySource run ⊎ EndsByScript sectors run)) ⊎ IsScripted sectors run

-- what want of memory leaves of the devices, from the source on
abbrev pub IsLeftFrom : (sectors : ℕ) → Run → Type 0
IsLeftFrom sectors run = OnlyLogRead run ⊎ ((script : ScriptContent) × Spells sectors run.source script × IsLeftBy script run)

abbrev pub ServeAccount : Run → Type 0
ServeAccount = ServingAccount EndsReading IsLeftFrom
