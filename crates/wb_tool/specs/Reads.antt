-- What reading a script from a source leaves.
use Rattle.std.specs.Prelude.{ℕ, ◌≡◌, ◌+◌, ◌≤◌, List, ◌++◌, length, Option, IfSome}
use Rattle.std.specs.Io.KnownBytes.{Consumes, IsAtEnd}
use Rattle.wb_script.specs.Grammar.{most_bytes}
use Rattle.wb_tool.specs.Run.{script_bytes}

-- these are the bytes of the source, up to one more than a script may have; where they are no more, nothing is left
pub record IsRead (before after : Option (List ℕ)) (bytes : List ℕ) : Type 0 where
  pub bytes_are : IfSome before (λ input. bytes ≡ script_bytes input)
  pub at_end : length bytes ≤ most_bytes → IsAtEnd after
  pub taken : Consumes before after bytes
  pub few : length bytes ≤ most_bytes + 1

-- so many bytes were taken from the source and stand behind the others; none only at its end
pub record IsPiece (before after : Option (List ℕ)) (old new : List ℕ) (count : ℕ) : Type 0 where
  pub piece : List ℕ
  pub size : length piece ≡ count
  pub grew : new ≡ old ++ piece
  pub taken : Consumes before after piece
  pub few : length new ≤ most_bytes + 1
  pub at_end : count ≡ 0 → IsAtEnd after
