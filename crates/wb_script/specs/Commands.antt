-- The commands of a script, each with its letter and the words of its line (docs/SCRIPT.md).
use Rattle.std.specs.Prelude.{ℕ, ◌≡◌, ◌⊎◌, ◌<◌, ◌^◌, List, [], ◌∷◌, codes, slice_index_or}
use Rattle.std.specs.Fmt.{decimal}
use Rattle.wb_script.specs.declared.request.Command.{Command}
use Rattle.wb_script.specs.declared.request.Command.TheVariants.{Write, ForcedWrite, Read, ReadSum, Flush, Defer, Tell, Hear}

-- the word that names it
abbrev pub letter : Command → List ℕ
letter Write = codes "w"
letter ForcedWrite = codes "u"
letter Read = codes "r"
letter ReadSum = codes "x"
letter Flush = codes "f"
letter Defer = codes "q"
letter Tell = codes "t"
letter Hear = codes "h"

-- how many words its line has, the client counted
abbrev pub words_needed : Command → ℕ
words_needed Write = 5
words_needed ForcedWrite = 5
words_needed Read = 4
words_needed ReadSum = 4
words_needed Flush = 2
words_needed Defer = 2
words_needed Tell = 3
words_needed Hear = 3

-- which words of its line, counted from 0, are numbers beside the client: SECTOR and COUNT, or the other client
abbrev pub numbers : Command → List ℕ
numbers Write = 2 ∷ 3 ∷ []
numbers ForcedWrite = 2 ∷ 3 ∷ []
numbers Read = 2 ∷ 3 ∷ []
numbers ReadSum = 2 ∷ 3 ∷ []
numbers Flush = []
numbers Defer = []
numbers Tell = 2 ∷ []
numbers Hear = 2 ∷ []

-- it has a pattern
abbrev pub IsWriting : Command → Type 0
IsWriting command = (command ≡ Write) ⊎ (command ≡ ForcedWrite)

-- it has a sector and a count
abbrev pub IsRanged : Command → Type 0
IsRanged command = IsWriting command ⊎ (command ≡ Read) ⊎ (command ≡ ReadSum)

-- the word of this number, counted from 0; an empty one where there are fewer
abbrev pub word : List (List ℕ) → ℕ → List ℕ
word parts at = slice_index_or parts at []

-- the word is the number n, in decimal digits without a leading zero; it has 64 bits
pub record IsNumber (text : List ℕ) (n : ℕ) : Type 0 where
  pub spelled : text ≡ decimal n
  pub small : n < 2 ^ 64
