-- What reading the words of a line answers.
use Rattle.std.specs.Prelude.{ℕ, ◌≡◌, ◌⊎◌, ◌+◌, ◌<◌, ◌≤◌, Bool, List, length, Ok}
use Rattle.std.specs.Fmt.{decimal}
use Rattle.hex.specs.Hex.{decode_of}
use Rattle.wb_script.specs.Commands.{words_needed, word, IsNumber}
use Rattle.wb_script.specs.Grammar.{Names, OffendsInLine, rank}
use Rattle.wb_script.specs.Valid.{most_sectors, IsWithin, Fills}
use Rattle.wb_script.specs.declared.request.Command.{Command}
use Rattle.wb_script.specs.declared.request.Request.{Request}
use Rattle.wb_script.specs.declared.request.Request.TheVariants as request
use Rattle.wb_script.specs.declared.refusal.Cause.{Cause}
use Rattle.wb_script.specs.declared.refusal.Cause.TheVariants.{Size, Header, Client, Words, Number, Count, Range, Data, Note, Reads}
use Rattle.wb_script.specs.declared.refusal.Cause.TheVariants as cause
use Rattle.wb_script.specs.declared.parsing.requests.LineStop.{LineStop}
use Rattle.wb_script.specs.declared.parsing.requests.LineStop.TheVariants.{Offends, Memory}

-- the client and the command of a line are these, and it has as many words as that needs
pub record IsShaped (clients : ℕ) (parts : List (List ℕ)) (client : ℕ) (named : Command) : Type 0 where
  pub below : client < clients
  pub own : word parts 0 ≡ decimal client
  pub names : Names parts named
  pub counted : length parts ≡ words_needed named

-- the first cause that the words of a line give
pub record IsFirstInLine (sectors clients : ℕ) (parts : List (List ℕ)) (why : Cause) : Type 0 where
  pub offends : OffendsInLine sectors clients parts why
  pub first : (also : Cause) → OffendsInLine sectors clients parts also → rank why ≤ rank also

-- why no request was read; for want of memory nothing is said
abbrev pub IsNotRead : (sectors clients : ℕ) → List (List ℕ) → LineStop → Type 0
IsNotRead sectors clients parts (Offends why) = IsFirstInLine sectors clients parts why
IsNotRead sectors clients parts Memory = Unit {0}

-- the word is no number
abbrev pub IsNoNumber : List ℕ → Type 0
IsNoNumber text = (n : ℕ) → IsNumber text n → ⊥

abbrev pub HasNumber : List ℕ → Type 0
HasNumber text = (n : ℕ) × IsNumber text n

-- why the third and the fourth word name no sectors
abbrev pub IsBadRange : ℕ → List (List ℕ) → Cause → Type 0
IsBadRange sectors parts (cause.Size size count) = ⊥
IsBadRange sectors parts cause.Header = ⊥
IsBadRange sectors parts cause.Client = ⊥
IsBadRange sectors parts cause.Command = ⊥
IsBadRange sectors parts (cause.Words found needed) = ⊥
IsBadRange sectors parts (cause.Number at) =
    ((at ≡ 2) × IsNoNumber (word parts 2)) ⊎ ((at ≡ 3) × HasNumber (word parts 2) × IsNoNumber (word parts 3))
IsBadRange sectors parts (cause.Count count) =
    HasNumber (word parts 2) × IsNumber (word parts 3) count × ((count ≡ 0) ⊎ (most_sectors < count))
IsBadRange sectors parts (cause.Range sector count of) =
    IsNumber (word parts 2) sector × IsNumber (word parts 3) count × (1 ≤ count) × (count ≤ most_sectors) × (of ≡ sectors) × (sectors < sector + count)
IsBadRange sectors parts (cause.Data digits) = ⊥
IsBadRange sectors parts (cause.Note other) = ⊥
IsBadRange sectors parts (cause.Reads shown) = ⊥

-- the words name these sectors and this pattern
pub record HasWrite (sectors : ℕ) (parts : List (List ℕ)) (fua : Bool) (asked : Request) : Type 0 where
  pub sector : ℕ
  pub count : ℕ
  pub pattern : List ℕ
  pub is : asked ≡ request.Write sector count pattern fua
  pub from : IsNumber (word parts 2) sector
  pub many : IsNumber (word parts 3) count
  pub within : IsWithin sectors sector count
  pub decoded : decode_of (word parts 4) ≡ Ok pattern
  pub fills : Fills pattern count

-- the digits are no pattern of so many sectors, which are fine
pub record IsBadPattern (sectors : ℕ) (parts : List (List ℕ)) (why : Cause) : Type 0 where
  pub sector : ℕ
  pub count : ℕ
  pub from : IsNumber (word parts 2) sector
  pub many : IsNumber (word parts 3) count
  pub within : IsWithin sectors sector count
  pub is : why ≡ cause.Data (length (word parts 4))
  pub none : (pattern : List ℕ) → decode_of (word parts 4) ≡ Ok pattern → Fills pattern count → ⊥

-- why the words name no write; for want of memory nothing is said
abbrev pub IsBadWrite : ℕ → List (List ℕ) → LineStop → Type 0
IsBadWrite sectors parts (Offends why) = IsBadRange sectors parts why ⊎ IsBadPattern sectors parts why
IsBadWrite sectors parts Memory = Unit {0}
