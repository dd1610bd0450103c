-- The grammar of a script: what its bytes spell, and what offends in them (docs/SCRIPT.md).
use Rattle.std.specs.Prelude.{ℕ, ◌≡◌, ◌≢◌, ◌⊎◌, ◌+◌, ◌-◌, ◌<◌, ◌≤◌, ◌==◌, nat_eq, List, [], ◌∷◌, ◌++◌, length, take, drop, sum, map, filter, codes, Ok, slice_index_or, if◌then◌else◌, Bool, true, false, Contains}
use Rattle.std.specs.List.{slice_split, range_with_len, AllZip}
use Rattle.std.specs.Cmp.Lexicographic.{pointwise}
use Rattle.std.specs.Fmt.{decimal}
use Rattle.hex.specs.Hex.{decode_of}
use Rattle.wb_script.specs.Content.{ScriptContent}
use Rattle.wb_script.specs.Commands.{letter, words_needed, numbers, IsWriting, IsRanged, word, IsNumber}
use Rattle.wb_script.specs.Valid.{most_clients, most_sectors, most_shown, IsAsked, Fills, AreLeft, heard_of, shown_by}
use Rattle.wb_script.specs.declared.request.Command.{Command}
use Rattle.wb_script.specs.declared.request.Command.TheVariants as command
use Rattle.wb_script.specs.declared.request.Request.{Request}
use Rattle.wb_script.specs.declared.request.Request.TheVariants.{Write, Read, ReadSum, Flush, Defer, Tell, Hear}
use Rattle.wb_script.specs.declared.refusal.Cause.{Cause}
use Rattle.wb_script.specs.declared.refusal.Cause.TheVariants as cause

-- the most bytes and lines of a script
abbrev pub most_bytes : ℕ
most_bytes = 67108864

abbrev pub most_lines : ℕ
most_lines = 250001

-- ---- lines and words

-- the parts but for an empty last one
abbrev pub but_empty_last : List (List ℕ) → List (List ℕ)
but_empty_last [] = []
but_empty_last (part ∷ []) = if length part == 0 then [] else part ∷ []
but_empty_last (part ∷ next ∷ more) = part ∷ but_empty_last (next ∷ more)

-- the lines, each ended by a newline; the last may lack it
unfoldable pub lines : List ℕ → List (List ℕ)
lines bytes = but_empty_last (slice_split (λ byte. byte == 10) bytes)

-- the words of a line, separated by one space each
unfoldable pub words : List ℕ → List (List ℕ)
words line = slice_split (λ byte. byte == 32) line

-- the words of the line of this number, counted from 1
unfoldable pub words_at : List ℕ → ℕ → List (List ℕ)
words_at bytes line = words (slice_index_or (lines bytes) (line - 1) [])

-- the lines behind the first
abbrev pub request_lines : List ℕ → List (List ℕ)
request_lines bytes = drop 1 (lines bytes)

-- ---- what is spelled

-- `clients K`
pub record IsHeader (parts : List (List ℕ)) (clients : ℕ) : Type 0 where
  pub spelled : parts ≡ codes "clients" ∷ decimal clients ∷ []
  pub some : 1 ≤ clients
  pub few : clients ≤ most_clients

-- the word of a write
abbrev pub write_letter : Bool → List ℕ
write_letter false = letter command.Write
write_letter true = letter command.ForcedWrite

-- The words spell the request of this client. A number is spelled in decimal digits without a leading zero, and a pattern
-- in hexadecimal digits of either case.
abbrev pub IsSpelled : List (List ℕ) → ℕ → Request → Type 0
IsSpelled parts client (Write sector count pattern fua) =
    (digits : List ℕ) × (decode_of digits ≡ Ok pattern)
    × (parts ≡ decimal client ∷ write_letter fua ∷ decimal sector ∷ decimal count ∷ digits ∷ [])
IsSpelled parts client (Read sector count) = parts ≡ decimal client ∷ letter command.Read ∷ decimal sector ∷ decimal count ∷ []
IsSpelled parts client (ReadSum sector count) = parts ≡ decimal client ∷ letter command.ReadSum ∷ decimal sector ∷ decimal count ∷ []
IsSpelled parts client Flush = parts ≡ decimal client ∷ letter command.Flush ∷ []
IsSpelled parts client Defer = parts ≡ decimal client ∷ letter command.Defer ∷ []
IsSpelled parts client (Tell other) = parts ≡ decimal client ∷ letter command.Tell ∷ decimal other ∷ []
IsSpelled parts client (Hear other) = parts ≡ decimal client ∷ letter command.Hear ∷ decimal other ∷ []

-- the words are this request of this client, of so many clients, on so many sectors
abbrev pub IsRequest : (sectors clients : ℕ) → List (List ℕ) → ℕ → Request → Type 0
IsRequest sectors clients parts client request = (client < clients) × IsAsked sectors clients client request × IsSpelled parts client request

-- the lines are these requests, each with its client
abbrev pub AreRead : (sectors clients : ℕ) → List (List ℕ) → List (ℕ × Request) → Type 0
AreRead sectors clients read owned = AllZip (λ line own. IsRequest sectors clients (words line) own.0 own.1) read owned

-- the requests of a client, of requests each with its client
abbrev pub requests_of : List (ℕ × Request) → ℕ → List Request
requests_of owned client = map (λ own. own.1) (filter (λ own. own.0 == client) owned)

-- how many sectors they show
abbrev pub shown_by_owned : List (ℕ × Request) → ℕ
shown_by_owned owned = sum (map (λ own. shown_by own.1) owned)

-- the bytes spell the script, for a device of so many sectors
pub record IsScript (sectors : ℕ) (bytes : List ℕ) (script : ScriptContent) : Type 0 where
  pub short : length bytes ≤ most_bytes
  pub few : length (lines bytes) ≤ most_lines
  pub header : IsHeader (words_at bytes 1) script.clients
  pub owned : List (ℕ × Request)
  pub spelled : AreRead sectors script.clients (request_lines bytes) owned
  pub left : AreLeft script.requests
  pub shown : shown_by_owned owned ≤ most_shown
  pub sectors_are : script.sectors ≡ sectors
  pub requests_are : script.requests ≡ map (requests_of owned) (range_with_len 0 script.clients)

-- ---- what offends in the words of a line

-- the second word names this command
abbrev pub Names : List (List ℕ) → Command → Type 0
Names parts named = word parts 1 ≡ letter named

-- The client that a line names is none that its client may leave a note for, or hear one of.
abbrev pub NamesWrongClient : (clients : ℕ) → List (List ℕ) → ℕ → Type 0
NamesWrongClient clients parts other =
    (own : ℕ) × IsNumber (word parts 0) own × IsNumber (word parts 2) other
    × ((Names parts command.Tell × ((other ≤ own) ⊎ (clients ≤ other))) ⊎ (Names parts command.Hear × (own ≤ other)))

-- What offends in the words of a line, of so many clients, on so many sectors. Words are counted from 0.
abbrev pub OffendsInLine : (sectors clients : ℕ) → List (List ℕ) → Cause → Type 0
OffendsInLine sectors clients parts (cause.Size size count) = ⊥
OffendsInLine sectors clients parts cause.Header = ⊥
OffendsInLine sectors clients parts cause.Client = (client : ℕ) → client < clients → word parts 0 ≡ decimal client → ⊥
OffendsInLine sectors clients parts cause.Command = (named : Command) → Names parts named → ⊥
OffendsInLine sectors clients parts (cause.Words found needed) =
    (named : Command) × Names parts named × (found ≡ length parts) × (needed ≡ words_needed named) × (found ≢ needed)
OffendsInLine sectors clients parts (cause.Number at) =
    (named : Command) × Names parts named × Contains (numbers named) at × ((n : ℕ) → IsNumber (word parts at) n → ⊥)
    × ((earlier : ℕ) → Contains (numbers named) earlier → earlier < at → (n : ℕ) × IsNumber (word parts earlier) n)
OffendsInLine sectors clients parts (cause.Count count) =
    (named : Command) × Names parts named × IsRanged named × IsNumber (word parts 3) count × ((count ≡ 0) ⊎ (most_sectors < count))
OffendsInLine sectors clients parts (cause.Range sector count of) =
    (named : Command) × Names parts named × IsRanged named × IsNumber (word parts 2) sector × IsNumber (word parts 3) count
    × (of ≡ sectors) × (sectors < sector + count)
OffendsInLine sectors clients parts (cause.Data digits) =
    (named : Command) × Names parts named × IsWriting named × (digits ≡ length (word parts 4))
    × ((count : ℕ) × IsNumber (word parts 3) count × ((pattern : List ℕ) → decode_of (word parts 4) ≡ Ok pattern → Fills pattern count → ⊥))
OffendsInLine sectors clients parts (cause.Note other) = NamesWrongClient clients parts other
OffendsInLine sectors clients parts (cause.Reads shown) = ⊥

-- ---- what offends in a script

-- whether the words are those of a note of this client for that one
abbrev pub is_note : (teller hearer : ℕ) → List (List ℕ) → Bool
is_note teller hearer parts = pointwise (pointwise nat_eq) parts (decimal teller ∷ letter command.Tell ∷ decimal hearer ∷ [])

-- how many of the lines leave a note of this client for that one, of a higher number
abbrev pub notes_in : List (List ℕ) → (teller hearer : ℕ) → ℕ
notes_in all teller hearer = length (filter (λ line. is_note teller hearer (words line)) all)

-- The line of this number is the last of these requests, which the lines up to it spell, each with its client. Rules on the
-- whole script are asked of such a line alone: where one before it offends, that is named.
pub record IsReadUpTo (sectors clients : ℕ) (bytes : List ℕ) (line : ℕ) (before : List (ℕ × Request)) (client : ℕ) (request : Request) : Type 0 where
  pub low : 2 ≤ line
  pub high : line ≤ length (lines bytes)
  pub header : IsHeader (words_at bytes 1) clients
  pub read : AreRead sectors clients (take (line - 1) (request_lines bytes)) (before ++ (client, request) ∷ [])

-- The line hears a note of another client, and more are heard of it up to here than it leaves in the whole script.
pub record HearsNone (sectors : ℕ) (bytes : List ℕ) (line other : ℕ) : Type 0 where
  pub clients : ℕ
  pub client : ℕ
  pub before : List (ℕ × Request)
  pub is : IsReadUpTo sectors clients bytes line before client (Hear other)
  pub many : notes_in (request_lines bytes) other client ≤ heard_of other (requests_of before client)

-- The line is a read, and with it those up to it show so many sectors, which are too many.
pub record ShowsTooMuch (sectors : ℕ) (bytes : List ℕ) (line shown : ℕ) : Type 0 where
  pub clients : ℕ
  pub client : ℕ
  pub sector : ℕ
  pub count : ℕ
  pub before : List (ℕ × Request)
  pub is : IsReadUpTo sectors clients bytes line before client (Read sector count)
  pub sum_is : shown ≡ shown_by_owned before + count
  pub many : most_shown < shown

-- the line of this number, behind the first, has words that offend so
pub record OffendsAt (sectors : ℕ) (bytes : List ℕ) (line : ℕ) (why : Cause) : Type 0 where
  pub low : 2 ≤ line
  pub high : line ≤ length (lines bytes)
  pub clients : ℕ
  pub header : IsHeader (words_at bytes 1) clients
  pub offends : OffendsInLine sectors clients (words_at bytes line) why

-- What offends at a line, counted from 1. The whole script is line 0.
abbrev pub Offends : (sectors : ℕ) → List ℕ → ℕ → Cause → Type 0
Offends sectors bytes line (cause.Size size count) =
    (line ≡ 0) × (size ≡ length bytes) × (count ≡ length (lines bytes)) × ((most_bytes < size) ⊎ (most_lines < count))
Offends sectors bytes line cause.Header = (line ≡ 1) × ((clients : ℕ) → IsHeader (words_at bytes 1) clients → ⊥)
Offends sectors bytes line cause.Client = OffendsAt sectors bytes line cause.Client
Offends sectors bytes line cause.Command = OffendsAt sectors bytes line cause.Command
Offends sectors bytes line (cause.Words found needed) = OffendsAt sectors bytes line (cause.Words found needed)
Offends sectors bytes line (cause.Number at) = OffendsAt sectors bytes line (cause.Number at)
Offends sectors bytes line (cause.Count count) = OffendsAt sectors bytes line (cause.Count count)
Offends sectors bytes line (cause.Range sector count of) = OffendsAt sectors bytes line (cause.Range sector count of)
Offends sectors bytes line (cause.Data digits) = OffendsAt sectors bytes line (cause.Data digits)
Offends sectors bytes line (cause.Note other) = OffendsAt sectors bytes line (cause.Note other) ⊎ HearsNone sectors bytes line other
Offends sectors bytes line (cause.Reads shown) = ShowsTooMuch sectors bytes line shown

-- the order of the causes at one line
abbrev pub rank : Cause → ℕ
rank (cause.Size size count) = 1
rank cause.Header = 2
rank cause.Client = 3
rank cause.Command = 4
rank (cause.Words found needed) = 5
rank (cause.Number at) = 6
rank (cause.Count count) = 7
rank (cause.Range sector count of) = 8
rank (cause.Data digits) = 9
rank (cause.Note other) = 10
rank (cause.Reads shown) = 11

-- the least line at which something offends, and the first cause there
pub record IsRefused (sectors : ℕ) (bytes : List ℕ) (line : ℕ) (why : Cause) : Type 0 where
  pub offends : Offends sectors bytes line why
  pub first : (other : ℕ) (also : Cause) → Offends sectors bytes other also → (line < other) ⊎ ((line ≡ other) × (rank why ≤ rank also))

-- the one script that the bytes spell, and nothing offends
pub record IsTheScript (sectors : ℕ) (bytes : List ℕ) (script : ScriptContent) : Type 0 where
  pub is : IsScript sectors bytes script
  pub only : (other : ScriptContent) → IsScript sectors bytes other → other ≡ script
  pub fine : (line : ℕ) (why : Cause) → Offends sectors bytes line why → ⊥

-- the one refusal of the bytes, and they spell no script
pub record IsTheRefusal (sectors : ℕ) (bytes : List ℕ) (line : ℕ) (why : Cause) : Type 0 where
  pub is : IsRefused sectors bytes line why
  pub only : (other : ℕ) (also : Cause) → IsRefused sectors bytes other also → (other ≡ line) × (also ≡ why)
  pub none : (script : ScriptContent) → IsScript sectors bytes script → ⊥
