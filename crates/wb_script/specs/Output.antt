-- The output text of a session (docs/SCRIPT.md).
use Rattle.std.specs.Prelude.{ℕ, suc, List, [], ◌∷◌, ◌++◌, codes, Option, Some, None}
use Rattle.std.specs.List.{flat_map}
use Rattle.std.specs.Fmt.{decimal}
use Rattle.std.specs.Int.{to_be_bytes, w32}
use Rattle.hex.specs.Hex.{encode_lower}
use Rattle.wb_geometry.specs.declared.which.Which.{Which}
use Rattle.wb_geometry.specs.declared.which.Which.TheVariants.{Log, Backing}
use Rattle.wb_script.specs.Patterns.{shortest_pattern}
use Rattle.wb_script.specs.Content.{ScriptContent}
use Rattle.wb_script.specs.Commands.{letter}
use Rattle.wb_script.specs.Grammar.{write_letter}
use Rattle.wb_script.specs.declared.refusal.Cause.{Cause}
use Rattle.wb_script.specs.declared.refusal.Cause.TheVariants as cause
use Rattle.wb_script.specs.declared.request.Command.TheVariants as command
use Rattle.wb_script.specs.declared.request.Request.{Request}
use Rattle.wb_script.specs.declared.request.Request.TheVariants.{Write, Read, ReadSum, Flush, Defer, Tell, Hear}
use Rattle.wb_script.specs.declared.transcript.Line.{Line}
use Rattle.wb_script.specs.declared.transcript.Line.TheVariants.{Wrote, Forced, Got, Summed, Failed, Flushed, Deferred, Told, Heard}
use Rattle.wb_script.specs.declared.transcript.Ended.{Ended}
use Rattle.wb_script.specs.declared.transcript.Stop.{Stop}
use Rattle.wb_script.specs.declared.transcript.Stop.TheVariants.{Whole, Down, Ids}

abbrev pub newline : List ℕ
newline = 10 ∷ []

abbrev pub device_name : Which → List ℕ
device_name Log = codes "log"
device_name Backing = codes "backing"

-- eight hexadecimal digits, the highest first
abbrev pub sum_text : ℕ → List ℕ
sum_text sum = encode_lower (to_be_bytes w32 sum)

-- ---- requests

-- `C L`, the client and the letter
abbrev pub command_text : (client : ℕ) → (letter : List ℕ) → List ℕ
command_text client letter = decimal client ++ codes " " ++ letter

-- `C L SECTOR COUNT`
abbrev pub range_text : (client : ℕ) → (letter : List ℕ) → (sector count : ℕ) → List ℕ
range_text client letter sector count = command_text client letter ++ codes " " ++ decimal sector ++ codes " " ++ decimal count

-- `C L CLIENT`
abbrev pub note_text : (client : ℕ) → (letter : List ℕ) → (other : ℕ) → List ℕ
note_text client letter other = command_text client letter ++ codes " " ++ decimal other

-- the words of a request, but for a pattern
abbrev pub request_text : ℕ → Request → List ℕ
request_text client (Write sector count pattern fua) = range_text client (write_letter fua) sector count
request_text client (Read sector count) = range_text client (letter command.Read) sector count
request_text client (ReadSum sector count) = range_text client (letter command.ReadSum) sector count
request_text client Flush = command_text client (letter command.Flush)
request_text client Defer = command_text client (letter command.Defer)
request_text client (Tell other) = note_text client (letter command.Tell) other
request_text client (Hear other) = note_text client (letter command.Hear) other

-- ---- answers

-- ` at P1 P2 ..`, or nothing where there is no place
abbrev pub places_text : List ℕ → List ℕ
places_text [] = []
places_text (place ∷ places) = codes " at" ++ flat_map (λ p. codes " " ++ decimal p) (place ∷ places)

abbrev pub stop_text : Stop → List ℕ
stop_text Whole = []
stop_text (Down device) = codes " down " ++ device_name device
stop_text Ids = codes " ids"

abbrev pub down_text : Option Which → List ℕ
down_text None = []
down_text (Some device) = codes " down " ++ device_name device

-- ` through T voids V`, and then ` down D` where it wasn't done
abbrev pub ended_text : Ended → List ℕ
ended_text ended = codes " through " ++ decimal ended.through ++ codes " voids " ++ decimal ended.voids ++ down_text ended.down

-- of a write that was flushed, where it was
abbrev pub flush_text : Option Ended → List ℕ
flush_text None = []
flush_text (Some ended) = ended_text ended

-- what a line says behind its request
abbrev pub answer_text : Line → List ℕ
answer_text (Wrote places stop) = places_text places ++ stop_text stop
answer_text (Forced places flush stop) = places_text places ++ stop_text stop ++ flush_text flush
answer_text (Got point shown) = codes " point " ++ decimal point ++ codes " " ++ encode_lower (shortest_pattern shown)
answer_text (Summed point sum) = codes " point " ++ decimal point ++ codes " " ++ sum_text sum
answer_text (Failed device) = codes " fault " ++ device_name device
answer_text (Flushed ended) = ended_text ended
answer_text (Deferred ended) = ended_text ended
answer_text Told = []
answer_text Heard = []

-- the line that answers a request of this client
abbrev pub line_text : ℕ → Request → Line → List ℕ
line_text client request line = request_text client request ++ answer_text line ++ newline

-- the lines of a client
abbrev pub transcript_text : ℕ → List Request → List Line → List ℕ
transcript_text client (request ∷ requests) (line ∷ lines) = line_text client request line ++ transcript_text client requests lines
transcript_text client [] lines = []
transcript_text client (request ∷ requests) [] = []

-- the lines of the clients from this one on
abbrev pub transcripts_text : ℕ → List (List Request) → List (List Line) → List ℕ
transcripts_text client (requests ∷ rest) (lines ∷ transcripts) =
    transcript_text client requests lines ++ transcripts_text (suc client) rest transcripts
transcripts_text client [] transcripts = []
transcripts_text client (requests ∷ rest) [] = []

-- the line with the number of places
abbrev pub count_text : ℕ → List ℕ
count_text places = codes "places " ++ decimal places ++ newline

-- the lines of all clients, and then the number of places
abbrev pub session_text : ScriptContent → List (List Line) → ℕ → List ℕ
session_text script transcripts places = transcripts_text 0 script.requests transcripts ++ count_text places

-- ---- refusals

-- why a script is refused
abbrev pub cause_text : Cause → List ℕ
cause_text (cause.Size bytes count) = codes "size " ++ decimal bytes ++ codes " " ++ decimal count
cause_text cause.Header = codes "header"
cause_text cause.Client = codes "client"
cause_text cause.Command = codes "command"
cause_text (cause.Words found needed) = codes "words " ++ decimal found ++ codes " " ++ decimal needed
cause_text (cause.Number at) = codes "number " ++ decimal at
cause_text (cause.Count count) = codes "count " ++ decimal count
cause_text (cause.Range sector count sectors) = codes "range " ++ decimal sector ++ codes " " ++ decimal count ++ codes " of " ++ decimal sectors
cause_text (cause.Data digits) = codes "data " ++ decimal digits
cause_text (cause.Note other) = codes "note " ++ decimal other
cause_text (cause.Reads shown) = codes "reads " ++ decimal shown
