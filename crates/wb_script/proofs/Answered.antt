-- One more line of a client that is served alone: its places, voids and points come right behind the history so far.
use Rattle.std.proofs.Common.{ℕ, zero, suc, ◌≡◌, ◌+◌, ◌-◌, ◌*◌, ◌<◌, ◌≤◌, List, [], ◌∷◌, ◌++◌, length, take, replicate, true, false, Option, Some, None, ◌⊎◌, refl, ap, sym, ◌∙◌, subst, arith}
use Rattle.std.specs.Prelude.{IfSome}
use Rattle.std.specs.List.{All, enumerate_from, range_with_len}
use Rattle.std.proofs.lemmas.Option.{IfSome_then}
use Rattle.std.proofs.lemmas.List.{append-nil, length-append, length-replicate, length-take-le, take_all}
use Rattle.std.proofs.lemmas.List.Elements.{All-nil, All-cons, All-append, All-take, All-replicate}
use Rattle.std.proofs.lemmas.List.FromFn.{length-range_with_len}
use Rattle.wb_geometry.specs.Image.{Image, bytes_at}
use Rattle.wb_geometry.specs.History.{HistoryEntry, Void, client_of, after}
use Rattle.wb_geometry.specs.Requests.{entries_of, parts}
use Rattle.wb_geometry.specs.declared.request.Part.{Part}
use Rattle.wb_geometry.specs.declared.which.Which.{Which}
use Rattle.wb_sum.specs.Crc32c.{sum_of}
use Rattle.wb_script.specs.Patterns.{repeated}
use Rattle.wb_script.specs.Valid.{heard_of}
use Rattle.wb_script.specs.Clients.{AreOf, IsAnswered}
use Rattle.wb_script.specs.Transcripts.{asked, voids_of, printed_line, first_seen, seen_after, seen_after_all, above, HasPlaces, IsForced, IsShown, Answers}
use Rattle.wb_script.proofs.Sessions.{enumerate_from-append, zip-range_with_len, voids-enumerate_from, Rises-range_with_len, above-range_with_len}
use Rattle.wb_script.proofs.NotesLeft.{Answers-heard}
use Rattle.wb_script.proofs.Clients.{IsAnswered_push, heard_inside}
use Rattle.wb_script.specs.declared.request.Request.{Request}
use Rattle.wb_script.specs.declared.request.Request.TheVariants.{Write, Read, ReadSum, Flush, Defer, Tell, Hear}
use Rattle.wb_script.specs.declared.transcript.Ended.{Ended}
use Rattle.wb_script.specs.declared.transcript.Stop.{Stop}
use Rattle.wb_script.specs.declared.transcript.Stop.TheVariants.{Whole, Down, Ids}
use Rattle.wb_script.specs.declared.transcript.Line.{Line}
use Rattle.wb_script.specs.declared.transcript.Line.TheVariants.{Wrote, Forced, Got, Summed, Failed, Flushed, Deferred, Told, Heard}

-- ---- entries

entries_owned : (client : ℕ) (ps : List Part) (bytes : List ℕ) → AreOf client (entries_of client ps bytes)
entries_owned client [] bytes = All-nil (λ (e : HistoryEntry). client_of e ≡ client)
entries_owned client (part ∷ ps) bytes = All-cons (λ (e : HistoryEntry). client_of e ≡ client) _ _ refl (entries_owned client ps _)

-- the entries that a request writes are its client's
pub AreOf-asked : (client : ℕ) (request : Request) → AreOf client (asked client request)
AreOf-asked client (Write sector count pattern fua) = entries_owned client (parts sector count) (repeated pattern (512 * count))
AreOf-asked client (Read sector count) = All-nil (λ (e : HistoryEntry). client_of e ≡ client)
AreOf-asked client (ReadSum sector count) = All-nil (λ (e : HistoryEntry). client_of e ≡ client)
AreOf-asked client Flush = All-nil (λ (e : HistoryEntry). client_of e ≡ client)
AreOf-asked client Defer = All-nil (λ (e : HistoryEntry). client_of e ≡ client)
AreOf-asked client (Tell other) = All-nil (λ (e : HistoryEntry). client_of e ≡ client)
AreOf-asked client (Hear other) = All-nil (λ (e : HistoryEntry). client_of e ≡ client)

-- so are its voids
pub AreOf-voids : (client count : ℕ) → AreOf client (replicate count (Void client))
AreOf-voids client count = All-replicate (λ (e : HistoryEntry). client_of e ≡ client) count (Void client) refl

-- a write has at most the places of all its parts
fits : (stop : Stop) (places : List ℕ) (entries : List HistoryEntry) → HasPlaces stop places entries → length places ≤ length entries
fits Whole places entries has = omega arith
fits (Down device) places entries has = omega arith
fits Ids places entries has = omega arith

above_inside : (number n count : ℕ) → number ≤ n → above number (range_with_len n count) ≤ n + count
above_inside number n zero le = omega arith
above_inside number n (suc count) le = omega (arith, above-range_with_len number n (suc count) (omega arith))

-- the history with the first so many entries behind it
length_more : (before own entries : List HistoryEntry) (count : ℕ) → count ≤ length entries → length (before ++ (own ++ take count entries)) ≡ length (before ++ own) + count
length_more before own entries count le =
    let size : length (take count entries) ≡ count = length-take-le count entries le in
    omega (arith, length-append before own, length-append before (own ++ take count entries), length-append own (take count entries))

-- ---- lines that print nothing

stays : (base : Option Image) (before own : List HistoryEntry) (client : ℕ) (notes : ℕ → List ℕ) (requests : List Request) (lines : List Line) (request : Request) (line : Line) → IsAnswered base before own client notes requests lines → Answers base (before ++ own) client (seen_after_all (first_seen notes) requests lines) request line → printed_line client request line ≡ [] → (seen_after (seen_after_all (first_seen notes) requests lines) request line).number ≤ length (before ++ own) → IsAnswered base before own client notes (requests ++ request ∷ []) (lines ++ line ∷ [])
stays base before own client notes requests lines request line so_far answers once inside =
    let P : List HistoryEntry → Type 0 = λ entries. IsAnswered base before entries client notes (requests ++ request ∷ []) (lines ++ line ∷ []) in
    let Q : List HistoryEntry → Type 0 = λ entries. Answers base (before ++ entries) client (seen_after_all (first_seen notes) requests lines) request line in
    let R : List HistoryEntry → Type 0 = λ entries. (seen_after (seen_after_all (first_seen notes) requests lines) request line).number ≤ length (before ++ entries) in
    subst P (append-nil own)
    (IsAnswered_push base before own [] client notes requests lines request line so_far (subst Q (sym (append-nil own)) answers) (All-nil (λ (e : HistoryEntry). client_of e ≡ client)) once (subst R (sym (append-nil own)) inside))

-- bytes that the image holds behind the history so far are shown at its end
shown_last : (base : Option Image) (history : List HistoryEntry) (seen sector count : ℕ) (bytes : List ℕ) → seen ≤ length history → length bytes ≡ 512 * count → IfSome base (λ image. bytes ≡ bytes_at (after image history) sector count) → IsShown base history seen (length history) sector count bytes
shown_last base history seen sector count bytes le size are = record {
  later = le;
  inside = omega arith;
  size = size;
  are = IfSome_then base are (λ image is. is ∙ ap (λ (es : List HistoryEntry). bytes_at (after image es) sector count) (sym (take_all (length history) history (omega arith))));
}

pub IsAnswered-got : (base : Option Image) (before own : List HistoryEntry) (client : ℕ) (notes : ℕ → List ℕ) (requests : List Request) (lines : List Line) (sector count : ℕ) (shown : List ℕ) → IsAnswered base before own client notes requests lines → length shown ≡ 512 * count → IfSome base (λ image. shown ≡ bytes_at (after image (before ++ own)) sector count) → IsAnswered base before own client notes (requests ++ Read sector count ∷ []) (lines ++ Got (length (before ++ own)) shown ∷ [])
IsAnswered-got base before own client notes requests lines sector count shown so_far size are =
    stays base before own client notes requests lines (Read sector count) (Got (length (before ++ own)) shown) so_far
    (sector, count, refl, shown_last base (before ++ own) (seen_after_all (first_seen notes) requests lines).number sector count shown so_far.inside size are) refl (omega arith)

pub IsAnswered-summed : (base : Option Image) (before own : List HistoryEntry) (client : ℕ) (notes : ℕ → List ℕ) (requests : List Request) (lines : List Line) (sector count sum : ℕ) (bytes : List ℕ) → IsAnswered base before own client notes requests lines → sum ≡ sum_of bytes → length bytes ≡ 512 * count → IfSome base (λ image. bytes ≡ bytes_at (after image (before ++ own)) sector count) → IsAnswered base before own client notes (requests ++ ReadSum sector count ∷ []) (lines ++ Summed (length (before ++ own)) sum ∷ [])
IsAnswered-summed base before own client notes requests lines sector count sum bytes so_far summed size are =
    stays base before own client notes requests lines (ReadSum sector count) (Summed (length (before ++ own)) sum) so_far
    (sector, count, refl, (bytes, summed, shown_last base (before ++ own) (seen_after_all (first_seen notes) requests lines).number sector count bytes so_far.inside size are)) refl (omega arith)

pub IsAnswered-failed : (base : Option Image) (before own : List HistoryEntry) (client : ℕ) (notes : ℕ → List ℕ) (requests : List Request) (lines : List Line) (request : Request) (sector count : ℕ) (device : Which) → IsAnswered base before own client notes requests lines → (request ≡ Read sector count) ⊎ (request ≡ ReadSum sector count) → IsAnswered base before own client notes (requests ++ request ∷ []) (lines ++ Failed device ∷ [])
IsAnswered-failed base before own client notes requests lines request sector count device so_far read =
    stays base before own client notes requests lines request (Failed device) so_far (sector, count, read) refl so_far.inside

pub IsAnswered-told : (base : Option Image) (before own : List HistoryEntry) (client : ℕ) (notes : ℕ → List ℕ) (requests : List Request) (lines : List Line) (other : ℕ) → IsAnswered base before own client notes requests lines → IsAnswered base before own client notes (requests ++ Tell other ∷ []) (lines ++ Told ∷ [])
IsAnswered-told base before own client notes requests lines other so_far =
    stays base before own client notes requests lines (Tell other) Told so_far (other, refl) refl so_far.inside

pub IsAnswered-heard : (base : Option Image) (before own : List HistoryEntry) (client : ℕ) (notes : ℕ → List ℕ) (requests : List Request) (lines : List Line) (teller : ℕ) → IsAnswered base before own client notes requests lines → heard_of teller requests < length (notes teller) → All (λ number. number ≤ length (before ++ own)) (notes teller) → IsAnswered base before own client notes (requests ++ Hear teller ∷ []) (lines ++ Heard ∷ [])
IsAnswered-heard base before own client notes requests lines teller so_far fewer all =
    stays base before own client notes requests lines (Hear teller) Heard so_far
    (Answers-heard base (before ++ own) client notes requests lines teller so_far.answers fewer) refl
    (heard_inside base (before ++ own) client notes requests lines teller (length (before ++ own)) so_far.answers all so_far.inside)

-- ---- writes

pub IsAnswered-wrote : (base : Option Image) (before own : List HistoryEntry) (client : ℕ) (notes : ℕ → List ℕ) (requests : List Request) (lines : List Line) (sector count : ℕ) (pattern : List ℕ) (taken : ℕ) (stop : Stop) → IsAnswered base before own client notes requests lines → HasPlaces stop (range_with_len (length (before ++ own)) taken) (asked client (Write sector count pattern false)) → IsAnswered base before (own ++ take taken (asked client (Write sector count pattern false))) client notes (requests ++ Write sector count pattern false ∷ []) (lines ++ Wrote (range_with_len (length (before ++ own)) taken) stop ∷ [])
IsAnswered-wrote base before own client notes requests lines sector count pattern taken stop so_far has =
    let n : ℕ = length (before ++ own) in
    let entries : List HistoryEntry = asked client (Write sector count pattern false) in
    let number : ℕ = (seen_after_all (first_seen notes) requests lines).number in
    let le : taken ≤ length entries = omega (arith, fits stop (range_with_len n taken) entries has, length-range_with_len n taken) in
    IsAnswered_push base before own (take taken entries) client notes requests lines (Write sector count pattern false) (Wrote (range_with_len n taken) stop) so_far
    ((sector, count, pattern, refl), Rises-range_with_len number n taken so_far.inside, has)
    (All-take (λ (e : HistoryEntry). client_of e ≡ client) taken entries (AreOf-asked client (Write sector count pattern false)))
    (zip-range_with_len n taken entries)
    (omega (arith, above_inside number n taken so_far.inside, length_more before own entries taken le))

cut_forced : (seen places : ℕ) (stop : Stop) → (stop ≡ Whole → ⊥) → IsForced seen places stop None
cut_forced seen places Whole cut = absurd (cut refl)
cut_forced seen places (Down device) cut = tt
cut_forced seen places Ids cut = tt

-- a write with `fua` that was stopped
pub IsAnswered-cut : (base : Option Image) (before own : List HistoryEntry) (client : ℕ) (notes : ℕ → List ℕ) (requests : List Request) (lines : List Line) (sector count : ℕ) (pattern : List ℕ) (taken : ℕ) (stop : Stop) → IsAnswered base before own client notes requests lines → (stop ≡ Whole → ⊥) → HasPlaces stop (range_with_len (length (before ++ own)) taken) (asked client (Write sector count pattern true)) → IsAnswered base before (own ++ take taken (asked client (Write sector count pattern true))) client notes (requests ++ Write sector count pattern true ∷ []) (lines ++ Forced (range_with_len (length (before ++ own)) taken) None stop ∷ [])
IsAnswered-cut base before own client notes requests lines sector count pattern taken stop so_far cut has =
    let n : ℕ = length (before ++ own) in
    let entries : List HistoryEntry = asked client (Write sector count pattern true) in
    let number : ℕ = (seen_after_all (first_seen notes) requests lines).number in
    let le : taken ≤ length entries = omega (arith, fits stop (range_with_len n taken) entries has, length-range_with_len n taken) in
    IsAnswered_push base before own (take taken entries) client notes requests lines (Write sector count pattern true) (Forced (range_with_len n taken) None stop) so_far
    ((sector, count, pattern, refl), Rises-range_with_len number n taken so_far.inside, has, cut_forced (above number (range_with_len n taken)) (length (before ++ (own ++ take taken entries))) stop cut)
    (All-take (λ (e : HistoryEntry). client_of e ≡ client) taken entries (AreOf-asked client (Write sector count pattern true)))
    (append-nil _ ∙ zip-range_with_len n taken entries)
    (omega (arith, above_inside number n taken so_far.inside, length_more before own entries taken le))

-- ---- flushes

-- the voids of a flush that begin at this place
voids_at : (client n : ℕ) (ended : Ended) → n + ended.voids ≡ ended.through → voids_of client ended ≡ enumerate_from n (replicate ended.voids (Void client))
voids_at client n ended at =
    let e : ended.through - ended.voids ≡ n = omega arith in
    voids-enumerate_from client ended ∙ ap (λ (i : ℕ). enumerate_from i (replicate ended.voids (Void client))) e

length_voids : (client : ℕ) (before own entries : List HistoryEntry) (count : ℕ) → length (before ++ (own ++ (entries ++ replicate count (Void client)))) ≡ length (before ++ own) + length entries + count
length_voids client before own entries count =
    omega (arith, length-append before own, length-append before (own ++ (entries ++ replicate count (Void client))), length-append own (entries ++ replicate count (Void client)), length-append entries (replicate count (Void client)), length-replicate count (Void client))

-- a whole write with `fua`, and its flush right behind it
pub IsAnswered-forced : (base : Option Image) (before own : List HistoryEntry) (client : ℕ) (notes : ℕ → List ℕ) (requests : List Request) (lines : List Line) (sector count : ℕ) (pattern : List ℕ) (ended : Ended) → IsAnswered base before own client notes requests lines → length (before ++ own) + length (asked client (Write sector count pattern true)) + ended.voids ≡ ended.through → IsAnswered base before (own ++ (asked client (Write sector count pattern true) ++ replicate ended.voids (Void client))) client notes (requests ++ Write sector count pattern true ∷ []) (lines ++ Forced (range_with_len (length (before ++ own)) (length (asked client (Write sector count pattern true)))) (Some ended) Whole ∷ [])
IsAnswered-forced base before own client notes requests lines sector count pattern ended so_far at =
    let n : ℕ = length (before ++ own) in
    let entries : List HistoryEntry = asked client (Write sector count pattern true) in
    let number : ℕ = (seen_after_all (first_seen notes) requests lines).number in
    let voids : List HistoryEntry = replicate ended.voids (Void client) in
    let size : length (before ++ (own ++ (entries ++ voids))) ≡ n + length entries + ended.voids = length_voids client before own entries ended.voids in
    IsAnswered_push base before own (entries ++ voids) client notes requests lines (Write sector count pattern true) (Forced (range_with_len n (length entries)) (Some ended) Whole) so_far (
      (sector, count, pattern, refl),
      Rises-range_with_len number n (length entries) so_far.inside,
      length-range_with_len n (length entries),
      record { after_seen = omega (arith, above_inside number n (length entries) so_far.inside); inside = omega arith },
    )
    (All-append (λ (e : HistoryEntry). client_of e ≡ client) entries voids (AreOf-asked client (Write sector count pattern true)) (AreOf-voids client ended.voids))
    (ap (λ (ps : List (ℕ × HistoryEntry)). ps ++ voids_of client ended) (zip-range_with_len n (length entries) entries ∙ ap (enumerate_from n) (take_all (length entries) entries (omega arith)))
    ∙ ap (λ (ps : List (ℕ × HistoryEntry)). enumerate_from n entries ++ ps) (voids_at client (n + length entries) ended at)
    ∙ sym (enumerate_from-append n entries voids))
    (omega arith)

pub IsAnswered-flushed : (base : Option Image) (before own : List HistoryEntry) (client : ℕ) (notes : ℕ → List ℕ) (requests : List Request) (lines : List Line) (ended : Ended) → IsAnswered base before own client notes requests lines → length (before ++ own) + ended.voids ≡ ended.through → IsAnswered base before (own ++ replicate ended.voids (Void client)) client notes (requests ++ Flush ∷ []) (lines ++ Flushed ended ∷ [])
IsAnswered-flushed base before own client notes requests lines ended so_far at =
    let size : length (before ++ (own ++ replicate ended.voids (Void client))) ≡ length (before ++ own) + 0 + ended.voids = length_voids client before own [] ended.voids in
    IsAnswered_push base before own (replicate ended.voids (Void client)) client notes requests lines Flush (Flushed ended) so_far
    (refl, record { after_seen = omega (arith, so_far.inside); inside = omega arith }) (AreOf-voids client ended.voids) (voids_at client (length (before ++ own)) ended at) (omega arith)

pub IsAnswered-deferred : (base : Option Image) (before own : List HistoryEntry) (client : ℕ) (notes : ℕ → List ℕ) (requests : List Request) (lines : List Line) (ended : Ended) → IsAnswered base before own client notes requests lines → length (before ++ own) + ended.voids ≡ ended.through → IsAnswered base before (own ++ replicate ended.voids (Void client)) client notes (requests ++ Defer ∷ []) (lines ++ Deferred ended ∷ [])
IsAnswered-deferred base before own client notes requests lines ended so_far at =
    let size : length (before ++ (own ++ replicate ended.voids (Void client))) ≡ length (before ++ own) + 0 + ended.voids = length_voids client before own [] ended.voids in
    IsAnswered_push base before own (replicate ended.voids (Void client)) client notes requests lines Defer (Deferred ended) so_far
    (refl, record { after_seen = omega (arith, so_far.inside); inside = omega arith }) (AreOf-voids client ended.voids) (voids_at client (length (before ++ own)) ended at) (omega arith)
