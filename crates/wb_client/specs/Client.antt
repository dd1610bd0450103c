-- What a client of a script leaves on its pass.
use Rattle.std.specs.Prelude.{ℕ, ◌≡◌, ◌%◌, ◌<◌, ◌≤◌, true, false, List, [], ◌∷◌, ◌++◌, length, map, slice_get, All, Option, None, Some, IfSome, Result, Ok, Err}
use Rattle.wb_geometry.specs.Image.{Image}
use Rattle.wb_geometry.specs.Layout.{places}
use Rattle.wb_steps.specs.Rule.{shape_of}
use Rattle.wb_steps.specs.declared.shape.Shape.{Shape}
use Rattle.wb_steps.specs.declared.view.View.{View}
use Rattle.wb_intake.specs.Carried.{Carried}
use Rattle.wb_barrier.specs.declared.tickets.Receipt.{Receipt}
use Rattle.wb_front.specs.declared.writing.WriteCause.{WriteCause}
use Rattle.wb_front.specs.declared.writing.WriteCause.TheVariants as cause
use Rattle.wb_front.specs.declared.flushing.Down.{Down}
use Rattle.wb_script.specs.Valid.{requests_at}
use Rattle.wb_script.specs.Transcripts.{asked, HasPlaces, covered_by}
use Rattle.wb_script.specs.declared.request.Request.{Request}
use Rattle.wb_script.specs.declared.request.Request.TheVariants.{Write, Read, ReadSum, Flush, Defer, Tell, Hear}
use Rattle.wb_script.specs.declared.transcript.Ended.{Ended}
use Rattle.wb_script.specs.declared.transcript.Line.{Line}
use Rattle.wb_script.specs.declared.transcript.Line.TheVariants.{Wrote, Forced, Got, Summed, Failed, Flushed, Deferred, Told, Heard}
use Rattle.wb_script.specs.declared.transcript.Stop.{Stop}
use Rattle.wb_script.specs.declared.transcript.Stop.TheVariants as stop
use Rattle.wb_client.specs.Played.{heard_from, counts_from, counts_for, AreInOrder, HasSeenDown, HasPlayed}
use Rattle.wb_client.specs.Done.{HasTaken, IsStoppedFor, HasNumbered, HasFlushed}
use Rattle.wb_client.specs.declared.teller.Teller.{Teller}
use Rattle.wb_client.specs.declared.answering.Work.{Work}

-- the image that the name carries, where both devices told their content at the opening
abbrev pub IsBaseOf : Carried → Image → Type 0
IsBaseOf t image = (t.log_told ≡ true) × (t.backing_told ≡ true) × (image ≡ t.base)

-- The requests of a client were answered by these lines, while its pass came from v to w, heard these notes and told these
-- numbers, whether there is a base image or not.
abbrev pub ArePlayed : Carried → (client : ℕ) → (v w : View) → (heard : List (ℕ × List ℕ)) → (told : List ℕ) → List Request → List Line → Type 0
ArePlayed t client v w heard told requests lines = (base : Option Image) → IfSome base (IsBaseOf t) → HasPlayed base (shape_of t.geometry t.first) client v w heard told requests lines

-- a posted flush of more places than so many, or one that isn't marked
abbrev pub IsMarkedAbove : (stable : ℕ) → Line → Type 0
IsMarkedAbove stable (Deferred ended) = IfSome ended.down (λ device. stable < ended.through)
IsMarkedAbove stable (Wrote taken stop) = Unit {0}
IsMarkedAbove stable (Forced taken flush stop) = Unit {0}
IsMarkedAbove stable (Got point shown) = Unit {0}
IsMarkedAbove stable (Summed point sum) = Unit {0}
IsMarkedAbove stable (Failed device) = Unit {0}
IsMarkedAbove stable (Flushed ended) = Unit {0}
IsMarkedAbove stable Told = Unit {0}
IsMarkedAbove stable Heard = Unit {0}

-- What a client leaves: its transcript answers its requests; all flushes that it says are done are so, as its pass has seen, and
-- of the posted ones just those that aren't are marked; and it heard the notes that each other left for it in order, from the
-- first.
pub record IsPlayedBy (t : Carried) (all : List (List Request)) (client : ℕ) (v w : View) (lines : List Line) : Type 0 where
  pub heard : List (ℕ × List ℕ)
  pub told : List ℕ
  pub played : ArePlayed t client v w heard told (requests_at all client) lines
  pub covered : covered_by lines ≤ w.seen.stable
  pub marked_above : All (IsMarkedAbove w.seen.stable) lines
  pub in_order : AreInOrder all client heard

-- ---- one request

-- a flush that was posted here is of whole segments, of so many places each, no further than the pass has seen, and not marked yet
abbrev pub IsPostedLine : (number : ℕ) → View → Line → Type 0
IsPostedLine number w (Deferred ended) = (ended.through % number ≡ 0) × (ended.through ≤ w.seen.cursor) × (ended.down ≡ None)
IsPostedLine number w (Wrote taken stop) = Unit {0}
IsPostedLine number w (Forced taken flush stop) = Unit {0}
IsPostedLine number w (Got point shown) = Unit {0}
IsPostedLine number w (Summed point sum) = Unit {0}
IsPostedLine number w (Failed device) = Unit {0}
IsPostedLine number w (Flushed ended) = Unit {0}
IsPostedLine number w Told = Unit {0}
IsPostedLine number w Heard = Unit {0}

abbrev pub ArePosted : (number : ℕ) → View → List Line → Type 0
ArePosted number w lines = All (IsPostedLine number w) lines

-- a flush was posted, of whole segments
pub record IsPosted (number client : ℕ) (v w : View) (ended : Ended) : Type 0 where
  pub numbered : HasNumbered client v w ended
  pub whole : ended.through % number ≡ 0
  pub up : ended.down ≡ None

-- how a write ended that was stopped for this cause. For want of memory there is no line
abbrev pub IsStopOf : WriteCause → Stop → Type 0
IsStopOf cause.Memory ended = ⊥
IsStopOf (cause.IdsSpent cursor) ended = ended ≡ stop.Ids
IsStopOf (cause.Down device) ended = ended ≡ stop.Down device

-- how a flush of this number ended
abbrev pub IsAwaited : View → (through : ℕ) → Result Receipt Down → Type 0
IsAwaited w through (Ok receipt) = through ≤ w.seen.stable
IsAwaited w through (Err down) = (down.stable ≡ w.seen.stable) × (w.seen.stable < through) × HasSeenDown down.device w

-- a write took these places, and ended so
pub record IsWritten (shape : Shape) (client : ℕ) (v w : View) (sector count : ℕ) (pattern : List ℕ) (places : List ℕ) (stopped : Stop) : Type 0 where
  pub taken : HasTaken v w places (asked client (Write sector count pattern false))
  pub ended : HasPlaces stopped places (asked client (Write sector count pattern false))
  pub why : IsStoppedFor shape w stopped

-- the line of a write with `fua` that took these places: it was flushed where it is whole
abbrev pub IsForced : (number client : ℕ) → (v w : View) → (places : List ℕ) → Stop → Line → Type 0
IsForced number client v w places stop.Whole line = (ended : Ended) × (line ≡ Forced places (Some ended) stop.Whole) × HasFlushed number client v w ended
IsForced number client v w places (stop.Down device) line = (line ≡ Forced places None (stop.Down device)) × (w ≡ v)
IsForced number client v w places stop.Ids line = (line ≡ Forced places None stop.Ids) × (w ≡ v)

-- a line was added that answers the request, which needs no note
pub record AddsLine (t : Carried) (client : ℕ) (v w : View) (request : Request) (before now : List Line) : Type 0 where
  pub line : Line
  pub played : ArePlayed t client v w [] [] (request ∷ []) (line ∷ [])
  pub added : now ≡ before ++ line ∷ []
  pub posted : IsPostedLine (places t.geometry) w line

-- ---- notes

-- the counts of the notes that a client has yet to hear of that one
abbrev pub yet_to_hear : (hearer : ℕ) → Option Teller → List ℕ
yet_to_hear hearer None = []
yet_to_hear hearer (Some teller) = counts_from teller.told hearer teller.rest.now

-- what a client heard of each other and has yet to hear of it are all notes that the other leaves for it, in order
abbrev pub AreTellers : List (List Request) → (client : ℕ) → (heard : List (ℕ × List ℕ)) → List Teller → Type 0
AreTellers all client heard tellers = (teller : ℕ) → map length (heard_from teller heard) ++ yet_to_hear client (slice_get tellers teller) ≡ counts_for client (requests_at all teller)

-- a note that the request hears is left
abbrev pub MayHear : (client : ℕ) → List Teller → Request → Type 0
MayHear client tellers (Hear teller) = 1 ≤ length (yet_to_hear client (slice_get tellers teller))
MayHear client tellers (Write sector count pattern fua) = Unit {0}
MayHear client tellers (Read sector count) = Unit {0}
MayHear client tellers (ReadSum sector count) = Unit {0}
MayHear client tellers Flush = Unit {0}
MayHear client tellers Defer = Unit {0}
MayHear client tellers (Tell other) = Unit {0}

-- a client heard the next note of a teller, which had told this
pub record HaveHeard (t : Carried) (client : ℕ) (v w : View) (teller : ℕ) (before now : List Teller) : Type 0 where
  pub told : List ℕ
  pub played : ArePlayed t client v w ((teller, told) ∷ []) [] (Hear teller ∷ []) (Heard ∷ [])
  pub tellers : (all : List (List Request)) (heard : List (ℕ × List ℕ)) → AreTellers all client heard before → AreTellers all client (heard ++ (teller, told) ∷ []) now

-- ---- what a client works with

-- no line was added yet and no note heard
pub record IsNewWork (all : List (List Request)) (work : Work) : Type 0 where
  pub sized : length work.buffers.shown.items ≡ 131072
  pub lines : work.transcript ≡ []
  pub tellers : (client : ℕ) → AreTellers all client [] work.tellers.items

-- a request was answered
pub record HasAnswered (t : Carried) (client : ℕ) (v w : View) (request : Request) (before now : Work) : Type 0 where
  pub line : Line
  pub heard : List (ℕ × List ℕ)
  pub told : List ℕ
  pub played : ArePlayed t client v w heard told (request ∷ []) (line ∷ [])
  pub added : now.transcript ≡ before.transcript ++ line ∷ []
  pub posted : IsPostedLine (places t.geometry) w line
  pub tellers : (all : List (List Request)) (earlier : List (ℕ × List ℕ)) → AreTellers all client earlier before.tellers.items → AreTellers all client (earlier ++ heard) now.tellers.items
