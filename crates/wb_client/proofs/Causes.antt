-- What the transcripts of clients that have ended say of places, devices and ids.
use Rattle.std.proofs.Common.{ℕ, suc, ◌≡◌, ◌+◌, ◌-◌, min, ◌*◌, ◌/◌, ◌^◌, ◌<◌, ◌≤◌, List, [], ◌∷◌, length, map, fold, max, Option, sym, ◌∙◌, subst, arith}
use Rattle.std.specs.List.{Any, sum, sum_by, enumerate_from}
use Rattle.std.proofs.lemmas.List.{length-append, get_or_default}
use Rattle.std.proofs.lemmas.List.FromFn.{length-enumerate_from}
use Rattle.std.proofs.lemmas.List.Sums.{sum-map, sum_by-cons}
use Rattle.std.proofs.lemmas.List.Sorted.{length_permutation}
use Rattle.std.proofs.Math.Nat.{mul-le-mul_left, mul-div-le}
use Rattle.wb_geometry.specs.Image.{Image}
use Rattle.wb_geometry.specs.History.{HistoryEntry}
use Rattle.wb_geometry.specs.declared.which.Which.{Which}
use Rattle.wb_geometry.specs.declared.which.Which.TheVariants.{Log, Backing}
use Rattle.wb_steps.specs.Rule.{segment_at}
use Rattle.wb_steps.specs.Views.{beginning}
use Rattle.wb_steps.specs.declared.view.Role.TheVariants.{Owner}
use Rattle.wb_steps.specs.declared.shape.Shape.{Shape}
use Rattle.wb_steps.specs.declared.view.View.{View}
use Rattle.wb_script.specs.Valid.{requests_at}
use Rattle.wb_script.specs.Transcripts.{printed, all_printed, covered_by, covered, is_failure, failures, HasStop, IsUnflushed}
use Rattle.wb_script.specs.declared.request.Request.{Request}
use Rattle.wb_script.specs.declared.transcript.Line.{Line}
use Rattle.wb_script.specs.declared.transcript.Line.TheVariants.{Wrote, Forced, Got, Summed, Failed, Flushed, Deferred, Told, Heard}
use Rattle.wb_script.specs.declared.transcript.Stop.TheVariants.{Down, Ids}
use Rattle.wb_front.specs.Words.{reads_part}
use Rattle.wb_client.specs.Played.{HasSeenDown, RoseTo}
use Rattle.wb_client.specs.Ended.{lines_at, HasEnded, HaveEnded}
use Rattle.wb_client.proofs.Playing.{down_later, div_rises}
use Rattle.wb_client.proofs.Ending.{printed_all}

-- a line of a transcript is one of a client
line_of : (P : Line → Type 0) (transcripts : List (List Line)) → Any (Any P) transcripts → (client : ℕ) × (client < length transcripts) × Any P (lines_at transcripts client)
line_of P transcripts (client, lines, lt, is, some) = (client, lt, subst (Any P) (sym is ∙ get_or_default transcripts client lines [] lt) some)

few_from : (client : ℕ) (all : List (List Request)) (transcripts : List (List Line)) → length transcripts ≡ length all
    → ((index own : ℕ) → own ≡ client + index → index < length all → length (printed own (requests_at all index) (lines_at transcripts index)) ≤ 160 * length (requests_at all index))
    → length (all_printed client all transcripts) ≤ 160 * sum_by length all
few_from client [] transcripts same each = omega arith
few_from client (requests ∷ all) [] same each = absurd (omega arith)
few_from client (requests ∷ all) (lines ∷ transcripts) same each =
    let here = each 0 client (omega arith) (omega arith) in
    let rest = few_from (suc client) all transcripts (omega arith) (λ index own at within. each (suc index) own (omega arith) (omega arith)) in
    omega (arith, here, rest, sum_by-cons length requests all, length-append (printed client requests lines) (all_printed (suc client) all transcripts))

covered_from : (bound most : ℕ) (transcripts : List (List Line)) → most ≤ bound → ((index : ℕ) → index < length transcripts → covered_by (lines_at transcripts index) ≤ bound)
    → fold (λ most lines. max most (covered_by lines)) most transcripts ≤ bound
covered_from bound most [] le each = le
covered_from bound most (lines ∷ transcripts) le each =
    let here = each 0 (omega arith) in
    covered_from bound (max most (covered_by lines)) transcripts (omega (arith, here, le)) (λ index lt. each (suc index) (omega arith))

module _ (base : Option Image) (shape : Shape) (limit : ℕ) (all : List (List Request)) (transcripts : List (List Line)) (played ended : ℕ → View) (history : List HistoryEntry) (have : HaveEnded base shape limit all transcripts played ended history) where
  client_of_line : (P : Line → Type 0) → Any (Any P) transcripts → (client : ℕ) × (client < length all) × HasEnded base shape limit all transcripts played ended history client × Any P (lines_at transcripts client)
  client_of_line P some =
      let found = line_of P transcripts some in
      let within : found.0 < length all = omega (arith, found.1, have.count) in
      (found.0, within, have.each found.0 within, found.2)

  -- so many places were taken at most
  pub few_all : length history ≤ 160 * sum (map length all)
  few_all =
      let prints = few_from 0 all transcripts have.count (λ index own at within.
      let same : own ≡ index = omega arith in
      let P : ℕ → Type 0 = λ k. length (printed k (requests_at all index) (lines_at transcripts index)) ≤ 160 * length (requests_at all index) in
      subst P (sym same) (have.each index within).plays.few) in
      let count = length_permutation (all_printed 0 all transcripts) (enumerate_from 0 history) (printed_all base shape limit all transcripts played ended history have) in
      omega (arith, prints, sum-map length all, count, length-enumerate_from 0 history)

  -- a write is stopped by a device only where a pass has seen the cache down by it, and all places below the limit are taken
  pub stopped_down_all : (device : Which) → Any (Any (HasStop (Down device))) transcripts → (limit ≤ length history) × ((client : ℕ) × (client < length all) × HasSeenDown device (ended client))
  stopped_down_all device some =
      let found = client_of_line (HasStop (Down device)) some in
      let of = found.2 in
      let down = of.plays.stopped_down device found.3 in
      (omega (arith, down.1, of.more.cursor, of.cursor), (found.0, found.1, down_later device (played found.0) (ended found.0) of.more down.0))

  -- and for want of an id only where none is left
  pub stopped_ids_all : Any (Any (HasStop Ids)) transcripts → 2 ^ 48 < segment_at shape (length history)
  stopped_ids_all some =
      let found = client_of_line (HasStop Ids) some in
      let of = found.2 in
      omega (arith, of.plays.stopped_ids found.3, div_rises shape.places (played found.0).seen.cursor (length history) (omega (arith, of.more.cursor, of.cursor)))

  -- a flush isn't done only where a pass has seen the cache down
  pub undone_all : (device : Which) → Any (Any (IsUnflushed device)) transcripts → (client : ℕ) × (client < length all) × HasSeenDown device (ended client)
  undone_all device some =
      let found = client_of_line (IsUnflushed device) some in
      (found.0, found.1, down_later device (played found.0) (ended found.0) found.2.more (found.2.plays.undone device found.3))

  -- of each client no more lines say that a read failed than its pass has seen fail
  pub failed_each : (device : Which) (client : ℕ) → client < length all → RoseTo (failures device (lines_at transcripts client)) 0 (reads_part device (ended client).seen.fault)
  failed_each device client within =
      let of = have.each client within in
      failed device (of.plays.failed device)
    where
      failed : (device : Which) → RoseTo (failures device (lines_at transcripts client)) (reads_part device (beginning Owner client limit).seen.fault) (reads_part device (played client).seen.fault)
          → RoseTo (failures device (lines_at transcripts client)) 0 (reads_part device (ended client).seen.fault)
      failed Log rose = omega (arith, rose, (have.each client within).more.fault.log_reads)
      failed Backing rose = omega (arith, rose, (have.each client within).more.fault.backing_reads)

  -- what the flushes cover that were done is stable, where each pass has seen no more stable than is
  pub covered_all : (stable : ℕ) → ((client : ℕ) → client < length all → (ended client).seen.stable ≤ stable) → covered transcripts ≤ stable
  covered_all stable seen = covered_from stable 0 transcripts (omega arith) (λ client lt.
      let within : client < length all = omega (arith, lt, have.count) in
      let of = have.each client within in
      omega (arith, of.covered, of.more.stable, seen client within))

-- ---- against what is told of places and devices

-- where no id is left for the next place, and no more places were taken than have one, all ids are spent
pub all_spent : (shape : Shape) (taken : ℕ) → 0 < shape.places → shape.first ≤ 2 ^ 48 → taken ≤ shape.places * (2 ^ 48 - shape.first) → 2 ^ 48 < segment_at shape taken → taken ≡ shape.places * (2 ^ 48 - shape.first)
all_spent shape taken some first few above =
    let left : ℕ = 2 ^ 48 - shape.first in
    let least : shape.places * left ≤ shape.places * (taken / shape.places) = mul-le-mul_left shape.places (omega (arith, first, above)) in
    let whole : shape.places * (taken / shape.places) ≤ taken = mul-div-le taken shape.places in
    omega (arith, few, least, whole)

one_failure : (device : Which) (line : Line) → is_failure device line ≤ 1
one_failure Log (Failed Log) = omega arith
one_failure Log (Failed Backing) = omega arith
one_failure Backing (Failed Log) = omega arith
one_failure Backing (Failed Backing) = omega arith
one_failure Log (Wrote places stop) = omega arith
one_failure Backing (Wrote places stop) = omega arith
one_failure Log (Forced places flush stop) = omega arith
one_failure Backing (Forced places flush stop) = omega arith
one_failure Log (Got point shown) = omega arith
one_failure Backing (Got point shown) = omega arith
one_failure Log (Summed point sum) = omega arith
one_failure Backing (Summed point sum) = omega arith
one_failure Log (Flushed flush) = omega arith
one_failure Backing (Flushed flush) = omega arith
one_failure Log (Deferred flush) = omega arith
one_failure Backing (Deferred flush) = omega arith
one_failure Log Told = omega arith
one_failure Backing Told = omega arith
one_failure Log Heard = omega arith
one_failure Backing Heard = omega arith

-- no more reads failed than there are lines
pub failures_few : (device : Which) (lines : List Line) → failures device lines ≤ length lines
failures_few device [] = omega arith
failures_few device (line ∷ lines) = omega (arith, one_failure device line, failures_few device lines, sum-map (is_failure device) (line ∷ lines), sum-map (is_failure device) lines, sum_by-cons (is_failure device) line lines)

-- so the count of a device's faults rose as often, which is told by the part that the pass has seen
pub failures_rise : (times part opening now : ℕ) → times < 2 ^ 31 → RoseTo times 0 part → min (opening + part) (2 ^ 64 - 1) ≤ now → min (opening + times) (2 ^ 64 - 1) ≤ now
failures_rise times part opening now few rose told = omega (arith, few, rose, told)
