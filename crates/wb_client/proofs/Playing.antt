-- A client's requests, answered one after another: none, and some behind others.
use Rattle.std.proofs.Common.{ℕ, zero, suc, ◌≡◌, ◌/◌, ◌≤◌, List, [], ◌++◌, length, map, drop, replicate, Option, inl, inr, refl, ap, sym, ◌∙◌, subst, arith}
use Rattle.std.specs.List.{Any}
use Rattle.std.proofs.lemmas.List.{append_assoc, append-nil, length-append, map-append, length-map, length-replicate}
use Rattle.std.proofs.lemmas.Nat.{le-div}
use Rattle.std.proofs.Math.Nat.{div-mul-le_self}
use Rattle.wb_geometry.specs.Image.{Image}
use Rattle.wb_geometry.specs.History.{HistoryEntry, Void}
use Rattle.wb_geometry.specs.declared.which.Which.{Which}
use Rattle.wb_geometry.specs.declared.which.Which.TheVariants.{Log, Backing}
use Rattle.wb_steps.specs.Faults.{IsPartwiseAtMost}
use Rattle.wb_steps.specs.declared.shape.Shape.{Shape}
use Rattle.wb_steps.specs.declared.view.Faults.{Faults}
use Rattle.wb_steps.specs.declared.view.View.{View}
use Rattle.wb_script.specs.Valid.{heard_of}
use Rattle.wb_script.specs.Transcripts.{Seen, seen_after_all, printed, left_by_all, failures, HasStop, IsUnflushed}
use Rattle.wb_script.proofs.NotesLeft.{notes-seen_after_all, length-left_by_all}
use Rattle.wb_script.specs.declared.request.Request.{Request}
use Rattle.wb_script.specs.declared.transcript.Line.{Line}
use Rattle.wb_script.specs.declared.transcript.Stop.TheVariants.{Down, Ids}
use Rattle.wb_front.specs.Words.{reads_part}
use Rattle.wb_client.specs.Played.{IsAhead, HasSeenMore, HasSeenDown, RoseTo, heard_from, last_of, AreWithin, AreLeft, hearers_of, told_for, IsAnswered, HasPlayed}
use Rattle.wb_client.specs.Done.{HasLooked}
use Rattle.wb_client.proofs.Appends.{within_first, within_rest, within_both, values_append, hearers_append, told_append, length-told_for, heard_append, seen_append, left_append, printed_append, answers_append, failures_append, rose_on, awaited_append, any_append}

-- ---- what a pass has seen

pub at_most_same : (a : Faults) → IsPartwiseAtMost a a
at_most_same a = record { log_down = omega arith; backing_down = omega arith; log_reads = omega arith; backing_reads = omega arith }

at_most_trans : (a b c : Faults) → IsPartwiseAtMost a b → IsPartwiseAtMost b c → IsPartwiseAtMost a c
at_most_trans a b c p q = record {
  log_down = omega (arith, p.log_down, q.log_down);
  backing_down = omega (arith, p.backing_down, q.backing_down);
  log_reads = omega (arith, p.log_reads, q.log_reads);
  backing_reads = omega (arith, p.backing_reads, q.backing_reads);
}

pub more_same : (v : View) → HasSeenMore v v
more_same v = record { known = ([], sym (append-nil v.known)); cursor = omega arith; limit = omega arith; stable = omega arith; fault = at_most_same v.seen.fault }

pub more_trans : (u v w : View) → HasSeenMore u v → HasSeenMore v w → HasSeenMore u w
more_trans u v w a b = record {
  known = (a.known.0 ++ b.known.0, b.known.1 ∙ ap (λ (l : List HistoryEntry). l ++ b.known.0) a.known.1 ∙ append_assoc u.known a.known.0 b.known.0);
  cursor = omega (arith, a.cursor, b.cursor);
  limit = omega (arith, a.limit, b.limit);
  stable = omega (arith, a.stable, b.stable);
  fault = at_most_trans u.seen.fault v.seen.fault w.seen.fault a.fault b.fault;
}

pub down_later : (device : Which) (v w : View) → HasSeenMore v w → HasSeenDown device v → HasSeenDown device w
down_later Log v w more down = omega (arith, more.fault.log_down, down)
down_later Backing v w more down = omega (arith, more.fault.backing_down, down)

-- what may yet come after it has seen more, might have before
pub ahead_back : (v w : View) (history : List HistoryEntry) → HasSeenMore v w → IsAhead w history → IsAhead v history
ahead_back v w history more ahead = record {
  known = (more.known.0 ++ ahead.known.0, ahead.known.1 ∙ ap (λ (l : List HistoryEntry). l ++ ahead.known.0) more.known.1 ∙ append_assoc v.known more.known.0 ahead.known.0);
  seen = omega (arith, more.cursor, ahead.seen);
}

-- there is always one that may come
some_ahead : View → List HistoryEntry
some_ahead v = v.known ++ replicate v.seen.cursor (Void 0)

some-is_ahead : (v : View) → IsAhead v (some_ahead v)
unfolding some_ahead
some-is_ahead v = record {
  known = (replicate v.seen.cursor (Void 0), refl);
  seen = omega (arith, length-append v.known (replicate v.seen.cursor (Void 0)), length-replicate v.seen.cursor (Void 0));
}

-- ---- no request

none_of : {P : Line → Type 0} → Any P [] → ⊥
none_of some = omega (arith, some.2)

pub looked_same : (v : View) → HasLooked v v
looked_same v = record { more = more_same v; mine = refl; heard = refl; told = refl }

pub none_more : {X : Type 0} (xs ys : List X) → xs ≡ ys → xs ≡ ys ++ []
none_more xs ys same = same ∙ sym (append-nil ys)

pub played_none : (base : Option Image) (shape : Shape) (client : ℕ) (v w : View) → HasLooked v w → HasPlayed base shape client v w [] [] [] []
played_none base shape client v w looked = record {
  more = looked.more;
  mine = none_more w.mine v.mine looked.mine;
  heard_more = none_more w.heard v.heard looked.heard;
  told_more = none_more w.told v.told looked.told;
  heard_each = λ teller. refl;
  told_each = refl;
  each = refl;
  answered = λ seen le left. record { seen_by = omega (arith, le, looked.more.cursor); answers = λ history ahead. tt; tells = λ hearer. tt };
  few = omega arith;
  awaited = omega arith;
  failed = none_failed v w looked.more;
  stopped_down = λ device some. absurd (none_of some);
  stopped_ids = λ some. absurd (none_of some);
  undone = λ device some. absurd (none_of some);
}
  where
    none_failed : (v w : View) → HasSeenMore v w → (device : Which) → RoseTo 0 (reads_part device v.seen.fault) (reads_part device w.seen.fault)
    none_failed v w more Log = omega (arith, more.fault.log_reads)
    none_failed v w more Backing = omega (arith, more.fault.backing_reads)

-- ---- requests behind others

pub div_rises : (k a b : ℕ) → a ≤ b → a / k ≤ b / k
div_rises zero a b le = omega (arith, le)
div_rises (suc k) a b le = le-div (a / suc k) b (suc k) (omega arith) (omega (arith, div-mul-le_self a (suc k), le))

module _ (base : Option Image) (shape : Shape) (client : ℕ) (u v w : View) (heard after : List (ℕ × List ℕ)) (told more : List ℕ) (requests rest : List Request) (lines behind : List Line) (a : HasPlayed base shape client u v heard told requests lines) (b : HasPlayed base shape client v w after more rest behind) where
  module _ (seen : Seen) (le : seen.number ≤ u.seen.cursor) (left : AreLeft seen.notes (heard ++ after)) where
    both_left : (teller : ℕ) → AreWithin (seen.notes teller) (map last_of (heard_from teller heard) ++ map last_of (heard_from teller after))
    both_left teller =
        subst (AreWithin (seen.notes teller)) (ap (map last_of) (values_append teller heard after) ∙ map-append last_of (heard_from teller heard) (heard_from teller after)) (left teller)

    first : IsAnswered base client v told seen requests lines
    first = a.answered seen le (λ teller. within_first (seen.notes teller) (map last_of (heard_from teller heard)) (map last_of (heard_from teller after)) (both_left teller))

    left_then : AreLeft (seen_after_all seen requests lines).notes after
    left_then teller =
        let count : length (map last_of (heard_from teller heard)) ≡ heard_of teller requests = length-map (heard_from teller heard) last_of ∙ a.heard_each teller in
        subst (λ (l : List ℕ). AreWithin l (map last_of (heard_from teller after)))
        (ap (λ (n : ℕ). drop n (seen.notes teller)) count
        ∙ sym (notes-seen_after_all base (some_ahead v) client seen requests lines teller (first.answers (some_ahead v) (some-is_ahead v))))
        (within_rest (seen.notes teller) (map last_of (heard_from teller heard)) (map last_of (heard_from teller after)) (both_left teller))

    second : IsAnswered base client w more (seen_after_all seen requests lines) rest behind
    second = b.answered (seen_after_all seen requests lines) first.seen_by left_then

    pub answered_more : IsAnswered base client w (told ++ more) seen (requests ++ rest) (lines ++ behind)
    answered_more = record {
      seen_by = subst (λ (s : Seen). s.number ≤ w.seen.cursor) (sym (seen_append seen requests rest lines behind a.each)) second.seen_by;
      answers = λ history ahead.
          answers_append base history client seen requests rest lines behind (first.answers history (ahead_back v w history b.more ahead)) (second.answers history ahead);
      tells = λ hearer.
          let same : length (left_by_all seen requests lines hearer) ≡ length (told_for hearer requests told) =
          length-left_by_all seen requests lines hearer a.each ∙ sym (length-told_for hearer requests told a.told_each) in
          subst (λ (l : List ℕ). AreWithin l (told_for hearer (requests ++ rest) (told ++ more))) (sym (left_append seen requests rest lines behind hearer a.each))
          (subst (AreWithin (left_by_all seen requests lines hearer ++ left_by_all (seen_after_all seen requests lines) rest behind hearer)) (sym (told_append hearer requests rest told more a.told_each))
          (within_both (left_by_all seen requests lines hearer) (left_by_all (seen_after_all seen requests lines) rest behind hearer) (told_for hearer requests told) (told_for hearer rest more) same
          (first.tells hearer) (second.tells hearer)));
    }

  pub played_more : HasPlayed base shape client u w (heard ++ after) (told ++ more) (requests ++ rest) (lines ++ behind)
  played_more = record {
    more = more_trans u v w a.more b.more;
    mine =
        b.mine ∙ ap (λ (l : List (ℕ × HistoryEntry)). l ++ printed client rest behind) a.mine ∙ append_assoc u.mine (printed client requests lines) (printed client rest behind)
        ∙ ap (λ (l : List (ℕ × HistoryEntry)). u.mine ++ l) (sym (printed_append client requests rest lines behind a.each));
    heard_more = b.heard_more ∙ ap (λ (l : List (ℕ × List ℕ)). l ++ after) a.heard_more ∙ append_assoc u.heard heard after;
    told_more = b.told_more ∙ ap (λ (l : List ℕ). l ++ more) a.told_more ∙ append_assoc u.told told more;
    heard_each = λ teller. omega (arith, ap length (values_append teller heard after), length-append (heard_from teller heard) (heard_from teller after), a.heard_each teller, b.heard_each teller, heard_append teller requests rest);
    told_each = omega (arith, length-append told more, a.told_each, b.told_each, ap length (hearers_append requests rest), length-append (hearers_of requests) (hearers_of rest));
    each = omega (arith, length-append lines behind, length-append requests rest, a.each, b.each);
    answered = answered_more;
    few = omega (arith, ap length (printed_append client requests rest lines behind a.each), length-append (printed client requests lines) (printed client rest behind), length-append requests rest, a.few, b.few);
    awaited = awaited_append w.seen.stable lines behind (omega (arith, a.awaited, b.more.stable)) b.awaited;
    failed = λ device.
        subst (λ (n : ℕ). RoseTo n (reads_part device u.seen.fault) (reads_part device w.seen.fault)) (sym (failures_append device lines behind))
        (rose_on (failures device lines) (failures device behind) (reads_part device u.seen.fault) (reads_part device v.seen.fault) (reads_part device w.seen.fault) (a.failed device) (b.failed device));
    stopped_down = λ device some. elim (any_append (HasStop (Down device)) lines behind some) [
      | inl before ↦ (down_later device v w b.more (a.stopped_down device before).0, omega (arith, (a.stopped_down device before).1, b.more.cursor))
      | inr last ↦ ((b.stopped_down device last).0, omega (arith, (b.stopped_down device last).1, a.more.limit))
    ];
    stopped_ids = λ some. elim (any_append (HasStop Ids) lines behind some) [
      | inl before ↦ omega (arith, a.stopped_ids before, div_rises shape.places v.seen.cursor w.seen.cursor b.more.cursor)
      | inr last ↦ b.stopped_ids last
    ];
    undone = λ device some. elim (any_append (IsUnflushed device) lines behind some) [
      | inl before ↦ down_later device v w b.more (a.undone device before)
      | inr last ↦ b.undone device last
    ];
  }

-- and behind all of them the pass may look
pub played_looked : (base : Option Image) (shape : Shape) (client : ℕ) (u v w : View) (heard : List (ℕ × List ℕ)) (told : List ℕ) (requests : List Request) (lines : List Line) → HasPlayed base shape client u v heard told requests lines → HasLooked v w → HasPlayed base shape client u w heard told requests lines
played_looked base shape client u v w heard told requests lines played looked =
    let P : List (ℕ × List ℕ) × List ℕ × List Request × List Line → Type 0 = λ x. HasPlayed base shape client u w x.0 x.1 x.2 x.3 in
    subst P (λ i. (append-nil heard i, append-nil told i, append-nil requests i, append-nil lines i))
    (played_more base shape client u v w heard [] told [] requests [] lines [] played (played_none base shape client v w looked))
