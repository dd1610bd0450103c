-- Posted flushes are awaited at the end, and marked where they weren't done.
use Rattle.std.proofs.Common.{ℕ, ◌≡◌, ◌⊎◌, ◌<◌, ◌≤◌, List, ◌++◌, length, map, max, ltb, get_or, Option, Some, None, inl, inr, refl, ap, sym, ◌∙◌, subst, arith}
use Rattle.std.specs.List.{Any, All}
use Rattle.std.specs.Prelude.{IfSome}
use Rattle.std.proofs.lemmas.Bool.{cond_both, ltb-true, ltb-false}
use Rattle.std.proofs.lemmas.List.{get_or-map, get_or_default, length-map}
use Rattle.std.proofs.lemmas.List.Elements.{All-map, All-weaker}
use Rattle.wb_geometry.specs.Image.{Image}
use Rattle.wb_geometry.specs.History.{HistoryEntry}
use Rattle.wb_geometry.specs.declared.which.Which.{Which}
use Rattle.wb_steps.specs.declared.shape.Shape.{Shape}
use Rattle.wb_steps.specs.declared.view.View.{View}
use Rattle.wb_script.specs.Keeping.{marked, marked_end}
use Rattle.wb_script.specs.Transcripts.{Seen, printed, covered_line, done_through, HasStop, IsUnflushed}
use Rattle.wb_script.proofs.Marks.{HasStop-marked, IsUnflushed-marked, AnswersAll-marked, seen_after_all-marked, left_by_all-marked, printed-marked, failures-marked}
use Rattle.wb_script.specs.declared.request.Request.{Request}
use Rattle.wb_script.specs.declared.transcript.Ended.{Ended}
use Rattle.wb_script.specs.declared.transcript.Line.{Line}
use Rattle.wb_script.specs.declared.transcript.Line.TheVariants.{Wrote, Forced, Got, Summed, Failed, Flushed, Deferred, Told, Heard}
use Rattle.wb_script.specs.declared.transcript.Stop.TheVariants.{Down, Ids}
use Rattle.wb_front.specs.Words.{reads_part}
use Rattle.wb_client.specs.Played.{HasSeenDown, RoseTo, AreWithin, told_for, awaited_line, awaited_by, HasPlayed, AreAwaited}
use Rattle.wb_client.specs.Client.{IsPostedLine, ArePosted, IsMarkedAbove}
use Rattle.wb_client.proofs.Appends.{most_each, most_below}

any_unmap : (P Q : Line → Type 0) (change : Line → Line) (lines : List Line) → ((line : Line) → P (change line) → Q line) → Any P (map change lines) → Any Q lines
any_unmap P Q change lines back (k, x, lt, is, holds) =
    let within : k < length lines = omega (arith, lt, length-map lines change) in
    let here : Line = get_or lines k Told in
    let same : x ≡ change here = sym is ∙ get_or-map change lines k Told x within in
    (k, here, within, get_or_default lines k here Told within, back here (subst P same holds))

awaited_line-marked : (below : ℕ) (device : Which) (line : Line) → awaited_line (marked below device line) ≡ awaited_line line
awaited_line-marked below device (Wrote places stop) = refl
awaited_line-marked below device (Forced places flush stop) = refl
awaited_line-marked below device (Got point shown) = refl
awaited_line-marked below device (Summed point sum) = refl
awaited_line-marked below device (Failed failed) = refl
awaited_line-marked below device (Flushed ended) = refl
awaited_line-marked below device (Deferred ended) = refl
awaited_line-marked below device Told = refl
awaited_line-marked below device Heard = refl

awaited_by-marked : (below : ℕ) (device : Which) (stable : ℕ) (lines : List Line) → awaited_by lines ≤ stable → awaited_by (map (marked below device) lines) ≤ stable
awaited_by-marked below device stable lines le =
    most_below awaited_line stable 0 (map (marked below device) lines) (omega arith)
    (All-map (λ (l : Line). awaited_line l ≤ stable) (marked below device) lines
    (All-weaker (λ (l : Line). awaited_line l ≤ stable) (λ (l : Line). awaited_line (marked below device l) ≤ stable) (λ l few. omega (arith, few, awaited_line-marked below device l)) lines (most_each awaited_line stable 0 lines le).1))

module _ (base : Option Image) (shape : Shape) (client : ℕ) (v w : View) (heard : List (ℕ × List ℕ)) (told : List ℕ) (requests : List Request) (lines : List Line) (played : HasPlayed base shape client v w heard told requests lines) where
  pub played_marked : (below : ℕ) (device : Which) → HasSeenDown device w → HasPlayed base shape client v w heard told requests (map (marked below device) lines)
  played_marked below device down =
      let after : List Line = map (marked below device) lines in
      let same : printed client requests after ≡ printed client requests lines = printed-marked below device client requests lines in
      record {
        more = played.more;
        mine = played.mine ∙ ap (λ (l : List (ℕ × HistoryEntry)). v.mine ++ l) (sym same);
        heard_more = played.heard_more;
        told_more = played.told_more;
        heard_each = played.heard_each;
        told_each = played.told_each;
        each = length-map lines (marked below device) ∙ played.each;
        answered = λ seen le left.
            let answered = played.answered seen le left in
            record {
              seen_by = subst (λ (s : Seen). s.number ≤ w.seen.cursor) (sym (seen_after_all-marked below device seen requests lines)) answered.seen_by;
              answers = λ history ahead. AnswersAll-marked below device base history client seen requests lines (answered.answers history ahead);
              tells = λ hearer. subst (λ (l : List ℕ). AreWithin l (told_for hearer requests told)) (sym (left_by_all-marked below device seen requests lines hearer)) (answered.tells hearer);
            };
        few = omega (arith, played.few, ap length same);
        awaited = awaited_by-marked below device w.seen.stable lines played.awaited;
        failed = λ which. subst (λ (n : ℕ). RoseTo n (reads_part which v.seen.fault) (reads_part which w.seen.fault)) (sym (failures-marked below device which lines)) (played.failed which);
        stopped_down = λ which some. played.stopped_down which (any_unmap (HasStop (Down which)) (HasStop (Down which)) (marked below device) lines (HasStop-marked below device (Down which)) some);
        stopped_ids = λ some. played.stopped_ids (any_unmap (HasStop Ids) (HasStop Ids) (marked below device) lines (HasStop-marked below device Ids) some);
        undone = λ which some. undone_then below device down which
            (any_unmap (IsUnflushed which) (λ line. IsUnflushed which line ⊎ (which ≡ device)) (marked below device) lines (IsUnflushed-marked below device which) some);
      }
    where
      undone_then : (below : ℕ) (device : Which) → HasSeenDown device w → (which : Which) → Any (λ line. IsUnflushed which line ⊎ (which ≡ device)) lines → HasSeenDown which w
      undone_then below device down which (k, x, lt, is, found) = elim found [
        | inl before ↦ played.undone which (k, x, lt, is, before)
        | inr same ↦ subst (λ (d : Which). HasSeenDown d w) (sym same) down
      ]

  -- they are the lines of the client
  pub played_awaited : (awaited : List Line) → AreAwaited w lines awaited → HasPlayed base shape client v w heard told requests awaited
  played_awaited awaited are = elim are.marks [
    | inl same ↦ subst (λ (l : List Line). HasPlayed base shape client v w heard told requests l) (sym same) played
    | inr (device, down, same) ↦ subst (λ (l : List Line). HasPlayed base shape client v w heard told requests l) (sym same) (played_marked w.seen.stable device down)
  ]

-- ---- what they cover

done_le : (through voids : ℕ) (down : Option Which) → done_through (record { through = through; voids = voids; down = down }) ≤ through
done_le through voids None = omega arith
done_le through voids (Some device) = omega arith

marked_done : (below : ℕ) (device : Which) (ended : Ended) → done_through (marked_end below device ended) ≤ below
marked_done below device ended =
    cond_both (ltb below ended.through) (record { through = ended.through; voids = ended.voids; down = Some device }) ended (λ (e : Ended). done_through e ≤ below)
    (λ _. omega arith) (λ above. omega (arith, ltb-false below ended.through above, done_le ended.through ended.voids ended.down))

covered_marked : (stable below : ℕ) (device : Which) (line : Line) → below ≤ stable → awaited_line line ≤ stable → covered_line (marked below device line) ≤ stable
covered_marked stable below device (Wrote places stop) low le = omega arith
covered_marked stable below device (Forced places flush stop) low le = le
covered_marked stable below device (Got point shown) low le = omega arith
covered_marked stable below device (Summed point sum) low le = omega arith
covered_marked stable below device (Failed failed) low le = omega arith
covered_marked stable below device (Flushed ended) low le = le
covered_marked stable below device (Deferred ended) low le = omega (arith, low, marked_done below device ended)
covered_marked stable below device Told low le = omega arith
covered_marked stable below device Heard low le = omega arith

-- where those are marked whose number is above that which is stable
pub are_marked : (w : View) (lines : List Line) (device : Which) → HasSeenDown device w → awaited_by lines ≤ w.seen.stable → AreAwaited w lines (map (marked w.seen.stable device) lines)
are_marked w lines device down awaited = record {
  marks = inr (device, down, refl);
  covered =
      most_below covered_line w.seen.stable 0 (map (marked w.seen.stable device) lines) (omega arith)
      (All-map (λ (l : Line). covered_line l ≤ w.seen.stable) (marked w.seen.stable device) lines
      (All-weaker (λ (l : Line). awaited_line l ≤ w.seen.stable) (λ (l : Line). covered_line (marked w.seen.stable device l) ≤ w.seen.stable) (λ l le. covered_marked w.seen.stable w.seen.stable device l (omega arith) le) lines (most_each awaited_line w.seen.stable 0 lines awaited).1));
}

-- or where each that was posted is stable
pub are_done : (w : View) (lines : List Line) → awaited_by lines ≤ w.seen.stable → All (λ line. covered_line line ≤ max (awaited_line line) w.seen.stable) lines → AreAwaited w lines lines
are_done w lines awaited done = record {
  marks = inl refl;
  covered =
      most_below covered_line w.seen.stable 0 lines (omega arith) (λ k d lt.
      let one = done k d lt in
      let other = (most_each awaited_line w.seen.stable 0 lines awaited).1 k d lt in
      omega (arith, one, other));
}

-- ---- which are marked

-- of those that weren't marked, one that is covers more than is stable
mark_above : (number stable : ℕ) (v : View) (device : Which) (line : Line) → IsPostedLine number v line → IsMarkedAbove stable (marked stable device line)
mark_above number stable v device (Wrote places stop) posted = tt
mark_above number stable v device (Forced places flush stop) posted = tt
mark_above number stable v device (Got point shown) posted = tt
mark_above number stable v device (Summed point sum) posted = tt
mark_above number stable v device (Failed failed) posted = tt
mark_above number stable v device (Flushed ended) posted = tt
mark_above number stable v device (Deferred ended) posted =
    cond_both (ltb stable ended.through) (record { through = ended.through; voids = ended.voids; down = Some device }) ended (λ (e : Ended). IfSome e.down (λ d. stable < e.through))
    (λ above. ltb-true stable ended.through above) (λ below. subst (λ (d : Option Which). IfSome d (λ x. stable < ended.through)) (sym posted.2) tt)
mark_above number stable v device Told posted = tt
mark_above number stable v device Heard posted = tt

unmarked : (number stable : ℕ) (v : View) (line : Line) → IsPostedLine number v line → IsMarkedAbove stable line
unmarked number stable v (Wrote places stop) posted = tt
unmarked number stable v (Forced places flush stop) posted = tt
unmarked number stable v (Got point shown) posted = tt
unmarked number stable v (Summed point sum) posted = tt
unmarked number stable v (Failed failed) posted = tt
unmarked number stable v (Flushed ended) posted = tt
unmarked number stable v (Deferred ended) posted = subst (λ (d : Option Which). IfSome d (λ x. stable < ended.through)) (sym posted.2) tt
unmarked number stable v Told posted = tt
unmarked number stable v Heard posted = tt

pub marks_above : (number : ℕ) (v w : View) (lines awaited : List Line) → ArePosted number v lines → AreAwaited w lines awaited → All (IsMarkedAbove w.seen.stable) awaited
marks_above number v w lines awaited posted are = elim are.marks [
  | inl same ↦ subst (All (IsMarkedAbove w.seen.stable)) (sym same) (All-weaker (IsPostedLine number v) (IsMarkedAbove w.seen.stable) (unmarked number w.seen.stable v) lines posted)
  | inr (device, down, same) ↦ subst (All (IsMarkedAbove w.seen.stable)) (sym same)
      (All-map (IsMarkedAbove w.seen.stable) (marked w.seen.stable device) lines
      (All-weaker (IsPostedLine number v) (λ (l : Line). IsMarkedAbove w.seen.stable (marked w.seen.stable device l)) (mark_above number w.seen.stable v device) lines posted))
]
