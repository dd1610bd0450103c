-- Posted flushes that are marked as not done: all else of their lines stays.
use Rattle.std.proofs.Common.{ℕ, ◌≡◌, ◌≤◌, List, [], ◌∷◌, ◌++◌, map, cond, eqb, ltb, Option, Some, None, ◌⊎◌, inl, inr, refl, ap, sym, ◌∙◌, subst, arith}
use Rattle.std.specs.Prelude.{max, fold, sum}
use Rattle.std.specs.List.{All}
use Rattle.std.proofs.lemmas.Bool.{cond_both, ltb-false}
use Rattle.std.proofs.lemmas.List.Elements.{All-head, All-tail, All-map, All-weaker}
use Rattle.wb_geometry.specs.Image.{Image}
use Rattle.wb_geometry.specs.History.{HistoryEntry}
use Rattle.wb_geometry.specs.declared.which.Which.{Which}
use Rattle.wb_geometry.specs.declared.which.Which.TheVariants.{Log, Backing}
use Rattle.wb_script.specs.Keeping.{marked, marked_end}
use Rattle.wb_script.specs.Transcripts.{printed_line, printed, voids_of, Seen, seen_to, seen_after, seen_after_all, left_by, left_by_all, IsFlush, Answers, AnswersAll, done_through, forced_through, covered_line, covered_by, is_failure, failures, HasStop, IsUnflushed, IsLegal, Notes, with_notes, first_seen}
use Rattle.wb_script.specs.declared.request.Request.{Request}
use Rattle.wb_script.specs.declared.transcript.Ended.{Ended}
use Rattle.wb_script.specs.declared.transcript.Stop.{Stop}
use Rattle.wb_script.specs.declared.transcript.Line.{Line}
use Rattle.wb_script.specs.declared.transcript.Line.TheVariants.{Wrote, Forced, Got, Summed, Failed, Flushed, Deferred, Told, Heard}

-- ---- the end of a flush

marked_through : (stable : ℕ) (device : Which) (ended : Ended) → (marked_end stable device ended).through ≡ ended.through
marked_through stable device ended =
    cond_both (ltb stable ended.through) (record { through = ended.through; voids = ended.voids; down = Some device }) ended (λ (e : Ended). e.through ≡ ended.through) (λ _. refl) (λ _. refl)

marked_voids : (stable : ℕ) (device : Which) (ended : Ended) → (marked_end stable device ended).voids ≡ ended.voids
marked_voids stable device ended =
    cond_both (ltb stable ended.through) (record { through = ended.through; voids = ended.voids; down = Some device }) ended (λ (e : Ended). e.voids ≡ ended.voids) (λ _. refl) (λ _. refl)

marked_flush : {seen places : ℕ} (stable : ℕ) (device : Which) (ended : Ended) → IsFlush seen places ended → IsFlush seen places (marked_end stable device ended)
marked_flush stable device ended flush = record {
  after_seen = omega (arith, flush.after_seen, marked_through stable device ended, marked_voids stable device ended);
  inside = omega (arith, flush.inside, marked_through stable device ended);
}

-- a flush covers at most its number
done_le : (through voids : ℕ) (down : Option Which) → done_through (record { through = through; voids = voids; down = down }) ≤ through
done_le through voids None = omega arith
done_le through voids (Some device) = omega arith

-- a marked one covers at most `stable`
marked_done : (stable : ℕ) (device : Which) (ended : Ended) → done_through (marked_end stable device ended) ≤ stable
marked_done stable device ended =
    cond_both (ltb stable ended.through) (record { through = ended.through; voids = ended.voids; down = Some device }) ended (λ (e : Ended). done_through e ≤ stable)
    (λ _. omega arith) (λ above. omega (arith, ltb-false stable ended.through above, done_le ended.through ended.voids ended.down))

-- and no more than before
marked_fewer : (stable : ℕ) (device : Which) (ended : Ended) → done_through (marked_end stable device ended) ≤ done_through ended
marked_fewer stable device ended =
    cond_both (ltb stable ended.through) (record { through = ended.through; voids = ended.voids; down = Some device }) ended (λ (e : Ended). done_through e ≤ done_through ended)
    (λ _. omega arith) (λ _. omega arith)

-- ---- one line

-- it answers as before
pub Answers-marked : (stable : ℕ) (device : Which) (base : Option Image) (history : List HistoryEntry) (client : ℕ) (seen : Seen) (request : Request) (line : Line) → Answers base history client seen request line → Answers base history client seen request (marked stable device line)
Answers-marked stable device base history client seen request (Wrote places stop) answers = answers
Answers-marked stable device base history client seen request (Forced places flush stop) answers = answers
Answers-marked stable device base history client seen request (Got point shown) answers = answers
Answers-marked stable device base history client seen request (Summed point sum) answers = answers
Answers-marked stable device base history client seen request (Failed failed) answers = answers
Answers-marked stable device base history client seen request (Flushed ended) answers = answers
Answers-marked stable device base history client seen request (Deferred ended) answers = (answers.0, marked_flush stable device ended answers.1)
Answers-marked stable device base history client seen request Told answers = answers
Answers-marked stable device base history client seen request Heard answers = answers

-- as much is seen after it
pub seen_after-marked : (stable : ℕ) (device : Which) (seen : Seen) (request : Request) (line : Line) → seen_after seen request (marked stable device line) ≡ seen_after seen request line
seen_after-marked stable device seen request (Wrote places stop) = refl
seen_after-marked stable device seen request (Forced places flush stop) = refl
seen_after-marked stable device seen request (Got point shown) = refl
seen_after-marked stable device seen request (Summed point sum) = refl
seen_after-marked stable device seen request (Failed failed) = refl
seen_after-marked stable device seen request (Flushed ended) = refl
seen_after-marked stable device seen request (Deferred ended) = ap (seen_to seen) (marked_through stable device ended)
seen_after-marked stable device seen request Told = refl
seen_after-marked stable device seen request Heard = refl

-- it prints the same places
pub printed_line-marked : (stable : ℕ) (device : Which) (client : ℕ) (request : Request) (line : Line) → printed_line client request (marked stable device line) ≡ printed_line client request line
printed_line-marked stable device client request (Wrote places stop) = refl
printed_line-marked stable device client request (Forced places flush stop) = refl
printed_line-marked stable device client request (Got point shown) = refl
printed_line-marked stable device client request (Summed point sum) = refl
printed_line-marked stable device client request (Failed failed) = refl
printed_line-marked stable device client request (Flushed ended) = refl
printed_line-marked stable device client request (Deferred ended) =
    let e : voids_of client (marked_end stable device ended) ≡ voids_of client ended = rw (marked_through stable device ended, marked_voids stable device ended) refl in e
printed_line-marked stable device client request Told = refl
printed_line-marked stable device client request Heard = refl

-- it says as much of failed reads
pub is_failure-marked : (stable : ℕ) (device which : Which) (line : Line) → is_failure which (marked stable device line) ≡ is_failure which line
is_failure-marked stable device which (Wrote places stop) = refl
is_failure-marked stable device which (Forced places flush stop) = refl
is_failure-marked stable device which (Got point shown) = refl
is_failure-marked stable device which (Summed point sum) = refl
is_failure-marked stable device which (Failed failed) = refl
is_failure-marked stable device which (Flushed ended) = refl
is_failure-marked stable device Log (Deferred ended) = refl
is_failure-marked stable device Backing (Deferred ended) = refl
is_failure-marked stable device which Told = refl
is_failure-marked stable device which Heard = refl

-- it covers no more
pub covered_line-marked : (stable : ℕ) (device : Which) (line : Line) → covered_line (marked stable device line) ≤ covered_line line
covered_line-marked stable device (Wrote places stop) = omega arith
covered_line-marked stable device (Forced places flush stop) = omega arith
covered_line-marked stable device (Got point shown) = omega arith
covered_line-marked stable device (Summed point sum) = omega arith
covered_line-marked stable device (Failed failed) = omega arith
covered_line-marked stable device (Flushed ended) = omega arith
covered_line-marked stable device (Deferred ended) = marked_fewer stable device ended
covered_line-marked stable device Told = omega arith
covered_line-marked stable device Heard = omega arith

-- a write of it was stopped as before
pub HasStop-marked : (stable : ℕ) (device : Which) (why : Stop) (line : Line) → HasStop why (marked stable device line) → HasStop why line
HasStop-marked stable device why (Wrote places stop) stopped = stopped
HasStop-marked stable device why (Forced places flush stop) stopped = stopped
HasStop-marked stable device why (Got point shown) stopped = stopped
HasStop-marked stable device why (Summed point sum) stopped = stopped
HasStop-marked stable device why (Failed failed) stopped = stopped
HasStop-marked stable device why (Flushed ended) stopped = stopped
HasStop-marked stable device why (Deferred ended) stopped = stopped
HasStop-marked stable device why Told stopped = stopped
HasStop-marked stable device why Heard stopped = stopped

-- a flush of it that wasn't done wasn't before, or it names the device
pub IsUnflushed-marked : (stable : ℕ) (device failed : Which) (line : Line) → IsUnflushed failed (marked stable device line) → IsUnflushed failed line ⊎ (failed ≡ device)
IsUnflushed-marked stable device failed (Wrote places stop) down = inl down
IsUnflushed-marked stable device failed (Forced places flush stop) down = inl down
IsUnflushed-marked stable device failed (Got point shown) down = inl down
IsUnflushed-marked stable device failed (Summed point sum) down = inl down
IsUnflushed-marked stable device failed (Failed other) down = inl down
IsUnflushed-marked stable device failed (Flushed ended) down = inl down
IsUnflushed-marked stable device failed (Deferred ended) down =
    cond_both (ltb stable ended.through) (record { through = ended.through; voids = ended.voids; down = Some device }) ended
    (λ (e : Ended). e.down ≡ Some failed → (ended.down ≡ Some failed) ⊎ (failed ≡ device))
    (λ _ same. inr cc) (λ _ same. inl same) down
IsUnflushed-marked stable device failed Told down = inl down
IsUnflushed-marked stable device failed Heard down = inl down

-- a flush that was answered at once, and not posted, covers at most so much
abbrev pub IsDone : ℕ → Line → Type 0
IsDone stable (Forced places flush stop) = forced_through flush ≤ stable
IsDone stable (Flushed ended) = done_through ended ≤ stable
IsDone stable (Wrote places stop) = Unit {0}
IsDone stable (Got point shown) = Unit {0}
IsDone stable (Summed point sum) = Unit {0}
IsDone stable (Failed failed) = Unit {0}
IsDone stable (Deferred ended) = Unit {0}
IsDone stable Told = Unit {0}
IsDone stable Heard = Unit {0}

done_marked : (stable : ℕ) (device : Which) (line : Line) → IsDone stable line → covered_line (marked stable device line) ≤ stable
done_marked stable device (Wrote places stop) done = omega arith
done_marked stable device (Forced places flush stop) done = done
done_marked stable device (Got point shown) done = omega arith
done_marked stable device (Summed point sum) done = omega arith
done_marked stable device (Failed failed) done = omega arith
done_marked stable device (Flushed ended) done = done
done_marked stable device (Deferred ended) done = marked_done stable device ended
done_marked stable device Told done = omega arith
done_marked stable device Heard done = omega arith

-- ---- all lines

pub AnswersAll-marked : (stable : ℕ) (device : Which) (base : Option Image) (history : List HistoryEntry) (client : ℕ) (seen : Seen) (requests : List Request) (lines : List Line) → AnswersAll base history client seen requests lines → AnswersAll base history client seen requests (map (marked stable device) lines)
AnswersAll-marked stable device base history client seen [] [] answers = tt
AnswersAll-marked stable device base history client seen [] (line ∷ lines) answers = absurd answers
AnswersAll-marked stable device base history client seen (request ∷ requests) [] answers = absurd answers
AnswersAll-marked stable device base history client seen (request ∷ requests) (line ∷ lines) answers =
    let P : Seen → Type 0 = λ s. AnswersAll base history client s requests (map (marked stable device) lines) in (
      Answers-marked stable device base history client seen request line answers.0,
      subst P (sym (seen_after-marked stable device seen request line)) (AnswersAll-marked stable device base history client (seen_after seen request line) requests lines answers.1),
    )

pub seen_after_all-marked : (stable : ℕ) (device : Which) (seen : Seen) (requests : List Request) (lines : List Line) → seen_after_all seen requests (map (marked stable device) lines) ≡ seen_after_all seen requests lines
seen_after_all-marked stable device seen [] lines = refl
seen_after_all-marked stable device seen (request ∷ requests) [] = refl
seen_after_all-marked stable device seen (request ∷ requests) (line ∷ lines) =
    ap (λ (s : Seen). seen_after_all s requests (map (marked stable device) lines)) (seen_after-marked stable device seen request line)
    ∙ seen_after_all-marked stable device (seen_after seen request line) requests lines

pub left_by_all-marked : (stable : ℕ) (device : Which) (seen : Seen) (requests : List Request) (lines : List Line) (hearer : ℕ) → left_by_all seen requests (map (marked stable device) lines) hearer ≡ left_by_all seen requests lines hearer
left_by_all-marked stable device seen [] lines hearer = refl
left_by_all-marked stable device seen (request ∷ requests) [] hearer = refl
left_by_all-marked stable device seen (request ∷ requests) (line ∷ lines) hearer =
    ap (λ (ns : List ℕ). left_by seen request hearer ++ ns)
    (ap (λ (s : Seen). left_by_all s requests (map (marked stable device) lines) hearer) (seen_after-marked stable device seen request line)
    ∙ left_by_all-marked stable device (seen_after seen request line) requests lines hearer)

pub printed-marked : (stable : ℕ) (device : Which) (client : ℕ) (requests : List Request) (lines : List Line) → printed client requests (map (marked stable device) lines) ≡ printed client requests lines
printed-marked stable device client [] lines = refl
printed-marked stable device client (request ∷ requests) [] = refl
printed-marked stable device client (request ∷ requests) (line ∷ lines) =
    ap (λ (ps : List (ℕ × HistoryEntry)). ps ++ printed client requests (map (marked stable device) lines)) (printed_line-marked stable device client request line)
    ∙ ap (λ (ps : List (ℕ × HistoryEntry)). printed_line client request line ++ ps) (printed-marked stable device client requests lines)

failures_same : (stable : ℕ) (device which : Which) (lines : List Line) → map (is_failure which) (map (marked stable device) lines) ≡ map (is_failure which) lines
failures_same stable device which [] = refl
failures_same stable device which (line ∷ lines) = ap (λ (n : ℕ). n ∷ map (is_failure which) (map (marked stable device) lines)) (is_failure-marked stable device which line) ∙ ap (λ (ns : List ℕ). is_failure which line ∷ ns) (failures_same stable device which lines)

pub failures-marked : (stable : ℕ) (device which : Which) (lines : List Line) → failures which (map (marked stable device) lines) ≡ failures which lines
failures-marked stable device which lines = ap sum (failures_same stable device which lines)

-- the transcript is as legal
pub IsLegal-marked : (stable : ℕ) (device : Which) (base : Option Image) (history : List HistoryEntry) (client : ℕ) (notes : ℕ → List ℕ) (requests : List Request) (lines : List Line) → IsLegal base history client notes requests lines → IsLegal base history client notes requests (map (marked stable device) lines)
IsLegal-marked stable device base history client notes requests lines legal = record {
  answers = AnswersAll-marked stable device base history client (first_seen notes) requests lines legal.answers;
  own = printed-marked stable device client requests lines ∙ legal.own;
}

-- and leaves the same notes
pub with_notes-marked : (stable : ℕ) (device : Which) (notes : Notes) (client : ℕ) (requests : List Request) (lines : List Line) (hearer teller : ℕ) → with_notes notes client requests (map (marked stable device) lines) hearer teller ≡ with_notes notes client requests lines hearer teller
with_notes-marked stable device notes client requests lines hearer teller =
    ap (λ (ns : List ℕ). cond (eqb teller client) ns (notes hearer teller)) (left_by_all-marked stable device (first_seen (notes client)) requests lines hearer)

covered_fewer : (stable : ℕ) (device : Which) (most more : ℕ) (lines : List Line) → most ≤ more → fold (λ most line. max most (covered_line line)) most (map (marked stable device) lines) ≤ fold (λ most line. max most (covered_line line)) more lines
covered_fewer stable device most more [] le = le
covered_fewer stable device most more (line ∷ lines) le =
    covered_fewer stable device (max most (covered_line (marked stable device line))) (max more (covered_line line)) lines (omega (arith, covered_line-marked stable device line))

-- it covers no more
pub covered_by-fewer : (stable : ℕ) (device : Which) (lines : List Line) → covered_by (map (marked stable device) lines) ≤ covered_by lines
covered_by-fewer stable device lines = covered_fewer stable device 0 0 lines (omega arith)

pub covered_most : (stable most : ℕ) (lines : List Line) → most ≤ stable → All (λ line. covered_line line ≤ stable) lines → fold (λ most line. max most (covered_line line)) most lines ≤ stable
covered_most stable most [] le all = le
covered_most stable most (line ∷ lines) le all =
    covered_most stable (max most (covered_line line)) lines (omega (arith, All-head (λ (l : Line). covered_line l ≤ stable) line lines all)) (All-tail (λ (l : Line). covered_line l ≤ stable) line lines all)

-- what posted flushes cover that are marked, beside flushes that cover at most `stable`
pub covered_by-marked : (stable : ℕ) (device : Which) (lines : List Line) → All (IsDone stable) lines → covered_by (map (marked stable device) lines) ≤ stable
covered_by-marked stable device lines done =
    covered_most stable 0 (map (marked stable device) lines) (omega arith)
    (All-map (λ (l : Line). covered_line l ≤ stable) (marked stable device) lines (All-weaker (IsDone stable) (λ (l : Line). covered_line (marked stable device l) ≤ stable) (done_marked stable device) lines done))
