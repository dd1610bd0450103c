-- A step that only reads the log: a batch of segments is written back, or was begun to be, or couldn't be read, or nothing
-- is done.
use Rattle.std.proofs.Common.{ℕ, ◌≡◌, ◌-◌, ◌<◌, ◌≤◌, List, [], length, Option, Some, None, IsSome, Result, OnOk, Ok, Err, true, false, inl, refl, ap, sym, ◌∙◌, subst, arith}
use Rattle.std.specs.Result.{is_err}
use Rattle.wb_geometry.specs.Image.{Image}
use Rattle.wb_geometry.specs.Device.{State, IsDevice, IsSameDevice, NothingPending, Passes, ContentPasses, OnlyRead, CountsFaults, Rose}
use Rattle.wb_geometry.specs.History.{HistoryEntry, after, last_write, PutsPartly}
use Rattle.wb_geometry.specs.Layout.{places}
use Rattle.wb_geometry.specs.Line.{Line, line_of, span}
use Rattle.wb_geometry.specs.declared.geometry.Geometry.{Geometry}
use Rattle.wb_geometry.proofs.Histories.{puts_all}
use Rattle.wb_geometry.proofs.Moments.{weaker, content_weaker, passes_same, content_same, same_device}
use Rattle.wb_header.specs.Text.{TextBlock}
use Rattle.wb_header.specs.Standing.{StandsFor, entries_of}
use Rattle.wb_log.specs.Kept.{metas_at}
use Rattle.wb_back.proofs.Added.{WritesLast, AreDistinct-arranged, content-written, content-partly_written, crash-partly_written}
use Rattle.wb_crash.specs.Numbers.{put_up_to}
use Rattle.wb_crash.specs.Safety.{IsSafe}
use Rattle.wb_crash.specs.Crash.{CrashInCall, WritesAlike}
use Rattle.wb_crash.specs.declared.numbers.Numbers.{Numbers}
use Rattle.wb_crash.proofs.Shown.{shown_before}
use Rattle.wb_crash.proofs.Halves.{safe_log_kept, safe_back_tried, safe_back}
use Rattle.wb_crash.proofs.Crash.{back_batch_word}
use Rattle.wb_memory.specs.Memory.{MemoryContent, live, segment_at}
use Rattle.wb_engine.specs.Content.{EngineContent}
use Rattle.wb_engine.specs.Standing.{Standing, IsSynced, IsListed, line}
use Rattle.wb_engine.specs.Stepping.{entries_in_log, IsPlanOf, IsStep}
use Rattle.wb_engine.proofs.Among.{puts_same, puts_of_span, span-alike}
use Rattle.wb_engine.proofs.ReadBack.{read_writes}
use Rattle.wb_engine.proofs.Records.{record_up}

-- ---- an engine of which only the last number that is back has moved

-- all but the number of the last segment that is back
pub record IsSameButBack (old new : Numbers) : Type 0 where
  pub first : new.first ≡ old.first
  pub recorded : new.recorded ≡ old.recorded
  pub stable : new.stable ≡ old.stable
  pub logged : new.logged ≡ old.logged
  pub tried : new.tried ≡ old.tried
  pub sealed : new.sealed ≡ old.sealed

pub same_numbers : (n : Numbers) → IsSameButBack n n
same_numbers n = record { first = refl; recorded = refl; stable = refl; logged = refl; tried = refl; sealed = refl }

pub put_numbers : (k : ℕ) (n : Numbers) → IsSameButBack n (put_up_to k n)
put_numbers k n = record { first = refl; recorded = refl; stable = refl; logged = refl; tried = refl; sealed = refl }

pub record IsMoved {L B : Type 0} (old new : EngineContent L B) (n : Numbers) : Type 0 where
  pub geometry : new.geometry ≡ old.geometry
  pub numbers : new.numbers ≡ n
  pub absorbed : new.absorbed ≡ old.absorbed
  pub memory : new.memory ≡ old.memory

abbrev AreHeldIn : MemoryContent → Line → Type 0
AreHeldIn m l = (j : ℕ) → j < length (live m) → StandsFor (segment_at (live m) j).blocks (l.list (segment_at (live m) j).id)

-- where nothing is pending in the log, nothing is after reads
read_pending : (log now : State) → OnlyRead log now → NothingPending log → NothingPending now
read_pending log now read nothing = record {
  only = λ x left. let was = read.crash.now x left in read.content ∙ subst (λ (y : Image). log.content ≡ Some y) (sym was.2) (nothing.only was.0 was.1);
}

is_told : {X : Type 0} (o : Option X) → IsSome o → (x : X) × (o ≡ Some x)
is_told (Some x) some = (x, refl)
is_told None some = absurd (cc)

none_alike : (list : ℕ → List HistoryEntry) (a : ℕ) → WritesAlike [] (span list a (a - a))
none_alike list a k = let none : 0 ≡ a - a = omega arith in ap (λ (m : ℕ). last_write k (span list a m)) none

module _ {L B : Type 0} where
  same_line : (old new : EngineContent L B) (base : Image) (h : List HistoryEntry) → new.geometry ≡ old.geometry → new.numbers.first ≡ old.numbers.first → line new base h ≡ line old base h
  same_line old new base h geometry first =
      ap (λ (g : Geometry). line_of (places g) new.numbers.first base h) geometry ∙ ap (λ (k : ℕ). line_of (places old.geometry) k base h) first

module _ {L B : Type 0} {of_log : L → State} {of_backing : B → State} where
  -- such an engine stands for what it stood for
  moved_stands : (old new : EngineContent L B) (n : Numbers) (base : Image) (h : List HistoryEntry) → IsMoved old new n → IsSameButBack old.numbers n
      → old.down ≡ None → OnlyRead (of_log old.log) (of_log new.log) → Standing of_log of_backing old base h
      → IsSafe old.geometry (line old base h) n (of_log new.log) (of_backing new.backing) → Standing of_log of_backing new base h
  moved_stands old new n base h moved numbers up read stands safe =
      let lines : line old base h ≡ line new base h = sym (same_line old new base h moved.geometry (ap (λ (m : Numbers). m.first) moved.numbers ∙ numbers.first)) in
      let recorded : new.numbers.recorded ≡ old.numbers.recorded = ap (λ (m : Numbers). m.recorded) moved.numbers ∙ numbers.recorded in
      let logged : new.numbers.logged ≡ old.numbers.logged = ap (λ (m : Numbers). m.logged) moved.numbers ∙ numbers.logged in
      record {
        told = subst (λ c. IsSome c) (sym read.content) stands.told;
        places = stands.places ∙ sym moved.absorbed;
        memory = subst (λ (m : MemoryContent). AreHeldIn m (line new base h)) (sym moved.memory) (subst (AreHeldIn old.memory) lines stands.memory);
        logged = λ s low high.
            subst (λ (m : MemoryContent). IsListed (metas_at m.logged s) ((line new base h).list s)) (sym moved.memory)
            (subst (λ (l : Line). IsListed (metas_at old.memory.logged s) (l.list s)) lines (stands.logged s (omega (arith, low, recorded)) (omega (arith, high, logged))));
        safe =
            subst (λ (m : Numbers). IsSafe new.geometry (line new base h) m (of_log new.log) (of_backing new.backing)) (sym moved.numbers)
            (subst (λ (g : Geometry). IsSafe g (line new base h) n (of_log new.log) (of_backing new.backing)) (sym moved.geometry)
            (subst (λ (l : Line). IsSafe old.geometry l n (of_log new.log) (of_backing new.backing)) lines safe));
        record_is = λ x shows. inl (record_up stands up x (shown_before read.crash read.content x shows) ∙ sym recorded);
      }

  -- a step in which the log was only read
  pub read_step : (old new : EngineContent L B) (n : Numbers) → IsMoved old new n → IsSameButBack old.numbers n → old.down ≡ None → OnlyRead (of_log old.log) (of_log new.log)
      → IsSameDevice (of_backing old.backing) (of_backing new.backing)
      → (IsSynced of_log of_backing old → new.down ≡ None → NothingPending (of_backing new.backing))
      → ((base : Image) (h : List HistoryEntry) → Standing of_log of_backing old base h → IsSafe old.geometry (line old base h) n (of_log new.log) (of_backing new.backing))
      → ((base : Image) (h : List HistoryEntry) → Standing of_log of_backing old base h → ContentPasses (PutsPartly h) (of_backing old.backing) (of_backing new.backing))
      → ((base : Image) (h : List HistoryEntry) → Standing of_log of_backing old base h → Passes (PutsPartly h) (of_backing old.backing) (of_backing new.backing))
      → ((base : Image) (h : List HistoryEntry) → Standing of_log of_backing old base h
      → CrashInCall old.geometry (line old base h) old.numbers.stable old.numbers.tried (of_log old.log) (of_log new.log) (of_backing old.backing) (of_backing new.backing))
      → IsStep of_log of_backing old new
  read_step old new n moved numbers up read same durable safe changed left crash =
      let stable : new.numbers.stable ≡ old.numbers.stable = ap (λ (m : Numbers). m.stable) moved.numbers ∙ numbers.stable in
      let logged : new.numbers.logged ≡ old.numbers.logged = ap (λ (m : Numbers). m.logged) moved.numbers ∙ numbers.logged in
      record {
        moves = record {
          stands = λ base h stands. moved_stands old new n base h moved numbers up read stands (safe base h stands);
          changed = changed;
          left = left;
          synced = λ is. record {
            written_back = durable is;
            written = λ _ all. read_pending (of_log old.log) (of_log new.log) read (is.written up (sym stable ∙ all ∙ logged));
          };
          geometry = moved.geometry;
          absorbed = moved.absorbed;
          first = ap (λ (m : Numbers). m.first) moved.numbers ∙ numbers.first;
          sealed = ap (λ (m : Numbers). m.sealed) moved.numbers ∙ numbers.sealed;
          stable = omega (arith, stable);
          same_log = read.same;
          same_backing = same;
        };
        crash = λ base h stands.
            subst (λ (high : ℕ). CrashInCall old.geometry (line old base h) old.numbers.stable high (of_log old.log) (of_log new.log) (of_backing old.backing) (of_backing new.backing))
            (sym (ap (λ (m : Numbers). m.tried) moved.numbers ∙ numbers.tried)) (crash base h stands);
      }

  -- ---- the segments behind the last that is back

  -- the plan writes what the entries of the segments do
  plan_writes : (e : EngineContent L B) (base : Image) (h : List HistoryEntry) (last : ℕ) (planned : List TextBlock) → e.numbers.back < last → last ≤ e.numbers.stable
      → IsPlanOf e.geometry e.memory.logged e.numbers.back last (of_log e.log) planned → Standing of_log of_backing e base h
      → WritesLast planned (span (line e base h).list e.numbers.back (last - e.numbers.back))
  plan_writes e base h last planned some below plan stands =
      let ordered = stands.safe.ordered in
      let told = is_told (of_log e.log).content stands.told in
      record {
        each = λ k.
            plan.put told.0 told.1 k
            ∙ span-alike (entries_in_log e.geometry told.0 e.memory.logged) (line e base h).list k e.numbers.back (last - e.numbers.back)
            (λ s low high. read_writes e base h told.0 s stands told.1 (omega (arith, ordered.recorded, low)) (omega (arith, high, some, below, ordered.stable)) k);
      }

module _ {L B : Type 0} {of_log : L → State} {of_backing : B → State} where
  -- whichever way the writing ends
  module _ (old new : EngineContent L B) (last : ℕ) (planned : List TextBlock) (log_device : IsDevice (of_log old.log)) (device : IsDevice (of_backing old.backing))
      (some : old.numbers.back < last) (below : last ≤ old.numbers.stable)
      (up : old.down ≡ None) (plan : IsPlanOf old.geometry old.memory.logged old.numbers.back last (of_log old.log) planned)
      (read : OnlyRead (of_log old.log) (of_log new.log)) (same : IsSameDevice (of_backing old.backing) (of_backing new.backing))
      (pass : Passes (PutsPartly (entries_of planned)) (of_backing old.backing) (of_backing new.backing)) where
    planned_left : (base : Image) (h : List HistoryEntry) → Standing of_log of_backing old base h → Passes (PutsPartly h) (of_backing old.backing) (of_backing new.backing)
    planned_left base h stands =
        weaker (λ x y left put. puts_of_span (places old.geometry) old.numbers.first old.numbers.back (last - old.numbers.back) h x y put)
        (crash-partly_written (AreDistinct-arranged planned plan.arranged) (plan_writes old base h last planned some below plan stands) pass)

    planned_crash : (base : Image) (h : List HistoryEntry) → Standing of_log of_backing old base h
        → CrashInCall old.geometry (line old base h) old.numbers.stable old.numbers.tried (of_log old.log) (of_log new.log) (of_backing old.backing) (of_backing new.backing)
    planned_crash base h stands =
        back_batch_word last (entries_of planned) stands.safe (omega (arith, some)) below
        (plan_writes old base h last planned some below plan stands).each log_device device read.crash pass

    -- the segments are written back
    pub backed : IsMoved old new (put_up_to last old.numbers) → NothingPending (of_backing new.backing)
        → ContentPasses (λ x y. y ≡ after x (entries_of planned)) (of_backing old.backing) (of_backing new.backing) → IsStep of_log of_backing old new
    backed moved nothing content =
        read_step old new (put_up_to last old.numbers) moved (put_numbers last old.numbers) up read same (λ is _. nothing)
        (λ base h stands.
        safe_back last (entries_of planned) (safe_log_kept stands.safe read.crash read.content) (omega (arith, some)) below
        (plan_writes old base h last planned some below plan stands).each nothing content)
        (λ base h stands.
        content_weaker
        (λ x y told is.
        let batch : List HistoryEntry = span (line old base h).list old.numbers.back (last - old.numbers.back) in
        puts_of_span (places old.geometry) old.numbers.first old.numbers.back (last - old.numbers.back) h x y
        (subst (PutsPartly batch x) (sym is) (puts_all batch x)))
        (content-written (plan_writes old base h last planned some below plan stands) content))
        planned_left planned_crash

    -- some of their sectors are
    pub partly_backed : IsMoved old new old.numbers → (new.down ≡ None → ⊥) → ContentPasses (PutsPartly (entries_of planned)) (of_backing old.backing) (of_backing new.backing)
        → IsStep of_log of_backing old new
    partly_backed moved down content =
        read_step old new old.numbers moved (same_numbers old.numbers) up read same (λ is none. absurd (down none))
        (λ base h stands.
        safe_back_tried last (entries_of planned) (safe_log_kept stands.safe read.crash read.content) (omega (arith, some)) below
        (plan_writes old base h last planned some below plan stands).each pass content)
        (λ base h stands.
        content_weaker (λ x y told put. puts_of_span (places old.geometry) old.numbers.first old.numbers.back (last - old.numbers.back) h x y put)
        (content-partly_written (AreDistinct-arranged planned plan.arranged) (plan_writes old base h last planned some below plan stands) content))
        planned_left planned_crash

  -- the backing device isn't called
  pub unbacked : (old new : EngineContent L B) → IsDevice (of_log old.log) → IsDevice (of_backing old.backing) → old.down ≡ None → OnlyRead (of_log old.log) (of_log new.log) → IsMoved old new old.numbers
      → (of_backing new.backing) ≡ (of_backing old.backing) → IsStep of_log of_backing old new
  unbacked old new log_device device up read moved kept =
      read_step old new old.numbers moved (same_numbers old.numbers) up read
      (subst (λ (s : State). IsSameDevice (of_backing old.backing) s) (sym kept) (same_device (of_backing old.backing)))
      (λ is _. subst NothingPending (sym kept) (is.written_back up))
      (λ base h stands.
      subst (λ (s : State). IsSafe old.geometry (line old base h) old.numbers (of_log new.log) s) (sym kept) (safe_log_kept stands.safe read.crash read.content))
      (λ base h stands. subst (λ (s : State). ContentPasses (PutsPartly h) (of_backing old.backing) s) (sym kept) (content_same (λ x told. puts_same h x) refl))
      (λ base h stands. subst (λ (s : State). Passes (PutsPartly h) (of_backing old.backing) s) (sym kept) (passes_same (λ x left. puts_same h x)))
      (λ base h stands.
      subst (λ (s : State). CrashInCall old.geometry (line old base h) old.numbers.stable old.numbers.tried (of_log old.log) (of_log new.log) (of_backing old.backing) s) (sym kept)
      (back_batch_word old.numbers.back [] stands.safe (omega arith) stands.safe.ordered.back (none_alike (line old base h).list old.numbers.back) log_device device read.crash
      (passes_same (λ x left. puts_same [] x))))

-- ---- results

-- what is known at an `Err`
pub failed_counts : {T E : Type 0} {before now : ℕ} (r : Result T E) → is_err r ≡ true → CountsFaults before now r → (before ≤ now) × Rose before now
failed_counts (Ok x) is counts = absurd (cc)
failed_counts (Err e) is counts = (counts.later, counts.failed)

-- and at an `Ok`
pub ok_there : {T E P : Type 0} (r : Result T E) → is_err r ≡ false → OnOk r P → P
ok_there (Ok x) is holds = holds
ok_there (Err e) is holds = absurd (cc)

pub kept_there : {T E : Type 0} {before now : ℕ} (r : Result T E) → is_err r ≡ false → CountsFaults before now r → now ≡ before
kept_there (Ok x) is counts = counts.kept
kept_there (Err e) is counts = absurd (cc)
