-- A read, run by run.
use Rattle.std.proofs.Common.{ℕ, suc, zero, ◌≡◌, ◌+◌, ◌-◌, ◌/◌, ◌%◌, ◌≤◌, ◌&&◌, if◌then◌else◌, Bool, true, nat_le, List, [], ◌∷◌, ◌++◌, length, take, drop, Option, Some, inl, refl, sym, ap, ◌∙◌, subst, arith, length-append, append-nil, append_assoc}
use Rattle.std.specs.List.{range_with_len, filter}
use Rattle.std.specs.Option.{IsSome}
use Rattle.std.proofs.lemmas.Bool.{and_from, le-leb}
use Rattle.std.proofs.lemmas.List.{length-drop, length-take-le, take-take}
use Rattle.std.proofs.Math.Seq.{take-append-add}
use Rattle.std.proofs.lemmas.List.Elements.{filter-append}
use Rattle.wb_geometry.specs.Image.{Image, sector, bytes_at}
use Rattle.wb_geometry.specs.Device.{State, IsDevice, NothingPending, OnlyRead, CountsFaultsWhere, next_count}
use Rattle.wb_geometry.specs.History.{HistoryEntry, after}
use Rattle.wb_geometry.specs.declared.geometry.Geometry.{Geometry}
use Rattle.wb_geometry.specs.declared.spot.Spot.{Spot}
use Rattle.wb_geometry.specs.declared.which.Which.{Which}
use Rattle.wb_geometry.proofs.Histories.{length-after, bytes_at_more}
use Rattle.wb_geometry.proofs.Moments.{only_read}
use Rattle.wb_super.proofs.Superblocks.{reads_only}
use Rattle.wb_table.specs.Tables.{BlockTable, spot_in}
use Rattle.wb_crash.specs.declared.numbers.Numbers.{Numbers}
use Rattle.wb_crash.proofs.Shown.{shown_before}
use Rattle.wb_crash.proofs.Halves.{safe_log_kept, safe_backing_kept}
use Rattle.wb_memory.specs.Memory.{MemoryContent}
use Rattle.wb_engine.specs.Content.{EngineContent}
use Rattle.wb_engine.specs.Standing.{Standing, Told, IsSynced, IsSameEngine}
use Rattle.wb_engine.specs.Reading.{on_backing, in_log}

-- ---- bytes

-- those of so many sectors, and those of the sectors behind them
bytes_at_run : (x : Image) (at count run : ℕ) → at + count + run ≤ length x → bytes_at x at (count + run) ≡ bytes_at x at count ++ bytes_at x (at + count) run
bytes_at_run x at count zero inside = let same : count + 0 ≡ count = omega arith in ap (bytes_at x at) same ∙ sym (append-nil (bytes_at x at count))
bytes_at_run x at count (suc run) inside =
    let next : count + suc run ≡ count + run + 1 = omega arith in
    let one : suc run ≡ run + 1 = omega arith in
    let there : at + (count + run) ≡ at + count + run = omega arith in
    ap (bytes_at x at) next
    ∙ bytes_at_more x at (count + run) (omega (arith, inside))
    ∙ ap (λ (b : List ℕ). b ++ sector x (at + (count + run))) (bytes_at_run x at count run (omega (arith, inside)))
    ∙ append_assoc (bytes_at x at count) (bytes_at x (at + count) run) (sector x (at + (count + run)))
    ∙ ap (λ (k : ℕ). bytes_at x at count ++ (bytes_at x (at + count) run ++ sector x k)) there
    ∙ ap (λ (b : List ℕ). bytes_at x at count ++ b) (sym (bytes_at_more x (at + count) run (omega (arith, inside))) ∙ ap (bytes_at x (at + count)) (sym one))

-- ---- how many of the sectors pass a test

abbrev many : (ℕ → Bool) → (at count : ℕ) → ℕ
many test at count = length (filter test (range_with_len at count))

range_more : (from count : ℕ) → range_with_len from (count + 1) ≡ range_with_len from count ++ (from + count) ∷ []
range_more from zero = let at : from ≡ from + 0 = omega arith in ap (λ (k : ℕ). k ∷ []) at
range_more from (suc count) =
    let next : suc count + 1 ≡ suc (count + 1) = omega arith in
    let at : from + 1 + count ≡ from + suc count = omega arith in
    ap (range_with_len from) next
    ∙ ap (λ (ks : List ℕ). from ∷ ks) (range_more (from + 1) count)
    ∙ ap (λ (k : ℕ). from ∷ (range_with_len (from + 1) count ++ k ∷ [])) at

pub many_more : (test : ℕ → Bool) (at count : ℕ) → many test at (count + 1) ≡ many test at count + many test (at + count) 1
many_more test at count =
    ap (λ (ks : List ℕ). length (filter test ks)) (range_more at count)
    ∙ ap length (filter-append test (range_with_len at count) ((at + count) ∷ []))
    ∙ length-append (filter test (range_with_len at count)) (filter test ((at + count) ∷ []))

many_further : (test : ℕ → Bool) (at count more : ℕ) → many test at count ≤ many test at (count + more)
many_further test at count zero = let same : count + 0 ≡ count = omega arith in omega (arith, ap (many test at) same)
many_further test at count (suc more) =
    let next : count + suc more ≡ (count + more) + 1 = omega arith in
    omega (arith, many_further test at count more, many_more test at (count + more), ap (many test at) next)

-- of more sectors there are no fewer
pub many_le : (test : ℕ → Bool) (at count all : ℕ) → count ≤ all → many test at count ≤ many test at all
many_le test at count all few =
    let is : count + (all - count) ≡ all = omega arith in
    subst (λ (n : ℕ). many test at count ≤ many test at n) is (many_further test at count (all - count))

pub in_log_le : (logged : ℕ) (lookup : BlockTable) (at count all : ℕ) → count ≤ all → in_log logged lookup at count ≤ in_log logged lookup at all
in_log_le logged lookup at count all few = many_le _ at count all few

pub on_backing_le : (lookup : BlockTable) (at count all : ℕ) → count ≤ all → on_backing lookup at count ≤ on_backing lookup at all
on_backing_le lookup at count all few = many_le _ at count all few

-- one that passes
many_one : (test : ℕ → Bool) (at : ℕ) → test at ≡ true → many test at 1 ≡ 1
many_one test at is = ap (λ (b : Bool). length (if b then at ∷ [] else [])) is

-- a read of a sector that the log has
pub log_read_one : (logged reads now : ℕ) (lookup : BlockTable) (at : ℕ) (spot : Spot) → spot ≡ spot_in lookup (at / 8) (at % 8) → 1 ≤ spot.id → spot.id ≤ logged → now ≡ next_count reads
    → now ≤ reads + in_log logged lookup at 1
log_read_one logged reads now lookup at spot named some upto is =
    let id : ℕ = (spot_in lookup (at / 8) (at % 8)).id in
    let same : spot.id ≡ id = ap (λ (p : Spot). p.id) named in
    let test : (nat_le 1 id && nat_le id logged) ≡ true = and_from (nat_le 1 id) (nat_le id logged) (le-leb 1 id (omega (arith, some, same))) (le-leb id logged (omega (arith, upto, same))) in
    omega (arith, is, many_one (λ s. nat_le 1 (spot_in lookup (s / 8) (s % 8)).id && nat_le (spot_in lookup (s / 8) (s % 8)).id logged) at test)

-- reads of the sectors up to one, and of that one, are no more than there are for it and some others behind them
pub many_next : (test : ℕ → Bool) (at count run before middle now : ℕ) → 1 ≤ run → middle ≤ before + many test at count → now ≤ middle + many test (at + count) 1
    → now ≤ before + many test at (count + run)
many_next test at count run before middle now some first next = omega (arith, first, next, many_more test at count, many_le test at (count + 1) (count + run) (omega (arith, some)))

-- ---- a piece of the bytes

-- a piece that is cut at the end of bytes
pub rest_size : (a : ℕ) (into piece : List ℕ) → a ≤ length into → length piece ≡ length (take (length into - a) (drop a into)) → length piece ≡ length into - a
rest_size a into piece fits size = size ∙ length-take-le (length into - a) (drop a into) (omega (arith, length-drop a into)) ∙ refl

-- of bytes that have a piece behind their first the front up to some place in it
pub front_of_piece : (a n m : ℕ) (into piece now : List ℕ) → a ≤ length into → n ≡ a + m → m ≤ length piece → take (a + length piece) now ≡ take a into ++ piece
    → take n now ≡ take a into ++ take m piece
front_of_piece a n m into piece now fits is below whole =
    let first : length (take a into) ≡ a = length-take-le a into fits in
    let all : n ≡ length (take a into) + m = omega (arith, is, first) in
    sym (take-take n (a + length piece) now (omega (arith, is, below)))
    ∙ ap (take n) whole
    ∙ ap (λ (k : ℕ). take k (take a into ++ piece)) all
    ∙ take-append-add (take a into) piece m

-- ---- faults

-- a call that fails after others that didn't
pub counts_later : {First Second : Type 0} (before mid now : ℕ) → mid ≡ before → CountsFaultsWhere First mid now → (Second → First) → (First → Second) → CountsFaultsWhere Second before now
counts_later {First} before mid now same counts there back =
    let from : CountsFaultsWhere First before now = subst (λ (n : ℕ). CountsFaultsWhere First n now) same counts in
    record {
      later = from.later;
      failed = λ is. from.failed (there is);
      kept = λ isnt. from.kept (λ is. isnt (back is));
    }

-- ---- the same engine, over devices that were read

-- what a crash leaves of a device stays the content where it was read
pub nothing_read : {old new : State} → OnlyRead old new → NothingPending old → NothingPending new
nothing_read {old} {new} only nothing = record {
  only = λ x left. let was = only.crash.now x left in only.content ∙ nothing.only was.0 was.1 ∙ ap (λ (y : Image). Some y) (sym was.2);
}

module _ {L B : Type 0} where
  abbrev made : Geometry → Numbers → ℕ → Option Which → MemoryContent → EngineContent L B → EngineContent L B
  made geometry numbers absorbed down memory e = record {
    geometry = geometry;
    numbers = numbers;
    absorbed = absorbed;
    down = down;
    log = e.log;
    backing = e.backing;
    memory = memory;
  }

  same_engine : (old new : EngineContent L B) → IsSameEngine old new → made old.geometry old.numbers old.absorbed old.down old.memory new ≡ new
  same_engine old new same =
      ap (λ (g : Geometry). made g old.numbers old.absorbed old.down old.memory new) (sym same.geometry)
      ∙ ap (λ (n : Numbers). made new.geometry n old.absorbed old.down old.memory new) (sym same.numbers)
      ∙ ap (λ (n : ℕ). made new.geometry new.numbers n old.down old.memory new) (sym same.absorbed)
      ∙ ap (λ (d : Option Which). made new.geometry new.numbers new.absorbed d old.memory new) (sym same.down)
      ∙ ap (λ (m : MemoryContent). made new.geometry new.numbers new.absorbed new.down m new) (sym same.memory)

module _ {L B : Type 0} {of_log : L → State} {of_backing : B → State} where
  -- it stands for what it stood for
  pub standing_read : (old new : EngineContent L B) (base : Image) (h : List HistoryEntry) → IsSameEngine old new → OnlyRead (of_log old.log) (of_log new.log)
      → OnlyRead (of_backing old.backing) (of_backing new.backing) → Standing of_log of_backing old base h → Standing of_log of_backing new base h
  standing_read old new base h same log_read backing_read stands =
      subst (λ (e : EngineContent L B). Standing of_log of_backing e base h) (same_engine old new same) (record {
        told = subst (λ (o : Option Image). IsSome o) (sym log_read.content) stands.told;
        places = stands.places;
        memory = stands.memory;
        logged = stands.logged;
        safe = safe_backing_kept (safe_log_kept stands.safe log_read.crash log_read.content) backing_read.crash backing_read.content;
        record_is = λ x shows. stands.record_is x (shown_before log_read.crash log_read.content x shows);
      })

  -- and a crash leaves no more
  pub synced_read : (old new : EngineContent L B) → IsSameEngine old new → OnlyRead (of_log old.log) (of_log new.log) → OnlyRead (of_backing old.backing) (of_backing new.backing)
      → IsSynced of_log of_backing old → IsSynced of_log of_backing new
  synced_read old new same log_read backing_read is =
      subst (IsSynced of_log of_backing) (same_engine old new same) (record {
        written_back = λ up. nothing_read backing_read (is.written_back up);
        written = λ up all. nothing_read log_read (is.written up all);
      })

module _ {L B : Type 0} where
  same_same : (e : EngineContent L B) → IsSameEngine e e
  same_same e = record { geometry = refl; numbers = refl; absorbed = refl; down = refl; memory = refl }

  pub same_trans : (old mid new : EngineContent L B) → IsSameEngine old mid → IsSameEngine mid new → IsSameEngine old new
  same_trans old mid new first second = record {
    geometry = second.geometry ∙ first.geometry;
    numbers = second.numbers ∙ first.numbers;
    absorbed = second.absorbed ∙ first.absorbed;
    down = second.down ∙ first.down;
    memory = second.memory ∙ first.memory;
  }

-- ---- the sectors so far

-- the first sectors were read, and these are their bytes
pub record IsReadTo {L B : Type 0} (of_log : L → State) (of_backing : B → State) (old new : EngineContent L B) (at count : ℕ) (bytes : List ℕ) : Type 0 where
  pub same : IsSameEngine old new
  pub log_read : OnlyRead (of_log old.log) (of_log new.log)
  pub backing_read : OnlyRead (of_backing old.backing) (of_backing new.backing)
  pub log_faults : (of_log new.log).faults ≡ (of_log old.log).faults
  pub backing_faults : (of_backing new.backing).faults ≡ (of_backing old.backing).faults
  pub log_reads : (of_log new.log).reads ≤ (of_log old.log).reads + in_log old.numbers.logged old.memory.lookup at count
  pub backing_reads : (of_backing new.backing).reads ≤ (of_backing old.backing).reads + on_backing old.memory.lookup at count
  pub bytes_are : (base image : Image) (h : List HistoryEntry) → Told (of_backing old.backing) image → Standing of_log of_backing old base h → bytes ≡ bytes_at (after base h) at count

module _ {L B : Type 0} {of_log : L → State} {of_backing : B → State} where
  pub read_none : (e : EngineContent L B) (at : ℕ) → IsReadTo of_log of_backing e e at 0 []
  read_none e at = record {
    same = same_same e;
    log_read = only_read (of_log e.log);
    backing_read = only_read (of_backing e.backing);
    log_faults = refl;
    backing_faults = refl;
    log_reads = omega arith;
    backing_reads = omega arith;
    bytes_are = λ base image h told stands. refl;
  }

  -- how many reads the next one makes them at most

  pub log_reads_next : {old mid : EngineContent L B} (now at count run : ℕ) (bytes : List ℕ) → 1 ≤ run → IsReadTo of_log of_backing old mid at count bytes
      → now ≤ (of_log mid.log).reads + in_log mid.numbers.logged mid.memory.lookup (at + count) 1 → now ≤ (of_log old.log).reads + in_log old.numbers.logged old.memory.lookup at (count + run)
  log_reads_next {old} {mid} now at count run bytes some is few =
      let reads : ℕ = (of_log mid.log).reads in
      let first : reads + in_log mid.numbers.logged mid.memory.lookup (at + count) 1 ≡ reads + in_log old.numbers.logged old.memory.lookup (at + count) 1 =
      ap (λ (n : Numbers). reads + in_log n.logged mid.memory.lookup (at + count) 1) is.same.numbers
      ∙ ap (λ (m : MemoryContent). reads + in_log old.numbers.logged m.lookup (at + count) 1) is.same.memory in
      many_next _ at count run (of_log old.log).reads reads now some is.log_reads (subst (λ (n : ℕ). now ≤ n) first few)

  pub backing_reads_next : {old mid : EngineContent L B} (now at count run : ℕ) (bytes : List ℕ) → 1 ≤ run → IsReadTo of_log of_backing old mid at count bytes
      → now ≤ (of_backing mid.backing).reads + on_backing mid.memory.lookup (at + count) 1 → now ≤ (of_backing old.backing).reads + on_backing old.memory.lookup at (count + run)
  backing_reads_next {old} {mid} now at count run bytes some is few =
      let reads : ℕ = (of_backing mid.backing).reads in
      let first : reads + on_backing mid.memory.lookup (at + count) 1 ≡ reads + on_backing old.memory.lookup (at + count) 1 =
      ap (λ (m : MemoryContent). reads + on_backing m.lookup (at + count) 1) is.same.memory in
      many_next _ at count run (of_backing old.backing).reads reads now some is.backing_reads (subst (λ (n : ℕ). now ≤ n) first few)

  -- the sectors behind them
  next_run : {old mid : EngineContent L B} (at count run : ℕ) (bytes piece : List ℕ) → IsReadTo of_log of_backing old mid at count bytes
      → IsDevice (of_backing mid.backing) → at + count + run ≤ (of_backing mid.backing).sectors
      → ((base image : Image) (h : List HistoryEntry) → Told (of_backing mid.backing) image → Standing of_log of_backing mid base h → piece ≡ bytes_at (after base h) (at + count) run)
      → (base image : Image) (h : List HistoryEntry) → Told (of_backing old.backing) image → Standing of_log of_backing old base h → bytes ++ piece ≡ bytes_at (after base h) at (count + run)
  next_run {old} {mid} at count run bytes piece is device inside read base image h told stands =
      let now_told : Told (of_backing mid.backing) image = is.backing_read.content ∙ told in
      let now_stands : Standing of_log of_backing mid base h = standing_read old mid base h is.same is.log_read is.backing_read stands in
      let size : length image ≡ (of_backing mid.backing).sectors = (device.content image now_told).size in
      let same_size : length image ≡ length base = (stands.safe.on_backing.shown image (inl told)).size in
      ap (λ (b : List ℕ). b ++ piece) (is.bytes_are base image h told stands)
      ∙ ap (λ (b : List ℕ). bytes_at (after base h) at count ++ b) (read base image h now_told now_stands)
      ∙ sym (bytes_at_run (after base h) at count run (omega (arith, inside, size, same_size, length-after base h)))

  pub read_more : {old mid new : EngineContent L B} (at count run : ℕ) (bytes piece whole : List ℕ) → 1 ≤ run
      → IsReadTo of_log of_backing old mid at count bytes → IsDevice (of_backing mid.backing) → at + count + run ≤ (of_backing mid.backing).sectors
      → ((base image : Image) (h : List HistoryEntry) → Told (of_backing mid.backing) image → Standing of_log of_backing mid base h → piece ≡ bytes_at (after base h) (at + count) run)
      → IsSameEngine mid new → OnlyRead (of_log mid.log) (of_log new.log) → OnlyRead (of_backing mid.backing) (of_backing new.backing)
      → (of_log new.log).faults ≡ (of_log mid.log).faults → (of_backing new.backing).faults ≡ (of_backing mid.backing).faults
      → (of_log new.log).reads ≤ (of_log mid.log).reads + in_log mid.numbers.logged mid.memory.lookup (at + count) 1
      → (of_backing new.backing).reads ≤ (of_backing mid.backing).reads + on_backing mid.memory.lookup (at + count) 1
      → whole ≡ bytes ++ piece → IsReadTo of_log of_backing old new at (count + run) whole
  read_more {old} {mid} {new} at count run bytes piece whole some is device inside read same log_only backing_only log_faults backing_faults log_reads backing_reads joined = record {
    same = same_trans old mid new is.same same;
    log_read = reads_only is.log_read log_only;
    backing_read = reads_only is.backing_read backing_only;
    log_faults = log_faults ∙ is.log_faults;
    backing_faults = backing_faults ∙ is.backing_faults;
    log_reads = log_reads_next _ at count run bytes some is log_reads;
    backing_reads = backing_reads_next _ at count run bytes some is backing_reads;
    bytes_are = λ base image h told stands. joined ∙ next_run at count run bytes piece is device inside read base image h told stands;
  }
