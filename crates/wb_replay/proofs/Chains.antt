-- The chain, followed segment by segment.
use Rattle.std.proofs.Common.{rules, ℕ, ◌≡◌, ◌+◌, ◌-◌, ◌*◌, ◌%◌, ◌<◌, ◌≤◌, List, [], ◌∷◌, ◌++◌, length, take, drop, take-append-drop, Option, Some, None, inl, inr, refl, ap, sym, ◌∙◌, subst, arith}
use Rattle.std.specs.List.{flat_map}
use Rattle.std.specs.Int.{w64, from_le_bytes}
use Rattle.std.proofs.Math.Nat.{add-mod_right}
use Rattle.std.proofs.lemmas.Bool.{cases_lt}
use Rattle.std.proofs.lemmas.Grind.{flat_map-append}
use Rattle.std.proofs.lemmas.Nat.{pow_pos}
use Rattle.std.proofs.lemmas.List.{length_push, ext_get_or, length-take-le, get_or-take}
use Rattle.wb_geometry.specs.Image.{Image, IsImage, sector, bytes_at}
use Rattle.wb_geometry.specs.History.{HistoryEntry}
use Rattle.wb_geometry.specs.Device.{State, IsDevice, OnlyRead, next_count}
use Rattle.wb_geometry.specs.Layout.{slot_sectors, slot_at, slot_start, log_sectors}
use Rattle.wb_geometry.specs.declared.geometry.Geometry.{Geometry}
use Rattle.wb_geometry.proofs.Moments.{only_read}
use Rattle.wb_geometry.proofs.Slots.{slot_inside}
use Rattle.wb_header.specs.Text.{TextBlock, id_in}
use Rattle.wb_header.specs.Standing.{entries_of}
use Rattle.wb_header.specs.Slots.{HoldsText}
use Rattle.wb_header.specs.declared.checking.Refused.{Refused}
use Rattle.wb_header.specs.declared.checking.Refused.TheVariants as refused
use Rattle.wb_super.specs.Superblock.{record_of, header_id}
use Rattle.wb_super.proofs.Superblocks.{reads_only}
use Rattle.wb_crash.specs.Chain.{member, IsRun, IsChain}
use Rattle.wb_crash.proofs.Chains.{run_none, run_more, run_full, run_ends}
use Rattle.wb_crash.proofs.Reading.{refused_in_slot}
use Rattle.wb_crash.proofs.Texts.{some_sector, first_stands, one_segment_held, header_of_text}
use Rattle.wb_replay.specs.Replaying.{PutsSome, RefusesSlot}
use Rattle.wb_replay.specs.Putting.{PutsAll, IsUnsynced, TakesSegment, StopsSegment, FollowsChain, FollowsPartly}
use Rattle.wb_replay.specs.declared.following.Followed.{Followed}
use Rattle.wb_replay.proofs.Puts.{all_none, all_some, all_then, some_then, some_front, unsynced_none, unsynced_then}
use Rattle.wb_replay.proofs.Segments.{front_bytes}

-- so many segments are found, and put
pub record IsRunPut (g : Geometry) (x : Image) (count : ℕ) (old now : State) : Type 0 where
  pub run : List (List TextBlock)
  pub is : IsRun g x run
  pub size : length run ≡ count
  pub puts : PutsAll (flat_map entries_of run) old now

-- So many segments were found, each with one read, and put, and no call failed.
pub record IsFollowing (g : Geometry) (recorded count : ℕ) (slot : List ℕ) (log now_log backing now : State) : Type 0 where
  pub few : count ≤ g.slots
  pub buffer : length slot ≡ 512 * slot_sectors g
  pub only_read : OnlyRead log now_log
  pub log_faults : now_log.faults ≡ log.faults
  pub reads : now_log.reads ≤ log.reads + count
  pub unsynced : IsUnsynced backing now
  pub faults : now.faults ≡ backing.faults
  pub run : (x : Image) → log.content ≡ Some x → record_of x ≡ recorded → IsRunPut g x count backing now

pub following_none : (g : Geometry) (recorded : ℕ) (slot : List ℕ) (log backing : State) → length slot ≡ 512 * slot_sectors g → IsFollowing g recorded 0 slot log log backing backing
following_none g recorded slot log backing size = record {
  few = omega arith;
  buffer = size;
  only_read = only_read log;
  log_faults = refl;
  reads = omega arith;
  unsynced = unsynced_none backing;
  faults = refl;
  run = λ x told is. record { run = []; is = run_none g x; size = refl; puts = all_none backing };
}

-- ---- a segment more

pushed : (run : List (List TextBlock)) (blocks : List TextBlock) → flat_map entries_of (run ++ blocks ∷ []) ≡ flat_map entries_of run ++ entries_of blocks
pushed run blocks = flat_map-append entries_of run (blocks ∷ []) ∙ ap (λ (es : List HistoryEntry). flat_map entries_of run ++ es) single
  where
    single : flat_map entries_of (blocks ∷ []) ≡ entries_of blocks
    single = search rules

held_next : (g : Geometry) (x : Image) (recorded count : ℕ) (run : List (List TextBlock)) (blocks : List TextBlock) → record_of x ≡ recorded → length run ≡ count
    → HoldsText g x (recorded + 1 + count) blocks → HoldsText g x (record_of x + 1 + length run) blocks
held_next g x recorded count run blocks is size held =
    let same : recorded + 1 + count ≡ record_of x + 1 + length run = omega (arith, is, size) in
    subst (λ (s : ℕ). HoldsText g x s blocks) same held

run_put_more : {old mid new : State} (g : Geometry) (x : Image) (recorded count : ℕ) → record_of x ≡ recorded → count < g.slots → IsRunPut g x count old mid
    → TakesSegment g x (recorded + 1 + count) None mid new → IsRunPut g x (count + 1) old new
run_put_more {old} {mid} {new} g x recorded count is room so_far takes = record {
  run = so_far.run ++ takes.0 ∷ [];
  is = run_more g x so_far.run takes.0 so_far.is (omega (arith, room, so_far.size)) (held_next g x recorded count so_far.run takes.0 is so_far.size takes.1);
  size = length_push so_far.run takes.0 ∙ ap (λ (n : ℕ). n + 1) so_far.size;
  puts = subst (λ (es : List HistoryEntry). PutsAll es old new) (sym (pushed so_far.run takes.0)) (all_then (flat_map entries_of so_far.run) (entries_of takes.0) so_far.puts takes.2);
}

pub following_more : {log mid_log new_log backing mid new : State} (g : Geometry) (recorded count : ℕ) (slot slot_now : List ℕ) → count < g.slots → length slot_now ≡ length slot
    → IsFollowing g recorded count slot log mid_log backing mid → OnlyRead mid_log new_log → new_log.faults ≡ mid_log.faults → new_log.reads ≡ next_count mid_log.reads
    → IsUnsynced mid new → new.faults ≡ mid.faults → ((x : Image) → mid_log.content ≡ Some x → TakesSegment g x (recorded + 1 + count) None mid new)
    → IsFollowing g recorded (count + 1) slot_now log new_log backing new
following_more g recorded count slot slot_now room size so_far only log_faults reads unsynced faults takes = record {
  few = omega (arith, room);
  buffer = size ∙ so_far.buffer;
  only_read = reads_only so_far.only_read only;
  log_faults = log_faults ∙ so_far.log_faults;
  reads = omega (arith, reads, so_far.reads);
  unsynced = unsynced_then so_far.unsynced unsynced;
  faults = faults ∙ so_far.faults;
  run = λ x told is. run_put_more g x recorded count is room (so_far.run x told is) (takes x (so_far.only_read.content ∙ told));
}

-- ---- the end

-- the next slot is refused
pub follows_refused : {log mid_log backing mid new : State} (g : Geometry) (recorded count : ℕ) (slot : List ℕ) (followed : Followed) → IsFollowing g recorded count slot log mid_log backing mid
    → IsDevice log → log_sectors g ≤ log.sectors → followed.count ≡ count
    → ((x : Image) → mid_log.content ≡ Some x → TakesSegment g x (recorded + 1 + count) (Some followed.stopped) mid new)
    → (x : Image) → log.content ≡ Some x → record_of x ≡ recorded → FollowsChain g x followed backing new
follows_refused {log} {mid_log} {backing} {mid} {new} g recorded count slot followed so_far device room counted takes x told is =
    let run = so_far.run x told is in
    let takes_it = takes x (so_far.only_read.content ∙ told) in
    let same : recorded + 1 + count ≡ record_of x + 1 + length run.run = omega (arith, is, run.size) in
    let refuses : RefusesSlot g x (record_of x + 1 + length run.run) followed.stopped = subst (λ (s : ℕ). RefusesSlot g x s followed.stopped) same takes_it.0 in
    record {
      chain = run.run;
      is = run_ends g x run.run run.is (λ blocks held. refused_in_slot g log.sectors x (record_of x + 1 + length run.run) blocks followed.stopped (device.content x told) room refuses held);
      count = counted ∙ sym run.size;
      stopped = refuses;
      puts = subst (λ (es : List HistoryEntry). PutsAll es backing new) nothing_more (all_then (flat_map entries_of run.run) [] run.puts takes_it.1);
    }
  where
    nothing_more : flat_map entries_of (so_far.run x told is).run ++ [] ≡ flat_map entries_of (so_far.run x told is).run
    nothing_more = search rules

-- each slot had a segment: the next one's has the first
wraps : (g : Geometry) (x : Image) (n : ℕ) (run : List (List TextBlock)) → IsImage n x → log_sectors g ≤ n → IsRun g x run → length run ≡ g.slots
    → RefusesSlot g x (record_of x + 1 + length run) (refused.Id (record_of x + 1))
wraps g x n run image room is full = (sym bytes, λ same. absurd (omega (arith, same, full, g.slots_fit.0)))
  where
    held : HoldsText g x (record_of x + 1 + 0) (member run 0)
    held = is.texts 0 (omega (arith, full, g.slots_fit.0))

    next : record_of x + 1 + length run - 1 ≡ record_of x + g.slots
    next = omega (arith, full)

    first : record_of x ≡ record_of x + 1 + 0 - 1
    first = omega arith

    slot : (record_of x + 1 + length run - 1) % g.slots ≡ (record_of x + 1 + 0 - 1) % g.slots
    slot = ap (λ (m : ℕ). m % g.slots) next ∙ add-mod_right (record_of x) g.slots ∙ ap (λ (m : ℕ). m % g.slots) first

    header : header_id g x ((record_of x + 1 + 0 - 1) % g.slots) ≡ record_of x + 1
    header =
        header_of_text x ((record_of x + 1 + 0 - 1) % g.slots) held.is (first_stands held.stands (some_sector held.is))
        ∙ (let none : record_of x + 1 + 0 ≡ record_of x + 1 = omega arith in none)

    inside : slot_start g (record_of x + 1 + length run) < n
    inside = omega (arith, slot_inside g (record_of x + 1 + length run) (slot_sectors g) (omega arith), pow_pos g.order, room)

    bytes : id_in (bytes_at x (slot_start g (record_of x + 1 + length run)) (slot_sectors g)) ≡ record_of x + 1
    bytes =
        ap (from_le_bytes w64) (front_bytes n x (slot_start g (record_of x + 1 + length run)) (slot_sectors g) image inside (omega (arith, pow_pos g.order)))
        ∙ ap (λ (i : ℕ). from_le_bytes w64 (take 8 (sector x (slot_at g i)))) slot
        ∙ header

pub follows_whole : {log now_log backing now : State} (g : Geometry) (recorded count : ℕ) (slot : List ℕ) (followed : Followed) → IsFollowing g recorded count slot log now_log backing now
    → IsDevice log → log_sectors g ≤ log.sectors → g.slots ≤ count → followed.count ≡ g.slots → followed.stopped ≡ refused.Id (recorded + 1)
    → (x : Image) → log.content ≡ Some x → record_of x ≡ recorded → FollowsChain g x followed backing now
follows_whole {log} {now_log} {backing} {now} g recorded count slot followed so_far device room all counted stopped x told is =
    let run = so_far.run x told is in
    let full : length run.run ≡ g.slots = omega (arith, run.size, so_far.few, all) in
    record {
      chain = run.run;
      is = run_full g x run.run run.is full;
      count = counted ∙ sym full;
      stopped = subst (RefusesSlot g x (record_of x + 1 + length run.run)) (ap (λ (m : ℕ). refused.Id (m + 1)) is ∙ sym stopped) (wraps g x log.sectors run.run (device.content x told) room run.is full);
      puts = run.puts;
    }

-- ---- some of it

pub follows_partly : {log now_log backing now : State} (g : Geometry) (recorded count : ℕ) (slot : List ℕ) → IsFollowing g recorded count slot log now_log backing now
    → (x : Image) → log.content ≡ Some x → record_of x ≡ recorded → FollowsPartly g x backing now
follows_partly g recorded count slot so_far x told is =
    let run = so_far.run x told is in
    record { run = run.run; is = run.is; puts = all_some run.puts }

pub whole_partly : {g : Geometry} {x : Image} {followed : Followed} {old new : State} → FollowsChain g x followed old new → FollowsPartly g x old new
whole_partly follows = record { run = follows.chain; is = follows.is.run; puts = all_some follows.puts }

pub follows_stopped : {log mid_log backing mid new : State} (g : Geometry) (recorded count : ℕ) (slot : List ℕ) → IsFollowing g recorded count slot log mid_log backing mid → count < g.slots
    → ((x : Image) → mid_log.content ≡ Some x → StopsSegment g x (recorded + 1 + count) mid new)
    → (x : Image) → log.content ≡ Some x → record_of x ≡ recorded → FollowsPartly g x backing new
follows_stopped {log} {mid_log} {backing} {mid} {new} g recorded count slot so_far below stops x told is =
    let run = so_far.run x told is in
    elim (stops x (so_far.only_read.content ∙ told)) [
      | inl none ↦ record {
        run = run.run;
        is = run.is;
        puts = some_front (flat_map entries_of run.run) (flat_map entries_of run.run ++ []) [] nothing_more (some_then (flat_map entries_of run.run) [] run.puts none);
      }
      | inr some ↦ record {
        run = run.run ++ some.0 ∷ [];
        is = run_more g x run.run some.0 run.is (omega (arith, below, run.size)) (held_next g x recorded count run.run some.0 is run.size some.1);
        puts = subst (λ (es : List HistoryEntry). PutsSome es backing new) (sym (pushed run.run some.0)) (some_then (flat_map entries_of run.run) (entries_of some.0) run.puts some.2);
      }
    ]
  where
    nothing_more : flat_map entries_of (so_far.run x told is).run ≡ (flat_map entries_of (so_far.run x told is).run ++ []) ++ []
    nothing_more = search rules

-- ---- a list of segments that stand there is a front of the chain

pub run_front : (g : Geometry) (x : Image) (run chain : List (List TextBlock)) → IsRun g x run → IsChain g x chain → chain ≡ run ++ drop (length run) chain
run_front g x run chain is of = sym (ap (λ (front : List (List TextBlock)). front ++ drop (length run) chain) same ∙ take-append-drop (length run) chain)
  where
    no_longer : length run ≤ length chain
    no_longer = elim (cases_lt (length chain) (length run)) [
      | inr few ↦ few
      | inl longer ↦ elim of.longest [
        | inl full ↦ absurd (omega (arith, longer, full, is.few))
        | inr none ↦ absurd (none (member run (length chain)) (is.texts (length chain) longer))
      ]
    ]

    same : run ≡ take (length run) chain
    same = ext_get_or [] run (take (length run) chain) (sym (length-take-le (length run) chain no_longer))
        (λ i below.
        one_segment_held (is.texts i below) (of.run.texts i (omega (arith, below, no_longer))) ∙ sym (get_or-take (length run) chain i [] below))

-- so what is put of it is put of the chain
pub puts_of_chain : {g : Geometry} {x : Image} {old new : State} (chain : List (List TextBlock)) → IsChain g x chain → FollowsPartly g x old new → PutsSome (flat_map entries_of chain) old new
puts_of_chain {g} {x} {old} {new} chain of partly =
    some_front (flat_map entries_of chain) (flat_map entries_of partly.run) (flat_map entries_of (drop (length partly.run) chain))
    (ap (flat_map entries_of) (run_front g x partly.run chain partly.is of) ∙ flat_map-append entries_of partly.run (drop (length partly.run) chain)) partly.puts

-- ---- no refusal

pub none_is : (o : Option Refused) → ((r : Refused) → o ≡ Some r → ⊥) → o ≡ None
none_is None isnt = refl
none_is (Some r) isnt = absurd (isnt r refl)
