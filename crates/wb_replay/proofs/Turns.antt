-- What stands where recovery ends: before anything is written, in the chain, and at its end.
use Rattle.std.proofs.Common.{ℕ, ◌≡◌, ◌+◌, ◌≤◌, List, Some, Result, Err, refl, sym, ◌∙◌, subst, inl, inr, arith}
use Rattle.std.specs.List.{flat_map}
use Rattle.std.specs.Result.{IfErr}
use Rattle.wb_geometry.specs.Image.{Image}
use Rattle.wb_geometry.specs.History.{HistoryEntry, PutsPartly}
use Rattle.wb_geometry.specs.Device.{State, NothingPending, Passes, ContentPasses, OnlyRead, next_count}
use Rattle.wb_geometry.specs.declared.geometry.Geometry.{Geometry}
use Rattle.wb_geometry.proofs.Moments.{passes_same, joined, joined_same, weaker, content_same, content_weaker, content_kept_before, content_kept_after, same_device, same_device_trans}
use Rattle.wb_header.specs.Standing.{entries_of}
use Rattle.wb_super.specs.Found.{IsSuper}
use Rattle.wb_super.specs.Superblock.{SuperText, record_of}
use Rattle.wb_super.specs.Recording.{RecordsOrNot}
use Rattle.wb_super.specs.declared.reading.Super.{Super}
use Rattle.wb_crash.specs.Chain.{IsTidy, IsRecovered}
use Rattle.wb_replay.specs.Replaying.{IsOnlySynced, PutsSome, GoesInTurn}
use Rattle.wb_replay.specs.Stopping.{HasNoStray, StopsInTurn}
use Rattle.wb_replay.specs.Putting.{FollowsChain, FollowsPartly, StopsAtEnd}
use Rattle.wb_replay.specs.declared.following.Followed.{Followed}
use Rattle.wb_replay.specs.declared.replaying.ReplayStop.{ReplayStop}
use Rattle.wb_replay.specs.declared.replaying.ReplayStop.TheVariants as stop
use Rattle.wb_replay.proofs.Puts.{stays}
use Rattle.wb_replay.proofs.Strays.{where_told}
use Rattle.wb_replay.proofs.Chains.{whole_partly, puts_of_chain}

-- ---- a device that was read and synced at most

pub synced_none : (s : State) → IsOnlySynced s s
synced_none s = record { content = refl; crash = passes_same (λ x left. refl); same = same_device s }

pub synced_by_reads : {old new : State} → OnlyRead old new → IsOnlySynced old new
synced_by_reads only = record { content = only.content; crash = only.crash; same = only.same }

pub synced_then : {old mid new : State} → IsOnlySynced old mid → IsOnlySynced mid new → IsOnlySynced old new
synced_then first second = record {
  content = second.content ∙ first.content;
  crash = joined_same first.crash second.crash;
  same = same_device_trans first.same second.same;
}

pub nothing_read : {mid new : State} → OnlyRead mid new → NothingPending mid → NothingPending new
nothing_read {mid} {new} only nothing = record {
  only = λ x left.
      let was = only.crash.now x left in
      only.content ∙ nothing.only x (subst mid.leaves_now (sym was.2) was.1);
}

-- nothing is put in it
puts_nothing : (es : List HistoryEntry) {old new : State} → IsOnlySynced old new → PutsSome es old new
puts_nothing es synced = record {
  content = content_same (λ x told. stays es x) synced.content;
  crash = weaker (λ x y left is. subst (PutsPartly es x) (sym is) (stays es x)) synced.crash;
}

-- ---- puts between syncs

crash_between : (es : List HistoryEntry) {old mid now new : State} → IsOnlySynced old mid → Passes (PutsPartly es) mid now → IsOnlySynced now new → Passes (PutsPartly es) old new
crash_between es before puts behind =
    joined (λ x y left is. subst (PutsPartly es x) (sym is) (stays es x)) (λ x y z left is two. subst (λ (u : Image). PutsPartly es u z) is two)
    before.crash (joined_same puts behind.crash)

pub partly_between : {g : Geometry} {x : Image} {old mid now new : State} → IsOnlySynced old mid → FollowsPartly g x mid now → IsOnlySynced now new → FollowsPartly g x old new
partly_between before partly behind = record {
  run = partly.run;
  is = partly.is;
  puts = record {
    content = content_kept_before before.content (content_kept_after partly.puts.content behind.content);
    crash = crash_between (flat_map entries_of partly.run) before partly.puts.crash behind;
  };
}

pub whole_between : {g : Geometry} {x : Image} {followed : Followed} {old mid now new : State} → IsOnlySynced old mid → FollowsChain g x followed mid now → IsOnlySynced now new → FollowsChain g x followed old new
whole_between before follows behind = record {
  chain = follows.chain;
  is = follows.is;
  count = follows.count;
  stopped = follows.stopped;
  puts = record {
    content = content_kept_before before.content (content_kept_after follows.puts.content behind.content);
    crash = crash_between (flat_map entries_of follows.chain) before follows.puts.crash behind;
  };
}

-- the whole chain is what recovery puts
pub recovers : {g : Geometry} {x : Image} {followed : Followed} {old new : State} → FollowsChain g x followed old new → ContentPasses (IsRecovered g x) old new
recovers follows = content_weaker (λ y z told is. record { chain = follows.chain; is = follows.is; all = is }) follows.puts.content

-- ---- the log's content

pub number_of : (log : State) (found : Super) (x : Image) → IsSuper log found → log.content ≡ Some x → record_of x ≡ found.recorded
number_of log found x super told = where_told (λ (y : Image). record_of y ≡ found.recorded) log.content x told super.number

pub text_of : (log : State) (found : Super) (x : Image) → IsSuper log found → log.content ≡ Some x → SuperText x found.geometry 1
text_of log found x super told = where_told (λ (y : Image). SuperText y found.geometry 1) log.content x told super.formatted.text

pub tidy_of : (g : Geometry) (limit : ℕ) (log : State) (x : Image) → HasNoStray g limit log → log.content ≡ Some x → limit ≡ record_of x + g.slots → IsTidy g x
tidy_of g limit log x none told is slot below = omega (arith, is, where_told _ log.content x told none slot below)

-- the record is written, or isn't, behind a sync and reads

records_content : (n : ℕ) {old mid new : State} → IsOnlySynced old mid → ContentPasses (RecordsOrNot n) mid new → ContentPasses (RecordsOrNot n) old new
records_content n synced pass = content_kept_before synced.content pass

pub records_crash : (n : ℕ) {old mid new : State} → IsOnlySynced old mid → Passes (RecordsOrNot n) mid new → Passes (RecordsOrNot n) old new
records_crash n synced pass = joined (λ x y left is. inl is) (λ x y z left is step. subst (λ (u : Image). RecordsOrNot n u z) is step) synced.crash pass

-- ---- an end before anything is written

pub goes_before : {log new_log backing new_backing : State} (g : Geometry) (x : Image) → IsOnlySynced log new_log → IsOnlySynced backing new_backing → GoesInTurn g x log new_log backing new_backing
goes_before g x synced backing_synced = record {
  log_content = content_same (λ y told. inl refl) synced.content;
  log_crash = weaker (λ y z left is. inl is) synced.crash;
  puts = λ chain of. puts_nothing (flat_map entries_of chain) backing_synced;
  tidy_first = inl backing_synced;
  record_last = inl synced;
}

-- in the chain
pub goes_partly : {log new_log backing new_backing : State} (g : Geometry) (x : Image) → IsOnlySynced log new_log → IsTidy g x → FollowsPartly g x backing new_backing → GoesInTurn g x log new_log backing new_backing
goes_partly g x synced tidy partly = record {
  log_content = content_same (λ y told. inl refl) synced.content;
  log_crash = weaker (λ y z left is. inl is) synced.crash;
  puts = λ chain of. puts_of_chain chain of partly;
  tidy_first = inr tidy;
  record_last = inl synced;
}

-- behind it
pub goes_whole : {log mid_log new_log backing new_backing : State} (g : Geometry) (x : Image) (limit : ℕ) (followed : Followed) → limit ≡ record_of x + g.slots → IsTidy g x → IsOnlySynced log mid_log
    → ContentPasses (RecordsOrNot limit) mid_log new_log → Passes (RecordsOrNot limit) mid_log new_log
    → FollowsChain g x followed backing new_backing → NothingPending new_backing → GoesInTurn g x log new_log backing new_backing
goes_whole {log} {mid_log} {new_log} {backing} {new_backing} g x limit followed is tidy synced content crash follows nothing = record {
  log_content = subst (λ (n : ℕ). ContentPasses (RecordsOrNot n) log new_log) is (records_content limit synced content);
  log_crash = subst (λ (n : ℕ). Passes (RecordsOrNot n) log new_log) is (records_crash limit synced crash);
  puts = λ chain of. puts_of_chain chain of (whole_partly follows);
  tidy_first = inr tidy;
  record_last = inr (record { tidy = tidy; puts = recovers follows; nothing = nothing });
}

-- where one of its last calls failed
pub goes_ended : {log mid_log new_log backing new_backing : State} (g : Geometry) (x : Image) (limit : ℕ) (followed : Followed) (why : ReplayStop) → limit ≡ record_of x + g.slots → IsTidy g x → IsOnlySynced log mid_log
    → ContentPasses (RecordsOrNot limit) mid_log new_log → Passes (RecordsOrNot limit) mid_log new_log
    → FollowsChain g x followed backing new_backing → StopsAtEnd why mid_log new_log new_backing → GoesInTurn g x log new_log backing new_backing
goes_ended g x limit followed (stop.Stray slot id) is tidy synced content crash follows ends = absurd ends
goes_ended g x limit followed stop.LogFault is tidy synced content crash follows ends = goes_whole g x limit followed is tidy synced content crash follows ends
goes_ended g x limit followed stop.BackingFault is tidy synced content crash follows ends = goes_partly g x (synced_then synced (synced_by_reads ends.only_read)) tidy (whole_partly follows)

pub ends_in_turn : {log mid_log : State} (new_log backing new_backing : State) (why : ReplayStop) → StopsAtEnd why mid_log new_log new_backing → IsOnlySynced log mid_log → NothingPending mid_log
    → next_count backing.syncs ≤ new_backing.syncs → StopsInTurn why log new_log backing new_backing
ends_in_turn new_log backing new_backing (stop.Stray slot id) ends synced nothing later = absurd ends
ends_in_turn new_log backing new_backing stop.LogFault ends synced nothing later = inr later
ends_in_turn new_log backing new_backing stop.BackingFault ends synced nothing later = (synced_then synced (synced_by_reads ends.only_read), nothing_read ends.only_read nothing)

-- ---- at an exit

pub at_err : {T E : Type 0} (P : E → Type 0) (r : Result T E) (e : E) → r ≡ Err e → P e → IfErr r P
at_err {T} {E} P r e is holds = subst (λ (x : Result T E). IfErr x P) (sym is) holds
