-- What a crash leaves in the course of recovery, and what recovery makes of the contents.
use Rattle.std.proofs.Common.{ℕ, ◌≡◌, ◌+◌, List, length, Some, inl, inr, refl, sym, ◌∙◌, ap, subst, arith}
use Rattle.std.specs.List.{flat_map}
use Rattle.wb_geometry.specs.Image.{Image}
use Rattle.wb_geometry.specs.History.{HistoryEntry, after}
use Rattle.wb_geometry.specs.Device.{State, NothingPending, ContentPasses, IsDevice}
use Rattle.wb_geometry.specs.declared.geometry.Geometry.{Geometry}
use Rattle.wb_geometry.proofs.Moments.{content_weaker}
use Rattle.wb_header.specs.Text.{TextBlock}
use Rattle.wb_header.specs.Standing.{entries_of}
use Rattle.wb_super.specs.Superblock.{SuperText, record_of}
use Rattle.wb_super.specs.Recording.{Records}
use Rattle.wb_super.specs.Found.{IsSuper}
use Rattle.wb_super.specs.declared.reading.Super.{Super}
use Rattle.wb_crash.specs.Chain.{IsRecovered}
use Rattle.wb_crash.specs.Crash.{CrashInRecover, MakesOfContents}
use Rattle.wb_crash.proofs.Recover.{one_chain}
use Rattle.wb_crash.proofs.Recovering.{crash_before_record, crash_in_record, contents_before_record, contents_in_record, left_at_end}
use Rattle.wb_replay.specs.Replaying.{TellsChain, RefusesSlot, IsAllPut, GoesInTurn, MakesOf, LeavesRecovered}
use Rattle.wb_replay.specs.Stopping.{HasNoStray}
use Rattle.wb_replay.specs.Putting.{FollowsChain}
use Rattle.wb_replay.specs.declared.following.Followed.{Followed}
use Rattle.wb_replay.specs.declared.replaying.Recovery.{Recovery}
use Rattle.wb_replay.proofs.Turns.{tidy_of, number_of, recovers}

-- what recovery makes of it are the entries of the chain
entries_put : {g : Geometry} {x : Image} {old new : State} (chain : List (List TextBlock)) (y z : Image) (is : IsRecovered g x y z) → ContentPasses (IsRecovered g x) old new
    → ContentPasses (λ u v. v ≡ after u (flat_map entries_of is.chain)) old new
entries_put {g} {x} chain y z is pass =
    content_weaker (λ u v told made. made.all ∙ ap (λ (c : List (List TextBlock)). after u (flat_map entries_of c)) (one_chain g x made.chain is.chain made.is is.is)) pass

pub crash_of : {g : Geometry} {log new_log backing new_backing : State} (x0 y0 z : Image) → IsDevice log → IsDevice backing → GoesInTurn g x0 log new_log backing new_backing
    → MakesOf g x0 y0 z log backing → NothingPending log → NothingPending backing → CrashInRecover g x0 z log new_log backing new_backing
crash_of {g} {log} {new_log} {backing} {new_backing} x0 y0 z log_device device goes of log_nothing nothing =
    let entries : List HistoryEntry = flat_map entries_of of.makes.chain in
    let puts = goes.puts of.makes.chain of.makes.is in
    elim goes.record_last [
      | inl synced ↦ crash_before_record x0 y0 z entries of.makes (λ i. refl) log_device device log_nothing nothing of.log_told of.told synced.crash puts.crash
      | inr all ↦
          crash_in_record x0 y0 z entries of.makes (λ i. refl) log_device device log_nothing nothing of.log_told of.told goes.log_crash puts.crash all.nothing
          (entries_put of.makes.chain y0 z of.makes all.puts)
    ]

pub contents_of : {g : Geometry} {log new_log backing new_backing : State} (x0 y0 z : Image) → SuperText x0 g 1 → GoesInTurn g x0 log new_log backing new_backing
    → MakesOf g x0 y0 z log backing → MakesOfContents g z new_log new_backing
contents_of {g} {log} {new_log} {backing} {new_backing} x0 y0 z super goes of =
    let entries : List HistoryEntry = flat_map entries_of of.makes.chain in
    let puts = goes.puts of.makes.chain of.makes.is in
    elim goes.record_last [
      | inl synced ↦ contents_before_record new_log x0 y0 z entries of.makes (λ i. refl) (synced.content ∙ of.log_told) of.told puts.content
      | inr all ↦
          contents_in_record x0 y0 z entries of.makes (λ i. refl) super all.tidy of.log_told of.told goes.log_content
          (entries_put of.makes.chain y0 z of.makes all.puts)
    ]

pub left_of : {g : Geometry} {log new_log backing new_backing : State} (x0 y0 z : Image) → MakesOf g x0 y0 z log backing → ContentPasses (Records (record_of x0 + g.slots)) log new_log
    → NothingPending new_log → IsAllPut g x0 backing new_backing → LeavesRecovered g x0 z new_log new_backing
left_of {g} {log} {new_log} {backing} {new_backing} x0 y0 z of records nothing all =
    let left = left_at_end x0 y0 z (flat_map entries_of of.makes.chain) of.makes (λ i. refl) of.log_told of.told nothing all.nothing records (entries_put of.makes.chain y0 z of.makes all.puts) in
    record { log_left = left.0; left = left.1 }

-- what recovery says of the chain
pub tells_of : {g : Geometry} {old new : State} (x : Image) (recorded : ℕ) (followed : Followed) (recovery : Recovery) → record_of x ≡ recorded → FollowsChain g x followed old new
    → recovery.from ≡ recorded + 1 → recovery.through ≡ recorded + followed.count → recovery.recorded ≡ recorded + g.slots → recovery.stopped ≡ followed.stopped → TellsChain g x recovery
tells_of {g} x recorded followed recovery is follows from through new stopped =
    let next : record_of x + 1 + length follows.chain ≡ recovery.through + 1 = omega (arith, is, through, follows.count) in
    record {
      chain = follows.chain;
      is = follows.is;
      from = omega (arith, from, is);
      through = omega (arith, through, is, follows.count);
      stopped = subst (RefusesSlot g x (recovery.through + 1)) (sym stopped) (subst (λ (s : ℕ). RefusesSlot g x s followed.stopped) next follows.stopped);
      recorded = omega (arith, new, is);
    }

-- all is put
pub all_put_of : {backing new_backing : State} {followed : Followed} (log : State) (found : Super) (x : Image) → IsSuper log found → log.content ≡ Some x
    → HasNoStray found.geometry (found.recorded + found.geometry.slots) log → FollowsChain found.geometry x followed backing new_backing → NothingPending new_backing
    → IsAllPut found.geometry x backing new_backing
all_put_of log found x super told none follows nothing = record {
  tidy = tidy_of found.geometry (found.recorded + found.geometry.slots) log x none told (omega (arith, number_of log found x super told));
  puts = recovers follows;
  nothing = nothing;
}
