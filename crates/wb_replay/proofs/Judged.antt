-- What comes behind the reads of the superblock.
use Rattle.std.proofs.Common.{ℕ, ◌≡◌, ◌+◌, ◌*◌, ◌<◌, ◌≤◌, Some, Option, refl, sym, ◌∙◌, ap, subst, inl, inr, arith}
use Rattle.std.specs.Option.{IfSome}
use Rattle.wb_geometry.specs.Image.{Image}
use Rattle.wb_geometry.specs.Device.{State, OnlyRead, ContentPasses}
use Rattle.wb_geometry.specs.declared.geometry.Geometry.{Geometry}
use Rattle.wb_geometry.proofs.Moments.{content_kept_before}
use Rattle.wb_super.specs.Found.{IsSuper}
use Rattle.wb_super.specs.Superblock.{SuperText, record_of, header_id}
use Rattle.wb_super.specs.Recording.{Records}
use Rattle.wb_super.specs.declared.reading.Super.{Super}
use Rattle.wb_super.proofs.Superblocks.{one_geometry}
use Rattle.wb_crash.specs.Safety.{IsFresh}
use Rattle.wb_replay.specs.Replaying.{TellsChain, IsAllPut, GoesInTurn}
use Rattle.wb_replay.specs.Stopping.{RefusesSlots, StopsInTurn, CallsAtMost, MayRecover, RefusesRecovery, RecoverStopsInTurn, IsBehindSuper, CallsFew, stop_of}
use Rattle.wb_replay.specs.declared.replaying.Recovery.{Recovery}
use Rattle.wb_replay.specs.declared.replaying.ReplayStop.{ReplayStop}
use Rattle.wb_replay.specs.declared.replaying.ReplayStop.TheVariants as stop
use Rattle.wb_replay.specs.declared.recovering.RecoverStop.{RecoverStop}
use Rattle.wb_replay.specs.declared.recovering.RecoverStop.TheVariants as cause
use Rattle.wb_replay.proofs.Turns.{synced_none, synced_by_reads, synced_then, records_crash, number_of, text_of, goes_before}

-- ---- the superblock

pub super_read : (log mid : State) (found : Super) → IsSuper log found → OnlyRead log mid → IsSuper mid found
super_read log mid found super only = record {
  version = super.version;
  formatted = record {
    room = omega (arith, super.formatted.room, only.same.size);
    text = subst (λ (o : Option Image). IfSome o (λ x. SuperText x found.geometry 1)) (sym only.content) super.formatted.text;
  };
  number = subst (λ (o : Option Image). IfSome o (λ x. record_of x ≡ found.recorded)) (sym only.content) super.number;
  bounded = super.bounded;
}

-- it names one geometry
pub named : (log : State) (found : Super) (g : Geometry) (x : Image) → IsSuper log found → log.content ≡ Some x → SuperText x g 1 → found.geometry ≡ g
named log found g x super told text = one_geometry x found.geometry g (text_of log found x super told) text

limit_is : (log : State) (found : Super) (g : Geometry) (x : Image) → IsSuper log found → log.content ≡ Some x → SuperText x g 1 → found.recorded + found.geometry.slots ≡ record_of x + g.slots
limit_is log found g x super told text =
    ap (λ (n : ℕ). n + found.geometry.slots) (sym (number_of log found x super told)) ∙ ap (λ (h : Geometry). record_of x + h.slots) (named log found g x super told text)

-- ---- the clauses, of the log before the reads

goes_read : {log mid new backing new_backing : State} (g : Geometry) (x : Image) → OnlyRead log mid → GoesInTurn g x mid new backing new_backing → GoesInTurn g x log new backing new_backing
goes_read g x only goes = record {
  log_content = content_kept_before only.content goes.log_content;
  log_crash = records_crash (record_of x + g.slots) (synced_by_reads only) goes.log_crash;
  puts = goes.puts;
  tidy_first = goes.tidy_first;
  record_last = elim goes.record_last [
    | inl synced ↦ inl (synced_then (synced_by_reads only) synced)
    | inr all ↦ inr all
  ];
}

pub goes_judged : {log mid new backing new_backing : State} (found : Super) → IsSuper log found → OnlyRead log mid
    → (IsSuper mid found → (x : Image) → mid.content ≡ Some x → GoesInTurn found.geometry x mid new backing new_backing)
    → (g : Geometry) (x : Image) → log.content ≡ Some x → SuperText x g 1 → GoesInTurn g x log new backing new_backing
goes_judged {log} {mid} {new} {backing} {new_backing} found super only goes g x told text =
    subst (λ (h : Geometry). GoesInTurn h x log new backing new_backing) (named log found g x super told text)
    (goes_read found.geometry x only (goes (super_read log mid found super only) x (only.content ∙ told)))

-- where no more than the superblock is read
pub goes_unjudged : {log new : State} (backing : State) → OnlyRead log new → (g : Geometry) (x : Image) → GoesInTurn g x log new backing backing
goes_unjudged backing only g x = goes_before g x (synced_by_reads only) (synced_none backing)

pub tells_judged : {log mid : State} (found : Super) (recovery : Recovery) → IsSuper log found → OnlyRead log mid
    → (IsSuper mid found → (x : Image) → mid.content ≡ Some x → TellsChain found.geometry x recovery)
    → (g : Geometry) (x : Image) → log.content ≡ Some x → SuperText x g 1 → TellsChain g x recovery
tells_judged {log} {mid} found recovery super only tells g x told text =
    subst (λ (h : Geometry). TellsChain h x recovery) (named log found g x super told text) (tells (super_read log mid found super only) x (only.content ∙ told))

pub all_put_judged : {log mid backing new_backing : State} (found : Super) → IsSuper log found → OnlyRead log mid
    → (IsSuper mid found → (x : Image) → mid.content ≡ Some x → IsAllPut found.geometry x backing new_backing)
    → (g : Geometry) (x : Image) → log.content ≡ Some x → SuperText x g 1 → IsAllPut g x backing new_backing
all_put_judged {log} {mid} {backing} {new_backing} found super only all g x told text =
    subst (λ (h : Geometry). IsAllPut h x backing new_backing) (named log found g x super told text) (all (super_read log mid found super only) x (only.content ∙ told))

pub records_judged : {log mid new : State} (found : Super) → IsSuper log found → OnlyRead log mid → ContentPasses (Records (found.recorded + found.geometry.slots)) mid new
    → (g : Geometry) (x : Image) → log.content ≡ Some x → SuperText x g 1 → ContentPasses (Records (record_of x + g.slots)) log new
records_judged {log} {mid} {new} found super only records g x told text =
    subst (λ (n : ℕ). ContentPasses (Records n) log new) (limit_is log found g x super told text) (content_kept_before only.content records)

pub fresh_judged : {log mid : State} (new : State) (found : Super) → IsSuper log found → OnlyRead log mid
    → (IsSuper mid found → IfSome new.content (IsFresh found.geometry (found.recorded + found.geometry.slots)))
    → (g : Geometry) (x : Image) → log.content ≡ Some x → SuperText x g 1 → IfSome new.content (IsFresh g (record_of x + g.slots))
fresh_judged {log} {mid} new found super only fresh g x told text =
    subst (λ (h : Geometry). IfSome new.content (IsFresh h (record_of x + g.slots))) (named log found g x super told text)
    (subst (λ (n : ℕ). IfSome new.content (IsFresh found.geometry n)) (limit_is log found g x super told text) (fresh (super_read log mid found super only)))

-- ---- why it stops

pub refuses_judged : (why : ReplayStop) (log mid : State) (has : ℕ) (found : Super) → MayRecover log has found → mid.content ≡ log.content
    → RefusesSlots found.geometry (found.recorded + found.geometry.slots) mid why → RefusesRecovery log has (stop_of why)
refuses_judged (stop.Stray slot id) log mid has found may same refuses =
    let g : Geometry = found.geometry in
    let limit : ℕ = found.recorded + found.geometry.slots in (
      found,
      may,
      (refuses.0, refuses.1, subst (λ (o : Option Image). IfSome o (λ x. (header_id g x slot ≡ id) × ((earlier : ℕ) → earlier < slot → header_id g x earlier ≤ limit))) same refuses.2),
    )
refuses_judged stop.LogFault log mid has found may same refuses = (found, may)
refuses_judged stop.BackingFault log mid has found may same refuses = (found, may)

pub stops_judged : {log mid : State} (new backing new_backing : State) (why : ReplayStop) → OnlyRead log mid → StopsInTurn why mid new backing new_backing → RecoverStopsInTurn (stop_of why) log new backing new_backing
stops_judged new backing new_backing (stop.Stray slot id) only stops = (synced_then (synced_by_reads only) stops.0, stops.1, stops.2, stops.3)
stops_judged new backing new_backing stop.LogFault only stops = stops
stops_judged new backing new_backing stop.BackingFault only stops = (synced_then (synced_by_reads only) stops.0, stops.1)

-- ---- calls

pub calls_judged : {log mid new backing new_backing : State} (found : Super) → IsSuper log found → OnlyRead log mid → mid.reads ≤ log.reads + 2
    → CallsAtMost (2 * found.geometry.slots) mid new backing new_backing → CallsFew log new backing new_backing
calls_judged found super only few calls = (
  found,
  super,
  record {
    log_reads = omega (arith, few, calls.log_reads);
    log_syncs = omega (arith, only.syncs, calls.log_syncs);
    reads = calls.reads;
    syncs = calls.syncs;
  },
)

calls_alone : {log new : State} (backing : State) (found : Super) → IsSuper log found → OnlyRead log new → new.reads ≤ log.reads + 2 → CallsFew log new backing backing
calls_alone backing found super only few = (
  found,
  super,
  record {
    log_reads = omega (arith, few);
    log_syncs = omega (arith, only.syncs);
    reads = refl;
    syncs = omega arith;
  },
)

pub calls_unjudged : {log new : State} (backing : State) (has : ℕ) (why : RecoverStop) → RefusesRecovery log has why → OnlyRead log new → (IsBehindSuper why → new.reads ≤ log.reads + 2)
    → IsBehindSuper why → CallsFew log new backing backing
calls_unjudged backing has (cause.Super refused) refuses only few behind = absurd behind
calls_unjudged backing has (cause.Backing needs found_has) refuses only few behind = calls_alone backing refuses.0 refuses.1 only (few behind)
calls_unjudged backing has cause.Memory refuses only few behind = calls_alone backing refuses.0 refuses.1.super only (few behind)
calls_unjudged backing has (cause.Stray slot id) refuses only few behind = calls_alone backing refuses.0 refuses.1.super only (few behind)
calls_unjudged backing has cause.LogFault refuses only few behind = calls_alone backing refuses.0 refuses.1.super only (few behind)
calls_unjudged backing has cause.BackingFault refuses only few behind = calls_alone backing refuses.0 refuses.1.super only (few behind)
