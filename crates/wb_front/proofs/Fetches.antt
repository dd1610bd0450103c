-- How a read under the lock keeps what the lock keeps.
use Rattle.std.proofs.Common.{◌≡◌, ℕ, ◌+◌, ◌-◌, ◌*◌, ◌^◌, ◌<◌, true, min, List, length, sym, ap, ◌∙◌, subst, Result, Err}
use Rattle.wb_geometry.specs.Device.{State, CountsFaultsWhere}
use Rattle.wb_geometry.specs.History.{HistoryEntry, PutsPartly, after}
use Rattle.wb_geometry.specs.Image.{Image, bytes_at}
use Rattle.wb_geometry.specs.Layout.{places}
use Rattle.wb_geometry.specs.declared.which.Which.{Which}
use Rattle.wb_geometry.specs.declared.which.Which.TheVariants.{Log, Backing}
use Rattle.wb_steps.specs.Steps.{seeing}
use Rattle.wb_steps.specs.declared.view.Faults.{Faults}
use Rattle.wb_steps.specs.declared.view.View.{View}
use Rattle.wb_intake.specs.Carried.{Carried}
use Rattle.wb_intake.specs.Passes.{drain_name, drain_view}
use Rattle.wb_intake.specs.declared.pass.Drain.{Drain}
use Rattle.wb_crash.specs.declared.numbers.Numbers.{Numbers}
use Rattle.wb_engine.specs.Content.{EngineContent, limit_of}
use Rattle.wb_engine.specs.Standing.{Standing, Told, IsSynced, IsSameEngine}
use Rattle.wb_front.specs.Words.{faults_of, TellsFaults, CountsReads}
use Rattle.wb_front.specs.Joined.{CoreContent, drained, IsJoined}
use Rattle.wb_front.specs.Moving.{publishing_fault}
use Rattle.wb_front.proofs.Words.{log_reads_are, backing_reads_are, log_down_same, backing_down_same, tells_counted, counted_small}

module _ {L B : Type 0} (of_log : L → State) (of_backing : B → State) (t : Carried) where
  -- The engine was read, of which a device may have failed, and the failed read was counted and published.
  joined_read : {U : Type 0} (c : CoreContent L B) (e : EngineContent L B) (d : Drain) (read : Result U Which) (a b x y cursor : ℕ) → IsJoined of_log of_backing t c → IsSameEngine c.engine e
      → ((base : Image) (history : List HistoryEntry) → Standing of_log of_backing c.engine base history → Standing of_log of_backing e base history)
      → (IsSynced of_log of_backing c.engine → IsSynced of_log of_backing e) → (of_backing e.backing).content ≡ (of_backing c.engine.backing).content
      → CountsFaultsWhere (read ≡ Err Log) (of_log c.engine.log).faults (of_log e.log).faults → CountsFaultsWhere (read ≡ Err Backing) (of_backing c.engine.backing).faults (of_backing e.backing).faults
      → (drain_view c.drain).seen.fault.log_reads ≡ a → (drain_view c.drain).seen.fault.backing_reads ≡ b → CountsReads (read ≡ Err Log) a x → CountsReads (read ≡ Err Backing) b y
      → drain_name d ≡ drain_name c.drain → drain_view d ≡ publishing_fault (seeing (drain_view c.drain) 0 cursor) (faults_of e.down x y)
      → IsJoined of_log of_backing t (record { engine = e; drain = d })
  joined_read c e d read a b x y cursor j same stands synced content log_counts backing_counts log_reads backing_reads log backing own is =
      let f : Faults = (drain_view c.drain).seen.fault in
      let g : Faults = faults_of e.down x y in
      let was : f ≡ faults_of e.down a b = j.fault ∙ (λ i. faults_of (sym same.down i) (log_reads i) (backing_reads i)) in
      let log' : CountsReads (read ≡ Err Log) f.log_reads g.log_reads = record {
        failed = λ failed. log_reads_are e.down x y ∙ log.failed failed ∙ ap (λ (n : ℕ). min (n + 1) (2 ^ 31 - 1)) (sym log_reads);
        kept = λ kept. log_reads_are e.down x y ∙ log.kept kept ∙ sym log_reads;
      } in
      let backing' : CountsReads (read ≡ Err Backing) f.backing_reads g.backing_reads = record {
        failed = λ failed. backing_reads_are e.down x y ∙ backing.failed failed ∙ ap (λ (n : ℕ). min (n + 1) (2 ^ 31 - 1)) (sym backing_reads);
        kept = λ kept. backing_reads_are e.down x y ∙ backing.kept kept ∙ sym backing_reads;
      } in
      let log_tells : TellsFaults Log g t.log_faults (of_log e.log).faults
      = tells_counted read Log f g t.log_faults (of_log c.engine.log).faults (of_log e.log).faults j.log_faults log_counts log'
      (log_down_same e.down x y a b ∙ ap (λ (k : Faults). k.log_down) (sym was)) in
      let backing_tells : TellsFaults Backing g t.backing_faults (of_backing e.backing).faults
      = tells_counted read Backing f g t.backing_faults (of_backing c.engine.backing).faults (of_backing e.backing).faults j.backing_faults backing_counts backing'
      (backing_down_same e.down x y a b ∙ ap (λ (k : Faults). k.backing_down) (sym was)) in record {
        own = own ∙ j.own;
        geometry = same.geometry ∙ j.geometry;
        first = ap (λ (n : Numbers). n.first) same.numbers ∙ j.first;
        clients = ap (λ (v : View). v.client) is ∙ j.clients;
        absorbed = ap (λ (v : View). length v.known) is ∙ j.absorbed ∙ sym same.absorbed;
        stands = λ told. subst (λ (v : View). Standing of_log of_backing e t.base v.known) (sym is) (stands t.base (drained c) (j.stands told));
        changed = λ log_told backing_told. let had = j.changed log_told backing_told in
            (had.0, content ∙ had.1, subst (λ (v : View). PutsPartly v.known t.base had.0) (sym is) had.2);
        synced = synced j.synced;
        limit = ap (λ (v : View). v.seen.limit) is ∙ j.limit ∙ (λ i. limit_of (sym same.geometry i) (sym same.numbers i));
        stable = ap (λ (v : View). v.seen.stable) is ∙ j.stable ∙ (λ i. places (sym same.geometry i) * ((sym same.numbers i).stable - (sym same.numbers i).first));
        fault = ap (λ (v : View). v.seen.fault) is ∙ (λ i. faults_of e.down (sym (ap (λ (v : View). v.seen.fault.log_reads) is ∙ log_reads_are e.down x y) i) (sym (ap (λ (v : View). v.seen.fault.backing_reads) is ∙ backing_reads_are e.down x y) i));
        log_faults = subst (λ (v : View). TellsFaults Log v.seen.fault t.log_faults (of_log e.log).faults) (sym is) log_tells;
        backing_faults = subst (λ (v : View). TellsFaults Backing v.seen.fault t.backing_faults (of_backing e.backing).faults) (sym is) backing_tells;
      }

  -- the same of all that the lock keeps
  pub kept_read : {U : Type 0} (c : CoreContent L B) (e : EngineContent L B) (d : Drain) (read : Result U Which) (a b x y cursor : ℕ) → IsJoined of_log of_backing t c → IsSameEngine c.engine e
      → ((base : Image) (history : List HistoryEntry) → Standing of_log of_backing c.engine base history → Standing of_log of_backing e base history)
      → (IsSynced of_log of_backing c.engine → IsSynced of_log of_backing e) → (of_backing e.backing).content ≡ (of_backing c.engine.backing).content
      → CountsFaultsWhere (read ≡ Err Log) (of_log c.engine.log).faults (of_log e.log).faults → CountsFaultsWhere (read ≡ Err Backing) (of_backing c.engine.backing).faults (of_backing e.backing).faults
      → (drain_view c.drain).seen.fault.log_reads ≡ a → (drain_view c.drain).seen.fault.backing_reads ≡ b → a < 2 ^ 31 → b < 2 ^ 31 → CountsReads (read ≡ Err Log) a x → CountsReads (read ≡ Err Backing) b y
      → drain_name d ≡ drain_name c.drain → drain_view d ≡ publishing_fault (seeing (drain_view c.drain) 0 cursor) (faults_of e.down x y)
      → IsJoined of_log of_backing t (record { engine = e; drain = d }) × ((drain_view d).seen.fault.log_reads ≡ x) × ((drain_view d).seen.fault.backing_reads ≡ y) × (x < 2 ^ 31) × (y < 2 ^ 31)
  kept_read c e d read a b x y cursor j same stands synced content log_counts backing_counts log_reads backing_reads log_small backing_small log backing own is = (
    joined_read c e d read a b x y cursor j same stands synced content log_counts backing_counts log_reads backing_reads log backing own is,
    ap (λ (v : View). v.seen.fault.log_reads) is ∙ log_reads_are e.down x y,
    ap (λ (v : View). v.seen.fault.backing_reads) is ∙ backing_reads_are e.down x y,
    counted_small read Log a x log log_small,
    counted_small read Backing b y backing backing_small,
  )

  -- what it read, where the devices tell their content
  pub reads_drained : (c n : CoreContent L B) (into : List ℕ) (sector count : ℕ) → IsJoined of_log of_backing t c → drained n ≡ drained c
      → ((base image : Image) (history : List HistoryEntry) → Told (of_backing c.engine.backing) image → Standing of_log of_backing c.engine base history → into ≡ bytes_at (after base history) sector count)
      → t.log_told ≡ true → t.backing_told ≡ true → into ≡ bytes_at (after t.base (drained n)) sector count
  reads_drained c n into sector count j same ok log_told backing_told =
      let had = j.changed log_told backing_told in
      ok t.base had.0 (drained c) had.1 (j.stands log_told) ∙ ap (λ (h : List HistoryEntry). bytes_at (after t.base h) sector count) (sym same)

-- Two answers that fail alike, each by the same device.
pub counts_alike : {T U : Type 0} (r : Result T Which) (s : Result U Which) (which device : Which) (before now : ℕ) → r ≡ Err which → s ≡ Err which
    → CountsFaultsWhere (r ≡ Err device) before now → CountsFaultsWhere (s ≡ Err device) before now
counts_alike r s which device before now is also counts = record {
  later = counts.later;
  failed = λ failed. let same : which ≡ device = cc in counts.failed (is ∙ ap (λ (w : Which). Err w) same);
  kept = λ none. counts.kept (λ failed. let same : which ≡ device = cc in none (also ∙ ap (λ (w : Which). Err w) same));
}
