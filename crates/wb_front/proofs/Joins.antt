-- How each call under the lock keeps what the lock keeps.
use Rattle.std.proofs.Common.{◌≡◌, inl, inr, ℕ, ◌-◌, ◌*◌, ◌≤◌, List, [], ◌++◌, length, sym, ap, ◌∙◌, subst, arith, Option, Some, None}
use Rattle.std.specs.List.{Contains}
use Rattle.std.proofs.lemmas.List.Elements.{All-nil, All-weaker, All-contains_itself, Contains-append_left}
use Rattle.wb_geometry.specs.Device.{State, CountsFaultsWhere}
use Rattle.wb_geometry.specs.History.{HistoryEntry, PutsPartly}
use Rattle.wb_geometry.proofs.Histories.{puts_some, puts_then}
use Rattle.wb_geometry.specs.Image.{Image}
use Rattle.wb_geometry.specs.Layout.{places}
use Rattle.wb_geometry.specs.declared.geometry.Geometry.{Geometry}
use Rattle.wb_geometry.specs.declared.which.Which.{Which}
use Rattle.wb_geometry.specs.declared.which.Which.TheVariants.{Log, Backing}
use Rattle.wb_steps.specs.Views.{IsPrefix}
use Rattle.wb_steps.specs.declared.view.Faults.{Faults}
use Rattle.wb_steps.specs.declared.view.View.{View}
use Rattle.wb_intake.specs.Carried.{Carried}
use Rattle.wb_intake.specs.Passes.{drain_name, drain_view}
use Rattle.wb_intake.specs.declared.pass.Drain.{Drain}
use Rattle.wb_crash.specs.declared.numbers.Numbers.{Numbers}
use Rattle.wb_engine.specs.Content.{EngineContent, limit_of}
use Rattle.wb_engine.specs.Settling.{stable_places}
use Rattle.wb_engine.specs.Standing.{Standing, IsSynced}
use Rattle.wb_engine.specs.Stepping.{Moves}
use Rattle.wb_front.specs.Words.{faults_of, TellsFaults}
use Rattle.wb_front.specs.Joined.{CoreContent, drained, IsJoined}
use Rattle.wb_front.specs.Moving.{HasDrained, publishing, IsSameDrain}
use Rattle.wb_front.proofs.Words.{log_reads_are, backing_reads_are, log_down_is, backing_down_is, is_log_down, is_backing_down, went_down_log, went_down_backing, tells_more}

-- ---- images

-- entries that come later change nothing of what was said of the earlier ones
pub partly_more : (es fs : List HistoryEntry) (x y : Image) → IsPrefix es fs → PutsPartly es x y → PutsPartly fs x y
partly_more es fs x y front p =
    let all : List HistoryEntry = es ++ front.0 in
    subst (λ (hs : List HistoryEntry). PutsPartly hs x y) (sym front.1)
    (puts_then all es x x y (All-weaker (Contains es) (Contains all) (Contains-append_left es front.0) es (All-contains_itself es)) (puts_some all [] x (All-nil (Contains all))) p)

-- one after another
pub partly_then : (es : List HistoryEntry) (x y z : Image) → PutsPartly es x y → PutsPartly es y z → PutsPartly es x z
partly_then es x y z p q = puts_then es es x y z (All-contains_itself es) p q

-- ---- what the name carries, once the engine moved and the words tell of it
module _ {L B : Type 0} (of_log : L → State) (of_backing : B → State) (t : Carried) where
  -- the parts of both devices, where the engine was up and may have gone down
  parts : (v : View) (down : Option Which) (a b log_before log_now backing_before backing_now : ℕ)
      → TellsFaults Log v.seen.fault t.log_faults log_before → TellsFaults Backing v.seen.fault t.backing_faults backing_before
      → v.seen.fault ≡ faults_of None a b
      → CountsFaultsWhere (down ≡ Some Log) log_before log_now → CountsFaultsWhere (down ≡ Some Backing) backing_before backing_now
      → TellsFaults Log (faults_of down a b) t.log_faults log_now × TellsFaults Backing (faults_of down a b) t.backing_faults backing_now
  parts v down a b log_before log_now backing_before backing_now log backing is log_counts backing_counts =
      let log' : TellsFaults Log (faults_of None a b) t.log_faults log_before = subst (λ (f : Faults). TellsFaults Log f t.log_faults log_before) is log in
      let backing' : TellsFaults Backing (faults_of None a b) t.backing_faults backing_before = subst (λ (f : Faults). TellsFaults Backing f t.backing_faults backing_before) is backing in (
        tells_more Log (faults_of None a b) (faults_of down a b) t.log_faults log_before log_now log' (down ≡ Some Log) log_counts
            (λ h. elim h [ inl d ↦ inl (log_down_is down a b d) | inr r ↦ inr (inr (subst (λ (n : ℕ). 1 ≤ n) (log_reads_are down a b) r)) ])
            (λ d. inl (let e = is_log_down down a b d in omega (arith, e)))
            (λ h. elim h [ inl d ↦ absurd (omega (arith, d)) | inr r ↦ inr (subst (λ (n : ℕ). 1 ≤ n) (sym (log_reads_are down a b)) r) ])
            (log_reads_are down a b) (went_down_log down a b),
        tells_more Backing (faults_of None a b) (faults_of down a b) t.backing_faults backing_before backing_now backing' (down ≡ Some Backing) backing_counts
            (λ h. elim h [ inl d ↦ inl (backing_down_is down a b d) | inr r ↦ inr (inr (subst (λ (n : ℕ). 1 ≤ n) (backing_reads_are down a b) r)) ])
            (λ d. inl (let e = is_backing_down down a b d in omega (arith, e)))
            (λ h. elim h [ inl d ↦ absurd (omega (arith, d)) | inr r ↦ inr (subst (λ (n : ℕ). 1 ≤ n) (sym (backing_reads_are down a b)) r) ])
            (backing_reads_are down a b) (went_down_backing down a b),
      )

  -- The engine made turns, and its numbers were published.
  pub joined_moved : (c : CoreContent L B) (e : EngineContent L B) (d : Drain) (a b : ℕ) → IsJoined of_log of_backing t c → c.engine.down ≡ None → Moves of_log of_backing c.engine e
      → CountsFaultsWhere (e.down ≡ Some Log) (of_log c.engine.log).faults (of_log e.log).faults → CountsFaultsWhere (e.down ≡ Some Backing) (of_backing c.engine.backing).faults (of_backing e.backing).faults
      → (drain_view c.drain).seen.fault.log_reads ≡ a → (drain_view c.drain).seen.fault.backing_reads ≡ b
      → drain_name d ≡ drain_name c.drain → drain_view d ≡ publishing (drain_view c.drain) (limit_of e.geometry e.numbers) (stable_places e) (faults_of e.down a b)
      → IsJoined of_log of_backing t (record { engine = e; drain = d })
  joined_moved c e d a b j up moves log_counts backing_counts log_reads backing_reads own is =
      let v : View = drain_view c.drain in
      let w : View = publishing v (limit_of e.geometry e.numbers) (stable_places e) (faults_of e.down a b) in
      let was : v.seen.fault ≡ faults_of None a b = j.fault ∙ (λ i. faults_of (up i) (log_reads i) (backing_reads i)) in
      let both = parts v e.down a b (of_log c.engine.log).faults (of_log e.log).faults (of_backing c.engine.backing).faults (of_backing e.backing).faults j.log_faults j.backing_faults was log_counts backing_counts in record {
        own = own ∙ j.own;
        geometry = moves.geometry ∙ j.geometry;
        first = moves.first ∙ j.first;
        clients = ap (λ (x : View). x.client) is ∙ j.clients;
        absorbed = ap (λ (x : View). length x.known) is ∙ j.absorbed ∙ sym moves.absorbed;
        stands = λ told. subst (λ (x : View). Standing of_log of_backing e t.base x.known) (sym is) (moves.stands t.base v.known (j.stands told));
        changed = λ log_told backing_told.
            let had = j.changed log_told backing_told in let next = (moves.changed t.base v.known (j.stands log_told)).told had.0 had.1 in
            (next.0, next.1, subst (λ (x : View). PutsPartly x.known t.base next.0) (sym is) (partly_then v.known t.base had.0 next.0 had.2 next.2));
        synced = moves.synced j.synced;
        limit = ap (λ (x : View). x.seen.limit) is;
        stable = ap (λ (x : View). x.seen.stable) is;
        fault = ap (λ (x : View). x.seen.fault) is ∙ (λ i. faults_of e.down (sym (ap (λ (x : View). x.seen.fault.log_reads) is ∙ log_reads_are e.down a b) i) (sym (ap (λ (x : View). x.seen.fault.backing_reads) is ∙ backing_reads_are e.down a b) i));
        log_faults = subst (λ (x : View). TellsFaults Log x.seen.fault t.log_faults (of_log e.log).faults) (sym is) both.0;
        backing_faults = subst (λ (x : View). TellsFaults Backing x.seen.fault t.backing_faults (of_backing e.backing).faults) (sym is) both.1;
      }

  -- More was drained, and absorbed.
  pub joined_drained : (c n : CoreContent L B) → IsJoined of_log of_backing t c → HasDrained c n → IsSameDrain (drain_view c.drain) (drain_view n.drain)
      → drain_name n.drain ≡ drain_name c.drain → length (drained n) ≡ n.engine.absorbed
      → ((base : Image) → Standing of_log of_backing c.engine base (drained c) → Standing of_log of_backing n.engine base (drained n))
      → (IsSynced of_log of_backing c.engine → IsSynced of_log of_backing n.engine) → IsJoined of_log of_backing t n
  joined_drained c n j d same own absorbed stands synced =
      let k = d.kept in
      let numbers = d.numbers in record {
        own = own ∙ j.own;
        geometry = k.geometry ∙ j.geometry;
        first = ap (λ (x : Numbers). x.first) numbers ∙ j.first;
        clients = same.client ∙ j.clients;
        absorbed = absorbed;
        stands = λ told. stands t.base (j.stands told);
        changed = λ log_told backing_told. let had = j.changed log_told backing_told in
            (had.0, ap (λ (y : B). (of_backing y).content) k.backing ∙ had.1, partly_more (drained c) (drained n) t.base had.0 d.more had.2);
        synced = synced j.synced;
        limit = same.limit ∙ j.limit ∙ sym (ap (λ (x : Numbers). limit_of n.engine.geometry x) numbers ∙ ap (λ (g : Geometry). limit_of g c.engine.numbers) k.geometry);
        stable = same.stable ∙ j.stable ∙ sym (ap (λ (x : Numbers). places n.engine.geometry * (x.stable - x.first)) numbers ∙ ap (λ (g : Geometry). places g * (c.engine.numbers.stable - c.engine.numbers.first)) k.geometry);
        fault = same.fault ∙ j.fault ∙ (λ i. faults_of (sym k.down i) (sym same.fault i).log_reads (sym same.fault i).backing_reads);
        log_faults = subst (λ (f : Faults). TellsFaults Log f t.log_faults (of_log n.engine.log).faults) (sym same.fault) (subst (λ (x : L). TellsFaults Log (drain_view c.drain).seen.fault t.log_faults (of_log x).faults) (sym k.log) j.log_faults);
        backing_faults = subst (λ (f : Faults). TellsFaults Backing f t.backing_faults (of_backing n.engine.backing).faults) (sym same.fault) (subst (λ (x : B). TellsFaults Backing (drain_view c.drain).seen.fault t.backing_faults (of_backing x).faults) (sym k.backing) j.backing_faults);
      }
