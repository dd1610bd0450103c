use Rattle.std.proofs.Common.{◌≡◌, ◌/◌, length, Option, Result, Ok, Err, ap, refl, sym, ◌∙◌, subst}
use Rattle.std.proofs.lemmas.Result.{err_from_is_err_and}
use Rattle.wb_geometry.specs.Device.{CountsFaultsWhere}
use Rattle.wb_geometry.specs.declared.which.Which.{Which}
use Rattle.wb_geometry.specs.declared.which.Which.TheVariants.{Log, Backing}
use Rattle.wb_steps.specs.declared.view.View.{View}
use Rattle.wb_intake.specs.Passes.{drain_view}
use Rattle.wb_front.specs.Words.{faults_of, HasCounted}
use Rattle.wb_front.specs.Moving.{publishing_fault}
use Rattle.wb_front.specs.Joined.{CoreContent, fault_of}
use Rattle.wb_front.proofs.Fetches.{kept_read, reads_drained, counts_alike}
use Rattle.wb_front.proofs.Words.{counted_word}
use Rattle.wb_front.proofs.core_of.Core.read.Goals as goal

-- an answer that hands on a failure, or is none
handed_on : {T U : Type 0} (read : Result T Which) (r : Result U Which) (which : Which) → read ≡ Err which → r ≡ Err which → (w : Which) → read ≡ Err w → r ≡ Err w
handed_on read r which is also w e = let same : which ≡ w = cc in also ∙ ap (λ (x : Which). Err x) same

none_failed : {T : Type 0} (read : Result T Which) (x : T) → read ≡ Ok x → (w : Which) → read ≡ Err w → ⊥
none_failed read x is w e = cc

pub invariant_of-self : goal.invariant_of-self
invariant_of-self g c =
    let e = c.read-result.new.self in
    let j = c.self.invariant in
    let read = c.read-result.ensures in
    let x = c.tell_read.new.log_reads in let y = c.tell_read.new.backing_reads in
    kept_read g.L.Device.state g.B.Device.state g.T.Named.carried (record { engine = c.self.inside.engine; drain = c.self.inside.drain }) e c.show.new.drain c.read-result.result
    c.self.inside.log_reads c.self.inside.backing_reads x y c.meet.ensures.looks.0
    j.0 read.same read.stands read.synced read.backing.content read.log_cause read.backing_cause j.1 j.2 j.3 j.4 c.tell_read.ensures.log c.tell_read.ensures.backing
    (c.show.ensures.own.0 ∙ c.tell_read.ensures.own ∙ c.meet.ensures.own.2)
    (c.show.ensures.same ∙ c.tell_read.ensures.published ∙ (λ i. publishing_fault (c.meet.ensures.looks.2 i) (faults_of (c.down-down.ensures i) x y)))

pub returns-in_err-result-clause-log_cause : goal.returns-in_err-result-clause-log_cause
returns-in_err-result-clause-log_cause g c =
    let p = err_from_is_err_and c.from_residual.result c.from_residual.ensures.1 in
    subst (λ x. CountsFaultsWhere (c.from_residual.result ≡ Err Log) (g.L.Device.state x.engine.log).faults (g.L.Device.state c.read-result.new.self.log).faults) c.self.view_is
    (counts_alike c.read-result.result c.from_residual.result c.in_err-result.field-0.0 Log _ _ c.in_err-result.was (p.1 ∙ ap (λ (w : Which). Err w) p.2) c.read-result.ensures.log_cause)

pub returns-in_err-result-clause-backing_cause : goal.returns-in_err-result-clause-backing_cause
returns-in_err-result-clause-backing_cause g c =
    let p = err_from_is_err_and c.from_residual.result c.from_residual.ensures.1 in
    subst (λ x. CountsFaultsWhere (c.from_residual.result ≡ Err Backing) (g.B.Device.state x.engine.backing).faults (g.B.Device.state c.read-result.new.self.backing).faults) c.self.view_is
    (counts_alike c.read-result.result c.from_residual.result c.in_err-result.field-0.0 Backing _ _ c.in_err-result.was (p.1 ∙ ap (λ (w : Which). Err w) p.2) c.read-result.ensures.backing_cause)

pub returns-in_err-result-clause-counted : goal.returns-in_err-result-clause-counted
returns-in_err-result-clause-counted g c =
    let p = err_from_is_err_and c.from_residual.result c.from_residual.ensures.1 in
    let d : Option Which = c.read-result.new.self.down in
    let x = c.tell_read.new.log_reads in let y = c.tell_read.new.backing_reads in
    let a = c.self.inside.log_reads in let b = c.self.inside.backing_reads in
    let j = c.self.invariant in
    let was : (drain_view c.self.inside.drain).seen.fault ≡ faults_of d a b
    = j.0.fault ∙ (λ i. faults_of (sym c.read-result.ensures.same.down i) (j.1 i) (j.2 i)) in
    let is : (drain_view c.show.new.drain).seen.fault ≡ faults_of d x y
    = ap (λ (v : View). v.seen.fault) (c.show.ensures.same ∙ c.tell_read.ensures.published) ∙ ap (λ (o : Option Which). faults_of o x y) c.down-down.ensures in
    let also = p.1 ∙ ap (λ (w : Which). Err w) p.2 in
    subst (λ (k : CoreContent g.row.L.Denot g.row.B.Denot). HasCounted c.from_residual.result (fault_of k) (drain_view c.show.new.drain).seen.fault) c.self.view_is
    (counted_word c.read-result.result c.from_residual.result d _ _ a b x y was is c.tell_read.ensures.log c.tell_read.ensures.backing
    (handed_on c.read-result.result c.from_residual.result c.in_err-result.field-0.0 c.in_err-result.was also)
    (handed_on c.from_residual.result c.read-result.result c.in_err-result.field-0.0 also c.in_err-result.was))

pub returns-clause-counted : goal.returns-clause-counted
returns-clause-counted g c =
    let d : Option Which = c.read-result.new.self.down in
    let x = c.tell_read.new.log_reads in let y = c.tell_read.new.backing_reads in
    let a = c.self.inside.log_reads in let b = c.self.inside.backing_reads in
    let j = c.self.invariant in
    let was : (drain_view c.self.inside.drain).seen.fault ≡ faults_of d a b
    = j.0.fault ∙ (λ i. faults_of (sym c.read-result.ensures.same.down i) (j.1 i) (j.2 i)) in
    let is : (drain_view c.show.new.drain).seen.fault ≡ faults_of d x y
    = ap (λ (v : View). v.seen.fault) (c.show.ensures.same ∙ c.tell_read.ensures.published) ∙ ap (λ (o : Option Which). faults_of o x y) c.down-down.ensures in
    subst (λ (k : CoreContent g.row.L.Denot g.row.B.Denot). HasCounted (Ok c.drained.result) (fault_of k) (drain_view c.show.new.drain).seen.fault) c.self.view_is
    (counted_word c.read-result.result (Ok c.drained.result) d _ _ a b x y was is c.tell_read.ensures.log c.tell_read.ensures.backing
    (λ w e. absurd (none_failed c.read-result.result _ c.in_ok-result.was w e))
    (λ w e. absurd (none_failed (Ok c.drained.result) c.drained.result refl w e)))

pub invariant_of-self-2 : goal.invariant_of-self-2
invariant_of-self-2 g c =
    let e = c.read-result.new.self in
    let j = c.self.invariant in
    let read = c.read-result.ensures in
    let x = c.tell_read.new.log_reads in let y = c.tell_read.new.backing_reads in
    kept_read g.L.Device.state g.B.Device.state g.T.Named.carried (record { engine = c.self.inside.engine; drain = c.self.inside.drain }) e c.show.new.drain c.read-result.result
    c.self.inside.log_reads c.self.inside.backing_reads x y c.meet.ensures.looks.0
    j.0 read.same read.stands read.synced read.backing.content read.log_cause read.backing_cause j.1 j.2 j.3 j.4 c.tell_read.ensures.log c.tell_read.ensures.backing
    (c.show.ensures.own.0 ∙ c.tell_read.ensures.own ∙ c.meet.ensures.own.2)
    (c.show.ensures.same ∙ c.tell_read.ensures.published ∙ (λ i. publishing_fault (c.meet.ensures.looks.2 i) (faults_of (c.down-down.ensures i) x y)))

pub returns-clause-shown : goal.returns-clause-shown
returns-clause-shown g c =
    reads_drained g.L.Device.state g.B.Device.state g.T.Named.carried (record { engine = c.self.inside.engine; drain = c.self.inside.drain }) (record { engine = c.read-result.new.self; drain = c.show.new.drain })
    c.read-result.new.into c.args.sector (length c.args.into.now / 512) c.self.invariant.0
    (ap (λ (v : View). v.known) (c.show.ensures.same ∙ c.tell_read.ensures.published) ∙ ap (λ (v : View). v.known) c.meet.ensures.looks.2) c.in_ok-result.ensures.ok
