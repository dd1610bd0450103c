-- How the lock begins to keep what it keeps.
use Rattle.std.proofs.Common.{◌≡◌, inl, inr, ℕ, ◌+◌, ◌-◌, ◌*◌, [], length, sym, ap, ◌∙◌, subst, refl, arith, None}
use Rattle.std.specs.List.{Contains}
use Rattle.std.proofs.lemmas.List.Elements.{All-nil}
use Rattle.std.proofs.Math.Nat.{mul_comm}
use Rattle.wb_geometry.specs.Device.{State}
use Rattle.wb_geometry.specs.History.{PutsPartly}
use Rattle.wb_geometry.proofs.Histories.{puts_some}
use Rattle.wb_geometry.specs.Layout.{places}
use Rattle.wb_geometry.specs.declared.which.Which.{Which}
use Rattle.wb_geometry.specs.declared.which.Which.TheVariants.{Log, Backing}
use Rattle.wb_steps.specs.Rule.{cells}
use Rattle.wb_steps.specs.Views.{beginning}
use Rattle.wb_steps.specs.declared.view.View.{View}
use Rattle.wb_steps.specs.declared.view.Role.TheVariants.{Drain as TheDrain}
use Rattle.wb_intake.specs.Carried.{Carried}
use Rattle.wb_intake.specs.Passes.{numbers_of, drain_view}
use Rattle.wb_crash.specs.Numbers.{all_at}
use Rattle.wb_crash.specs.declared.numbers.Numbers.{Numbers}
use Rattle.wb_engine.specs.Standing.{Standing}
use Rattle.wb_front.specs.Words.{faults_of, down_part, reads_part, HasFailed, TellsFaults}
use Rattle.wb_front.specs.Joined.{IsJoined}
use Rattle.wb_front.specs.Beginning.{engine_of, intake_of, drain_of, Carries, IsNewIntake, IsFreshEngine}
use Rattle.wb_front.specs.declared.opening.Ready.{Ready}

-- neither device failed yet
pub tells_none : (which : Which) (opening now : ℕ) → now ≡ opening → TellsFaults which (faults_of None 0 0) opening now
tells_none which opening now is = record {
  cause = record { later = omega (arith, is); failed = λ h. absurd (not_failed which h); kept = λ none. is };
  reads = let none : reads_part which (faults_of None 0 0) ≡ 0 = no_reads which in let up : down_part which (faults_of None 0 0) ≡ 0 = no_down which in omega (arith, is, none, up);
}
  where
    no_reads : (w : Which) → reads_part w (faults_of None 0 0) ≡ 0
    no_reads Log = refl
    no_reads Backing = refl

    no_down : (w : Which) → down_part w (faults_of None 0 0) ≡ 0
    no_down Log = refl
    no_down Backing = refl

    not_failed : (w : Which) → HasFailed w (faults_of None 0 0) → ⊥
    not_failed w (inl h) = let e = no_down w in omega (arith, h, e)
    not_failed w (inr h) = let e = no_reads w in omega (arith, h, e)

-- ---- how it begins

-- an engine that was just opened, with a new intake, for which no read has failed
pub joined_new : {L B : Type 0} (of_log : L → State) (of_backing : B → State) (t : Carried) (r : Ready L B) → Carries of_log of_backing t r → IsNewIntake t.clients r → IsFreshEngine of_log of_backing (engine_of r)
    → IsJoined of_log of_backing t (record { engine = engine_of r; drain = drain_of r })
joined_new of_log of_backing t r carries new fresh =
    let e = engine_of r in
    let n : ℕ = e.numbers.first in
    let first : e.numbers ≡ all_at n = fresh.numbers in
    let view : drain_view (drain_of r) ≡ beginning TheDrain t.clients (cells (numbers_of (intake_of r))) = new.view in record {
      own = new.drain ∙ carries.intake;
      geometry = carries.geometry;
      first = carries.first;
      clients = ap (λ (v : View). v.client) view;
      absorbed = ap (λ (v : View). length v.known) view ∙ sym fresh.absorbed;
      stands = λ told. subst (λ (v : View). Standing of_log of_backing e t.base v.known) (sym view) (carries.stands told);
      changed = λ log_told backing_told. (t.base, carries.told backing_told, subst (λ (v : View). PutsPartly v.known t.base t.base) (sym view) (puts_some [] [] t.base (All-nil (Contains []))));
      synced = fresh.synced;
      limit = ap (λ (v : View). v.seen.limit) view ∙ ap cells new.shape ∙ mul_comm e.geometry.ram (places e.geometry) ∙ ap (λ (k : ℕ). places e.geometry * k) (let g : e.geometry.ram ≡ n - n + e.geometry.ram = omega arith in g) ∙ ap (λ (x : Numbers). places e.geometry * (x.logged - n + e.geometry.ram)) (sym first);
      stable = ap (λ (v : View). v.seen.stable) view ∙ sym (ap (λ (x : Numbers). places e.geometry * (x.stable - n)) first ∙ ap (λ (k : ℕ). places e.geometry * k) (let g : n - n ≡ 0 = omega arith in g) ∙ (let z : places e.geometry * 0 ≡ 0 = omega arith in z));
      fault = ap (λ (v : View). v.seen.fault) view ∙ (λ i. faults_of (sym fresh.up i) (sym (ap (λ (v : View). v.seen.fault.log_reads) view) i) (sym (ap (λ (v : View). v.seen.fault.backing_reads) view) i));
      log_faults = subst (λ (v : View). TellsFaults Log v.seen.fault t.log_faults (of_log e.log).faults) (sym view) (tells_none Log t.log_faults (of_log e.log).faults carries.log_faults);
      backing_faults = subst (λ (v : View). TellsFaults Backing v.seen.fault t.backing_faults (of_backing e.backing).faults) (sym view) (tells_none Backing t.backing_faults (of_backing e.backing).faults carries.backing_faults);
    }
