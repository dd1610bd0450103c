-- How a command ends where a device isn't good for a session.
use Rattle.std.proofs.Common.{◌≡◌, ◌≢◌, ◌⊎◌, ◌<◌, [], ℕ, refl, sym, subst, ◌∙◌, arith, inl, inr, Result, Ok, Err, Bool}
use Rattle.wb_geometry.specs.Device.{State, OnlyRead, CountsFaultsWhere}
use Rattle.wb_geometry.specs.declared.which.Which.TheVariants.{Backing}
use Rattle.wb_super.specs.Found.{IsSuper}
use Rattle.wb_super.specs.Found as super
use Rattle.wb_super.specs.declared.reading.Super.{Super}
use Rattle.wb_super.specs.declared.reading.SuperRefused.{SuperRefused}
use Rattle.wb_super.specs.declared.reading.SuperRefused.TheVariants as refused
use Rattle.wb_engine.specs.Opening.{most_recorded}
use Rattle.wb_geometry.proofs.Moments.{uncalled}
use Rattle.wb_tool.specs.Run.{Lent, Run, run_of, IsUntouched, Took}
use Rattle.wb_tool.specs.Texts.{super_status, super_line, small_line, spent_record_line}
use Rattle.wb_tool.specs.Ends.{EndsUnopened, HasIds, ServingAccount}
use Rattle.wb_tool.specs.Stages.{IsBad}
use Rattle.wb_tool.proofs.Accounts.{faults_by, faults_ok, status_not_6, either_status}
use Rattle.wb_tool.proofs.Stops.{super_not_7}

-- ---- judging the devices

-- the superblock is refused, or can't be read
pub log_bad : (sink : Lent) (before after : State) (sectors status : ℕ) (read : Result Super SuperRefused) (cause : SuperRefused)
    → read ≡ Err cause → CountsFaultsWhere (read ≡ Err refused.Fault) before.faults after.faults → super.Refuses before cause
    → (status ≡ 1) ⊎ ((status ≡ super_status cause) × Took sink (super_line cause)) → (cause ≡ refused.Fault → status ≡ 6)
    → IsBad sink before after sectors status
log_bad sink before after sectors status read cause is counts why ended six = record {
  faults = faults_by read cause status before.faults after.faults (Took sink (super_line cause)) is counts ended six;
  ends = elim ended [
    | inl one ↦ inl one
    | inr at ↦ inr (inl (record { cause = cause; why = why; ended = at.0; told = at.1 }))
  ];
}

-- the superblock is good, but the cache can't be opened
behind_super : (sink : Lent) (before after : State) (sectors status known : ℕ) (read : Result Super SuperRefused) (found : Super) (P : Type 0)
    → read ≡ Ok found → CountsFaultsWhere (read ≡ Err refused.Fault) before.faults after.faults → known ≢ 6
    → (status ≡ 1) ⊎ ((status ≡ known) × P) → (status ≡ known → P → EndsUnopened sink before sectors status) → IsBad sink before after sectors status
behind_super sink before after sectors status known read found P is counts not_6 ended ends = record {
  faults = faults_ok read found status before.faults after.faults is counts (status_not_6 status known not_6 (either_status status known P ended));
  ends = elim ended [
    | inl one ↦ inl one
    | inr at ↦ inr (ends at.0 at.1)
  ];
}

pub ids_bad : (sink : Lent) (before after : State) (sectors status : ℕ) (read : Result Super SuperRefused) (found : Super)
    → read ≡ Ok found → CountsFaultsWhere (read ≡ Err refused.Fault) before.faults after.faults → IsSuper before found
    → most_recorded found.geometry.slots < found.recorded → (status ≡ 1) ⊎ ((status ≡ 10) × Took sink (spent_record_line found.recorded)) → IsBad sink before after sectors status
ids_bad sink before after sectors status read found is counts super spent ended =
    behind_super sink before after sectors status 10 read found (Took sink (spent_record_line found.recorded)) is counts
    (λ e. omega arith) ended (λ at took. inr (inl (found, super, record { spent = spent; ended = at; told = took })))

pub backing_bad : (sink : Lent) (before after : State) (sectors has status : ℕ) (read : Result Super SuperRefused) (found : Super)
    → read ≡ Ok found → CountsFaultsWhere (read ≡ Err refused.Fault) before.faults after.faults → IsSuper before found
    → HasIds found → has ≡ sectors → has < found.geometry.backing_sectors
    → (status ≡ 1) ⊎ ((status ≡ 9) × Took sink (small_line Backing has found.geometry.backing_sectors)) → IsBad sink before after sectors status
backing_bad sink before after sectors has status read found is counts super ids same few ended =
    behind_super sink before after sectors status 9 read found (Took sink (small_line Backing has found.geometry.backing_sectors)) is counts
    (λ e. omega arith) ended (λ at took. inr (inr (
      found,
      super,
      ids,
      record {
        few = omega (arith, same, few);
        ended = at;
        told = subst (λ (n : ℕ). Took sink (small_line Backing n found.geometry.backing_sectors)) same took;
      },
    )))

-- ---- the run that ends so

-- a status of the backing device that failed tells of no such end
unopened_not_7 : (sink : Lent) (log : State) (sectors status : ℕ) → status ≢ 1 → (status ≡ 1) ⊎ EndsUnopened sink log sectors status → status ≢ 7
unopened_not_7 sink log sectors status some (inl one) seven = absurd (some one)
unopened_not_7 sink log sectors status some (inr (inl by_log)) seven = absurd (super_not_7 by_log.cause (sym by_log.ended ∙ seven))
unopened_not_7 sink log sectors status some (inr (inr (inl (found, super, spent)))) seven = absurd (let ten = spent.ended in omega arith)
unopened_not_7 sink log sectors status some (inr (inr (inr (found, super, ids, small)))) seven = absurd (let nine = small.ended in omega arith)

pub bad_account : (Ends Wants : (sectors : ℕ) → Run → Type 0) (in_turn : Bool) (source sink : Lent) (before after backing : State) (status : ℕ) → IsUntouched source → OnlyRead before after
    → IsBad sink before after backing.sectors status → ServingAccount Ends Wants (run_of in_turn source sink before after backing backing status [] 0)
bad_account Ends Wants in_turn source sink before after backing status unread read bad = record {
  log_faults = λ _. bad.faults;
  backing_faults = λ some _. record {
    later = omega arith;
    failed = λ seven. absurd (unopened_not_7 sink before backing.sectors status some bad.ends seven);
    kept = λ _. refl;
  };
  wanting = λ one. inl (read, uncalled backing);
  ends = elim bad.ends [
    | inl one ↦ inl one
    | inr unopened ↦ inr (inl (record {
      unbegun = record { no_session = record { transcripts = refl; places = refl }; backing = uncalled backing; log = read };
      unread = record { bytes = unread.bytes; faults = unread.faults };
      ends = unopened;
    }))
  ];
}
