-- The parts of the fault word, and what they tell of the faults.
use Rattle.std.proofs.Common.{◌≡◌, ◌⊎◌, inl, inr, ℕ, ◌+◌, ◌-◌, ◌*◌, ◌/◌, ◌%◌, ◌^◌, ◌<◌, ◌≤◌, min, refl, sym, ap, ◌∙◌, arith, Option, Some, None, Result, Ok, Err}
use Rattle.wb_geometry.specs.Device.{CountsFaultsWhere}
use Rattle.wb_geometry.specs.declared.which.Which.{Which}
use Rattle.wb_geometry.specs.declared.which.Which.TheVariants.{Log, Backing}
use Rattle.wb_steps.specs.Faults.{parts_of, IsPartwiseAtMost}
use Rattle.wb_steps.specs.declared.view.Faults.{Faults}
use Rattle.wb_front.specs.Words.{faults_of, down_part, reads_part, HasFailed, TellsFaults, CountsReads, HasCounted}

-- the parts of a word that is made of them
pub parts_of_word : (d a b : ℕ) → d ≤ 2 → a < 2 ^ 31 → parts_of (d + 4 * a + b * 2 ^ 33) ≡ record { log_down = d % 2; backing_down = d / 2; log_reads = a; backing_reads = b }
parts_of_word d a b few small =
    let w : ℕ = d + 4 * a + b * 2 ^ 33 in
    let one : w % 2 ≡ d % 2 = omega arith in
    let two : w / 2 % 2 ≡ d / 2 = omega (arith, few) in
    let three : w / 4 % 2 ^ 31 ≡ a = omega (arith, few, small) in
    let four : w / 2 ^ 33 ≡ b = omega (arith, few, small) in
    λ i. record { log_down = one i; backing_down = two i; log_reads = three i; backing_reads = four i }

-- which parts they are
pub log_reads_are : (d : Option Which) (a b : ℕ) → (faults_of d a b).log_reads ≡ a
log_reads_are None a b = refl
log_reads_are (Some Log) a b = refl
log_reads_are (Some Backing) a b = refl

pub backing_reads_are : (d : Option Which) (a b : ℕ) → (faults_of d a b).backing_reads ≡ b
backing_reads_are None a b = refl
backing_reads_are (Some Log) a b = refl
backing_reads_are (Some Backing) a b = refl

pub log_down_is : (d : Option Which) (a b : ℕ) → 1 ≤ (faults_of d a b).log_down → d ≡ Some Log
log_down_is None a b h = absurd (omega (arith, h))
log_down_is (Some Log) a b h = refl
log_down_is (Some Backing) a b h = absurd (omega (arith, h))

pub backing_down_is : (d : Option Which) (a b : ℕ) → 1 ≤ (faults_of d a b).backing_down → d ≡ Some Backing
backing_down_is None a b h = absurd (omega (arith, h))
backing_down_is (Some Log) a b h = absurd (omega (arith, h))
backing_down_is (Some Backing) a b h = refl

pub is_log_down : (d : Option Which) (a b : ℕ) → d ≡ Some Log → (faults_of d a b).log_down ≡ 1
is_log_down d a b is = ap (λ (x : Option Which). (faults_of x a b).log_down) is

pub is_backing_down : (d : Option Which) (a b : ℕ) → d ≡ Some Backing → (faults_of d a b).backing_down ≡ 1
is_backing_down d a b is = ap (λ (x : Option Which). (faults_of x a b).backing_down) is

-- an engine that was up is up, or went down by the device
pub went_down_log : (d : Option Which) (a b : ℕ) → ((faults_of d a b).log_down ≡ 0) ⊎ ((d ≡ Some Log) × ((faults_of d a b).log_down ≡ 1))
went_down_log None a b = inl refl
went_down_log (Some Log) a b = inr (refl, refl)
went_down_log (Some Backing) a b = inl refl

pub went_down_backing : (d : Option Which) (a b : ℕ) → ((faults_of d a b).backing_down ≡ 0) ⊎ ((d ≡ Some Backing) × ((faults_of d a b).backing_down ≡ 1))
went_down_backing None a b = inl refl
went_down_backing (Some Log) a b = inl refl
went_down_backing (Some Backing) a b = inr (refl, refl)

-- no part falls where the engine goes down
pub goes_down : (d : Option Which) (a b : ℕ) → IsPartwiseAtMost (faults_of None a b) (faults_of d a b)
goes_down None a b = record { log_down = omega arith; backing_down = omega arith; log_reads = omega arith; backing_reads = omega arith }
goes_down (Some Log) a b = record { log_down = omega arith; backing_down = omega arith; log_reads = omega arith; backing_reads = omega arith }
goes_down (Some Backing) a b = record { log_down = omega arith; backing_down = omega arith; log_reads = omega arith; backing_reads = omega arith }

-- nor where a read fails
pub reads_more : (d : Option Which) (a b x y : ℕ) → a ≤ x → b ≤ y → IsPartwiseAtMost (faults_of d a b) (faults_of d x y)
reads_more None a b x y up along = record { log_down = omega arith; backing_down = omega arith; log_reads = up; backing_reads = along }
reads_more (Some Log) a b x y up along = record { log_down = omega arith; backing_down = omega arith; log_reads = up; backing_reads = along }
reads_more (Some Backing) a b x y up along = record { log_down = omega arith; backing_down = omega arith; log_reads = up; backing_reads = along }

-- A device's faults rose where its parts say so, and then went on.
module _ (which : Which) (f g : Faults) (opening before now : ℕ) where
  -- the engine went down by it, or didn't, and no read failed
  pub tells_more : TellsFaults which f opening before → (Failed : Type 0) → CountsFaultsWhere Failed before now → (HasFailed which g → Failed ⊎ HasFailed which f)
      → (Failed → HasFailed which g) → (HasFailed which f → HasFailed which g) → reads_part which g ≡ reads_part which f
      → (down_part which g ≡ 0) ⊎ (Failed × (down_part which g ≡ 1)) → TellsFaults which g opening now
  tells_more t Failed counts from down stays same went = record {
    cause = record {
      later = omega (arith, t.cause.later, counts.later);
      failed = λ h. elim (from h) [
        | inl failed ↦ let rose = counts.failed failed in let later = t.cause.later in omega (arith, rose, later)
        | inr had ↦ let rose = t.cause.failed had in let later = counts.later in omega (arith, rose, later)
      ];
      kept = λ none. counts.kept (λ failed. none (down failed)) ∙ t.cause.kept (λ had. none (stays had));
    };
    reads = let some = t.reads in let later = counts.later in elim went [
      | inl up ↦ omega (arith, some, later, same, up)
      | inr gone ↦ let rose = counts.failed gone.0 in let one = gone.1 in omega (arith, some, rose, same, one)
    ];
  }

  -- a read of it failed
  pub tells_read : TellsFaults which f opening before → min (before + 1) (2 ^ 64 - 1) ≤ now → before ≤ now → 1 ≤ reads_part which g → reads_part which g ≤ reads_part which f + 1
      → down_part which g ≡ down_part which f → TellsFaults which g opening now
  tells_read t rose up some more still = record {
    cause = record {
      later = omega (arith, t.cause.later, up);
      failed = λ h. let later = t.cause.later in omega (arith, rose, later);
      kept = λ none. absurd (none (inr some));
    };
    reads = let had = t.reads in omega (arith, had, rose, up, more, still);
  }

-- ---- a read that was counted

-- whether it failed on this device
fails : {T : Type 0} (r : Result T Which) (which : Which) → (r ≡ Err which) ⊎ (r ≡ Err which → ⊥)
fails (Ok x) which = inr (λ is. absurd (cc))
fails (Err Log) Log = inl refl
fails (Err Log) Backing = inr (λ is. absurd (cc))
fails (Err Backing) Log = inr (λ is. absurd (cc))
fails (Err Backing) Backing = inl refl

-- the words tell of its faults as before, with this read
pub tells_counted : {T : Type 0} (r : Result T Which) (which : Which) (f g : Faults) (opening before now : ℕ) → TellsFaults which f opening before
    → CountsFaultsWhere (r ≡ Err which) before now → CountsReads (r ≡ Err which) (reads_part which f) (reads_part which g) → down_part which g ≡ down_part which f
    → TellsFaults which g opening now
tells_counted r which f g opening before now t counts reads down = elim (fails r which) [
  | inl failed ↦ let rose = counts.failed failed in let is = reads.failed failed in
      tells_read which f g opening before now t rose counts.later (omega (arith, is)) (omega (arith, is)) down
  | inr kept ↦ let same = reads.kept kept in let still = counts.kept kept in record {
    cause = record {
      later = omega (arith, t.cause.later, still);
      failed = λ h. let rose = t.cause.failed (elim h [ inl d ↦ inl (omega (arith, d, down)) | inr n ↦ inr (omega (arith, n, same)) ]) in omega (arith, rose, still);
      kept = λ none. still ∙ t.cause.kept (λ h. none (elim h [ inl d ↦ inl (omega (arith, d, down)) | inr n ↦ inr (omega (arith, n, same)) ]));
    };
    reads = let had = t.reads in omega (arith, had, same, still, down);
  }
]

-- and the count stays small
pub counted_small : {T : Type 0} (r : Result T Which) (which : Which) (a x : ℕ) → CountsReads (r ≡ Err which) a x → a < 2 ^ 31 → x < 2 ^ 31
counted_small r which a x reads small = elim (fails r which) [
  | inl failed ↦ let is = reads.failed failed in omega (arith, is)
  | inr kept ↦ let same = reads.kept kept in omega (arith, same, small)
]

-- the parts that say by which device the engine is down don't lie in the reads
pub log_down_same : (d : Option Which) (a b x y : ℕ) → (faults_of d a b).log_down ≡ (faults_of d x y).log_down
log_down_same None a b x y = refl
log_down_same (Some Log) a b x y = refl
log_down_same (Some Backing) a b x y = refl

pub backing_down_same : (d : Option Which) (a b x y : ℕ) → (faults_of d a b).backing_down ≡ (faults_of d x y).backing_down
backing_down_same None a b x y = refl
backing_down_same (Some Log) a b x y = refl
backing_down_same (Some Backing) a b x y = refl

-- A read was counted, whose answer is handed on: the words tell so, and of nothing else.
pub counted_word : {T U : Type 0} (read : Result T Which) (r : Result U Which) (d : Option Which) (before now : Faults) (a b x y : ℕ)
    → before ≡ faults_of d a b → now ≡ faults_of d x y → CountsReads (read ≡ Err Log) a x → CountsReads (read ≡ Err Backing) b y
    → ((w : Which) → read ≡ Err w → r ≡ Err w) → ((w : Which) → r ≡ Err w → read ≡ Err w) → HasCounted r before now
counted_word read r d before now a b x y was is log backing on back = record {
  log_down = ap (λ (f : Faults). f.log_down) is ∙ log_down_same d x y a b ∙ sym (ap (λ (f : Faults). f.log_down) was);
  backing_down = ap (λ (f : Faults). f.backing_down) is ∙ backing_down_same d x y a b ∙ sym (ap (λ (f : Faults). f.backing_down) was);
  log_reads =
      let had : before.log_reads ≡ a = ap (λ (f : Faults). f.log_reads) was ∙ log_reads_are d a b in
      let has : now.log_reads ≡ x = ap (λ (f : Faults). f.log_reads) is ∙ log_reads_are d x y in record {
        failed = λ e. let rose = log.failed (back Log e) in omega (arith, had, has, rose);
        kept = λ none. let same = log.kept (λ e. none (on Log e)) in omega (arith, had, has, same);
      };
  backing_reads =
      let had : before.backing_reads ≡ b = ap (λ (f : Faults). f.backing_reads) was ∙ backing_reads_are d a b in
      let has : now.backing_reads ≡ y = ap (λ (f : Faults). f.backing_reads) is ∙ backing_reads_are d x y in record {
        failed = λ e. let rose = backing.failed (back Backing e) in omega (arith, had, has, rose);
        kept = λ none. let same = backing.kept (λ e. none (on Backing e)) in omega (arith, had, has, same);
      };
}
