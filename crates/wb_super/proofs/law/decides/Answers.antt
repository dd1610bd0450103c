use Rattle.std.proofs.Common.{refl, inl, inr}
use Rattle.wb_super.specs.Found.{telling}
use Rattle.wb_super.proofs.Superblocks.{one_super, one_refusal, never_both, formatted_not_refused}
use Rattle.wb_super.proofs.law.decides.Goals as goal

pub returns-clause-one_super : goal.returns-clause-one_super
returns-clause-one_super c = λ sectors x a b first second. one_super (telling sectors x) x refl a b first second

pub returns-clause-one_refusal : goal.returns-clause-one_refusal
returns-clause-one_refusal c = λ sectors x r t first second no_fault none. elim (one_refusal (telling sectors x) x refl r t first second) [
  | inl same ↦ same
  | inr fault ↦ elim fault [
    | inl is ↦ absurd (no_fault is)
    | inr is ↦ absurd (none is)
  ]
]

pub returns-clause-never_both : goal.returns-clause-never_both
returns-clause-never_both c = λ sectors x found r is refuses. never_both (telling sectors x) x refl found r is refuses

pub returns-clause-formatted : goal.returns-clause-formatted
returns-clause-formatted c = λ sectors x g r image text bounded refuses. formatted_not_refused (telling sectors x) x g image.size refl text bounded r refuses
