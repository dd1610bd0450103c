-- How one call follows another: moments, the images that a crash may leave, contents and counts.
use Rattle.std.proofs.Common.{◌≡◌, ◌⊎◌, ℕ, ◌≤◌, List, Some, Ok, Err, Result, OnOk, OnErr, refl, sym, ◌∙◌, subst, inl, inr, arith}
use Rattle.std.proofs.lemmas.Option.{same_Some}
use Rattle.wb_geometry.specs.Image.{Image}
use Rattle.wb_geometry.specs.Device.{State, next_count, Rose, CountsFaults, IsNotAfter, NothingPending, Passes, ContentPasses, IsSameDevice, OnlyRead, IsUncalled, IsDevice}

-- moments

pub moment_same : (m : List ℕ) → IsNotAfter m m
moment_same m = record { parts = refl; each = λ i. omega arith }

pub moment_trans : {m n o : List ℕ} → IsNotAfter m n → IsNotAfter n o → IsNotAfter m o
moment_trans first second = record { parts = first.parts ∙ second.parts; each = λ i. omega (arith, first.each i, second.each i) }

-- The images that a crash may leave. What a lemma asks of a step, it asks only from an image that a crash may leave
-- before, so that `IsDevice` tells its size there.

-- no call at all
pub passes_same : {Step : Image → Image → Type 0} {s : State} → ((x : Image) → s.leaves_now x → Step x x) → Passes Step s s
passes_same {s} same = record {
  later = moment_same s.moment;
  now = λ y left. (y, left, same y left);
  since = λ m y le left. inl left;
  keeps = λ m y le left. left;
}

pub weaker : {Step Wider : Image → Image → Type 0} {old new : State} → ((x y : Image) → old.leaves_now x → Step x y → Wider x y) → Passes Step old new → Passes Wider old new
weaker wider pass = record {
  later = pass.later;
  now = λ y left. let from = pass.now y left in (from.0, from.1, wider from.0 y from.1 from.2);
  since = λ m y le left. elim (pass.since m y le left) [
    | inl before ↦ inl before
    | inr from ↦ inr (from.0, from.1, wider from.0 y from.1 from.2)
  ];
  keeps = pass.keeps;
}

-- One call after another. A crash during the first leaves what it does in its course (Early); what it leaves between the
-- two (First) may be less.
pub joined_between : {Early First Second Whole : Image → Image → Type 0} {old mid new : State}
    → ((x y : Image) → old.leaves_now x → Early x y → Whole x y)
    → ((x y z : Image) → old.leaves_now x → First x y → Second y z → Whole x z)
    → Passes Early old mid → ((y : Image) → mid.leaves_now y → (x : Image) × old.leaves_now x × First x y) → Passes Second mid new → Passes Whole old new
joined_between alone both first between second = record {
  later = moment_trans first.later second.later;
  now = λ z left.
      let step = second.now z left in
      let from = between step.0 step.1 in
      (from.0, from.1, both from.0 step.0 z from.1 from.2 step.2);
  since = λ m z le left. elim (second.since m z (moment_trans le first.later) left) [
    | inl earlier ↦ elim (first.since m z le earlier) [
      | inl before ↦ inl before
      | inr from ↦ inr (from.0, from.1, alone from.0 z from.1 from.2)
    ]
    | inr step ↦
        let from = between step.0 step.1 in
        inr (from.0, from.1, both from.0 step.0 z from.1 from.2 step.2)
  ];
  keeps = λ m y le left. second.keeps m y (moment_trans le first.later) (first.keeps m y le left);
}

-- A crash between the two leaves what the first step makes, so the whole step covers it alone too.
pub joined : {First Second Whole : Image → Image → Type 0} {old mid new : State}
    → ((x y : Image) → old.leaves_now x → First x y → Whole x y)
    → ((x y z : Image) → old.leaves_now x → First x y → Second y z → Whole x z)
    → Passes First old mid → Passes Second mid new → Passes Whole old new
joined alone both first second = joined_between alone both first first.now second

-- A call after which nothing is pending leaves the content alone, so what a crash leaves then comes by the content's step.
pub settled : {Step : Image → Image → Type 0} {old new : State} {y : Image}
    → IsDevice old → IsDevice new → IsSameDevice old new → NothingPending new → ContentPasses Step old new → new.leaves_now y → (x : Image) × old.leaves_now x × Step x y
settled {old} {new} {y} before after same nothing pass left =
    let from = pass.from y (nothing.only y left) in
    let tells : new.tells_images = after.shown new.moment y (after.counts_now new.moment y (moment_same new.moment) left) in
    (from.0, before.left (same.told.0 tells) from.0 from.1, from.2)

-- then a call that changes nothing
pub joined_same : {Step : Image → Image → Type 0} {old mid new : State} → Passes Step old mid → Passes (λ x y. y ≡ x) mid new → Passes Step old new
joined_same {Step} first second = joined (λ x y left step. step) (λ x y z left step same. subst (Step x) (sym same) step) first second

-- where nothing is pending, a crash leaves the content
pub left_is_content : {s : State} {x y : Image} → NothingPending s → s.content ≡ Some x → s.leaves_now y → y ≡ x
left_is_content {s} {x} {y} nothing told left = same_Some y x (sym (nothing.only y left) ∙ told)

-- From there on, each image that a crash at any moment may have left is the content or comes from it by the step.
pub left_from_content : {Step : Image → Image → Type 0} {old new : State} {x y : Image}
    → IsDevice old → NothingPending old → old.content ≡ Some x → Passes Step old new → new.left_since old.moment y → (y ≡ x) ⊎ Step x y
left_from_content {Step} {old} {new} {x} {y} device nothing told pass left =
    elim (pass.since old.moment y (moment_same old.moment) left) [
      | inl before ↦ inl (left_is_content nothing told (device.only_now y before))
      | inr from ↦ inr (subst (λ (z : Image). Step z y) (left_is_content nothing told from.1) from.2)
    ]

-- contents

pub content_step : {Step : Image → Image → Type 0} {old new : State} {x y : Image} → old.content ≡ Some x → new.content ≡ Some y → Step x y → ContentPasses Step old new
content_step {Step} {old} {new} {x} {y} was is step = record {
  told = λ z told. (y, is, subst (λ (u : Image). Step u y) (same_Some x z (sym was ∙ told)) step);
  from = λ z told. (x, was, subst (λ (u : Image). Step x u) (same_Some y z (sym is ∙ told)) step);
}

pub content_same : {Step : Image → Image → Type 0} {old new : State} → ((x : Image) → old.content ≡ Some x → Step x x) → new.content ≡ old.content → ContentPasses Step old new
content_same same kept = record {
  told = λ x is. (x, kept ∙ is, same x is);
  from = λ y is. (y, sym kept ∙ is, same y (sym kept ∙ is));
}

pub content_weaker : {Step Wider : Image → Image → Type 0} {old new : State} → ((x y : Image) → old.content ≡ Some x → Step x y → Wider x y) → ContentPasses Step old new → ContentPasses Wider old new
content_weaker wider pass = record {
  told = λ x is. let to = pass.told x is in (to.0, to.1, wider x to.0 is to.2);
  from = λ y is. let by = pass.from y is in (by.0, by.1, wider by.0 y by.1 by.2);
}

pub content_joined : {First Second Whole : Image → Image → Type 0} {old mid new : State}
    → ((x y z : Image) → old.content ≡ Some x → First x y → Second y z → Whole x z)
    → ContentPasses First old mid → ContentPasses Second mid new → ContentPasses Whole old new
content_joined both first second = record {
  told = λ x is.
      let step = first.told x is in
      let to = second.told step.0 step.1 in
      (to.0, to.1, both x step.0 to.0 is step.2 to.2);
  from = λ z is.
      let step = second.from z is in
      let by = first.from step.0 step.1 in
      (by.0, by.1, both by.0 step.0 z by.1 by.2 step.2);
}

-- then, or first, a call that keeps the content

pub content_kept_after : {Step : Image → Image → Type 0} {old mid new : State} → ContentPasses Step old mid → new.content ≡ mid.content → ContentPasses Step old new
content_kept_after pass kept = record {
  told = λ x is. let to = pass.told x is in (to.0, kept ∙ to.1, to.2);
  from = λ y is. pass.from y (sym kept ∙ is);
}

pub content_kept_before : {Step : Image → Image → Type 0} {old mid new : State} → mid.content ≡ old.content → ContentPasses Step mid new → ContentPasses Step old new
content_kept_before kept pass = record {
  told = λ x is. pass.told x (kept ∙ is);
  from = λ y is. let by = pass.from y is in (by.0, sym kept ∙ by.1, by.2);
}

-- what no call changes

pub same_device : (s : State) → IsSameDevice s s
same_device s = record { size = refl; told = (λ tells. tells, λ tells. tells) }

pub same_device_trans : {old mid new : State} → IsSameDevice old mid → IsSameDevice mid new → IsSameDevice old new
same_device_trans first second = record {
  size = second.size ∙ first.size;
  told = (λ tells. first.told.0 (second.told.0 tells), λ tells. second.told.1 (first.told.1 tells));
}

-- reads alone

pub only_read : (s : State) → OnlyRead s s
only_read s = record {
  content = refl;
  crash = passes_same (λ x left. refl);
  left = λ x left. left;
  syncs = refl;
  same = same_device s;
}

pub uncalled : (s : State) → IsUncalled s s
uncalled s = record { only_read = only_read s; faults = refl; reads = refl }

-- counts

pub rose_next : (n : ℕ) → Rose n (next_count n)
rose_next n = omega arith

pub rose_later : (before mid now : ℕ) → Rose before mid → mid ≤ now → Rose before now
rose_later before mid now rose later = omega arith

pub later_rose : (before mid now : ℕ) → before ≤ mid → Rose mid now → Rose before now
later_rose before mid now later rose = omega arith

pub counts_ok : {T E : Type 0} {before now : ℕ} (x : T) → now ≡ before → CountsFaults {T = T} {E = E} before now (Ok x)
counts_ok x same = record { later = omega (arith, same); failed = tt; kept = same }

pub counts_err : {T E : Type 0} {before now : ℕ} (e : E) → before ≤ now → Rose before now → CountsFaults {T = T} {E = E} before now (Err e)
counts_err e later rose = record { later = later; failed = rose; kept = tt }

-- a call after others in which the count stayed
pub counts_after : {T E : Type 0} {before mid now : ℕ} {result : Result T E} → mid ≡ before → CountsFaults mid now result → CountsFaults before now result
counts_after {T} {E} {before} {mid} {now} {result} kept counts = subst (λ (n : ℕ). CountsFaults n now result) kept counts

-- at an exit, for a result of either kind

pub on_ok : {T E P : Type 0} (r : Result T E) → P → OnOk r P
on_ok (Ok x) holds = holds
on_ok (Err e) holds = tt

pub on_err : {T E P : Type 0} (r : Result T E) → P → OnErr r P
on_err (Ok x) holds = tt
on_err (Err e) holds = holds
