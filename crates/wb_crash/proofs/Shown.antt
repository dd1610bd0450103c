-- What a device shows, and what a call makes of that.
use Rattle.std.proofs.Common.{◌≡◌, Some, inl, inr, sym, ◌∙◌, subst}
use Rattle.wb_geometry.specs.Image.{Image}
use Rattle.wb_geometry.specs.Device.{State, NothingPending, Passes, ContentPasses}
use Rattle.wb_crash.specs.Safety.{Shows}

-- each image that is shown after a call comes by its step from one that was shown before
pub shown_from : {Step : Image → Image → Type 0} {old new : State} → Passes Step old new → ContentPasses Step old new
    → (y : Image) → Shows new y → (x : Image) × Shows old x × Step x y
shown_from pass content y shows = elim shows [
  | inl told ↦ let was = content.from y told in (was.0, inl was.1, was.2)
  | inr left ↦ let was = pass.now y left in (was.0, inr was.1, was.2)
]

-- a call that changes nothing shows no more
pub shown_before : {old new : State} → Passes (λ x y. y ≡ x) old new → new.content ≡ old.content → (x : Image) → Shows new x → Shows old x
shown_before {old} pass kept x shows = elim shows [
  | inl told ↦ inl (sym kept ∙ told)
  | inr left ↦ let was = pass.now x left in subst (Shows old) (sym was.2) (inr was.1)
]

-- where nothing is pending, the content alone is shown
pub shown_content : {s : State} → NothingPending s → (x : Image) → Shows s x → s.content ≡ Some x
shown_content nothing x shows = elim shows [
  | inl told ↦ told
  | inr left ↦ nothing.only x left
]
