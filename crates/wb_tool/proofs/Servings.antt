-- What a sink took, and how a session ends.
use Rattle.std.proofs.Common.{◌≡◌, ◌+◌, List, ◌++◌, length, take, ℕ, Bool, sym, ap, subst, ◌∙◌, arith, inl, inr, append_assoc, length-append, Option, Some, None}
use Rattle.std.proofs.lemmas.List.{take-append-le}
use Rattle.std.proofs.Math.Seq.{take-append-add}
use Rattle.std.specs.Io.KnownBytes.{Appends}
use Rattle.wb_geometry.specs.Device.{Rose}
use Rattle.wb_geometry.specs.declared.which.Which.TheVariants.{Log, Backing}
use Rattle.wb_device.specs.Streams.{AppendsFront}
use Rattle.wb_tool.specs.Run.{Lent, lent, Took}
use Rattle.wb_tool.specs.Texts.{failed_line, spent_line}
use Rattle.wb_tool.specs.Served.{EndsSession}
use Rattle.wb_tool.specs.Stages.{TellsFault, IsCutAt}

abbrev Known : Type 0
Known = Option (List ℕ)

Appends-more : (a b c : Known) (xs ys : List ℕ) → Appends a b xs → Appends b c ys → Appends a c (xs ++ ys)
Appends-more None b c xs ys first second = tt
Appends-more (Some x) None c xs ys first second = absurd first
Appends-more (Some x) (Some y) None xs ys first second = absurd second
Appends-more (Some x) (Some y) (Some z) xs ys first second = second ∙ ap (λ l. l ++ ys) first ∙ append_assoc x xs ys

-- a front of the second text behind all of the first
fronts : (xs ys : List ℕ) (n : ℕ) → xs ++ take n ys ≡ take (length xs + n) (xs ++ ys)
fronts xs ys n = sym (take-append-add xs ys n)

-- a text and the same text
pub took_same : (sink : Lent) (a b : List ℕ) → Took sink a → a ≡ b → Took sink b
took_same sink a b took same = subst (Took sink) same took

-- the sink took a text, and then another whole or in front
pub took_more : (a b c : Known) (f g h : ℕ) (xs ys : List ℕ) → Appends a b xs → g ≡ f → Took (lent b c g h) ys → Took (lent a c f h) (xs ++ ys)
took_more a b c f g h xs ys first same (inl (all, kept)) = inl (Appends-more a b c xs ys first all, kept ∙ same)
took_more a b c f g h xs ys first same (inr ((n, few, front), failed)) = inr (
  (length xs + n, omega (arith, length-append xs ys, few), subst (Appends a c) (fronts xs ys n) (Appends-more a b c xs (take n ys) first front)),
  subst (λ k. Rose k h) same failed,
)

-- a front of a text is one of a longer text
pub front_longer : (a b : Known) (xs ys : List ℕ) → AppendsFront a b xs → AppendsFront a b (xs ++ ys)
front_longer a b xs ys (n, few, front) =
    (n, omega (arith, length-append xs ys, few), subst (Appends a b) (sym (take-append-le n xs ys few)) front)

-- the text was told, and then the fault line
pub told_fault : (a b c : Known) (f g h : ℕ) (text : List ℕ) (status places : ℕ) (ids log_failed backing_failed : Bool)
    → Appends a b text → g ≡ f → TellsFault (lent b c g h) status places ids log_failed backing_failed
    → EndsSession (lent a c f h) status text text places ids log_failed backing_failed
told_fault a b c f g h text status places ids log_failed backing_failed first same (inl (failed, six, took)) =
    inl (failed, six, took_more a b c f g h text (failed_line Log) first same took)
told_fault a b c f g h text status places ids log_failed backing_failed first same (inr (inl (fine, failed, seven, took))) =
    inr (inl (fine, failed, seven, took_more a b c f g h text (failed_line Backing) first same took))
told_fault a b c f g h text status places ids log_failed backing_failed first same (inr (inr (inl (fine, spent, ten, took)))) =
    inr (inr (inl (fine, spent, ten, took_more a b c f g h text (spent_line places) first same took)))
told_fault a b c f g h text status places ids log_failed backing_failed first same (inr (inr (inr (fine, left, zero, untouched)))) =
    inr (inr (inr (fine, left, inl (zero, untouched.faults ∙ same, subst (λ (known : Known). Appends a known text) (sym untouched.bytes) first))))

-- the sink took a front of the text
pub told_cut : (a b : Known) (f h : ℕ) (text : List ℕ) (status places : ℕ) (ids log_failed backing_failed : Bool)
    → AppendsFront a b text → Rose f h → IsCutAt status ids log_failed backing_failed
    → EndsSession (lent a b f h) status text text places ids log_failed backing_failed
told_cut a b f h text status places ids log_failed backing_failed front rose (inl (failed, six)) =
    inl (failed, six, inr (front_longer a b text (failed_line Log) front, rose))
told_cut a b f h text status places ids log_failed backing_failed front rose (inr (inl (fine, failed, seven))) =
    inr (inl (fine, failed, seven, inr (front_longer a b text (failed_line Backing) front, rose)))
told_cut a b f h text status places ids log_failed backing_failed front rose (inr (inr (inl (fine, spent, ten)))) =
    inr (inr (inl (fine, spent, ten, inr (front_longer a b text (spent_line places) front, rose))))
told_cut a b f h text status places ids log_failed backing_failed front rose (inr (inr (inr (fine, left, five)))) =
    inr (inr (inr (fine, left, inr (five, rose, front))))
