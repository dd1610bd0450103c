-- What the writes of a plan make of an image, block by block.
use Rattle.std.proofs.Common.{ℕ, ◌≡◌, ◌+◌, ◌<◌, ◌≤◌, List, [], ◌∷◌, ◌++◌, length, get_or, take, refl, ap, sym, ◌∙◌, subst}
use Rattle.std.specs.List.{All, Contains}
use Rattle.std.proofs.lemmas.List.{take_more, take_all}
use Rattle.std.proofs.lemmas.List.Elements.{All-nil, All-cons, All-contains_itself, All-take}
use Rattle.wb_geometry.specs.Image.{Image}
use Rattle.wb_geometry.specs.History.{HistoryEntry, put, after, PutsPartly}
use Rattle.wb_geometry.specs.Device.{State, IsSameDevice, Passes, ContentPasses}
use Rattle.wb_geometry.proofs.Histories.{after_push, puts_some, puts_all, puts_then}
use Rattle.wb_geometry.proofs.Moments.{passes_same, joined, content_same, content_weaker, content_joined, same_device, same_device_trans}

-- The first blocks of a list of entries are put, and no call failed.
pub record IsPut (es : List HistoryEntry) (i : ℕ) (old now : State) : Type 0 where
  pub content : ContentPasses (λ x y. y ≡ after x (take i es)) old now
  pub crash : Passes (PutsPartly es) old now
  pub same : IsSameDevice old now
  pub faults : now.faults ≡ old.faults
  pub reads : now.reads ≡ old.reads
  pub syncs : now.syncs ≡ old.syncs

among : (es : List HistoryEntry) (i : ℕ) (e : HistoryEntry) → i < length es → get_or es i e ≡ e → All (Contains es) (e ∷ [])
among es i e below is = All-cons (Contains es) e [] (i, below, is) (All-nil (Contains es))

-- none is put yet
pub put_none : {s : State} (es : List HistoryEntry) → IsPut es 0 s s
put_none {s} es = record {
  content = content_same (λ x told. refl) refl;
  crash = passes_same (λ x left. puts_some es [] x (All-nil (Contains es)));
  same = same_device s;
  faults = refl;
  reads = refl;
  syncs = refl;
}

-- the front of them, put whole
puts_front : (es : List HistoryEntry) (i : ℕ) (x y : Image) → y ≡ after x (take i es) → PutsPartly es x y
puts_front es i x y is = subst (PutsPartly es x) (sym is) (puts_some es (take i es) x (All-take (Contains es) i es (All-contains_itself es)))

-- a crash at any time while the next one is put
pub put_crash : {old mid new : State} (es : List HistoryEntry) (i : ℕ) (e : HistoryEntry) → i < length es → get_or es i e ≡ e → IsPut es i old mid
    → Passes (PutsPartly (e ∷ [])) mid new → Passes (PutsPartly es) old new
put_crash es i e below is so_far step =
    joined (λ x y left one. one) (λ x y z left one two. puts_then es (e ∷ []) x y z (among es i e below is) one two) so_far.crash step

-- the content where that one failed
pub put_stopped : {old mid new : State} (es : List HistoryEntry) (i : ℕ) (e : HistoryEntry) → i < length es → get_or es i e ≡ e → IsPut es i old mid
    → ContentPasses (PutsPartly (e ∷ [])) mid new → ContentPasses (PutsPartly es) old new
put_stopped es i e below is so_far step =
    content_joined (λ x y z told one two. puts_then es (e ∷ []) x y z (among es i e below is) (puts_front es i x y one) two) so_far.content step

-- the next one is put
pub put_more : {old mid new : State} (es : List HistoryEntry) (i : ℕ) (e : HistoryEntry) → i < length es → get_or es i e ≡ e → IsPut es i old mid
    → ContentPasses (λ x y. y ≡ put x e) mid new → Passes (PutsPartly (e ∷ [])) mid new
    → IsSameDevice mid new → new.faults ≡ mid.faults → new.reads ≡ mid.reads → new.syncs ≡ mid.syncs → IsPut es (i + 1) old new
put_more es i e below is so_far step crash same faults reads syncs = record {
  content = content_joined
      (λ x y z told one two.
      two ∙ ap (λ (w : Image). put w e) one ∙ sym (after_push x (take i es) e)
      ∙ ap (λ (f : HistoryEntry). after x (take i es ++ f ∷ [])) (sym is) ∙ ap (after x) (sym (take_more es i e below)))
      so_far.content step;
  crash = put_crash es i e below is so_far crash;
  same = same_device_trans so_far.same same;
  faults = faults ∙ so_far.faults;
  reads = reads ∙ so_far.reads;
  syncs = syncs ∙ so_far.syncs;
}

-- all are put
pub put_whole : {old new : State} (es : List HistoryEntry) (i : ℕ) → length es ≤ i → IsPut es i old new → ContentPasses (λ x y. y ≡ after x es) old new
put_whole es i end so_far = content_weaker (λ x y told one. one ∙ ap (after x) (take_all i es end)) so_far.content

-- and so perhaps
pub puts_whole : {old new : State} (es : List HistoryEntry) → ContentPasses (λ x y. y ≡ after x es) old new → ContentPasses (PutsPartly es) old new
puts_whole es pass = content_weaker (λ x y told one. subst (PutsPartly es x) (sym one) (puts_all es x)) pass
