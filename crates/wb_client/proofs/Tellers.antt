-- Which note a client hears next.
use Rattle.std.proofs.Common.{ℕ, zero, suc, ◌≡◌, ◌+◌, ◌-◌, ◌<◌, Bool, true, false, cond, eqb, List, [], ◌∷◌, ◌++◌, length, map, filter, get_or, Option, Some, inl, inr, refl, ap, sym, ◌∙◌, subst, arith}
use Rattle.std.specs.List.{zip, range_with_len, slice_get}
use Rattle.std.proofs.Math.ListN.{set, get_or-eq_default}
use Rattle.std.proofs.lemmas.Bool.{eq-eqb, ne_eqb, cases_eq}
use Rattle.std.proofs.lemmas.List.{append_assoc, append-nil, map-append, length-append}
use Rattle.std.proofs.lemmas.List.Sums.{fold-append}
use Rattle.std.proofs.lemmas.Option.{slice_get_cases, slice_get_within}
use Rattle.wb_steps.specs.Rule.{shape_of}
use Rattle.wb_steps.specs.Views.{hearing}
use Rattle.wb_steps.specs.declared.view.Role.TheVariants.{Owner}
use Rattle.wb_steps.specs.declared.view.View.{View}
use Rattle.wb_intake.specs.Carried.{Carried}
use Rattle.wb_intake.specs.Passes.{note_view}
use Rattle.wb_intake.specs.Sights.{number_in}
use Rattle.wb_intake.specs.declared.pass.Note.{Note}
use Rattle.wb_board.specs.Notes.{IsToldIn, IsNumbered}
use Rattle.wb_script.specs.Valid.{requests_at}
use Rattle.wb_script.specs.declared.request.Request.{Request}
use Rattle.wb_client.specs.Played.{values_of, heard_from, last_of, hearer_of, hearers_of, counts_from, counts_for}
use Rattle.wb_client.specs.Client.{yet_to_hear, AreTellers, HaveHeard}
use Rattle.wb_client.specs.declared.teller.Teller.{Teller}
use Rattle.wb_client.proofs.Appends.{values_append}
use Rattle.wb_client.proofs.Fronts.{heard_note}

-- the counts where the first request leaves notes for these
with_first : (before hearer : ℕ) (rest : List Request) (first : List ℕ) → List ℕ
with_first before hearer rest first = values_of hearer (zip (first ++ hearers_of rest) (range_with_len (before + 1) (length (first ++ hearers_of rest))))

-- the first request leaves no note
pub counts_silent : (before hearer : ℕ) (request : Request) (rest : List Request) → hearer_of request ≡ [] → counts_from before hearer (request ∷ rest) ≡ counts_from before hearer rest
unfolding with_first
counts_silent before hearer request rest none = ap (with_first before hearer rest) none

-- it leaves one for another client
pub counts_passed : (before hearer other : ℕ) (request : Request) (rest : List Request) → hearer_of request ≡ other ∷ [] → eqb other hearer ≡ false
    → counts_from before hearer (request ∷ rest) ≡ counts_from (before + 1) hearer rest
unfolding with_first
counts_passed before hearer other request rest one passed =
    ap (with_first before hearer rest) one
    ∙ ap (λ (b : Bool). map (λ (p : ℕ × ℕ). p.1) (cond b ((other, before + 1) ∷ later) later)) passed
  where
    later : List (ℕ × ℕ)
    later = filter (λ (p : ℕ × ℕ). eqb p.0 hearer) (zip (hearers_of rest) (range_with_len (before + 1 + 1) (length (hearers_of rest))))

-- it leaves one for this client
pub counts_told : (before hearer other : ℕ) (request : Request) (rest : List Request) → hearer_of request ≡ other ∷ [] → eqb other hearer ≡ true
    → counts_from before hearer (request ∷ rest) ≡ (before + 1) ∷ counts_from (before + 1) hearer rest
unfolding with_first
counts_told before hearer other request rest one told =
    ap (with_first before hearer rest) one
    ∙ ap (λ (b : Bool). map (λ (p : ℕ × ℕ). p.1) (cond b ((other, before + 1) ∷ later) later)) told
  where
    later : List (ℕ × ℕ)
    later = filter (λ (p : ℕ × ℕ). eqb p.0 hearer) (zip (hearers_of rest) (range_with_len (before + 1 + 1) (length (hearers_of rest))))

-- ---- one note more

get_set_same : (tellers : List Teller) (k : ℕ) (x : Teller) → k < length tellers → slice_get (set tellers k x) k ≡ Some x
get_set_same [] k x inside = absurd (omega (arith, inside))
get_set_same (y ∷ tellers) zero x inside = refl
get_set_same (y ∷ tellers) (suc k) x inside = get_set_same tellers k x (omega (arith, inside))

get_set_other : (tellers : List Teller) (k i : ℕ) (x : Teller) → (i ≡ k → ⊥) → slice_get (set tellers k x) i ≡ slice_get tellers i
get_set_other [] k i x other = refl
get_set_other (y ∷ tellers) zero zero x other = absurd (other refl)
get_set_other (y ∷ tellers) zero (suc i) x other = refl
get_set_other (y ∷ tellers) (suc k) zero x other = refl
get_set_other (y ∷ tellers) (suc k) (suc i) x other = get_set_other tellers k i x (λ same. other (ap suc same))

differs : (a b : ℕ) → (b ≡ a → ⊥) → eqb a b ≡ false
differs a b differ = ne_eqb a b (λ same. differ (sym same))

none_of_other : (teller other : ℕ) (told : List ℕ) → (other ≡ teller → ⊥) → heard_from other ((teller, told) ∷ []) ≡ []
none_of_other teller other told differ = ap (λ (b : Bool). map (λ (p : ℕ × List ℕ). p.1) (cond b ((teller, told) ∷ []) [])) (differs teller other differ)

one_of_it : (teller : ℕ) (told : List ℕ) → heard_from teller ((teller, told) ∷ []) ≡ told ∷ []
one_of_it teller told = ap (λ (b : Bool). map (λ (p : ℕ × List ℕ). p.1) (cond b ((teller, told) ∷ []) [])) (eq-eqb teller teller refl)

-- the next note of a teller was heard, which had told so much
pub tellers_next : (all : List (List Request)) (client teller : ℕ) (heard : List (ℕ × List ℕ)) (told : List ℕ) (tellers : List Teller) (old new : Teller) → slice_get tellers teller ≡ Some old
    → counts_from old.told client old.rest.now ≡ length told ∷ counts_from new.told client new.rest.now → AreTellers all client heard tellers → AreTellers all client (heard ++ (teller, told) ∷ []) (set tellers teller new)
tellers_next all client teller heard told tellers old new at next are i = elim (cases_eq i teller) [
  | inl same ↦ subst (λ (k : ℕ). map length (heard_from k (heard ++ (teller, told) ∷ [])) ++ yet_to_hear client (slice_get (set tellers teller new) k) ≡ counts_for client (requests_at all k)) (sym same) here
  | inr other ↦
      ap (λ (l : List (List ℕ)). map length l ++ yet_to_hear client (slice_get (set tellers teller new) i))
      (values_append i heard ((teller, told) ∷ []) ∙ ap (λ (l : List (List ℕ)). heard_from i heard ++ l) (none_of_other teller i told other) ∙ append-nil (heard_from i heard))
      ∙ ap (λ (o : Option Teller). map length (heard_from i heard) ++ yet_to_hear client o) (get_set_other tellers teller i new other)
      ∙ are i
]
  where
    before : List (List ℕ)
    before = heard_from teller heard

    here : map length (heard_from teller (heard ++ (teller, told) ∷ [])) ++ yet_to_hear client (slice_get (set tellers teller new) teller) ≡ counts_for client (requests_at all teller)
    here =
        ap (λ (l : List (List ℕ)). map length l ++ yet_to_hear client (slice_get (set tellers teller new) teller)) (values_append teller heard ((teller, told) ∷ []) ∙ ap (λ (l : List (List ℕ)). heard_from teller heard ++ l) (one_of_it teller told))
        ∙ ap (λ (o : Option Teller). map length (heard_from teller heard ++ told ∷ []) ++ yet_to_hear client o) (get_set_same tellers teller new (slice_get_within tellers teller old at))
        ∙ ap (λ (l : List ℕ). l ++ counts_from new.told client new.rest.now) (map-append length (heard_from teller heard) (told ∷ []))
        ∙ append_assoc (map length (heard_from teller heard)) (length told ∷ []) (counts_from new.told client new.rest.now)
        ∙ ap (λ (l : List ℕ). map length (heard_from teller heard) ++ l) (sym next)
        ∙ ap (λ (o : Option Teller). map length (heard_from teller heard) ++ yet_to_hear client o) (sym at)
        ∙ are teller

-- ---- no note yet

-- the clients of the script, of which no note was heard
pub tellers_none : (all : List (List Request)) (client : ℕ) (tellers : List Teller) → length tellers ≡ length all
    → ((k : ℕ) (d : Teller) → k < length tellers → ((get_or tellers k d).told ≡ 0) × ((get_or tellers k d).rest.now ≡ requests_at all k)) → AreTellers all client [] tellers
tellers_none all client tellers count each i = elim (slice_get_cases tellers i).1 [
  | inl (teller, inside, at, same) ↦
      let found = each i teller inside in
      ap (yet_to_hear client) at
      ∙ (λ j. counts_from ((ap (λ (t : Teller). t.told) (sym same) ∙ found.0) j) client ((ap (λ (t : Teller). t.rest.now) (sym same) ∙ found.1) j))
  | inr (past, at) ↦
      ap (yet_to_hear client) at
      ∙ sym (ap (λ (rs : List Request). counts_for client rs) (get_or-eq_default all [] (omega (arith, past, count))))
]

-- ---- hearing

last_told : (told : List ℕ) (last : ℕ) → last_of (told ++ last ∷ []) ≡ last
last_told told last = fold-append (λ (before : ℕ) (now : ℕ). now) 0 told (last ∷ [])

-- the note that a teller leaves next was heard
pub have_heard : (t : Carried) (client teller number : ℕ) (v w : View) (note : Note) (tellers : List Teller) (old new : Teller) → v.role ≡ Owner → slice_get tellers teller ≡ Some old
    → counts_from old.told client old.rest.now ≡ (number + 1) ∷ counts_from new.told client new.rest.now → IsToldIn t.intake note → IsNumbered teller number note → w ≡ hearing v (note_view note)
    → HaveHeard t client v w teller tellers (set tellers teller new)
have_heard t client teller number v w note tellers old new owner at next told_in numbered is =
    let told : List ℕ = told_in.told ++ told_in.last ∷ [] in
    let heard : (note_view note).heard ≡ (teller, told) ∷ [] = told_in.carries ∙ ap (λ (c : ℕ). (c, told) ∷ []) numbered.0 in
    let count : length told - 1 ≡ number = ap number_in (sym told_in.carries) ∙ numbered.1 in
    let many : length told ≡ length told_in.told + 1 = length-append told_in.told (told_in.last ∷ []) in
    let same : number + 1 ≡ length told = omega (arith, count, many) in
    record {
      told = told;
      played = λ base of. heard_note base (shape_of t.geometry t.first) client teller v (note_view note) w told owner heard (let last = last_told told_in.told told_in.last in omega (arith, last, told_in.seen)) is;
      tellers = λ all before are. tellers_next all client teller before told tellers old new at (next ∙ ap (λ (n : ℕ). n ∷ counts_from new.told client new.rest.now) same) are;
    }
