-- Passes that tell last notes, and hear those of lower clients.
use Rattle.std.proofs.Common.{◌≡◌, ◌≢◌, ◌⊎◌, inl, inr, ℕ, ◌+◌, ◌*◌, ◌-◌, ◌^◌, ◌<◌, ◌≤◌, max, zero, suc, List, [], ◌∷◌, ◌++◌, length, length-append, append_assoc, set, get_or, slice_index_or, refl, sym, ap, ◌∙◌, subst, arith}
use Rattle.std.specs.List.{Contains}
use Rattle.std.proofs.lemmas.Bool.{cases_eq, cases_lt}
use Rattle.std.proofs.lemmas.List.{get_or-set_same, get_or-set_other, length-set}
use Rattle.std.proofs.lemmas.List.Elements.{Contains-append_left, Contains-push}
use Rattle.wb_geometry.specs.History.{HistoryEntry}
use Rattle.wb_steps.specs.Faults.{IsPartwiseAtMost, greater_parts}
use Rattle.wb_steps.specs.Views.{IsPrefix, telling, note_of, heard_by, hearing}
use Rattle.wb_steps.specs.declared.view.Faults.{Faults}
use Rattle.wb_steps.specs.declared.view.Role.{Role}
use Rattle.wb_steps.specs.declared.view.View.{View}
use Rattle.wb_steps.proofs.Fitting.{parts_trans}
use Rattle.wb_steps.proofs.Lists.{prefix_same, prefix_trans, prefix_more}
use Rattle.wb_intake.specs.Carried.{Carried}
use Rattle.wb_intake.specs.Passes.{pass_name, client_of_pass, view_of}
use Rattle.wb_intake.specs.declared.pass.Pass.{Pass}
use Rattle.wb_front.specs.Requests.{IsPassOf}
use Rattle.wb_client.specs.Played.{HasSeenMore}
use Rattle.wb_threads.specs.Threads.{IsOwnOf, HasToldFew, HasHeardLast}

-- ---- what is seen

same_faults : (a : Faults) → IsPartwiseAtMost a a
same_faults a = record { log_down = omega arith; backing_down = omega arith; log_reads = omega arith; backing_reads = omega arith }

left_faults : (a b : Faults) → IsPartwiseAtMost a (greater_parts a b)
left_faults a b = record { log_down = omega arith; backing_down = omega arith; log_reads = omega arith; backing_reads = omega arith }

pub seen_same : (v : View) → HasSeenMore v v
seen_same v = record {
  known = prefix_same v.known;
  cursor = omega arith;
  limit = omega arith;
  stable = omega arith;
  fault = same_faults v.seen.fault;
}

pub seen_then : (u v w : View) → HasSeenMore u v → HasSeenMore v w → HasSeenMore u w
seen_then u v w a b = record {
  known = prefix_trans u.known v.known w.known a.known b.known;
  cursor = omega (arith, a.cursor, b.cursor);
  limit = omega (arith, a.limit, b.limit);
  stable = omega (arith, a.stable, b.stable);
  fault = parts_trans u.seen.fault v.seen.fault w.seen.fault a.fault b.fault;
}

seen_telling : (v : View) → HasSeenMore v (telling v)
seen_telling v = record {
  known = prefix_same v.known;
  cursor = omega arith;
  limit = omega arith;
  stable = omega arith;
  fault = same_faults v.seen.fault;
}

seen_hearing : (v w : View) → IsPrefix v.known (hearing v w).known → HasSeenMore v (hearing v w)
seen_hearing v w known = record {
  known = known;
  cursor = omega arith;
  limit = omega arith;
  stable = omega arith;
  fault = left_faults v.seen.fault w.seen.fault;
}

-- ---- one pass

-- such a note was heard of each lower one
abbrev HasLast : (before : List Pass) (client : ℕ) (new : Pass) → Type 0
HasLast before client new = (teller : ℕ) (d : Pass) → teller < client → (more : List ℕ) × Contains (view_of new).heard (teller, (view_of (slice_index_or before teller d)).told ++ more)

module _ (t : Carried) where
  pub heard_none : (before : List Pass) (p : Pass) → IsPassOf t p → HasHeardLast t before 0 p p
  heard_none before p own = record {
    own = own;
    client_is = refl;
    more = seen_same (view_of p);
    mine = refl;
    heard = prefix_same (view_of p).heard;
    told = prefix_same (view_of p).told;
    last = λ teller d low. absurd (omega (arith, low));
  }

  heard_then : (some others before : List Pass) (m n k : ℕ) (p q r : Pass) → HasHeardLast t some m p q → HasHeardLast t others n q r → HasLast before k r → HasHeardLast t before k p r
  heard_then some others before m n k p q r a b last = record {
    own = b.own;
    client_is = b.client_is ∙ a.client_is;
    more = seen_then (view_of p) (view_of q) (view_of r) a.more b.more;
    mine = b.mine ∙ a.mine;
    heard = prefix_trans (view_of p).heard (view_of q).heard (view_of r).heard a.heard b.heard;
    told = prefix_trans (view_of p).told (view_of q).told (view_of r).told a.told b.told;
    last = last;
  }

  last_stays : (before : List Pass) (n : ℕ) (q r : Pass) → IsPrefix (view_of q).heard (view_of r).heard → HasLast before n q → HasLast before n r
  last_stays before n q r more last = λ teller d low.
      let had = last teller d low in (
        had.0,
        subst (λ (heard : List (ℕ × List ℕ)). Contains heard (teller, (view_of (slice_index_or before teller d)).told ++ had.0)) (sym more.1)
            (Contains-append_left (view_of q).heard more.0 (teller, (view_of (slice_index_or before teller d)).told ++ had.0) had.1),
      )

  -- what was heard stays heard
  pub heard_still : (before others : List Pass) (n m : ℕ) (p q r : Pass) → HasHeardLast t before n p q → HasHeardLast t others m q r → HasHeardLast t before n p r
  heard_still before others n m p q r a b = heard_then before others before n m n p q r a b (last_stays before n q r b.heard a.last)

  -- what others had told since they had told before too
  pub heard_now : (before others : List Pass) (n : ℕ) (p q r : Pass) → HasHeardLast t before 0 p q → HasHeardLast t others n q r
      → ((i : ℕ) (d : Pass) → i < n → IsPrefix (view_of (slice_index_or before i d)).told (view_of (slice_index_or others i d)).told) → HasHeardLast t before n p r
  heard_now before others n p q r a b told = heard_then before others before 0 n n p q r a b (λ teller d low.
      let had = b.last teller d low in
      let more = told teller d low in
      let longer : (view_of (slice_index_or others teller d)).told ++ had.0 ≡ (view_of (slice_index_or before teller d)).told ++ (more.0 ++ had.0) =
      ap (λ (l : List ℕ). l ++ had.0) more.1 ∙ append_assoc (view_of (slice_index_or before teller d)).told more.0 had.0 in
      (more.0 ++ had.0, subst (λ (l : List ℕ). Contains (view_of r).heard (teller, l)) longer had.1))

  -- it tells
  pub heard_telling : (before : List Pass) (p q : Pass) → IsPassOf t p → pass_name q ≡ pass_name p → client_of_pass q ≡ client_of_pass p → view_of q ≡ telling (view_of p) → HasHeardLast t before 0 p q
  heard_telling before p q own name client is = record {
    own = (name ∙ own.0, ap (λ (v : View). v.unfilled) is ∙ own.1);
    client_is = client;
    more = subst (HasSeenMore (view_of p)) (sym is) (seen_telling (view_of p));
    mine = ap (λ (v : View). v.mine) is;
    heard = subst (λ (v : View). IsPrefix (view_of p).heard v.heard) (sym is) (prefix_same (view_of p).heard);
    told = subst (λ (v : View). IsPrefix (view_of p).told v.told) (sym is) (prefix_more (view_of p).told ((view_of p).seen.cursor ∷ []));
    last = λ teller d low. absurd (omega (arith, low));
  }

  -- it hears a note of one client
  heard_one : (p q : Pass) (w : View) (note : ℕ × List ℕ) → view_of q ≡ hearing (view_of p) w → w.heard ≡ note ∷ [] → (view_of q).heard ≡ (view_of p).heard ++ note ∷ []
  heard_one p q w note is one = ap (λ (v : View). v.heard) is ∙ ap (λ (r : Role). heard_by r (view_of p).heard w.heard) p.owns.0 ∙ ap (λ (l : List (ℕ × List ℕ)). (view_of p).heard ++ l) one

  pub heard_hearing : (before : List Pass) (n : ℕ) (p q : Pass) (w : View) (told : List ℕ) → IsPassOf t p → pass_name q ≡ pass_name p → client_of_pass q ≡ client_of_pass p → view_of q ≡ hearing (view_of p) w
      → IsPrefix (view_of p).known (view_of q).known → w.heard ≡ (n, told) ∷ [] → HasHeardLast t before 0 p q × Contains (view_of q).heard (n, told)
  heard_hearing before n p q w told own name client is known one =
      let heard : (view_of q).heard ≡ (view_of p).heard ++ (n, told) ∷ [] = heard_one p q w (n, told) is one in (
        record {
          own = (name ∙ own.0, ap (λ (v : View). v.unfilled) is ∙ own.1);
          client_is = client;
          more = subst (HasSeenMore (view_of p)) (sym is) (seen_hearing (view_of p) w (subst (λ (v : View). IsPrefix (view_of p).known v.known) is known));
          mine = ap (λ (v : View). v.mine) is;
          heard = ((n, told) ∷ [], heard);
          told = subst (λ (v : View). IsPrefix (view_of p).told v.told) (sym is) (prefix_same (view_of p).told);
          last = λ teller d low. absurd (omega (arith, low));
        },
        subst (λ (l : List (ℕ × List ℕ)). Contains l (n, told)) (sym heard) (Contains-push (view_of p).heard (n, told)),
      )

-- ---- all passes

-- so each pass is to what it was
abbrev pub AreEach : (R : Pass → Pass → Type 0) (n : ℕ) (xs ys : List Pass) → Type 0
AreEach R n xs ys = (i : ℕ) (d : Pass) → i < n → R (slice_index_or xs i d) (slice_index_or ys i d)

-- one of them is to be another, which is to what it was as is wanted too
pub each_with : (R : Pass → Pass → Type 0) (n : ℕ) (xs ys : List Pass) (k : ℕ) (next : Pass) → k < length ys → AreEach R n xs ys
    → ((d : Pass) → R (slice_index_or xs k d) next) → AreEach R n xs (set ys k next)
each_with R n xs ys k next inside each here i d low = elim (cases_eq i k) [
  | inl this ↦ subst (λ (j : ℕ). R (slice_index_or xs j d) (slice_index_or (set ys k next) j d)) (sym this)
      (subst (R (slice_index_or xs k d)) (sym (get_or-set_same ys k next d inside)) (here d))
  | inr other ↦ subst (R (slice_index_or xs i d)) (sym (get_or-set_other ys k i next d other)) (each i d low)
]

-- The pass at k tells, by which it is told, and the pass at h hears the note, by which it is hearing.
module _ (t : Carried) (before ps : List Pass) (k h : ℕ) (teller told hearer hearing' : Pass) (note : View)
    (low : k < h) (inside : h < length before) (long : length ps ≡ length before)
    (own : (i : ℕ) (d : Pass) → i < length before → IsOwnOf t i (slice_index_or before i d))
    (teller_is : (d : Pass) → teller ≡ slice_index_or ps k d) (hearer_is : (d : Pass) → hearer ≡ slice_index_or (set ps k told) h d)
    (told_own : (pass_name told ≡ pass_name teller) × (client_of_pass told ≡ client_of_pass teller)) (tells : view_of told ≡ telling (view_of teller)) (note_is : note ≡ note_of (view_of teller))
    (heard_own : (pass_name hearing' ≡ pass_name hearer) × (client_of_pass hearing' ≡ client_of_pass hearer)) (hears : view_of hearing' ≡ hearing (view_of hearer) note)
    (grows : IsPrefix (view_of hearer).known (view_of hearing').known)
    (heard : (d : Pass) → HasHeardLast t before k (slice_index_or before h d) (slice_index_or ps h d))
    (kept : AreEach (HasHeardLast t before 0) (length before) before ps)
    (few : AreEach (HasToldFew k) (length before) before ps) where
  abbrev next : List Pass
  next = set ps k told

  k_inside : k < length ps
  k_inside = omega (arith, low, inside, long)

  next_long : length next ≡ length ps
  next_long = length-set ps k told

  h_inside : h < length next
  h_inside = omega (arith, inside, long, next_long)

  was_teller : (d : Pass) → HasHeardLast t before 0 (slice_index_or before k d) teller
  was_teller d = subst (HasHeardLast t before 0 (slice_index_or before k d)) (sym (teller_is d)) (kept k d (omega (arith, low, inside)))

  -- the teller
  kept_told : AreEach (HasHeardLast t before 0) (length before) before next
  kept_told = each_with (HasHeardLast t before 0) (length before) before ps k told k_inside kept
      (λ d. heard_still t before before 0 0 (slice_index_or before k d) teller told (was_teller d) (heard_telling t before teller told (was_teller d).own told_own.0 told_own.1 tells))

  few_more : AreEach (HasToldFew (k + 1)) (length before) before ps
  few_more i d below = let f : length (view_of (slice_index_or ps i d)).told ≤ length (view_of (slice_index_or before i d)).told + k = few i d below in omega (arith, f)

  told_few : (d : Pass) → HasToldFew (k + 1) (slice_index_or before k d) told
  told_few d =
      let f : length (view_of teller).told ≤ length (view_of (slice_index_or before k d)).told + k =
      subst (HasToldFew k (slice_index_or before k d)) (sym (teller_is d)) (few k d (omega (arith, low, inside))) in
      let one : length (view_of told).told ≡ length (view_of teller).told + 1 = ap (λ (v : View). length v.told) tells ∙ length-append (view_of teller).told ((view_of teller).seen.cursor ∷ []) in
      omega (arith, f, one)

  few_told : AreEach (HasToldFew (k + 1)) (length before) before next
  few_told = each_with (HasToldFew (k + 1)) (length before) before ps k told k_inside few_more told_few

  -- the hearer
  was_hearer : (d : Pass) → HasHeardLast t before 0 (slice_index_or before h d) hearer
  was_hearer d = subst (HasHeardLast t before 0 (slice_index_or before h d)) (sym (hearer_is d)) (kept_told h d inside)

  same_hearer : (d : Pass) → hearer ≡ slice_index_or ps h d
  same_hearer d = hearer_is d ∙ get_or-set_other ps k h told d (λ e. omega (arith, e, low))

  abbrev told_then : List ℕ
  told_then = (view_of teller).told ++ (view_of teller).seen.cursor ∷ []

  client_is : (view_of teller).client ≡ k
  client_is = teller.owns.1 ∙ (was_teller teller).client_is ∙ (own k teller (omega (arith, low, inside))).1

  one_note : note.heard ≡ (k, told_then) ∷ []
  one_note = ap (λ (v : View). v.heard) note_is ∙ ap (λ (client : ℕ). (client, told_then) ∷ []) client_is

  now_hears : HasHeardLast t before 0 hearer hearing' × Contains (view_of hearing').heard (k, told_then)
  now_hears = heard_hearing t before k hearer hearing' note told_then (was_hearer hearer).own heard_own.0 heard_own.1 hears grows one_note

  pub heard_next : (d : Pass) → HasHeardLast t before (k + 1) (slice_index_or before h d) (slice_index_or (set next h hearing') h d)
  heard_next d =
      let at : HasHeardLast t before k (slice_index_or before h d) hearer = subst (HasHeardLast t before k (slice_index_or before h d)) (sym (same_hearer d)) (heard d) in
      let last : (teller' : ℕ) (e : Pass) → teller' < k + 1 → (more : List ℕ) × Contains (view_of hearing').heard (teller', (view_of (slice_index_or before teller' e)).told ++ more) = λ i e below. elim (cases_eq i k) [
        | inl this ↦
            let more = (was_teller e).told in
            let whole : told_then ≡ (view_of (slice_index_or before k e)).told ++ (more.0 ++ (view_of teller).seen.cursor ∷ []) =
            ap (λ (l : List ℕ). l ++ (view_of teller).seen.cursor ∷ []) more.1 ∙ append_assoc (view_of (slice_index_or before k e)).told more.0 ((view_of teller).seen.cursor ∷ []) in
            subst (λ (j : ℕ). (more : List ℕ) × Contains (view_of hearing').heard (j, (view_of (slice_index_or before j e)).told ++ more)) (sym this)
            (more.0 ++ (view_of teller).seen.cursor ∷ [], subst (λ (l : List ℕ). Contains (view_of hearing').heard (k, l)) whole now_hears.1)
        | inr other ↦ (heard_still t before before k 0 (slice_index_or before h d) hearer hearing' at now_hears.0).last i e (omega (arith, below, other))
      ] in
      subst (HasHeardLast t before (k + 1) (slice_index_or before h d)) (sym (get_or-set_same next h hearing' d h_inside))
      (heard_then t before before before k 0 (k + 1) (slice_index_or before h d) hearer hearing' at now_hears.0 last)

  pub kept_next : AreEach (HasHeardLast t before 0) (length before) before (set next h hearing')
  kept_next = each_with (HasHeardLast t before 0) (length before) before next h hearing' h_inside kept_told
      (λ d. heard_still t before before 0 0 (slice_index_or before h d) hearer hearing' (was_hearer d) now_hears.0)

  pub few_next : AreEach (HasToldFew (k + 1)) (length before) before (set next h hearing')
  few_next = each_with (HasToldFew (k + 1)) (length before) before next h hearing' h_inside few_told (λ d.
      let f : length (view_of hearer).told ≤ length (view_of (slice_index_or before h d)).told + (k + 1) =
      subst (HasToldFew (k + 1) (slice_index_or before h d)) (sym (hearer_is d)) (few_told h d inside) in
      let same : length (view_of hearing').told ≡ length (view_of hearer).told = ap (λ (v : View). length v.told) hears in
      omega (arith, f, same))

-- The pass at h heard the notes of all before it. All before h had heard theirs.
module _ (t : Carried) (before ps qs : List Pass) (h : ℕ) (inside : h < length before) (same : length ps ≡ length before)
    (heard : (i : ℕ) (d : Pass) → i < h → HasHeardLast t before i (slice_index_or before i d) (slice_index_or ps i d))
    (kept : AreEach (HasHeardLast t before 0) (length before) before ps)
    (few : AreEach (HasToldFew (32 * h)) (length before) before ps)
    (now_heard : (d : Pass) → HasHeardLast t ps h (slice_index_or ps h d) (slice_index_or qs h d))
    (now_kept : AreEach (HasHeardLast t ps 0) (length ps) ps qs)
    (now_few : AreEach (HasToldFew h) (length ps) ps qs) where
  pub all_heard : (i : ℕ) (d : Pass) → i < h + 1 → HasHeardLast t before i (slice_index_or before i d) (slice_index_or qs i d)
  all_heard i d below = elim (cases_eq i h) [
    | inl this ↦ subst (λ (j : ℕ). HasHeardLast t before j (slice_index_or before j d) (slice_index_or qs j d)) (sym this)
        (heard_now t before ps h (slice_index_or before h d) (slice_index_or ps h d) (slice_index_or qs h d) (kept h d inside) (now_heard d)
        (λ j e low. (kept j e (omega (arith, low, inside))).told))
    | inr other ↦ heard_still t before ps i 0 (slice_index_or before i d) (slice_index_or ps i d) (slice_index_or qs i d) (heard i d (omega (arith, below, other)))
        (now_kept i d (omega (arith, below, inside, same)))
  ]

  pub all_kept : AreEach (HasHeardLast t before 0) (length before) before qs
  all_kept i d below = heard_still t before ps 0 0 (slice_index_or before i d) (slice_index_or ps i d) (slice_index_or qs i d) (kept i d below) (now_kept i d (omega (arith, below, same)))

  pub all_few : h < 32 → AreEach (HasToldFew (32 * (h + 1))) (length before) before qs
  all_few low i d below =
      let a : length (view_of (slice_index_or ps i d)).told ≤ length (view_of (slice_index_or before i d)).told + 32 * h = few i d below in
      let b : length (view_of (slice_index_or qs i d)).told ≤ length (view_of (slice_index_or ps i d)).told + h = now_few i d (omega (arith, below, same)) in
      omega (arith, a, b, low)

-- what a pass is still: of its client, with nothing to fill
pub own_still : (t : Carried) (before ps : List Pass) → length ps ≡ length before → ((i : ℕ) (d : Pass) → i < length before → IsOwnOf t i (slice_index_or before i d))
    → AreEach (HasHeardLast t before 0) (length before) before ps → (i : ℕ) (d : Pass) → i < length ps → IsOwnOf t i (slice_index_or ps i d)
own_still t before ps same own kept i d below =
    let k = kept i d (omega (arith, below, same)) in (k.own, k.client_is ∙ (own i d (omega (arith, below, same))).1)
