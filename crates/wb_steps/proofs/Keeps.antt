-- Each allowed step keeps the rule.
use Rattle.std.proofs.Common.{◌≡◌, ◌≢◌, ◌⊎◌, ℕ, zero, suc, ◌+◌, ◌%◌, ◌<◌, List, [], ◌∷◌, ◌++◌, length, get_or, set, Bool, cond, sym, ap, refl, ◌∙◌, subst, inl, inr, arith}
use Rattle.std.specs.List.{Contains}
use Rattle.std.specs.Prelude.{Option, Some, None}
use Rattle.std.proofs.lemmas.Bool.{cases_eq, eq-eqb, ne_eqb}
use Rattle.std.proofs.lemmas.List.{set-get_or}
use mathlib.Core.Option.{some, none, some-injective, some-ne-none}
use mathlib.Core.Option as maybe
use lib.ListN.{get_elem?}
use Rattle.atomic_table.proofs.Lists.{set_again, set_else}
use Rattle.wb_geometry.specs.Entering.{entered}
use Rattle.wb_geometry.specs.History.{HistoryEntry, Write, Void, client_of}
use Rattle.wb_steps.specs.Views.{naming, filling, taking, copy, hearing}
use Rattle.wb_steps.specs.Rule.{Intake, Home, cells, cell_word, InPhase, Truth, Drains, Fits, IsLawful}
use Rattle.wb_steps.specs.Steps.{Allows, IsWriteOf, word_of, seeing, Effect, knows, take_out, split, join, stepped, Answers, Leads}
use Rattle.wb_steps.specs.declared.shape.Shape.{Shape}
use Rattle.wb_steps.specs.declared.view.View.{View}
use Rattle.wb_steps.specs.declared.view.Role.{Role}
use Rattle.wb_steps.specs.declared.view.Role.TheVariants.{Owner, Copy, Drain, Spent}
use Rattle.wb_steps.specs.declared.steps.Step.{Step}
use Rattle.wb_steps.specs.declared.steps.Reply.{Reply}
use Rattle.wb_steps.specs.declared.steps.Reply.TheVariants.{Found, NotAllowed}
use Rattle.wb_steps.specs.declared.steps.Kind.{Kind}
use Rattle.wb_steps.specs.declared.steps.Kind.TheVariants as kind
use Rattle.wb_geometry.specs.declared.entry.Entry.{Entry}
use Rattle.wb_steps.proofs.Appends.{claimed_law, bumped_law}
use Rattle.wb_steps.proofs.Fills.{filled_law}
use Rattle.wb_steps.proofs.Takes.{filled_next, taken_law, given_law}
use Rattle.wb_steps.proofs.Numbers.{cursor_seen, limit_seen, stable_seen, fault_seen, raised_law, stable_law, fault_law}
use Rattle.wb_steps.proofs.Copies.{shown_law, told_law, heard_law, roles_apart}
use Rattle.wb_steps.proofs.Bounds.{named_one}
use Rattle.wb_steps.proofs.Cells.{at_one}

client_of_write : (c : ℕ) (e : HistoryEntry) → IsWriteOf c e → client_of e ≡ c
client_of_write c (Write client block bits payload) h = h
client_of_write c (Void client) h = absurd h

-- a seat whose view stays is no change
module _ (k : Shape) (s : Intake) (law : IsLawful k s) (id : ℕ) (v : View) (at : get_elem? s.views id ≡ some v) where
  same_law : IsLawful k record { words = s.words; homes = s.homes; views = set s.views id v }
  same_law = subst (λ (vs : List View). IsLawful k record { words = s.words; homes = s.homes; views = vs }) (sym (set_again s.views id v at)) law

  abbrev State : Effect → Intake
  State e = record { words = e.words; homes = e.homes; views = set s.views id e.view }

  claim_keeps : (c : ℕ) (entry : Entry) → Allows k s v (kind.Claim c entry) → IsLawful k (stepped k s id v (get_or s.words 0 0) (kind.Claim c entry))
  claim_keeps c entry a = elim (cases_eq (get_or s.words 0 0) c) [
    | inl won ↦ subst (λ (b : Bool). IsLawful k (State (cond b (knows (set s.words 0 (c + 1)) s.homes (naming v c (entered entry ∷ []) (c + 1))) (knows s.words s.homes (seeing v 0 (get_or s.words 0 0)))))) (sym (eq-eqb (get_or s.words 0 0) c won))
        (claimed_law k s law id v (entered entry) c at a.0 a.1 (client_of_write v.client (entered entry) a.3) won a.2 a.4)
    | inr lost ↦ subst (λ (b : Bool). IsLawful k (State (cond b (knows (set s.words 0 (c + 1)) s.homes (naming v c (entered entry ∷ []) (c + 1))) (knows s.words s.homes (seeing v 0 (get_or s.words 0 0)))))) (sym (ne_eqb (get_or s.words 0 0) c lost))
        (cursor_seen k s law id v at (λ e. roles_apart Owner Spent (λ n. omega arith) (sym a.0 ∙ e)) (get_or s.words 0 0) refl).2
  ]

  fill_keeps : (p : ℕ) → v.role ≡ Owner → Contains v.unfilled p → IsLawful k (stepped k s id v (get_or s.words (cell_word k p) 0) (kind.Fill p))
  fill_keeps p role has = let e = named_one k s law id v p at role has in
      subst (λ (x : Option HistoryEntry). IsLawful k record { words = set s.words (cell_word k p) (p + 1); homes = set s.homes (p % cells k) (some x); views = set s.views id (filling v p) }) (sym e.3)
      (filled_law k s law id v p e.1 e.0 at role has e.2)

  look_keeps : (word : ℕ) → v.role ≢ Spent → word < 4 → IsLawful k (stepped k s id v (get_or s.words word 0) (kind.Look word))
  look_keeps zero live few = (cursor_seen k s law id v at live (get_or s.words 0 0) refl).2
  look_keeps (suc zero) live few = (limit_seen k s law id v at live (get_or s.words 1 0) refl).2
  look_keeps (suc (suc zero)) live few = (stable_seen k s law id v at live (get_or s.words 2 0) refl).1
  look_keeps (suc (suc (suc zero))) live few = (fault_seen k s law id v at live (get_or s.words 3 0) refl).1
  look_keeps (suc (suc (suc (suc word)))) live few = absurd (omega arith)

  abbrev next : ℕ
  next = length v.known

  -- the cell of the next place is out with the drain, where the drain holds it
  out_with_it : (p : ℕ) → v.role ≡ Drain → v.held ≡ Some p → get_elem? s.homes (next % cells k) ≡ some none
  out_with_it p role held =
      let t : Truth = law.truth in
      let o : Drains t id v = subst (Fits t id v) role (law.each_view id v at) in
      let h = o.holds p held in
      let d : next ≡ length t.drained = ap length o.known in
      let c = subst (InPhase t.log t.drained (get_or s.words (cell_word k next) 0) (get_elem? s.homes (next % cells k)) next) (ap t.phase (d ∙ sym h.0) ∙ h.1) (law.sound.each_cell next (omega (arith, d)) (omega (arith, d, law.sound.some_cell))) in c.3

  abbrev Finds : maybe.Option Home → Type 0
  Finds h = IsLawful k (State (take_out s.words s.homes (next % cells k) v h))

  out_keeps : v.role ≡ Drain → get_or s.words (cell_word k next) 0 ≡ next + 1 → (held : Option ℕ) → v.held ≡ held → Finds (get_elem? s.homes (next % cells k))
  out_keeps role says None bare = let f = filled_next k s law id v at role bare says in
      subst Finds (sym f.2.2) (subst (λ (w : List ℕ). IsLawful k record { words = w; homes = set s.homes (next % cells k) none; views = set s.views id (taking v f.2.0) }) (set-get_or s.words (cell_word k next) 0)
      (taken_law k s law id v f.2.0 at role bare says f.2.2))
  out_keeps role says (Some p) held = subst Finds (sym (out_with_it p role held)) same_law

  take_keeps : v.role ≡ Drain → IsLawful k (stepped k s id v (get_or s.words (cell_word k next) 0) kind.Take)
  take_keeps role = elim (cases_eq (get_or s.words (cell_word k next) 0) (next + 1)) [
    | inl says ↦ subst (λ (b : Bool). IsLawful k (State (cond b (take_out s.words s.homes (next % cells k) v (get_elem? s.homes (next % cells k))) (knows s.words s.homes v)))) (sym (eq-eqb (get_or s.words (cell_word k next) 0) (next + 1) says))
        (out_keeps role says v.held refl)
    | inr waits ↦ subst (λ (b : Bool). IsLawful k (State (cond b (take_out s.words s.homes (next % cells k) v (get_elem? s.homes (next % cells k))) (knows s.words s.homes v)))) (sym (ne_eqb (get_or s.words (cell_word k next) 0) (next + 1) waits)) same_law
  ]

  live_drain : (v.role ≡ Owner) ⊎ (v.role ≡ Drain) → v.role ≢ Spent
  live_drain (inl o) e = roles_apart Owner Spent (λ n. omega arith) (sym o ∙ e)
  live_drain (inr d) e = roles_apart Drain Spent (λ n. omega arith) (sym d ∙ e)

  split_keeps : (role : Role) → v.role ≡ role → v.role ≢ Spent → IsLawful k record { words = s.words; homes = s.homes; views = split s.views id v role }
  split_keeps Owner is live = told_law k s law id v at is
  split_keeps Copy is live = subst (λ (vs : List View). IsLawful k record { words = s.words; homes = s.homes; views = vs ++ copy v [] ∷ [] }) (set_again s.views id v at) (shown_law k s law id v at live)
  split_keeps Drain is live = subst (λ (vs : List View). IsLawful k record { words = s.words; homes = s.homes; views = vs ++ copy v [] ∷ [] }) (set_again s.views id v at) (shown_law k s law id v at live)
  split_keeps Spent is live = absurd (live is)

  apart : (other : ℕ) (w : View) → (v.role ≡ Owner) ⊎ (v.role ≡ Drain) → get_elem? s.views other ≡ some w → w.role ≡ Copy → other ≢ id
  apart other w (inl o) there copies e = roles_apart Owner Copy (λ n. omega arith) (sym o ∙ ap (λ (x : View). x.role) (at_one s.views id v w at (ap (get_elem? s.views) (sym e) ∙ there)) ∙ copies)
  apart other w (inr d) there copies e = roles_apart Drain Copy (λ n. omega arith) (sym d ∙ ap (λ (x : View). x.role) (at_one s.views id v w at (ap (get_elem? s.views) (sym e) ∙ there)) ∙ copies)

  join_keeps : (other : ℕ) → Allows k s v (kind.Join other) → IsLawful k record { words = s.words; homes = s.homes; views = join s.views id v other (get_elem? s.views other) }
  join_keeps other a = let w : View = a.1.0 in let n = apart other w a.0 a.1.1 a.1.2 in
      subst (λ (x : maybe.Option View). IsLawful k record { words = s.words; homes = s.homes; views = join s.views id v other x }) (sym a.1.1)
      (heard_law k s law id v other w at a.0 (set_else s.views id other (hearing v w) n ∙ a.1.1) n a.1.2)

  -- an allowed step keeps the rule
  pub step_keeps : (what : Kind) → Allows k s v what → IsLawful k (stepped k s id v (get_or s.words (word_of k v what) 0) what)
  step_keeps (kind.Claim expected entry) a = claim_keeps expected entry a
  step_keeps (kind.Bump to) a = bumped_law k s law id v to (get_or s.words 0 0) at a.0 a.1 refl a.2.0 a.2.2
  step_keeps (kind.Fill place) a = fill_keeps place a.0 a.1
  step_keeps (kind.Look word) a = look_keeps word a.0 a.1
  step_keeps kind.Take a = take_keeps a
  step_keeps kind.GiveBack a = given_law k s law id v at a.0 a.1
  step_keeps (kind.Raise limit) a = raised_law k s law id v limit at a.0 a.1 a.2 a.3
  step_keeps (kind.Stable stable) a = stable_law k s law id v stable at a.0 a.1 a.2 a.3
  step_keeps (kind.Fault fault) a = fault_law k s law id v fault at a.0 a.1
  step_keeps kind.Split a = split_keeps v.role refl (live_drain a.0)
  step_keeps (kind.Join other) a = join_keeps other a

-- what a step answers, it leaves a state that keeps the rule
answer_keeps : (k : Shape) (s : Intake) (law : IsLawful k s) (step : Step) (reply : Reply) (after : Intake) → Answers k s step reply after → IsLawful k after
answer_keeps k s law step (Found found) after a = subst (IsLawful k) (sym (a.after_is ∙ ap (λ (r : ℕ). stepped k s step.seat a.view r step.kind) a.found_is)) (step_keeps k s law step.seat a.view a.seat step.kind a.allowed)
answer_keeps k s law step NotAllowed after a = subst (IsLawful k) (sym a.1) law

-- each list of steps keeps the rule
pub list_keeps : (k : Shape) (steps : List Step) (s after : Intake) → IsLawful k s → Leads k s steps after → IsLawful k after
list_keeps k [] s after law leads = subst (IsLawful k) (sym leads) law
list_keeps k (step ∷ steps) s after law leads = list_keeps k steps leads.1 after (answer_keeps k s law step leads.0 leads.1 leads.2) leads.3
