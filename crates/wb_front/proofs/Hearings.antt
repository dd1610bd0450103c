-- What a pass knows that hears the drain between two looks.
use Rattle.std.proofs.Common.{◌≡◌, ℕ, ◌+◌, ◌-◌, ◌<◌, ◌≤◌, max, List, [], ◌∷◌, ◌++◌, length, get_or, refl, sym, ap, ◌∙◌, subst, arith}
use Rattle.std.specs.List.{All}
use Rattle.std.proofs.lemmas.List.{get_or-append_right, length-append, append-nil}
use Rattle.wb_geometry.specs.History.{HistoryEntry}
use Rattle.wb_steps.specs.Faults.{IsPartwiseAtMost, greater_parts}
use Rattle.wb_steps.specs.Views.{IsPrefix, placed, longer, heard_by, hearing, copy}
use Rattle.wb_steps.specs.declared.view.Faults.{Faults}
use Rattle.wb_steps.specs.declared.view.View.{View}
use Rattle.wb_steps.specs.declared.view.Role.{Role}
use Rattle.wb_steps.specs.declared.view.Role.TheVariants.{Owner, Copy, Drain, Spent}
use Rattle.wb_steps.proofs.Lists.{longer_other}
use Rattle.wb_intake.specs.Belongs.{Saw}
use Rattle.wb_intake.specs.Sights.{IsLegal}
use Rattle.wb_front.specs.Moving.{HasRead}

heard_nothing : (r : Role) (heard : List (ℕ × List ℕ)) → heard_by r heard [] ≡ heard
heard_nothing Owner heard = append-nil heard
heard_nothing Copy heard = refl
heard_nothing Drain heard = refl
heard_nothing Spent heard = refl

-- what stands below c and not below d, where c is no more than d, is none
none_later : (front later : List (ℕ × HistoryEntry)) (c d : ℕ) → c ≤ d → All (λ m. m.0 < c) (front ++ later) → All (λ m. d ≤ m.0) later → later ≡ []
none_later front [] c d low below above = refl
none_later front (m ∷ later) c d low below above =
    let long : length (front ++ m ∷ later) ≡ length front + length (m ∷ later) = length-append front (m ∷ later) in
    let one : m.0 < c = subst (λ (x : ℕ × HistoryEntry). x.0 < c) (get_or-append_right front (m ∷ later) (length front) (length front) m refl (omega arith) ∙ ap (λ (k : ℕ). get_or (m ∷ later) k m) (let g : length front - length front ≡ 0 = omega arith in g)) (below (length front) m (omega (arith, long))) in
    let other : d ≤ m.0 = above 0 m (omega arith) in absurd (omega (arith, one, other, low))

atmost_then : (a b c : Faults) → IsPartwiseAtMost a b → IsPartwiseAtMost b c → IsPartwiseAtMost a c
atmost_then a b c p q = record {
  log_down = omega (arith, p.log_down, q.log_down);
  backing_down = omega (arith, p.backing_down, q.backing_down);
  log_reads = omega (arith, p.log_reads, q.log_reads);
  backing_reads = omega (arith, p.backing_reads, q.backing_reads);
}

left_atmost : (a b : Faults) → IsPartwiseAtMost a (greater_parts a b)
left_atmost a b = record { log_down = omega arith; backing_down = omega arith; log_reads = omega arith; backing_reads = omega arith }

right_atmost : (a b : Faults) → IsPartwiseAtMost b (greater_parts a b)
right_atmost a b = record { log_down = omega arith; backing_down = omega arith; log_reads = omega arith; backing_reads = omega arith }

module _ (v v1 v2 w d : View) (first : Saw v v1) (heard : v2 ≡ hearing v1 (copy d [])) (second : Saw v2 w) where
  -- it has seen what the drain had seen of these
  pub shown_stable : d.seen.stable ≤ w.seen.stable
  shown_stable = let e : v2.seen.stable ≡ max v1.seen.stable d.seen.stable = ap (λ (x : View). x.seen.stable) heard in omega (arith, e, second.stable)

  pub shown_fault : IsPartwiseAtMost d.seen.fault w.seen.fault
  shown_fault = atmost_then d.seen.fault (greater_parts v1.seen.fault d.seen.fault) w.seen.fault (right_atmost v1.seen.fault d.seen.fault)
      (subst (λ (f : Faults). IsPartwiseAtMost f w.seen.fault) (ap (λ (x : View). x.seen.fault) heard) second.fault)

  pub shown : IsPrefix v.known d.known → v.seen.cursor ≤ length d.known → All (λ m. m.0 < v.seen.cursor) v1.mine → IsLegal w → length w.known ≤ w.seen.cursor → HasRead v w d.known
  shown front drained below legal few =
      let known : w.known ≡ d.known = second.known ∙ ap (λ (x : View). x.known) heard ∙ ap (λ (k : List HistoryEntry). longer k d.known) first.known ∙ longer_other v.known d.known front in
      let mine : w.mine ≡ v1.mine = second.mine ∙ ap (λ (x : View). x.mine) heard in
      let placed' : List (ℕ × HistoryEntry) = placed w.client 0 w.known in
      let all : All (λ m. m.0 < v.seen.cursor) (placed' ++ legal.0) = subst (λ (ms : List (ℕ × HistoryEntry)). All (λ m. m.0 < v.seen.cursor) ms) (sym mine ∙ legal.1) below in
      let none : legal.0 ≡ [] = none_later placed' legal.0 v.seen.cursor (length w.known) (omega (arith, drained, ap length known)) all legal.2 in
      let cursor : v2.seen.cursor ≡ max v1.seen.cursor d.seen.cursor = ap (λ (x : View). x.seen.cursor) heard in
      let limit : v2.seen.limit ≡ max v1.seen.limit d.seen.limit = ap (λ (x : View). x.seen.limit) heard in
      let stable : v2.seen.stable ≡ max v1.seen.stable d.seen.stable = ap (λ (x : View). x.seen.stable) heard in record {
        role = second.role ∙ ap (λ (x : View). x.role) heard ∙ first.role;
        client = second.client ∙ ap (λ (x : View). x.client) heard ∙ first.client;
        known = known;
        more = subst (IsPrefix v.known) (sym known) front;
        few = few;
        mine = mine ∙ first.mine;
        stands = legal.1 ∙ ap (λ (l : List (ℕ × HistoryEntry)). placed' ++ l) none ∙ append-nil placed';
        unfilled = second.unfilled ∙ ap (λ (x : View). x.unfilled) heard ∙ first.unfilled;
        held = second.held ∙ ap (λ (x : View). x.held) heard ∙ first.held;
        told = second.told ∙ ap (λ (x : View). x.told) heard ∙ first.told;
        heard = second.heard ∙ ap (λ (x : View). x.heard) heard ∙ heard_nothing v1.role v1.heard ∙ first.heard;
        cursor = omega (arith, first.cursor, cursor, second.cursor);
        limit = omega (arith, first.limit, limit, second.limit);
        stable = omega (arith, first.stable, stable, second.stable);
        fault = atmost_then v.seen.fault v1.seen.fault w.seen.fault first.fault
            (atmost_then v1.seen.fault (greater_parts v1.seen.fault d.seen.fault) w.seen.fault (left_atmost v1.seen.fault d.seen.fault)
            (subst (λ (f : Faults). IsPartwiseAtMost f w.seen.fault) (ap (λ (x : View). x.seen.fault) heard) second.fault));
      }
