-- What calls on a pass leave, as a client's lines need it.
use Rattle.std.proofs.Common.{ℕ, ◌≡◌, ◌-◌, ◌≤◌, List, [], ◌∷◌, ◌++◌, replicate, ap, sym, ◌∙◌, subst, arith, append-nil}
use Rattle.std.specs.List.{enumerate_from}
use Rattle.std.proofs.lemmas.List.Sums.{fold-append}
use Rattle.wb_geometry.specs.History.{HistoryEntry, Void}
use Rattle.wb_steps.specs.Faults.{IsPartwiseAtMost}
use Rattle.wb_steps.specs.Views.{note_of}
use Rattle.wb_steps.specs.declared.view.View.{View}
use Rattle.wb_intake.specs.Belongs.{Saw}
use Rattle.wb_intake.specs.declared.sight.Load.{Load}
use Rattle.wb_barrier.specs.Tickets.{IsNumbered, HasPosted}
use Rattle.wb_barrier.specs.declared.tickets.Ticket.{Ticket}
use Rattle.wb_script.proofs.Sessions.{voids-enumerate_from}
use Rattle.wb_script.specs.declared.transcript.Ended.{Ended}
use Rattle.wb_client.specs.Played.{last_of}
use Rattle.wb_client.specs.Done.{HasLooked, HasNumbered}
use Rattle.wb_client.proofs.Playing.{at_most_same, more_trans}

pub known_same : (v w : View) → w.known ≡ v.known → (rest : List HistoryEntry) × (w.known ≡ v.known ++ rest)
known_same v w same = ([], same ∙ sym (append-nil v.known))

pub looked_saw : (v w : View) → Saw v w → HasLooked v w
looked_saw v w saw = record {
  more = record { known = known_same v w saw.known; cursor = saw.cursor; limit = saw.limit; stable = saw.stable; fault = saw.fault };
  mine = saw.mine;
  heard = saw.heard;
  told = saw.told;
}

pub looked_then : (u v w : View) → HasLooked u v → HasLooked v w → HasLooked u w
looked_then u v w a b = record { more = more_trans u v w a.more b.more; mine = b.mine ∙ a.mine; heard = b.heard ∙ a.heard; told = b.told ∙ a.told }

-- a flush that was posted, with its ticket
pub numbered_posted : (client : ℕ) (v w : View) (t : Ticket) (places : ℕ) (before now : Load) (ended : Ended) → t.voids ≤ 127 → v.client ≡ client → ended.through ≡ t.number → ended.voids ≡ t.voids
    → IsNumbered places v.seen.cursor before now t → HasPosted v w t → HasNumbered client v w ended
numbered_posted client v w t places before now ended narrow own through voids number posted = record {
  more = record {
    known = known_same v w posted.known;
    cursor = omega (arith, number.after, number.behind, posted.cursor);
    limit = omega (arith, posted.limit);
    stable = omega (arith, posted.stable);
    fault = subst (IsPartwiseAtMost v.seen.fault) (sym posted.fault) (at_most_same v.seen.fault);
  };
  mine =
      posted.mine
      ∙ ap (λ (c : ℕ). v.mine ++ enumerate_from (t.number - t.voids) (replicate t.voids (Void c))) own
      ∙ ap (λ (n : ℕ). v.mine ++ enumerate_from (n - t.voids) (replicate t.voids (Void client))) (sym through)
      ∙ ap (λ (n : ℕ). v.mine ++ enumerate_from (ended.through - n) (replicate n (Void client))) (sym voids)
      ∙ ap (λ (l : List (ℕ × HistoryEntry)). v.mine ++ l) (sym (voids-enumerate_from client ended));
  heard = posted.heard;
  told = posted.told;
  behind = omega (arith, number.after, number.behind, through, voids);
  seen = omega (arith, posted.cursor, through);
  few = omega (arith, narrow, voids);
}

-- and then was waited for
pub numbered_then : (client : ℕ) (v w x : View) (ended : Ended) → HasNumbered client v w ended → HasLooked w x → HasNumbered client v x ended
numbered_then client v w x ended numbered looked = record {
  more = more_trans v w x numbered.more looked.more;
  mine = looked.mine ∙ numbered.mine;
  heard = looked.heard ∙ numbered.heard;
  told = looked.told ∙ numbered.told;
  behind = numbered.behind;
  seen = omega (arith, numbered.seen, looked.more.cursor);
  few = numbered.few;
}

-- the last number of a note is the cursor that its client had seen
pub last_noted : (v : View) → last_of (v.told ++ v.seen.cursor ∷ []) ≤ (note_of v).seen.cursor
last_noted v =
    let last : last_of (v.told ++ v.seen.cursor ∷ []) ≡ v.seen.cursor = fold-append (λ (before : ℕ) (now : ℕ). now) 0 v.told (v.seen.cursor ∷ []) in
    omega (arith, last)
