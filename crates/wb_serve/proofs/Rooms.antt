-- Room for an entry, which turns make, and ids for its segment.
use Rattle.std.proofs.Common.{ℕ, ◌≡◌, ◌+◌, ◌-◌, ◌*◌, ◌/◌, ◌<◌, ◌≤◌, ◌^◌, [], Some, None, Result, Ok, Err, inl, inr, refl, ap, sym, ◌∙◌, subst, arith}
use Rattle.std.proofs.Math.Nat.{mul_comm, mul-add, mul-div_cancel_left}
use Rattle.std.proofs.lemmas.Bool.{cases_lt}
use Rattle.std.proofs.lemmas.Nat.{mul-le, le-div}
use Rattle.wb_geometry.specs.Layout.{places, segment_of}
use Rattle.wb_geometry.specs.Device.{State}
use Rattle.wb_geometry.specs.declared.geometry.Geometry.{Geometry}
use Rattle.wb_geometry.specs.declared.which.Which.{Which}
use Rattle.wb_geometry.proofs.Geometries.{places_few}
use Rattle.wb_crash.specs.declared.numbers.Numbers.{Numbers}
use Rattle.wb_engine.specs.Content.{EngineContent, IsEngine, limit_of}
use Rattle.wb_engine.proofs.Batches.{batch_ends}
use Rattle.wb_engine.specs.Stepping.{MayBack, LogsNext, SyncsLog, WritesBack, PutsRecord, Moves, IsTurn, Says}
use Rattle.wb_engine.specs.declared.turning.Turn.{Turn}
use Rattle.wb_engine.specs.declared.turning.Turn.TheVariants as turn
use Rattle.wb_engine.proofs.Drained.{turn_causes, down_by}
use Rattle.wb_serve.specs.Playing.{HasMoved, HasRoom, AreSpent}
use Rattle.wb_serve.proofs.Moves.{moved_none, moved_then, moved_turn}

-- ---- the order of the numbers

-- what is recorded is written back, what is that is stable, and what is stable is logged
abbrev pub InOrder : Numbers → Type 0
InOrder e = (e.first ≤ e.recorded) × (e.recorded ≤ e.back) × (e.back ≤ e.stable) × (e.stable ≤ e.logged)

module _ {L B T : Type 0} {of_log : L → State} {of_backing : B → State} where
  logs_order : (old new : EngineContent L B) (r : Result T Which) → InOrder old.numbers → LogsNext of_log of_backing old new r → InOrder new.numbers
  logs_order old new (Ok x) order does = subst InOrder (sym does.ok.0) (order.0, order.1, order.2, omega (arith, order.3))
  logs_order old new (Err which) order does = subst InOrder (sym does.failed.1) order

  syncs_order : (old new : EngineContent L B) (r : Result T Which) → InOrder old.numbers → SyncsLog of_log of_backing old new r → InOrder new.numbers
  syncs_order old new (Ok x) order does = subst InOrder (sym does.ok.0) (order.0, order.1, omega (arith, order.2, order.3), omega arith)
  syncs_order old new (Err which) order does = subst InOrder (sym does.failed.1) order

  backs_order : (old new : EngineContent L B) (r : Result T Which) → InOrder old.numbers → MayBack old.numbers
      → WritesBack of_log of_backing old new r → InOrder new.numbers
  backs_order old new (Ok x) order may does =
      let ends = batch_ends old.numbers may in
      subst InOrder (sym does.ok.0) (order.0, omega (arith, order.1, ends.0), ends.1, order.3)
  backs_order old new (Err which) order may does = subst InOrder (sym does.failed.0) order

  records_order : (old new : EngineContent L B) (r : Result T Which) → InOrder old.numbers → PutsRecord of_log of_backing old new r → InOrder new.numbers
  records_order old new (Ok x) order does = subst InOrder (sym does.ok.0) (omega (arith, order.0, order.1), omega arith, order.2, order.3)
  records_order old new (Err which) order does = subst InOrder (sym does.failed.1) order

not_less : (a b : ℕ) → (a < b → ⊥) → b ≤ a
not_less a b not = elim (cases_lt a b) [
  | inl less ↦ absurd (not less)
  | inr more ↦ more
]

-- where there is no room all segments in memory are full, behind those that are stable
pub all_full : (g : Geometry) (e : Numbers) (absorbed : ℕ) → e.stable ≤ e.logged → limit_of g e ≤ absorbed → places g * (e.stable - e.first) + places g * g.ram ≤ absorbed
all_full g e absorbed order full =
    let low : places g * (e.stable - e.first + g.ram) ≤ places g * (e.logged - e.first + g.ram) =
    mul-le (places g) (e.stable - e.first + g.ram) (places g) (e.logged - e.first + g.ram) (omega arith) (omega (arith, order)) in
    omega (arith, low, full, mul-add (places g) (e.stable - e.first) g.ram)

module _ {L B : Type 0} {of_log : L → State} {of_backing : B → State} where
  turn_order : (old new : EngineContent L B) (r : Result Turn Which) → InOrder old.numbers → IsTurn of_log of_backing old new r → InOrder new.numbers
  turn_order old new r order (inl did) = logs_order old new r order did.1
  turn_order old new r order (inr (inl did)) = syncs_order old new r order did.2
  turn_order old new r order (inr (inr (inl did))) = backs_order old new r order did.2 did.3
  turn_order old new r order (inr (inr (inr (inl did)))) = records_order old new r order did.4
  turn_order old new r order (inr (inr (inr (inr did)))) = subst (λ (e : EngineContent L B). InOrder e.numbers) (sym did.5) order

  -- while a sealed segment waits to be logged no turn is idle: where no slot is free for it, the log can be synced, or a
  -- segment be written back or recorded
  pub busy : (old new : EngineContent L B) (r : Result Turn Which) → old.numbers.logged < old.numbers.sealed
      → IsTurn of_log of_backing old new r → r ≡ Ok turn.Idle → ⊥
  busy old new r waits (inl did) is = let says : turn.Idle ≡ turn.Logged = subst (Says turn.Logged) is did.2 in cc
  busy old new r waits (inr (inl did)) is = let says : turn.Idle ≡ turn.Synced = subst (Says turn.Synced) is did.3 in cc
  busy old new r waits (inr (inr (inl did))) is = let says : turn.Idle ≡ turn.Backed = subst (Says turn.Backed) is did.4 in cc
  busy old new r waits (inr (inr (inr (inl did)))) is = let says : turn.Idle ≡ turn.Recorded = subst (Says turn.Recorded) is did.5 in cc
  busy old new r waits (inr (inr (inr (inr did)))) is =
      let e : Numbers = old.numbers in
      did.0 (waits, omega (arith, not_less e.stable e.logged did.1, not_less e.back e.stable did.2, not_less e.recorded e.back did.3, old.geometry.slots_fit.0))

  -- a turn that failed has logged no segment
  none_logged : (old new : EngineContent L B) (r : Result Turn Which) (which : Which) → r ≡ Err which
      → IsTurn of_log of_backing old new r → new.numbers.logged ≡ old.numbers.logged
  none_logged old new (Ok x) which is did = absurd (cc)
  none_logged old new (Err other) which is (inl did) = ap (λ (n : Numbers). n.logged) did.1.failed.1
  none_logged old new (Err other) which is (inr (inl did)) = ap (λ (n : Numbers). n.logged) did.2.failed.1
  none_logged old new (Err other) which is (inr (inr (inl did))) = ap (λ (n : Numbers). n.logged) did.3.failed.0
  none_logged old new (Err other) which is (inr (inr (inr (inl did)))) = ap (λ (n : Numbers). n.logged) did.4.failed.1
  none_logged old new (Err other) which is (inr (inr (inr (inr did)))) = let idle : Err other ≡ Ok turn.Idle = did.4 in absurd (cc)
  -- ---- no room

module _ {L B : Type 0} where
  -- a sealed segment waits to be logged
  pub full_waits : (e : EngineContent L B) → InOrder e.numbers → e.numbers.sealed ≡ e.numbers.first + e.absorbed / places e.geometry → limit_of e.geometry e.numbers ≤ e.absorbed
      → e.numbers.logged < e.numbers.sealed
  full_waits e order sealed full =
      let n : ℕ = places e.geometry in
      let k : ℕ = e.numbers.logged - e.numbers.first + e.geometry.ram in
      let segments : k ≤ e.absorbed / n = le-div k e.absorbed n (omega (arith, (places_few e.geometry).0)) (subst (λ (a : ℕ). a ≤ e.absorbed) (mul_comm n k) full) in
      omega (arith, sealed, segments, order.0, order.1, order.2, order.3, e.geometry.ram_fits.0)

-- ---- turns that make room

-- some were made from the one to the other, where the segments whose places are taken are sealed
pub record MakesRoom {L B : Type 0} (of_log : L → State) (of_backing : B → State) (old new : EngineContent L B) : Type 0 where
  pub moved : HasMoved of_log of_backing old new [] 0 0
  pub sealed : new.numbers.sealed ≡ new.numbers.first + new.absorbed / places new.geometry
  pub order : InOrder new.numbers
  -- where there was room none was made
  pub kept : HasRoom old → new ≡ old

module _ {L B : Type 0} {of_log : L → State} {of_backing : B → State} where
  pub room_none : (e : EngineContent L B) → IsEngine of_log of_backing e → MakesRoom of_log of_backing e e
  room_none e engine = record {
    moved = moved_none e;
    sealed = engine.filled.sealed;
    order = (engine.ordered.start, engine.ordered.recorded, engine.ordered.back, engine.ordered.stable);
    kept = λ room. refl;
  }

  pub room_more : (old mid new : EngineContent L B) (r : Result Turn Which) → MakesRoom of_log of_backing old mid → mid.down ≡ None → limit_of mid.geometry mid.numbers ≤ mid.absorbed
      → Moves of_log of_backing mid new
      → IsTurn of_log of_backing mid new r → MakesRoom of_log of_backing old new
  room_more old mid new r so_far up full moves did =
      let causes = turn_causes of_log of_backing mid new r up did in
      let same : mid.numbers.first + mid.absorbed / places mid.geometry ≡ new.numbers.first + new.absorbed / places new.geometry = cc (moves.first, moves.absorbed, moves.geometry) in
      record {
        moved = moved_then so_far.moved (moved_turn up moves causes.log_cause causes.backing_cause);
        sealed = moves.sealed ∙ so_far.sealed ∙ same;
        order = turn_order mid new r so_far.order did;
        kept = λ room. absurd (let still : HasRoom mid = subst HasRoom (sym (so_far.kept room)) room in omega (arith, still, full));
      }

  -- the device that failed in the last of them is the one by which the engine is down, and there is no room still
  pub room_failed : (mid new : EngineContent L B) (r : Result Turn Which) (device : Which) → r ≡ Err device
      → Moves of_log of_backing mid new
      → IsTurn of_log of_backing mid new r → InOrder mid.numbers → limit_of mid.geometry mid.numbers ≤ mid.absorbed
      → (new.down ≡ Some device) × (limit_of new.geometry new.numbers ≤ new.absorbed) × (new.numbers.stable ≤ new.numbers.logged)
  room_failed mid new r device failed moves did order full =
      let logged = none_logged mid new r device failed did in
      let limit : limit_of new.geometry new.numbers ≡ limit_of mid.geometry mid.numbers = cc (logged, moves.first, moves.geometry) in (
        down_by mid new r device failed did,
        omega (arith, limit, full, moves.absorbed),
        (turn_order mid new r order did).3,
      )

  -- ---- ids

  -- where no entry came as many are left as before
  pub left_still : {e f : EngineContent L B} → HasMoved of_log of_backing e f [] 0 0 → (AreSpent e → ⊥) → AreSpent f → ⊥
  left_still {e} {f} moved left spent =
      let P : Geometry × ℕ → Type 0 = λ t. f.absorbed ≡ places t.0 * (2 ^ 48 - t.1) in
      let same : (f.geometry, f.numbers.first) ≡ (e.geometry, e.numbers.first) = cc (moved.kept.geometry, moved.kept.first) in
      let was : P (f.geometry, f.numbers.first) = spent in
      let still : e.absorbed ≡ f.absorbed = omega (arith, moved.absorbed) in
      left (still ∙ subst P same was)

  -- the numbers that name a segment are small
  pub place_small : (e : EngineContent L B) → IsEngine of_log of_backing e → e.absorbed ≤ 2 ^ 55
  place_small e engine =
      let n : ℕ = places e.geometry in
      let few : n ≤ 127 = (places_few e.geometry).1 in
      let top : n * (2 ^ 48 - e.numbers.first) ≤ 127 * 2 ^ 48 = mul-le n (2 ^ 48 - e.numbers.first) 127 (2 ^ 48) few (omega arith) in
      omega (arith, top, engine.filled.ids)

module _ {L B : Type 0} where
  -- where an id is left for the next place, not all are spent
  pub some_left : (e : EngineContent L B) → segment_of e.geometry e.absorbed e.numbers.first ≤ 2 ^ 48 → AreSpent e → ⊥
  some_left e below spent =
      let n : ℕ = places e.geometry in
      let segments : e.absorbed / n ≡ 2 ^ 48 - e.numbers.first =
      ap (λ (a : ℕ). a / n) spent ∙ mul-div_cancel_left (2 ^ 48 - e.numbers.first) (omega (arith, (places_few e.geometry).0)) in
      omega (arith, segments, below)
