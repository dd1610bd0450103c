-- The entries of a write, one after another.
use Rattle.std.proofs.Common.{ℕ, zero, suc, ◌≡◌, ◌+◌, ◌≤◌, ◌++◌, ◌∷◌, [], List, length, map, get_or, All, refl, ap, sym, ◌∙◌, subst, arith, length-append, append-nil}
use Rattle.std.specs.List.{range_with_len}
use Rattle.std.proofs.lemmas.List.{length-map, map_push, length_push, map-append, get_or_at}
use Rattle.wb_geometry.specs.History.{HistoryEntry}
use Rattle.wb_geometry.specs.Device.{State}
use Rattle.wb_geometry.specs.Entering.{entered}
use Rattle.wb_geometry.specs.declared.entry.Entry.{Entry}
use Rattle.wb_geometry.specs.declared.entry.Entry.TheVariants as entry
use Rattle.wb_geometry.specs.declared.geometry.Geometry.{Geometry}
use Rattle.wb_script.specs.declared.transcript.Stop.{Stop}
use Rattle.wb_script.specs.declared.transcript.Stop.TheVariants.{Whole, Down, Ids}
use Rattle.wb_engine.specs.Content.{EngineContent}
use Rattle.wb_engine.specs.Standing.{Fits}
use Rattle.wb_serve.specs.Playing.{HasMoved, AreSpent, IsStoppedBy, IsStoppedWith, TakesPlaces, IsWriteInside}
use Rattle.wb_serve.proofs.Moves.{moved_then}
use Rattle.wb_serve.proofs.Spent.{still_spent}

-- the entry behind those before it is one of the writes, which fits
pub next_fits : {L B : Type 0} (e f : EngineContent L B) (all before : List Entry) (next : Entry) (more : List Entry) → All (IsWriteInside e.geometry.backing_sectors) (map entered all)
    → before ++ next ∷ more ≡ all → f.geometry ≡ e.geometry → Fits f next
next_fits e f all before next more inside are same =
    let size : length (map entered all) ≡ length before + 1 + length more =
    length-map all entered ∙ ap length (sym are) ∙ length-append before (next ∷ more) ∙ (let sum : length before + length (next ∷ more) ≡ length before + 1 + length more = omega arith in sum) in
    let read : get_or (map entered all) (length before) (entered next) ≡ entered next =
    ap (λ (es : List Entry). get_or (map entered es) (length before) (entered next)) (sym are)
    ∙ ap (λ (es : List HistoryEntry). get_or es (length before) (entered next)) (map-append entered before (next ∷ more))
    ∙ get_or_at (map entered before) (entered next) (map entered more) (entered next) (length before) (length-map before entered) in
    fits next (subst (λ (g : Geometry). IsWriteInside g.backing_sectors (entered next)) (sym same)
    (subst (IsWriteInside e.geometry.backing_sectors) read (inside (length before) (entered next) (omega (arith, size)))))
  where
    fits : (next : Entry) → IsWriteInside f.geometry.backing_sectors (entered next) → Fits f next
    fits (entry.Write client block payload) is = is
    fits (entry.Void client) is = absurd is

-- the rest of the entries is why a write was stopped
stopped_with : {L B : Type 0} (f : EngineContent L B) (rest : List HistoryEntry) (stop : Stop) → 1 ≤ length rest → IsStoppedBy f stop → IsStoppedWith f rest stop
stopped_with f rest Whole some by = absurd by
stopped_with f rest (Down device) some by = (some, by)
stopped_with f rest Ids some by = (some, by)

range-push : (n k : ℕ) → range_with_len n (k + 1) ≡ range_with_len n k ++ (n + k) ∷ []
range-push n zero = ap (λ (m : ℕ). m ∷ []) (let e : n ≡ n + 0 = omega arith in e)
range-push n (suc k) =
    ap (range_with_len n) (let more : suc k + 1 ≡ suc (k + 1) = omega arith in more)
    ∙ ap (λ (ns : List ℕ). n ∷ ns) (range-push (n + 1) k ∙ ap (λ (m : ℕ). range_with_len (n + 1) k ++ m ∷ []) (let e : n + 1 + k ≡ n + suc k = omega arith in e))

-- and its place
pub places_more : (absorbed place : ℕ) (places : List ℕ) (before : List Entry) (next : Entry) → places ≡ range_with_len absorbed (length before) → place ≡ absorbed + length before
    → places ++ place ∷ [] ≡ range_with_len absorbed (length (before ++ next ∷ []))
places_more absorbed place places before next are here =
    ap (λ (ps : List ℕ). ps ++ place ∷ []) are ∙ ap (λ (p : ℕ). range_with_len absorbed (length before) ++ p ∷ []) here ∙ sym (range-push absorbed (length before))
    ∙ ap (range_with_len absorbed) (sym (length_push before next))

module _ {L B : Type 0} {of_log : L → State} {of_backing : B → State} where
  -- one more came
  pub taken_more : {e f g : EngineContent L B} (before : List Entry) (next : Entry) → HasMoved of_log of_backing e f (map entered before) 0 0
      → HasMoved of_log of_backing f g (entered next ∷ []) 0 0 → HasMoved of_log of_backing e g (map entered (before ++ next ∷ [])) 0 0
  taken_more {e} {g = g} before next first second =
      subst (λ (es : List HistoryEntry). HasMoved of_log of_backing e g es 0 0) (sym (map_push entered before next)) (moved_then first second)

  -- where no id was left none came
  pub none_came : {e f : EngineContent L B} {P : Type 0} (before : List Entry) → HasMoved of_log of_backing e f (map entered before) 0 0 → (AreSpent e → map entered before ≡ []) → (AreSpent f → ⊥) → AreSpent e → P
  none_came before moved none left spent = absurd (left (still_spent moved (none spent) spent))

  -- the first of them came, and the next is stopped
  pub taken_stopped : {e f g : EngineContent L B} (all before : List Entry) (next : Entry) (more : List Entry) (places : List ℕ) (stop : Stop) → before ++ next ∷ more ≡ all
      → places ≡ range_with_len e.absorbed (length before) → HasMoved of_log of_backing e f (map entered before) 0 0 → HasMoved of_log of_backing f g [] 0 0
      → (AreSpent e → map entered before ≡ []) → IsStoppedBy g stop → TakesPlaces of_log of_backing e g (map entered all) places stop
  taken_stopped {e} {f} {g} all before next more places stop are at first second none by = record {
    taken = map entered before;
    rest = map entered (next ∷ more);
    all = ap (map entered) (sym are) ∙ map-append entered before (next ∷ more);
    are = at ∙ ap (range_with_len e.absorbed) (sym (length-map before entered));
    moved = subst (λ (es : List HistoryEntry). HasMoved of_log of_backing e g es 0 0) (append-nil (map entered before)) (moved_then first second);
    stopped = stopped_with g (map entered (next ∷ more)) stop (omega arith) by;
    none_left = none;
  }

  -- all came
  pub taken_all : {e f : EngineContent L B} (all before : List Entry) (places : List ℕ) → before ≡ all → places ≡ range_with_len e.absorbed (length before)
      → HasMoved of_log of_backing e f (map entered before) 0 0 → (AreSpent e → map entered before ≡ []) → TakesPlaces of_log of_backing e f (map entered all) places Whole
  taken_all {e} all before places are at moved none = record {
    taken = map entered before;
    rest = [];
    all = ap (map entered) (sym are) ∙ sym (append-nil (map entered before));
    are = at ∙ ap (range_with_len e.absorbed) (sym (length-map before entered));
    moved = moved;
    stopped = refl;
    none_left = none;
  }
