-- The open segment is filled with places that change nothing.
use Rattle.std.proofs.Common.{ℕ, suc, ◌≡◌, ◌+◌, ◌-◌, ◌*◌, ◌/◌, ◌%◌, ◌<◌, ◌≤◌, ◌^◌, List, [], ◌∷◌, ◌++◌, replicate, inl, inr, refl, ap, sym, ◌∙◌, subst, arith, append-nil, append_assoc}
use Rattle.std.proofs.Math.Nat.{mul-suc, mul-le-mul_left, div-add-mod, mod_self, mod-eq_of_lt, div-eq_of_lt, add-mul-mod_self_left, add-mul-div_left}
use Rattle.std.proofs.lemmas.Bool.{cases_lt}
use Rattle.std.proofs.lemmas.List.{replicate-append-replicate}
use Rattle.wb_geometry.specs.Image.{Image}
use Rattle.wb_geometry.specs.Device.{State}
use Rattle.wb_geometry.specs.History.{HistoryEntry, Void}
use Rattle.wb_geometry.specs.Layout.{places}
use Rattle.wb_geometry.specs.declared.entry.Entry.TheVariants as entry
use Rattle.wb_geometry.specs.declared.geometry.Geometry.{Geometry}
use Rattle.wb_crash.specs.declared.numbers.Numbers.{Numbers}
use Rattle.wb_engine.specs.Content.{EngineContent, IsEngine, limit_of}
use Rattle.wb_engine.specs.Standing.{Standing, IsSynced, IsOffDevices, MayCome, numbers_at}
use Rattle.wb_engine.specs.Closing.{last_id}

replicate_more : (client count : ℕ) → replicate count (Void client) ++ Void client ∷ [] ≡ replicate (count + 1) (Void client)
replicate_more client count = replicate-append-replicate count 1 (Void client)

-- ---- places of a segment

-- where a place isn't the first of its segment, the others up to the last are in it too
more_is : (n a k : ℕ) → a + k ≡ a % n + k + n * (a / n)
more_is n a k = omega (arith, div-add-mod a n)

pub within_rest : (n a k : ℕ) → a % n + k < n → (a + k) % n ≡ a % n + k
within_rest n a k less = ap (λ (m : ℕ). m % n) (more_is n a k) ∙ add-mul-mod_self_left (a % n + k) n (a / n) ∙ mod-eq_of_lt less

pub within_count : (n a k : ℕ) → a % n + k < n → (a + k) / n ≡ a / n
within_count n a k less =
    let pos : 0 < n = omega arith in
    ap (λ (m : ℕ). m / n) (more_is n a k) ∙ add-mul-div_left (a % n + k) (a / n) pos ∙ (omega (arith, div-eq_of_lt less))

pub full_rest : (n a k : ℕ) → a % n + k ≡ n → (a + k) % n ≡ 0
full_rest n a k full = ap (λ (m : ℕ). m % n) (more_is n a k) ∙ add-mul-mod_self_left (a % n + k) n (a / n) ∙ ap (λ (m : ℕ). m % n) full ∙ mod_self n

-- a bound that is a multiple is that of the whole segment
pub whole_under : (n a bound : ℕ) → 1 ≤ a % n → a ≤ n * bound → suc (a / n) ≤ bound
whole_under n a bound some under = elim (cases_lt (a / n) bound) [
  | inl less ↦ omega arith
  | inr past ↦ absurd (omega (arith, div-add-mod a n, mul-le-mul_left n past))
]

-- ---- the last id

-- where no place of the open segment is taken
pub last_whole : (n a : ℕ) → 1 ≤ n → a % n ≡ 0 → (a + n - 1) / n ≡ a / n
last_whole n a some none =
    let parts : a + n - 1 ≡ n - 1 + n * (a / n) = omega (arith, div-add-mod a n, none, some) in
    ap (λ (m : ℕ). m / n) parts ∙ add-mul-div_left (n - 1) (a / n) some ∙ omega (arith, div-eq_of_lt (let less : n - 1 < n = omega (arith, some) in less))

-- where some are, and the others of the segment came
pub last_filled : (n a k : ℕ) → 1 ≤ a % n → a % n + k ≡ n → (a + k) / n ≡ (a + n - 1) / n
last_filled n a k some full =
    let pos : 0 < n = omega (arith, full, some) in
    let whole : a + k ≡ 0 + n * suc (a / n) = omega (arith, div-add-mod a n, mul-suc n (a / n), full) in
    let parts : a + n - 1 ≡ a % n - 1 + n * suc (a / n) = omega (arith, div-add-mod a n, mul-suc n (a / n), some, pos) in
    let less : a % n - 1 < n = omega (arith, full, some) in
    ap (λ (m : ℕ). m / n) whole ∙ add-mul-div_left 0 (suc (a / n)) pos
    ∙ (omega (arith, div-eq_of_lt pos, div-eq_of_lt less, add-mul-div_left (a % n - 1) (suc (a / n)) pos, ap (λ (m : ℕ). m / n) parts))

-- ---- at the start

module _ {L B : Type 0} {inside e : EngineContent L B} (view : inside ≡ e) (each : ℕ) (is : each ≡ places inside.geometry) where
  pub each_is : each ≡ places e.geometry
  each_is = is ∙ ap (λ (f : EngineContent L B). places f.geometry) view

  -- so many places of the open segment are taken
  pub begun_is : inside.absorbed % each ≡ e.absorbed % places e.geometry
  begun_is = ap (λ (n : ℕ). inside.absorbed % n) is ∙ ap (λ (f : EngineContent L B). f.absorbed % places f.geometry) view

-- ---- one place after another

module _ {L B : Type 0} (of_log : L → State) (of_backing : B → State) (client : ℕ) where
  -- so many places were filled
  pub record IsFilling (old now : EngineContent L B) (count : ℕ) : Type 0 where
    pub kept : IsOffDevices old now
    pub absorbed : now.absorbed ≡ old.absorbed + count
    pub sealed : now.numbers.sealed ≡ now.numbers.first + now.absorbed / places now.geometry
    pub first : now.numbers.first ≡ old.numbers.first
    pub stable : now.numbers.stable ≡ old.numbers.stable
    pub logged : now.numbers.logged ≡ old.numbers.logged
    pub stands : (base : Image) (h : List HistoryEntry) → Standing of_log of_backing old base h → Standing of_log of_backing now base (h ++ replicate count (Void client))
    pub synced : IsSynced of_log of_backing old → IsSynced of_log of_backing now

  pub filling_none : (e : EngineContent L B) → IsEngine of_log of_backing e → IsFilling e e 0
  filling_none e is = record {
    kept = record { geometry = refl; down = refl; log = refl; backing = refl };
    absorbed = omega arith;
    sealed = is.filled.sealed;
    first = refl;
    stable = refl;
    logged = refl;
    stands = λ base h stands. subst (λ (l : List HistoryEntry). Standing of_log of_backing e base l) (sym (append-nil h)) stands;
    synced = λ is. is;
  }

  -- another may come
  pub filling_comes : (old now : EngineContent L B) (begun index : ℕ) → IsEngine of_log of_backing old → IsFilling old now (index - begun) → begun ≡ old.absorbed % places old.geometry
      → 1 ≤ begun → begun ≤ index → index < places old.geometry → MayCome now (entry.Void client)
  filling_comes old now begun index is so_far is_begun some low high =
      let n : ℕ = places old.geometry in
      let a : ℕ = old.absorbed in
      let k : ℕ = index - begun in
      let rest : a % n + k ≡ index = omega (arith, is_begun) in
      let less : a % n + k < n = omega (arith, rest) in
      let count : (a + k) / n ≡ a / n = within_count n a k less in
      let left : (a + k) % n ≡ a % n + k = within_rest n a k less in
      let some_left : 1 ≤ a % n = omega (arith, is_begun) in
      let behind : a + k < n * suc (a / n) = omega (arith, div-add-mod a n, mul-suc n (a / n), less) in
      let room : n * suc (a / n) ≤ limit_of old.geometry old.numbers =
      mul-le-mul_left n (whole_under n a (old.numbers.logged - old.numbers.first + old.geometry.ram) some_left is.filled.limited) in
      let ids : suc (a / n) ≤ 2 ^ 48 - old.numbers.first = whole_under n a (2 ^ 48 - old.numbers.first) some_left is.filled.ids in
      let same_limit : limit_of now.geometry now.numbers ≡ limit_of old.geometry old.numbers =
      ap (λ (g : Geometry). limit_of g now.numbers) so_far.kept.geometry
      ∙ ap (λ (m : ℕ). places old.geometry * (m - now.numbers.first + old.geometry.ram)) so_far.logged
      ∙ ap (λ (m : ℕ). places old.geometry * (old.numbers.logged - m + old.geometry.ram)) so_far.first in
      let same_places : places now.geometry ≡ n = ap places so_far.kept.geometry in
      let place : now.absorbed / places now.geometry ≡ a / n = ap (λ (m : ℕ). m / places now.geometry) so_far.absorbed ∙ ap (λ (m : ℕ). (a + k) / m) same_places ∙ count in
      let place_in : now.absorbed % places now.geometry ≡ a % n + k = ap (λ (m : ℕ). m % places now.geometry) so_far.absorbed ∙ ap (λ (m : ℕ). (a + k) % m) same_places ∙ left in
      record {
        room = omega (arith, same_limit, so_far.absorbed, behind, room);
        ids = omega (arith, place, so_far.first, ids);
        fits = λ none. absurd (omega (arith, none, place_in, some_left));
      }

  -- and it has come
  pub filling_more : (old mid new : EngineContent L B) (count : ℕ) → IsFilling old mid count
      → IsOffDevices mid new → new.absorbed ≡ mid.absorbed + 1 → new.numbers ≡ numbers_at mid.geometry mid.numbers (mid.absorbed + 1)
      → ((base : Image) (h : List HistoryEntry) → Standing of_log of_backing mid base h → Standing of_log of_backing new base (h ++ Void client ∷ []))
      → (IsSynced of_log of_backing mid → IsSynced of_log of_backing new) → IsFilling old new (count + 1)
  filling_more old mid new count so_far kept absorbed numbers stands synced = record {
    kept = record {
      geometry = kept.geometry ∙ so_far.kept.geometry;
      down = kept.down ∙ so_far.kept.down;
      log = kept.log ∙ so_far.kept.log;
      backing = kept.backing ∙ so_far.kept.backing;
    };
    absorbed = omega (arith, absorbed, so_far.absorbed);
    sealed =
        ap (λ (m : Numbers). m.sealed) numbers
        ∙ ap (λ (first : ℕ). first + (mid.absorbed + 1) / places mid.geometry) (sym (ap (λ (m : Numbers). m.first) numbers))
        ∙ ap (λ (a : ℕ). new.numbers.first + a / places mid.geometry) (sym absorbed)
        ∙ ap (λ (g : Geometry). new.numbers.first + new.absorbed / places g) (sym kept.geometry);
    first = ap (λ (m : Numbers). m.first) numbers ∙ so_far.first;
    stable = ap (λ (m : Numbers). m.stable) numbers ∙ so_far.stable;
    logged = ap (λ (m : Numbers). m.logged) numbers ∙ so_far.logged;
    stands = λ base h before.
        subst (λ (l : List HistoryEntry). Standing of_log of_backing new base l)
        (append_assoc h (replicate count (Void client)) (Void client ∷ []) ∙ ap (λ (l : List HistoryEntry). h ++ l) (replicate_more client count))
        (stands base (h ++ replicate count (Void client)) (so_far.stands base h before));
    synced = λ is. synced (so_far.synced is);
  }

  -- all places of the segment are
  pub filled_rest : (old now : EngineContent L B) (count : ℕ) → IsFilling old now count → old.absorbed % places old.geometry + count ≡ places old.geometry
      → now.absorbed % places now.geometry ≡ 0
  filled_rest old now count so_far full =
      ap (λ (a : ℕ). a % places now.geometry) so_far.absorbed ∙ ap (λ (g : Geometry). (old.absorbed + count) % places g) so_far.kept.geometry
      ∙ full_rest (places old.geometry) old.absorbed count full

  pub filled_last : (old now : EngineContent L B) (count : ℕ) → IsFilling old now count → 1 ≤ old.absorbed % places old.geometry
      → old.absorbed % places old.geometry + count ≡ places old.geometry → now.numbers.sealed ≡ last_id old
  filled_last old now count so_far some full =
      so_far.sealed ∙ ap (λ (first : ℕ). first + now.absorbed / places now.geometry) so_far.first
      ∙ ap (λ (a : ℕ). old.numbers.first + a / places now.geometry) so_far.absorbed
      ∙ ap (λ (g : Geometry). old.numbers.first + (old.absorbed + count) / places g) so_far.kept.geometry
      ∙ ap (λ (n : ℕ). old.numbers.first + n) (last_filled (places old.geometry) old.absorbed count some full)
