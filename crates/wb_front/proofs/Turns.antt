-- What turns leave of the numbers that are published.
use Rattle.std.proofs.Common.{◌≡◌, inl, inr, ℕ, ◌+◌, ◌-◌, ◌*◌, ◌/◌, ◌%◌, ◌≤◌, sym, ap, ◌∙◌, subst, arith, Option, None, Some, Result, Ok, Err, IfErr}
use Rattle.std.specs.Prelude.{OnOk}
use Rattle.std.proofs.Math.Nat.{mul-le-mul_left, mul_comm, mul-add, mul-mod_right, div-add-mod, div-mul-le_self, le-div_iff_mul-le}
use Rattle.wb_geometry.specs.Device.{State}
use Rattle.wb_geometry.specs.Layout.{places}
use Rattle.wb_geometry.specs.declared.geometry.Geometry.{Geometry}
use Rattle.wb_geometry.specs.declared.which.Which.{Which}
use Rattle.wb_crash.specs.declared.numbers.Numbers.{Numbers}
use Rattle.wb_engine.specs.Content.{EngineContent, IsEngine, limit_of}
use Rattle.wb_engine.specs.Settling.{stable_places}
use Rattle.wb_engine.specs.Stepping.{LogsNext, SyncsLog, WritesBack, PutsRecord, IsTurn}
use Rattle.wb_engine.specs.declared.turning.Turn.{Turn}

-- ---- what is logged stays so

module _ {L B : Type 0} {of_log : L → State} {of_backing : B → State} where
  logs_logged : (old new : EngineContent L B) (r : Result Turn Which) → LogsNext of_log of_backing old new r → old.numbers.logged ≤ new.numbers.logged
  logs_logged old new (Ok x) does = omega (arith, ap (λ (n : Numbers). n.logged) does.ok.0)
  logs_logged old new (Err which) does = omega (arith, ap (λ (n : Numbers). n.logged) does.failed.1)

  syncs_logged : (old new : EngineContent L B) (r : Result Turn Which) → SyncsLog of_log of_backing old new r → old.numbers.logged ≤ new.numbers.logged
  syncs_logged old new (Ok x) does = omega (arith, ap (λ (n : Numbers). n.logged) does.ok.0)
  syncs_logged old new (Err which) does = omega (arith, ap (λ (n : Numbers). n.logged) does.failed.1)

  backs_logged : (old new : EngineContent L B) (r : Result Turn Which) → WritesBack of_log of_backing old new r → old.numbers.logged ≤ new.numbers.logged
  backs_logged old new (Ok x) does = omega (arith, ap (λ (n : Numbers). n.logged) does.ok.0)
  backs_logged old new (Err which) does = omega (arith, ap (λ (n : Numbers). n.logged) does.failed.0)

  records_logged : (old new : EngineContent L B) (r : Result Turn Which) → PutsRecord of_log of_backing old new r → old.numbers.logged ≤ new.numbers.logged
  records_logged old new (Ok x) does = omega (arith, ap (λ (n : Numbers). n.logged) does.ok.0)
  records_logged old new (Err which) does = omega (arith, ap (λ (n : Numbers). n.logged) does.failed.1)

  pub turn_logged : (old new : EngineContent L B) (r : Result Turn Which) → IsTurn of_log of_backing old new r → old.numbers.logged ≤ new.numbers.logged
  turn_logged old new r (inl did) = logs_logged old new r did.1
  turn_logged old new r (inr (inl did)) = syncs_logged old new r did.2
  turn_logged old new r (inr (inr (inl did))) = backs_logged old new r did.3
  turn_logged old new r (inr (inr (inr (inl did)))) = records_logged old new r did.4
  turn_logged old new r (inr (inr (inr (inr did)))) = omega (arith, ap (λ (e : EngineContent L B). e.numbers.logged) did.5)

-- ---- the numbers in places

times_up : (n a b : ℕ) → a ≤ b → n * a ≤ n * b
times_up n a b up = mul-le-mul_left n up

-- neither the limit nor the stable places fall
pub limit_up : {L B : Type 0} (old new : EngineContent L B) → new.geometry ≡ old.geometry → new.numbers.first ≡ old.numbers.first → old.numbers.logged ≤ new.numbers.logged
    → limit_of old.geometry old.numbers ≤ limit_of new.geometry new.numbers
limit_up old new geometry first logged = subst (λ (g : Geometry). limit_of old.geometry old.numbers ≤ limit_of g new.numbers) (sym geometry)
    (times_up (places old.geometry) (old.numbers.logged - old.numbers.first + old.geometry.ram) (new.numbers.logged - new.numbers.first + old.geometry.ram) (omega (arith, first, logged)))

pub stable_up : {L B : Type 0} (old new : EngineContent L B) → new.geometry ≡ old.geometry → new.numbers.first ≡ old.numbers.first → old.numbers.stable ≤ new.numbers.stable
    → stable_places old ≤ stable_places new
stable_up old new geometry first stable = subst (λ (g : Geometry). stable_places old ≤ places g * (new.numbers.stable - new.numbers.first)) (sym geometry)
    (times_up (places old.geometry) (old.numbers.stable - old.numbers.first) (new.numbers.stable - new.numbers.first) (omega (arith, first, stable)))

-- so many whole segments are no more places than were taken
whole_below : (n a s : ℕ) → s ≤ a / n → n * s ≤ a
whole_below n a s low = let up = times_up n s (a / n) low in let x : ℕ = n * (a / n) in let y : ℕ = n * s in let d : x + a % n ≡ a = div-add-mod a n in let up' : y ≤ x = up in let g : y ≤ a = omega (arith, d, up') in g

-- without those of a begun segment places are whole segments
pub rest_whole : (n number other : ℕ) → number ≡ other → (n - n % number) % other ≡ 0
rest_whole n number other same =
    let x : ℕ = number * (n / number) in
    let d : x + n % number ≡ n = div-add-mod n number in
    let whole : n - n % number ≡ x = omega (arith, d) in
    subst (λ (k : ℕ). (n - n % number) % k ≡ 0) same (ap (λ (m : ℕ). m % number) whole ∙ mul-mod_right number (n / number))

-- and no fewer than any whole segments among them
pub rest_covers : (low n number other : ℕ) → number ≡ other → 1 ≤ number → low % other ≡ 0 → low ≤ n → low ≤ n - n % number
rest_covers low n number other same some whole le =
    let x : ℕ = number * (n / number) in
    let y : ℕ = number * (low / number) in
    let d : x + n % number ≡ n = div-add-mod n number in
    let e : y + low % number ≡ low = div-add-mod low number in
    let none : low % number ≡ 0 = subst (λ (k : ℕ). low % k ≡ 0) (sym same) whole in
    let few : low / number * number ≤ low = div-mul-le_self low number in
    let up : low / number ≤ n / number = (le-div_iff_mul-le {k = number} {x = low / number} {y = n} some).1 (omega (arith, few, le)) in
    let more : y ≤ x = times_up number (low / number) (n / number) up in
    omega (arith, d, e, none, more)

-- where an engine that is up was settled up to there, all places below are stable
pub settled_below : {L B T : Type 0} (e : EngineContent L B) (result : Result T Which) (low place : ℕ) → low ≤ place → OnOk result (place ≤ stable_places e) → IfErr result (λ which. e.down ≡ Some which)
    → e.down ≡ None → low ≤ stable_places e
settled_below e (Ok x) low place le stable failed up = omega (arith, le, stable)
settled_below e (Err which) low place le stable failed up = absurd (let both : ◌≡◌ {A = Option Which} (Some which) None = sym failed ∙ up in cc)

-- what a sound engine's limit and stable places are
module _ {L B : Type 0} (of_log : L → State) (of_backing : B → State) (e : EngineContent L B) (sound : IsEngine of_log of_backing e) where
  pub limit_room : limit_of e.geometry e.numbers ≤ e.absorbed + e.geometry.ram * places e.geometry
  limit_room =
      let n : ℕ = places e.geometry in let l : ℕ = e.numbers.logged - e.numbers.first in
      let o = sound.ordered in
      let below : n * l ≤ e.absorbed = whole_below n e.absorbed l (omega (arith, sound.filled.sealed, o.logged, o.tried)) in
      let apart : n * (l + e.geometry.ram) ≡ n * l + n * e.geometry.ram = mul-add n l e.geometry.ram in
      let turned : n * e.geometry.ram ≡ e.geometry.ram * n = mul_comm n e.geometry.ram in
      let x : ℕ = n * (l + e.geometry.ram) in let y : ℕ = n * l in let z : ℕ = n * e.geometry.ram in let w : ℕ = e.geometry.ram * n in
      let apart' : x ≡ y + z = apart in let turned' : z ≡ w = turned in let below' : y ≤ e.absorbed = below in let g : x ≤ e.absorbed + w = omega (arith, apart', turned', below') in g

  pub stable_below : stable_places e ≤ e.absorbed
  stable_below = let o = sound.ordered in whole_below (places e.geometry) e.absorbed (e.numbers.stable - e.numbers.first) (omega (arith, sound.filled.sealed, o.stable, o.logged, o.tried))

-- both are whole numbers of segments
pub limit_whole : (g : Geometry) (e : Numbers) → limit_of g e % places g ≡ 0
limit_whole g e = mul-mod_right (places g) (e.logged - e.first + g.ram)

pub stable_whole : {L B : Type 0} (e : EngineContent L B) → stable_places e % places e.geometry ≡ 0
stable_whole e = mul-mod_right (places e.geometry) (e.numbers.stable - e.numbers.first)
