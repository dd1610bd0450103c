-- The requests of a client, of requests each with its client: what one more adds, and what is counted of them.
use Rattle.std.proofs.Common.{ℕ, zero, suc, ◌≡◌, ◌≢◌, ◌+◌, ◌<◌, ◌≤◌, Bool, true, false, cond, eqb, inl, inr, List, [], ◌∷◌, ◌++◌, length, take, map, filter, sum, refl, sym, ap, ◌∙◌, arith}
use Rattle.std.specs.List.{range_with_len, sum_by}
use Rattle.std.proofs.lemmas.Bool.{cases_eq, eq-eqb, ne_eqb}
use Rattle.std.proofs.lemmas.List.{map-append, append-nil}
use Rattle.std.proofs.lemmas.List.Elements.{filter-append}
use Rattle.std.proofs.lemmas.List.Sums.{sum_by-cons, sum_by_push, sum_by-take-le, sum-map, length-filter}
use Rattle.wb_script.specs.Valid.{heard_of, told_to, hears_of, tells_to, shown_by, shown_by_all}
use Rattle.wb_script.specs.Grammar.{requests_of, shown_by_owned}
use Rattle.wb_script.specs.declared.request.Request.{Request}
use Rattle.wb_script.specs.declared.request.Request.TheVariants.{Hear}

-- ---- one request more

pushed : (own : ℕ × Request) (is : Bool) → map (λ (o : ℕ × Request). o.1) (cond is (own ∷ []) []) ≡ cond is (own.1 ∷ []) []
pushed own true = refl
pushed own false = refl

requests_of_push : (owned : List (ℕ × Request)) (own : ℕ × Request) (client : ℕ)
    → requests_of (owned ++ own ∷ []) client ≡ requests_of owned client ++ cond (eqb own.0 client) (own.1 ∷ []) []
requests_of_push owned own client =
    ap (map (λ (o : ℕ × Request). o.1)) (filter-append (λ o. eqb o.0 client) owned (own ∷ []))
    ∙ map-append (λ (o : ℕ × Request). o.1) (filter (λ o. eqb o.0 client) owned) (cond (eqb own.0 client) (own ∷ []) [])
    ∙ ap (λ more. requests_of owned client ++ more) (pushed own (eqb own.0 client))

-- its own client has one more, and another as many
pub requests_of_push_own : (owned : List (ℕ × Request)) (client : ℕ) (request : Request) → requests_of (owned ++ (client, request) ∷ []) client ≡ requests_of owned client ++ request ∷ []
requests_of_push_own owned client request =
    requests_of_push owned (client, request) client ∙ ap (λ is. requests_of owned client ++ cond is (request ∷ []) []) (eq-eqb client client refl)

pub requests_of_push_other : (owned : List (ℕ × Request)) (client : ℕ) (request : Request) (other : ℕ) → client ≢ other
    → requests_of (owned ++ (client, request) ∷ []) other ≡ requests_of owned other
requests_of_push_other owned client request other apart =
    requests_of_push owned (client, request) other ∙ ap (λ is. requests_of owned other ++ cond is (request ∷ []) []) (ne_eqb client other apart)
    ∙ append-nil (requests_of owned other)

-- ---- counts of a client, in all requests

-- what a request counts for a client
abbrev pub for_client : (Request → ℕ) → ℕ → ℕ × Request → ℕ
for_client count client own = cond (eqb own.0 client) (count own.1) 0

picked : (count : Request → ℕ) (own : ℕ × Request) (rest : List (ℕ × Request)) (is : Bool)
    → sum_by count (map (λ (o : ℕ × Request). o.1) (cond is (own ∷ rest) rest)) ≡ cond is (count own.1) 0 + sum_by count (map (λ (o : ℕ × Request). o.1) rest)
picked count own rest true = sum_by-cons count own.1 (map (λ o. o.1) rest)
picked count own rest false = omega arith

pub sum_by-requests_of : (count : Request → ℕ) (owned : List (ℕ × Request)) (client : ℕ) → sum_by count (requests_of owned client) ≡ sum_by (for_client count client) owned
sum_by-requests_of count [] client = refl
sum_by-requests_of count (own ∷ owned) client =
    picked count own (filter (λ o. eqb o.0 client) owned) (eqb own.0 client)
    ∙ ap (λ n. cond (eqb own.0 client) (count own.1) 0 + n) (sum_by-requests_of count owned client)
    ∙ sym (sum_by-cons (for_client count client) own owned)

pub for_client-own : (count : Request → ℕ) (client : ℕ) (request : Request) → for_client count client (client, request) ≡ count request
for_client-own count client request = ap (λ is. cond is (count request) 0) (eq-eqb client client refl)

pub for_client-other : (count : Request → ℕ) (client : ℕ) (own : ℕ × Request) → own.0 ≢ client → for_client count client own ≡ 0
for_client-other count client own apart = ap (λ is. cond is (count own.1) 0) (ne_eqb own.0 client apart)

for_client-zero : (count : Request → ℕ) (client : ℕ) (own : ℕ × Request) (is : Bool) → count own.1 ≡ 0 → cond is (count own.1) 0 ≡ 0
for_client-zero count client own true none = none
for_client-zero count client own false none = refl

pub for_client-none : (count : Request → ℕ) (client : ℕ) (own : ℕ × Request) → count own.1 ≡ 0 → for_client count client own ≡ 0
for_client-none count client own none = for_client-zero count client own (eqb own.0 client) none

-- ---- notes

-- 1 where the request hears a note of that client, or leaves one for it
abbrev pub hears : ℕ → Request → ℕ
hears teller request = cond (hears_of teller request) 1 0

abbrev pub tells : ℕ → Request → ℕ
tells hearer request = cond (tells_to hearer request) 1 0

heard_owned : (teller hearer : ℕ) (owned : List (ℕ × Request)) → heard_of teller (requests_of owned hearer) ≡ sum_by (for_client (hears teller) hearer) owned
heard_owned teller hearer owned = length-filter (hears_of teller) (requests_of owned hearer) ∙ sum_by-requests_of (hears teller) owned hearer

pub told_owned : (hearer teller : ℕ) (owned : List (ℕ × Request)) → told_to hearer (requests_of owned teller) ≡ sum_by (for_client (tells hearer) teller) owned
told_owned hearer teller owned = length-filter (tells_to hearer) (requests_of owned teller) ∙ sum_by-requests_of (tells hearer) owned teller

pub heard_push : (teller hearer : ℕ) (owned : List (ℕ × Request)) (own : ℕ × Request)
    → heard_of teller (requests_of (owned ++ own ∷ []) hearer) ≡ heard_of teller (requests_of owned hearer) + for_client (hears teller) hearer own
heard_push teller hearer owned own =
    omega (arith, heard_owned teller hearer (owned ++ own ∷ []), heard_owned teller hearer owned, sum_by_push (for_client (hears teller) hearer) owned own)

-- no more are heard in fewer requests
pub heard-take-le : (teller hearer n : ℕ) (owned : List (ℕ × Request)) → heard_of teller (requests_of (take n owned) hearer) ≤ heard_of teller (requests_of owned hearer)
heard-take-le teller hearer n owned =
    omega (arith, heard_owned teller hearer (take n owned), heard_owned teller hearer owned, sum_by-take-le (for_client (hears teller) hearer) owned n)

-- one more is heard with a request that hears one
pub heard_more : (owned : List (ℕ × Request)) (client other : ℕ)
    → heard_of other (requests_of (owned ++ (client, Hear other) ∷ []) client) ≡ heard_of other (requests_of owned client) + 1
heard_more owned client other =
    heard_push other client owned (client, Hear other)
    ∙ ap (λ n. heard_of other (requests_of owned client) + n) (for_client-own (hears other) client (Hear other) ∙ ap (λ is. cond is 1 0) (eq-eqb other other refl))

-- ---- sectors that are shown

pub shown_push : (owned : List (ℕ × Request)) (own : ℕ × Request) → shown_by_owned (owned ++ own ∷ []) ≡ shown_by_owned owned + shown_by own.1
shown_push owned own =
    omega (arith, sum-map (λ (o : ℕ × Request). shown_by o.1) (owned ++ own ∷ []), sum-map (λ (o : ℕ × Request). shown_by o.1) owned, sum_by_push (λ (o : ℕ × Request). shown_by o.1) owned own)

pub shown-take-le : (n : ℕ) (owned : List (ℕ × Request)) → shown_by_owned (take n owned) ≤ shown_by_owned owned
shown-take-le n owned =
    omega (arith, sum-map (λ (o : ℕ × Request). shown_by o.1) (take n owned), sum-map (λ (o : ℕ × Request). shown_by o.1) owned, sum_by-take-le (λ (o : ℕ × Request). shown_by o.1) owned n)

-- ---- the sum over the clients

sum_of : (ℕ → ℕ) → ℕ → ℕ → ℕ
sum_of count from n = sum (map count (range_with_len from n))

sum_of-next : (count : ℕ → ℕ) (from n : ℕ) → sum_of count from (suc n) ≡ count from + sum_of count (from + 1) n
unfolding sum_of
sum_of-next count from n = sum_by-cons (λ x. x) (count from) (map count (range_with_len (from + 1) n))

sum_of-nothing : (count : ℕ → ℕ) (from n : ℕ) → ((k : ℕ) → from ≤ k → count k ≡ 0) → sum_of count from n ≡ 0
unfolding sum_of
sum_of-nothing count from zero none = refl
sum_of-nothing count from (suc n) none =
    omega (arith, sum_of-next count from n, none from (omega arith), sum_of-nothing count (from + 1) n (λ k high. none k (omega arith)))

sum_of-add : (a b : ℕ → ℕ) (from n : ℕ) → sum_of (λ k. a k + b k) from n ≡ sum_of a from n + sum_of b from n
unfolding sum_of
sum_of-add a b from zero = refl
sum_of-add a b from (suc n) =
    omega (arith, sum_of-next (λ k. a k + b k) from n, sum_of-next a from n, sum_of-next b from n, sum_of-add a b (from + 1) n)

-- what counts for one of the clients alone
sum_of-one : (own value from n : ℕ) → from ≤ own → own < from + n → sum_of (λ k. cond (eqb own k) value 0) from n ≡ value
sum_of-one own value from zero low high = absurd (omega arith)
sum_of-one own value from (suc n) low high =
    let next = sum_of-next (λ k. cond (eqb own k) value 0) from n in
    elim (cases_eq own from) [
      | inl here ↦
          let this : cond (eqb own from) value 0 ≡ value = ap (λ is. cond is value 0) (eq-eqb own from here) in
          let others = sum_of-nothing (λ k. cond (eqb own k) value 0) (from + 1) n (λ k above. ap (λ is. cond is value 0) (ne_eqb own k (λ e. omega arith))) in
          omega arith
      | inr later ↦
          let this : cond (eqb own from) value 0 ≡ 0 = ap (λ is. cond is value 0) (ne_eqb own from later) in
          let others = sum_of-one own value (from + 1) n (omega arith) (omega arith) in
          omega arith
    ]

-- where each client is below a number, the sum over the clients is that over all requests
abbrev pub AreBelow : ℕ → List (ℕ × Request) → Type 0
AreBelow clients [] = Unit {0}
AreBelow clients (own ∷ owned) = (own.0 < clients) × AreBelow clients owned

sum_of-owned : (count : Request → ℕ) (clients : ℕ) (owned : List (ℕ × Request)) → AreBelow clients owned
    → sum_of (λ client. sum_by (for_client count client) owned) 0 clients ≡ sum_by (λ (own : ℕ × Request). count own.1) owned
sum_of-owned count clients [] below = sum_of-nothing (λ client. 0) 0 clients (λ k low. refl)
sum_of-owned count clients (own ∷ owned) below =
    let each : ◌≡◌ {A = ℕ → ℕ} (λ client. sum_by (for_client count client) (own ∷ owned)) (λ client. for_client count client own + sum_by (for_client count client) owned) =
    λ i client. sum_by-cons (for_client count client) own owned i in
    ap (λ counts. sum_of counts 0 clients) each
    ∙ sum_of-add (λ client. for_client count client own) (λ client. sum_by (for_client count client) owned) 0 clients
    ∙ (let one = sum_of-one own.0 (count own.1) 0 clients (omega arith) (omega (arith, below.0)) in
    let rest = sum_of-owned count clients owned below.1 in
    let all = sum_by-cons (λ (o : ℕ × Request). count o.1) own owned in
    omega arith)

-- so what is summed of the requests of each client, is summed of all requests
by_clients : (total : List Request → ℕ) (count : Request → ℕ) (clients : ℕ) (owned : List (ℕ × Request)) → ((requests : List Request) → total requests ≡ sum_by count requests)
    → AreBelow clients owned → sum (map total (map (requests_of owned) (range_with_len 0 clients))) ≡ sum_by (λ (own : ℕ × Request). count own.1) owned
unfolding sum_of
by_clients total count clients owned is below =
    let each : ◌≡◌ {A = ℕ → ℕ} (λ client. total (requests_of owned client)) (λ client. sum_by (for_client count client) owned) =
    λ i client. (is (requests_of owned client) ∙ sum_by-requests_of count owned client) i in
    ap sum (maps (range_with_len 0 clients)) ∙ ap (λ counts. sum (map counts (range_with_len 0 clients))) each ∙ sum_of-owned count clients owned below
  where
    maps : (all : List ℕ) → map total (map (requests_of owned) all) ≡ map (λ client. total (requests_of owned client)) all
    maps [] = refl
    maps (client ∷ all) = ap (λ rest. total (requests_of owned client) ∷ rest) (maps all)

pub shown_by_clients : (clients : ℕ) (owned : List (ℕ × Request)) → AreBelow clients owned
    → sum (map shown_by_all (map (requests_of owned) (range_with_len 0 clients))) ≡ shown_by_owned owned
shown_by_clients clients owned below =
    by_clients shown_by_all shown_by clients owned (λ requests. sum-map shown_by requests) below ∙ sym (sum-map (λ (own : ℕ × Request). shown_by own.1) owned)

ones : {X : Type 0} (xs : List X) → length xs ≡ sum_by (λ (x : X). 1) xs
ones [] = refl
ones {X} (x ∷ xs) = omega (arith, sum_by-cons (λ (y : X). 1) x xs, ones xs)

pub requests_by_clients : (clients : ℕ) (owned : List (ℕ × Request)) → AreBelow clients owned
    → sum (map length (map (requests_of owned) (range_with_len 0 clients))) ≡ length owned
requests_by_clients clients owned below = by_clients length (λ request. 1) clients owned ones below ∙ sym (ones owned)
