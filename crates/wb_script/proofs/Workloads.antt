-- The workload is a valid script.
use Rattle.std.proofs.Common.{ℕ, ◌≡◌, ◌+◌, ◌-◌, ◌*◌, ◌/◌, ◌%◌, ◌^◌, ◌<◌, ◌≤◌, ◌==◌, List, [], ◌∷◌, ◌++◌, map, cond, false, length, get_or, refl, sym, ap, subst, ◌∙◌, zero-add, arith}
use Rattle.std.specs.Int.{w64, to_le_bytes}
use Rattle.std.specs.List.{All, range_with_len}
use Rattle.std.proofs.Math.Nat.{mod-lt, mul-le-mul_right}
use Rattle.std.proofs.lemmas.Bool.{cond_both}
use Rattle.std.proofs.lemmas.List.Elements.{All-map, All-weaker}
use Rattle.std.proofs.lemmas.List.FromFn.{map-range_with_len_more, length-range_with_len, get_or-range_with_len, length-map-range_with_len, get_or-map-range_with_len}
use Rattle.std.proofs.lemmas.List.Sums.{length-filter, sum-map, sum_by-le}
use Rattle.wb_script.specs.Valid.{IsAsked, IsWithin, IsValid, heard_of, hears_of, requests_at, shown_by, shown_by_all}
use Rattle.wb_script.specs.Workload.{KeepsTo, drawn_count, drawn_request, drawn_requests, drawn_sector, state_after, workload, workload_clients}
use Rattle.wb_script.specs.declared.request.Request.{Request}
use Rattle.wb_script.specs.declared.request.Request.TheVariants.{Write, ReadSum, Flush}
use Rattle.wb_script.proofs.Owned.{hears}
use Rattle.wb_script.proofs.Validity.{asked_all}

-- one more of a list that a function fills
pub filled_push : {X : Type 0} (f : ℕ → X) (n : ℕ) (before after : List X) (x : X) → before ≡ map f (range_with_len 0 n) → x ≡ f n → after ≡ before ++ x ∷ []
    → after ≡ map f (range_with_len 0 (n + 1))
filled_push f n before after x filled is pushed = pushed ∙ (λ i. filled i ++ is i ∷ []) ∙ sym (map-range_with_len_more f 0 n n (omega arith))

-- a request that the client may make, that hears no note and shows no sector
record IsDrawn (sectors client : ℕ) (request : Request) : Type 0 where
  asked : IsAsked sectors workload_clients client request
  deaf : (teller : ℕ) → hears_of teller request ≡ false
  unshown : shown_by request ≡ 0

-- the sectors of a client's quarter are inside the region
drawn_within : (quarter client sectors state : ℕ) → client < workload_clients → 1 ≤ quarter → 4 * quarter ≤ sectors
    → IsWithin sectors (drawn_sector quarter client state) (drawn_count quarter state)
drawn_within quarter client sectors state below some inside =
    let count = drawn_count quarter state in
    let most : count ≤ quarter = omega arith in
    let few : count ≤ 64 = omega arith in
    let first = mod-lt (state / 2 ^ 33 / 64) {m = quarter - count + 1} (omega arith) in
    let before : client * quarter ≤ 3 * quarter = mul-le-mul_right quarter (omega arith) in
    record { some = omega arith; few = omega arith; inside = omega (arith, first, before, most) }

drawn : (quarter client sectors index state : ℕ) → client < workload_clients → 1 ≤ quarter → 4 * quarter ≤ sectors → IsDrawn sectors client (drawn_request quarter client index state)
drawn quarter client sectors index state below some inside =
    let within = drawn_within quarter client sectors state below some inside in
    let sector = drawn_sector quarter client state in
    let count = drawn_count quarter state in
    cond_both ((index + 1) % 125 == 0) Flush _ (IsDrawn sectors client)
    (λ _. record { asked = tt; deaf = λ _. refl; unshown = refl })
    (λ _. cond_both (index % 2 == 0) (Write sector count (to_le_bytes w64 state) false) (ReadSum sector count) (IsDrawn sectors client)
    (λ _. record { asked = (within, record { some = omega arith; whole = omega arith }); deaf = λ _. refl; unshown = refl })
    (λ _. record { asked = within; deaf = λ _. refl; unshown = refl }))

-- those of a client
all_drawn : (seed count quarter client sectors : ℕ) → client < workload_clients → 1 ≤ quarter → 4 * quarter ≤ sectors → All (IsDrawn sectors client) (drawn_requests seed count quarter client)
all_drawn seed count quarter client sectors below some inside =
    All-map (IsDrawn sectors client) (λ index. drawn_request quarter client index (state_after seed client (index + 1))) (range_with_len 0 count)
    (λ k d at.
    let index = get_or (range_with_len 0 count) k d in
    drawn quarter client sectors index (state_after seed client (index + 1)) below some inside)

-- each stays in its client's quarter
drawn_kept : (quarter client index state : ℕ) → 1 ≤ quarter → KeepsTo (client * quarter) quarter (drawn_request quarter client index state)
drawn_kept quarter client index state some =
    let sector = drawn_sector quarter client state in
    let count = drawn_count quarter state in
    let most : count ≤ quarter = omega arith in
    let first = mod-lt (state / 2 ^ 33 / 64) {m = quarter - count + 1} (omega arith) in
    cond_both ((index + 1) % 125 == 0) Flush _ (KeepsTo (client * quarter) quarter)
    (λ _. tt)
    (λ _. cond_both (index % 2 == 0) (Write sector count (to_le_bytes w64 state) false) (ReadSum sector count) (KeepsTo (client * quarter) quarter)
    (λ _. (omega arith, omega (arith, first, most)))
    (λ _. (omega arith, omega (arith, first, most))))

pub workload-kept : (seed count region client : ℕ) → 32 ≤ region → client < workload_clients
    → All (KeepsTo (client * (region / 4)) (region / 4)) (requests_at (workload seed count region).requests client)
workload-kept seed count region client some below =
    let quarter = region / 4 in
    let of = drawn_requests seed count quarter in
    let own = get_or-map-range_with_len of 0 workload_clients client client [] below (zero-add client) in
    subst (All (KeepsTo (client * quarter) quarter)) (sym own)
    (All-map (KeepsTo (client * quarter) quarter) (λ index. drawn_request quarter client index (state_after seed client (index + 1))) (range_with_len 0 count)
    (λ k d at.
    let index = get_or (range_with_len 0 count) k d in
    drawn_kept quarter client index (state_after seed client (index + 1)) (omega arith)))

-- where all are, none hears a note, and none shows a sector
none_heard : (sectors client teller : ℕ) (requests : List Request) → All (IsDrawn sectors client) requests → heard_of teller requests ≡ 0
none_heard sectors client teller requests all =
    omega (
      arith,
      length-filter (hears_of teller) requests,
      sum_by-le (hears teller) 0 requests (All-weaker (IsDrawn sectors client) (λ request. hears teller request ≤ 0) (λ request is. omega (arith, ap {B = ℕ} (λ b. cond b 1 0) (is.deaf teller))) requests all),
    )

none_shown : (sectors client : ℕ) (requests : List Request) → All (IsDrawn sectors client) requests → shown_by_all requests ≡ 0
none_shown sectors client requests all =
    omega (
      arith,
      sum-map shown_by requests,
      sum_by-le shown_by 0 requests (All-weaker (IsDrawn sectors client) (λ request. shown_by request ≤ 0) (λ request is. omega (arith, is.unshown)) requests all),
    )

pub workload-valid : (seed count region : ℕ) → 32 ≤ region → region % 32 ≡ 0 → IsValid (workload seed count region)
workload-valid seed count region some whole =
    let quarter = region / 4 in
    let of = drawn_requests seed count quarter in
    let all = map of (range_with_len 0 workload_clients) in
    let each : (client : ℕ) → client < workload_clients → All (IsDrawn region client) (of client) =
    λ client below. all_drawn seed count quarter client region below (omega arith) (omega arith) in
    let counted : length all ≡ workload_clients = length-map-range_with_len of 0 workload_clients in
    record {
      some = omega arith;
      few = omega arith;
      each = counted;
      asked = asked_all region workload_clients of (λ client below. All-weaker (IsDrawn region client) (IsAsked region workload_clients client) (λ request is. is.asked) (of client) (each client below));
      left = λ teller hearer low high.
          let below : hearer < workload_clients = omega (arith, high, counted) in
          let own = get_or-map-range_with_len of 0 workload_clients hearer hearer [] below (zero-add hearer) in
          omega (arith, ap (heard_of teller) own, none_heard region hearer teller (of hearer) (each hearer below));
      shown = omega (
        arith,
        sum-map shown_by_all all,
        sum_by-le shown_by_all 0 all (All-map (λ requests. shown_by_all requests ≤ 0) of (range_with_len 0 workload_clients)
            (λ k d at.
            let client = get_or (range_with_len 0 workload_clients) k d in
            let turn : k < workload_clients = omega (arith, at, length-range_with_len 0 workload_clients) in
            let below : client < workload_clients = omega (arith, turn, get_or-range_with_len 0 workload_clients k d turn) in
            omega (arith, none_shown region client (of client) (each client below)))),
      );
    }
