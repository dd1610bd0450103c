-- How many requests of each kind a workload has.
use Rattle.std.proofs.Common.{◌≡◌, ◌≢◌, ◌⊎◌, ◌+◌, ◌-◌, ◌*◌, ◌/◌, ◌%◌, ◌==◌, ℕ, zero, suc, Bool, false, cond, length, map, sum, refl, sym, ap, ◌∙◌, subst, arith, inl, inr}
use Rattle.std.specs.List.{count_by, range_with_len}
use Rattle.std.specs.Int.{w64, to_le_bytes}
use Rattle.std.proofs.lemmas.Bool.{cond_both, eqb-true, eqb-false}
use Rattle.std.proofs.lemmas.List.FromFn.{length-map-range_with_len, sum_by-map-range_with_len_more}
use Rattle.wb_script.specs.declared.request.Request.{Request}
use Rattle.wb_script.specs.declared.request.Request.TheVariants.{Write, ReadSum, Flush}
use Rattle.wb_script.specs.Workload.{drawn_request, drawn_requests, drawn_count, drawn_sector, state_after, workload}
use Rattle.wb_tool.specs.declared.command.WorkloadNumbers.{WorkloadNumbers}
use Rattle.wb_tool.specs.Texts.{counts_text}
use Rattle.wb_tool.specs.Workload.{is_write, is_read, is_flush, how_many, counts_of}

-- all requests
pub all_requests : (seed count region : ℕ) → sum (map length (workload seed count region).requests) ≡ 4 * count
all_requests seed count region =
    let size : (client : ℕ) → length (drawn_requests seed count (region / 4) client) ≡ count =
    λ client. length-map-range_with_len (λ index. drawn_request (region / 4) client index (state_after seed client (index + 1))) 0 count in
    omega (arith, size 0, size 1, size 2, size 3)

-- ---- those of each kind

-- 1 for a request of a kind, and 0 for one of another
abbrev one : (Request → Bool) → Request → ℕ
one is request = cond (is request) 1 0

-- a request of this number is a flush, a write or a read
abbrev IsOfKind : (index : ℕ) → Request → Type 0
IsOfKind index request =
    (((index + 1) % 125 ≡ 0) × (one is_write request ≡ 0) × (one is_read request ≡ 0) × (one is_flush request ≡ 1))
    ⊎ (((index + 1) % 125 ≢ 0) × (index % 2 ≡ 0) × (one is_write request ≡ 1) × (one is_read request ≡ 0) × (one is_flush request ≡ 0))
    ⊎ (((index + 1) % 125 ≢ 0) × (index % 2 ≢ 0) × (one is_write request ≡ 0) × (one is_read request ≡ 1) × (one is_flush request ≡ 0))

kind_of : (quarter client index state : ℕ) → IsOfKind index (drawn_request quarter client index state)
kind_of quarter client index state =
    let sector = drawn_sector quarter client state in
    let count = drawn_count quarter state in
    cond_both ((index + 1) % 125 == 0) Flush _ (IsOfKind index)
    (λ is. inl (eqb-true ((index + 1) % 125) 0 is, refl, refl, refl))
    (λ not. cond_both (index % 2 == 0) (Write sector count (to_le_bytes w64 state) false) (ReadSum sector count) (IsOfKind index)
    (λ even. inr (inl (eqb-false ((index + 1) % 125) 0 not, eqb-true (index % 2) 0 even, refl, refl, refl)))
    (λ odd. inr (inr (eqb-false ((index + 1) % 125) 0 not, eqb-false (index % 2) 0 odd, refl, refl, refl))))

-- so many of the first requests of a client
record AreKinds (count writes reads flushes : ℕ) : Type 0 where
  writes_are : writes + (count / 125 + 1) / 2 ≡ (count + 1) / 2
  reads_are : reads + count / 125 / 2 ≡ count / 2
  flushes_are : flushes ≡ count / 125

one_more : (n writes reads flushes w r f : ℕ) (request : Request) → AreKinds n writes reads flushes → IsOfKind n request
    → w ≡ writes + one is_write request → r ≡ reads + one is_read request → f ≡ flushes + one is_flush request → AreKinds (n + 1) w r f
one_more n writes reads flushes w r f request are (inl (whole, a, b, c)) is_w is_r is_f = record {
  writes_are = omega (arith, are.writes_are, whole, a, is_w);
  reads_are = omega (arith, are.reads_are, whole, b, is_r);
  flushes_are = omega (arith, are.flushes_are, whole, c, is_f);
}
one_more n writes reads flushes w r f request are (inr (inl (part, even, a, b, c))) is_w is_r is_f = record {
  writes_are = omega (arith, are.writes_are, part, even, a, is_w);
  reads_are = omega (arith, are.reads_are, part, even, b, is_r);
  flushes_are = omega (arith, are.flushes_are, part, c, is_f);
}
one_more n writes reads flushes w r f request are (inr (inr (part, odd, a, b, c))) is_w is_r is_f = record {
  writes_are = omega (arith, are.writes_are, part, odd, a, is_w);
  reads_are = omega (arith, are.reads_are, part, odd, b, is_r);
  flushes_are = omega (arith, are.flushes_are, part, c, is_f);
}

module _ (seed quarter client : ℕ) where
  abbrev request : ℕ → Request
  request index = drawn_request quarter client index (state_after seed client (index + 1))

  abbrev counted : (Request → Bool) → ℕ → ℕ
  counted is count = count_by is (map request (range_with_len 0 count))

  kinds : (count : ℕ) → AreKinds count (counted is_write count) (counted is_read count) (counted is_flush count)
  kinds zero = record { writes_are = refl; reads_are = refl; flushes_are = refl }
  kinds (suc n) =
      let next : suc n ≡ n + 1 = omega arith in
      let more : (is : Request → Bool) → counted is (n + 1) ≡ counted is n + one is (request n) =
      λ is. sum_by-map-range_with_len_more (λ (x : Request). one is x) request 0 n n (omega arith) in
      subst (λ k. AreKinds k (counted is_write k) (counted is_read k) (counted is_flush k)) (sym next)
      (one_more n _ _ _ _ _ _ (request n) (kinds n) (kind_of quarter client n (state_after seed client (n + 1))) (more is_write) (more is_read) (more is_flush))

-- those of all four
pub record AreAllKinds (count writes reads flushes : ℕ) : Type 0 where
  pub writes_are : writes ≡ 4 * ((count + 1) / 2 - (count / 125 + 1) / 2)
  pub reads_are : reads ≡ 4 * (count / 2 - count / 125 / 2)
  pub flushes_are : flushes ≡ 4 * (count / 125)

pub all_kinds : (seed count region : ℕ)
    → AreAllKinds count (how_many is_write (workload seed count region)) (how_many is_read (workload seed count region)) (how_many is_flush (workload seed count region))
all_kinds seed count region =
    let of : (client : ℕ) → AreKinds count (count_by is_write (drawn_requests seed count (region / 4) client)) (count_by is_read (drawn_requests seed count (region / 4) client))
    (count_by is_flush (drawn_requests seed count (region / 4) client)) = λ client. kinds seed (region / 4) client count in
    record {
      writes_are = omega (arith, (of 0).writes_are, (of 1).writes_are, (of 2).writes_are, (of 3).writes_are);
      reads_are = omega (arith, (of 0).reads_are, (of 1).reads_are, (of 2).reads_are, (of 3).reads_are);
      flushes_are = omega (arith, (of 0).flushes_are, (of 1).flushes_are, (of 2).flushes_are, (of 3).flushes_are);
    }

-- as the line has them
pub counts_are : (numbers : WorkloadNumbers) (region : ℕ)
    → counts_text (4 * numbers.count) (4 * ((numbers.count + 1) / 2 - (numbers.count / 125 + 1) / 2)) (4 * (numbers.count / 2 - numbers.count / 125 / 2)) (4 * (numbers.count / 125))
    ≡ counts_of numbers region
counts_are numbers region =
    let script = workload numbers.seed numbers.count region in
    let are = all_kinds numbers.seed numbers.count region in
    ap (λ n. counts_text (4 * numbers.count) n (4 * (numbers.count / 2 - numbers.count / 125 / 2)) (4 * (numbers.count / 125))) (sym are.writes_are)
    ∙ ap (λ n. counts_text (4 * numbers.count) (how_many is_write script) n (4 * (numbers.count / 125))) (sym are.reads_are)
    ∙ ap (λ n. counts_text (4 * numbers.count) (how_many is_write script) (how_many is_read script) n) (sym are.flushes_are)
