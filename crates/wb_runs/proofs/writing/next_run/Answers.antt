-- The lowest set bit begins the run, and the ones from there on are it.
use Rattle.std.proofs.Common.{◌≡◌, ◌≢◌, ◌+◌, ◌/◌, ◌^◌, ◌<◌, ℕ, sym, ap, ◌∙◌, arith}
use Rattle.std.specs.Int.{w16, trailing_zeros, trailing_ones}
use Rattle.wb_runs.proofs.Runs.{none_left, first_below, run_left}
use Rattle.wb_runs.proofs.writing.next_run.Goals as goal

pub returns-then-rest-eq0 : goal.returns-then-rest-eq0
returns-then-rest-eq0 c = none_left c.args.bits c.args.from (ap (λ (n : ℕ). n / 2 ^ c.args.from) (sym c.from.ensures) ∙ c.if-rest-eq0.true)

pub overflow_shr-from : goal.overflow_shr-from
overflow_shr-from c =
    let byte : c.from.result < 256 = omega (arith, c.from.ensures, c.ranges.bits.fits) in
    let below : c.args.from + trailing_zeros w16 (c.from.result / 2 ^ c.args.from) < 8 = first_below c.from.result c.args.from byte c.if-rest-eq0.false in
    omega (arith, below)

pub returns : goal.returns
returns c =
    let bits : ℕ = c.args.bits in
    let from : ℕ = c.args.from in
    let first : ℕ = from + trailing_zeros w16 (c.from.result / 2 ^ from) in
    let some : bits / 2 ^ from ≢ 0 = λ e. c.if-rest-eq0.false (ap (λ (n : ℕ). n / 2 ^ from) c.from.ensures ∙ e) in
    let is_first : first ≡ from + trailing_zeros w16 (bits / 2 ^ from) = ap (λ (n : ℕ). from + trailing_zeros w16 (n / 2 ^ from)) c.from.ensures in
    let is_count : c.trailing_ones-count.result ≡ trailing_ones w16 (bits / 2 ^ first) =
    c.trailing_ones-count.ensures ∙ ap (λ (n : ℕ). trailing_ones w16 (n / 2 ^ first)) c.from-2.ensures in
    run_left bits from first c.trailing_ones-count.result c.ranges.bits.fits some is_first is_count
