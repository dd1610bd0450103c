-- The range has the bytes of a block.
use Rattle.std.proofs.Common.{ℕ, ◌≡◌, ◌+◌, ◌-◌, ◌*◌, List, take, drop, ap, ◌∙◌, arith}
use Rattle.wb_header.proofs.checking.Found.payload.Goals as goal

pub returns : goal.returns
returns c =
    let size : 4096 * (c.from.result + 1) + 4096 - 4096 * (c.from.result + 1) ≡ 4096 = omega arith in
    let view : c.self.inside.bytes.now ≡ c.args.self.now = c.self.view_is in
    ap (λ (n : ℕ). take n (drop (4096 * (c.from.result + 1)) c.self.inside.bytes.now)) size
    ∙ ap (λ (n : ℕ). take 4096 (drop (4096 * (n + 1)) c.self.inside.bytes.now)) c.from.ensures
    ∙ ap (λ (xs : List ℕ). take 4096 (drop (4096 * (c.args.index + 1)) xs)) view
