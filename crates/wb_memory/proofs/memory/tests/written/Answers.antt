-- A part of a block has a dirty bit, its first.
use Rattle.std.proofs.Common.{ℕ, ◌≡◌, ◌≢◌, ◌+◌, ◌≤◌, ◌∙◌, sym, ap, arith}
use Rattle.std.specs.Int.{bit_at}
use Rattle.std.proofs.lemmas.Nat.Bits.{bit_at_mask_inside, bit_at-zero}
use Rattle.std.proofs.lemmas.Result.{IfOk-weaker}
use Rattle.wb_geometry.specs.declared.request.Part.{Part}
use Rattle.wb_geometry.specs.Block.{part_bits}
use Rattle.wb_memory.proofs.memory.tests.written.Goals as goal

some_bit : (part : Part) (bits : ℕ) → 1 ≤ part.count → bits ≡ part_bits part → bits ≢ 0
some_bit part bits some is = λ none.
    absurd (omega (arith, bit_at_mask_inside part.from (part.from + part.count) part.from (omega arith) (omega (arith, some)), bit_at-zero part.from, ap (λ (n : ℕ). bit_at n part.from) (sym is ∙ none)))

pub returns : goal.returns
returns c =
    let part : Part = record { block = 0; from = c.args.from; count = c.args.count } in
    IfOk-weaker c.boxed.result (λ block. block.value.bits ≡ part_bits part) (λ block. block.value.bits ≢ 0) (λ block. some_bit part block.value.bits c.requires.some) c.boxed.ensures.bits
