-- A pattern of one byte fills, and another one is put again and again.
use Rattle.std.proofs.Common.{ℕ, List, ◌≡◌, ◌/◌, ◌++◌, ◌∙◌, ap, sym, length, replicate, get_or, arith}
use Rattle.std.specs.List.{concat}
use Rattle.std.proofs.lemmas.Result.{on_ok_weaker}
use Rattle.std.specs.Vec.{vec_len}
use Rattle.wb_buffers.proofs.Repeats.{repeated-one, repeated-push, repeated_is, resized}
use Rattle.wb_buffers.proofs.buffers.repeat.Goals as goal

pub returns-in-len1 : goal.returns-in-len1
returns-in-len1 c =
    let one : length c.args.pattern.now ≡ 1 = omega (arith, c.in-len1.len_at_least, c.in-len1.len_below) in
    on_ok_weaker c.resize.result (λ is. is ∙ sym (repeated-one c.args.pattern.now c.args.size one))
    (resized c.resize.result c.clear.new.self.items c.resize.new.self.items c.args.size (vec_len c.clear.new.self) (get_or c.args.pattern.now 0 0) c.clear.ensures.items c.clear.ensures.len c.resize.ensures.items)

pub loop-preserved : goal.loop-preserved
loop-preserved c =
    c.in_ok-extend_from_slice.ensures.items ∙ ap (λ (bytes : List ℕ). bytes ++ c.args.pattern.now) c.loop.invariant ∙ sym (repeated-push c.loop.counter c.args.pattern.now)

pub returns : goal.returns
returns c =
    let all : c.loop.counter ≡ c.args.size / length c.args.pattern.now = omega (arith, c.loop.auto.counter-end, c.loop-test.false) in
    c.loop.invariant ∙ ap (λ (n : ℕ). concat (replicate n c.args.pattern.now)) all ∙ sym (repeated_is c.args.pattern.now c.args.size)
