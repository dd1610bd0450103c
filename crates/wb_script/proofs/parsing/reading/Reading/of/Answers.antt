use Rattle.std.proofs.Common.{◌≡◌, [], ◌∷◌, ◌++◌, map, zero-add, ap, subst, sym, ◌∙◌, refl, arith}
use Rattle.std.specs.List.{range_with_len}
use Rattle.std.proofs.lemmas.List.FromFn.{map-range_with_len_more}
use Rattle.wb_script.specs.Grammar.{request_lines, requests_of}
use Rattle.wb_script.proofs.Progress.{IsReadSoFar-none}
use Rattle.wb_script.proofs.parsing.reading.Reading.of.Goals as goal

pub loop-preserved : goal.loop-preserved
loop-preserved c =
    c.in_ok-push.ensures.items
    ∙ ap (λ all. all ++ c.new.result ∷ []) c.loop.invariant
    ∙ ap (λ last. map (requests_of []) (range_with_len 0 c.loop.counter) ++ last ∷ []) c.new.ensures
    ∙ sym (map-range_with_len_more (requests_of []) 0 c.loop.counter c.loop.counter (zero-add c.loop.counter))

pub returns : goal.returns
returns c =
    let all : c.loop.counter ≡ c.args.clients = omega arith in
    IsReadSoFar-none (request_lines c.args.bytes.now) c.args.clients _
    (subst (λ n. c.loop.requests.items ≡ map (requests_of []) (range_with_len 0 n)) all c.loop.invariant) c.in_ok-of.ensures refl
