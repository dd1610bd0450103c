use Rattle.std.proofs.Common.{ℕ, ◌≡◌, ◌+◌, ◌<◌, ◌≤◌, ◌++◌, ◌∷◌, [], length, get_or, rules, tests, subst, sym, ◌∙◌, arith}
use Rattle.std.proofs.lemmas.Iterator.{YieldsList-from_take}
use Rattle.std.proofs.lemmas.Iterator.Adapters.{YieldsList-from_skip}
use Rattle.std.proofs.lemmas.Iterator.Consumers.{YieldsList-at, YieldsList-from_enumerate, YieldsList-turn, YieldsList-end}
use Rattle.std.proofs.lemmas.Iterator.Splits.{YieldsList-from_slice_split}
use Rattle.std.proofs.lemmas.List.{length-drop, length_push}
use Rattle.wb_script.specs.Grammar.{IsTheScript, lines, request_lines, words}
use Rattle.wb_script.specs.Counting.{IsLineRefused}
use Rattle.wb_script.specs.Refused.{HasRefusal}
use Rattle.wb_script.specs.declared.request.Request.{Request}
use Rattle.wb_script.specs.declared.parsing.requests.LineStop.TheVariants.{Offends}
use Rattle.wb_script.specs.declared.refusal.ParseStop.TheVariants.{Refused}
use Rattle.wb_script.proofs.Grammars.{IsScript-fine, the_refusal, the_script}
use Rattle.wb_script.proofs.Lines.{is_newline, length-placed_lines, placed_line}
use Rattle.wb_script.proofs.Progress.{IsFineUpTo-read, IsRefused-line}
use Rattle.wb_script.proofs.Spelled.{AreRead-more}
use Rattle.wb_script.proofs.parsing.read_script.Goals as goal
use Rattle.wb_script.proofs.parsing.read_script.Goals.{In-Some, In-None}

-- which line this one is
turn : (c : In-Some) → (c.in-Some.index ≡ length c.loop-index.yielded + 1)
    × (c.in-Some.line.now ≡ get_or (request_lines c.args.bytes.now) (length c.loop-index.yielded) [])
    × (length c.loop-index.yielded + 1 < length (lines c.args.bytes.now))
turn c =
    let at = YieldsList-turn
    (YieldsList-from_skip {s = c.into_iter-index-iterator.result} 1 (YieldsList-at (search rules)
    (YieldsList-from_take {s = c.take.result} (length (lines c.args.bytes.now)) (YieldsList-at c.take.ensures.source
    (YieldsList-from_enumerate {s = c.enumerate.result} (YieldsList-at c.enumerate.ensures.source
    (YieldsList-from_slice_split {s = c.split-lines.result} _ is_newline c.args.bytes.now c.split-lines.ensures.rest c.split-lines.ensures.done c.split-lines.ensures.closure (λ x r q k. search (rules, tests))))
    c.enumerate.ensures.count)) (c.take.ensures.count ∙ c.requires.counted))) (search rules))
    c.loop-index.yielded _ c.loop-index.yielded_by _ _ (c.in-Some.index, c.in-Some.line) c.in-Some.is c.next.ensures.steps in
    placed_line c.args.bytes.now (length c.loop-index.yielded) (c.in-Some.index, c.in-Some.line.now) at.0 at.1

-- all lines were read at the end
end : (c : In-None) → length (request_lines c.args.bytes.now) ≤ length c.loop-index.yielded
end c =
    let all = YieldsList-end
    (YieldsList-from_skip {s = c.into_iter-index-iterator.result} 1 (YieldsList-at (search rules)
    (YieldsList-from_take {s = c.take.result} (length (lines c.args.bytes.now)) (YieldsList-at c.take.ensures.source
    (YieldsList-from_enumerate {s = c.enumerate.result} (YieldsList-at c.enumerate.ensures.source
    (YieldsList-from_slice_split {s = c.split-lines.result} _ is_newline c.args.bytes.now c.split-lines.ensures.rest c.split-lines.ensures.done c.split-lines.ensures.closure (λ x r q k. search (rules, tests))))
    c.enumerate.ensures.count)) (c.take.ensures.count ∙ c.requires.counted))) (search rules))
    c.loop-index.yielded _ c.loop-index.yielded_by _ _ c.in-None.is c.next.ensures.steps in
    omega (arith, all.1, length-placed_lines c.args.bytes.now)

pub read_line-requires-clause-read : goal.read_line-requires-clause-read
read_line-requires-clause-read c = (request_lines c.args.bytes.now, c.loop-index.invariant.owned, c.loop-index.invariant.so_far)

pub loop-index-preserved : goal.loop-index-preserved
loop-index-preserved c =
    let here = turn (goal.at.loop-index-preserved c).In-Some in
    let rest = request_lines c.args.bytes.now in
    let inside : length c.loop-index.yielded < length rest = omega (arith, here.2, length-drop 1 (lines c.args.bytes.now)) in
    let found = c.in-Ok.ensures.read in
    let own : ℕ × Request = (found.0, found.1) in
    record {
      owned = c.loop-index.invariant.owned ++ own ∷ [];
      read = rw (length_push c.loop-index.yielded (c.in-Some.index, c.in-Some.line))
          (AreRead-more c.args.sectors c.args.clients rest (length c.loop-index.yielded) c.loop-index.invariant.owned c.in-Some.line.now own c.loop-index.invariant.read inside here.1 found.2);
      so_far = found.3 rest c.loop-index.invariant.owned c.loop-index.invariant.so_far;
    }

pub returns-in-Err-Offends-clause-refused : goal.returns-in-Err-Offends-clause-refused
returns-in-Err-Offends-clause-refused c =
    let here = turn (goal.at.returns-in-Err-Offends-clause-refused c).In-Some in
    let bytes = c.args.bytes.now in
    let k : ℕ = length c.loop-index.yielded in
    let fine = IsFineUpTo-read c.args.sectors c.args.clients bytes k c.loop-index.invariant.owned c.loop-index.reading c.requires.short c.requires.few c.requires.header c.loop-index.invariant.read c.loop-index.invariant.so_far in
    let stops = subst (IsLineRefused c.args.sectors c.args.clients (words c.in-Some.line.now) c.loop-index.reading) c.in-Err-Offends.field-0-is c.in-Err-Offends.ensures.refused in
    let none = subst (λ line. IsLineRefused c.args.sectors c.args.clients (words line) c.loop-index.reading (Offends c.in-Err-Offends.cause)) here.1 stops in
    let line : c.in-Some.index + 1 ≡ k + 2 = omega (arith, here.0) in
    let refusal : c.refused.result ≡ Refused (record { line = k + 2; cause = c.in-Err-Offends.cause }) = cc in
    subst (HasRefusal c.args.sectors bytes) (sym refusal)
    (the_refusal c.args.sectors bytes (k + 2) c.in-Err-Offends.cause (omega arith)
    (IsRefused-line c.args.sectors c.args.clients bytes k c.loop-index.invariant.owned c.loop-index.reading c.in-Err-Offends.cause (omega arith) fine c.loop-index.invariant.so_far here.2 none))

pub returns-clause-script : goal.returns-clause-script
returns-clause-script c =
    let bytes = c.args.bytes.now in
    let k : ℕ = length c.loop-index.yielded in
    let all = end (goal.at.returns-clause-script c).In-None in
    let fine = IsFineUpTo-read c.args.sectors c.args.clients bytes k c.loop-index.invariant.owned c.loop-index.reading c.requires.short c.requires.few c.requires.header c.loop-index.invariant.read c.loop-index.invariant.so_far in
    let script : c.of-2.result ≡ record { clients = c.args.clients; sectors = c.args.sectors; requests = c.loop-index.reading.requests.items } =
    λ i. record { clients = c.of-2.ensures.clients i; sectors = c.of-2.ensures.sectors i; requests = c.of-2.ensures.requests i } in
    subst (IsTheScript c.args.sectors bytes) (sym script)
    (the_script c.args.sectors bytes _ (omega arith)
    (IsScript-fine c.args.sectors c.args.clients bytes k c.loop-index.invariant.owned c.loop-index.reading.requests.items (omega arith) fine all c.loop-index.invariant.so_far.requests_are))
