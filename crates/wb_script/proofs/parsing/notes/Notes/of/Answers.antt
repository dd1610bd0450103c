use Rattle.std.proofs.Common.{◌≡◌, ◌+◌, ◌<◌, [], length, get_or, take, drop, rules, tests, subst, sym, ap, ◌∙◌, arith}
use Rattle.std.specs.List.{slice_split}
use Rattle.std.proofs.lemmas.Iterator.{YieldsList-from_take}
use Rattle.std.proofs.lemmas.Iterator.Adapters.{YieldsList-from_skip}
use Rattle.std.proofs.lemmas.Iterator.Consumers.{YieldsList-at, YieldsList-turn, YieldsList-end}
use Rattle.std.proofs.lemmas.Iterator.Splits.{YieldsList-from_slice_split}
use Rattle.std.proofs.lemmas.List.{length-drop, length_push, take_all}
use Rattle.wb_script.specs.Counting.{AreNotes}
use Rattle.wb_script.specs.Grammar.{lines, request_lines}
use Rattle.wb_script.proofs.Lines.{is_newline, request_line, take-lines}
use Rattle.wb_script.proofs.Notes.{AreNotes-le, AreNotes-more, AreNotes-none, AreNotes-same, left_at}
use Rattle.wb_script.proofs.parsing.notes.Notes.of.Goals as goal
use Rattle.wb_script.proofs.parsing.notes.Notes.of.Goals.{In-Some, In-None}

pub loop-line-init : goal.loop-line-init
loop-line-init c = subst (AreNotes []) (sym (c.in_ok-left.ensures.items_if_clones_equal (λ y e. e))) (AreNotes-none (request_lines c.args.bytes.now))

-- which line this one is
turn : (c : In-Some) → (length c.loop-line.yielded < length (request_lines c.args.bytes.now))
    × (c.in-Some.line.now ≡ get_or (request_lines c.args.bytes.now) (length c.loop-line.yielded) [])
turn c =
    let at = YieldsList-turn
    (YieldsList-from_skip {s = c.into_iter-line-iterator.result} 1 (YieldsList-at (search rules)
    (YieldsList-from_take {s = c.take.result} (length (lines c.args.bytes.now)) (YieldsList-at c.take.ensures.source
    (YieldsList-from_slice_split {s = c.split-lines.result} _ is_newline c.args.bytes.now c.split-lines.ensures.rest c.split-lines.ensures.done c.split-lines.ensures.closure (λ x r q k. search (rules, tests))))
    (c.take.ensures.count ∙ c.requires.counted))) (search rules))
    c.loop-line.yielded _ c.loop-line.yielded_by _ _ c.in-Some.line c.in-Some.is c.next.ensures.steps in
    request_line c.args.bytes.now (length c.loop-line.yielded) c.in-Some.line.now at.0 at.1

pub overflow_add-index_mut : goal.overflow_add-index_mut
overflow_add-index_mut c =
    let rest = request_lines c.args.bytes.now in
    let note = c.in-Some-note_of.ensures in
    let value = left_at rest (length c.loop-line.yielded) c.loop-line.left.items c.place_of.result c.index_mut.result.now c.in-Some-note_of.teller c.in-Some-note_of.hearer
    c.loop-line.invariant note.0 note.1 c.place_of.ensures c.index_mut.ensures.value in
    let few = AreNotes-le rest (length c.loop-line.yielded) c.loop-line.left.items c.in-Some-note_of.teller c.in-Some-note_of.hearer c.loop-line.invariant note.0 note.1 in
    omega (arith, length-drop 1 (lines c.args.bytes.now), c.requires.few)

pub loop-line-preserved-in-Some-note_of : goal.loop-line-preserved-in-Some-note_of
loop-line-preserved-in-Some-note_of c =
    let here = turn (goal.at.loop-line-preserved-in-Some-note_of c).In-Some in
    let rest = request_lines c.args.bytes.now in
    let note = c.in-Some-note_of.ensures in
    let value = left_at rest (length c.loop-line.yielded) c.loop-line.left.items c.place_of.result c.index_mut.result.now c.in-Some-note_of.teller c.in-Some-note_of.hearer
    c.loop-line.invariant note.0 note.1 c.place_of.ensures c.index_mut.ensures.value in
    rw (length_push c.loop-line.yielded c.in-Some.line, c.place_of.ensures)
    (AreNotes-more rest (length c.loop-line.yielded) c.in-Some.line.now c.loop-line.left.items c.in-Some-note_of.teller c.in-Some-note_of.hearer (c.index_mut.result.now + 1)
    c.loop-line.invariant here.0 here.1 note.0 note.1 note.2 (ap (λ n. n + 1) value))

pub loop-line-preserved : goal.loop-line-preserved
loop-line-preserved c =
    let here = turn (goal.at.loop-line-preserved c).In-Some in
    rw (length_push c.loop-line.yielded c.in-Some.line)
    (AreNotes-same (request_lines c.args.bytes.now) (length c.loop-line.yielded) c.in-Some.line.now c.loop-line.left.items c.loop-line.invariant here.0 here.1 c.in_default.ensures)

pub returns : goal.returns
returns c =
    let bytes = c.args.bytes.now in
    let all = YieldsList-end
    (YieldsList-from_skip {s = c.into_iter-line-iterator.result} 1 (YieldsList-at (search rules)
    (YieldsList-from_take {s = c.take.result} (length (lines bytes)) (YieldsList-at c.take.ensures.source
    (YieldsList-from_slice_split {s = c.split-lines.result} _ is_newline bytes c.split-lines.ensures.rest c.split-lines.ensures.done c.split-lines.ensures.closure (λ x r q k. search (rules, tests))))
    (c.take.ensures.count ∙ c.requires.counted))) (search rules))
    c.loop-line.yielded _ c.loop-line.yielded_by _ _ c.in-None.is c.next.ensures.steps in
    let every : drop 1 (take (length (lines bytes)) (slice_split is_newline bytes)) ≡ request_lines bytes = ap (drop 1) (take-lines bytes) in
    subst (λ front. AreNotes front c.loop-line.left.items)
    (take_all (length c.loop-line.yielded) (request_lines bytes) (omega (arith, all.1, ap length every))) c.loop-line.invariant
