-- Each question was answered well before the next was asked.
use Rattle.std.proofs.Common.{ℕ, ◌+◌, ◌-◌, ◌*◌, ◌/◌, length, ap, sym, ◌∙◌, List, arith}
use Rattle.wb_header.specs.Refused.{HasEntries}
use Rattle.wb_header.proofs.Checkings.{judged, blocks_from, sums_of_front, text_from}
use Rattle.wb_header.proofs.checking.check.Goals as goal

pub returns-in-Some-first_repeated-clause-refused : goal.returns-in-Some-first_repeated-clause-refused
returns-in-Some-first_repeated-clause-refused c =
    let bytes : List ℕ = c.args.bytes.now in
    let room : ℕ = length bytes / 4096 - 1 in
    let entries : HasEntries room c.args.blocks c.args.id bytes = judged room c.args.blocks c.args.id c.header_id-stored_id.result bytes c.header_id-stored_id.ensures c.if-stored_id-id.false c.if-length-eq0.false (omega arith) c.in_default.ensures c.in_default-first_unfit.ensures in
    let found = c.in-Some-first_repeated.ensures in
    (entries, found.inside, found.here, λ k below. found.least k (omega arith) below)

pub returns-then-stored-computed-clause-refused : goal.returns-then-stored-computed-clause-refused
returns-then-stored-computed-clause-refused c =
    let bytes : List ℕ = c.args.bytes.now in
    let room : ℕ = length bytes / 4096 - 1 in
    let entries : HasEntries room c.args.blocks c.args.id bytes = judged room c.args.blocks c.args.id c.header_id-stored_id.result bytes c.header_id-stored_id.ensures c.if-stored_id-id.false c.if-length-eq0.false (omega arith) c.in_default.ensures c.in_default-first_unfit.ensures in
    let sums = sums_of_front (4096 * (1 + c.from-2.result)) c.stored_sum-stored.result c.computed_sum-computed.result bytes (ap (λ (n : ℕ). 4096 * (1 + n)) c.from-2.ensures) c.stored_sum-stored.ensures c.computed_sum-computed.ensures in
    (blocks_from room c.args.blocks c.args.id bytes entries c.in_default-first_repeated.ensures, sums.0, sums.1, c.if-stored-computed.true)

pub returns-clause-found : goal.returns-clause-found
returns-clause-found c =
    let bytes : List ℕ = c.args.bytes.now in
    let room : ℕ = length bytes / 4096 - 1 in
    let entries : HasEntries room c.args.blocks c.args.id bytes = judged room c.args.blocks c.args.id c.header_id-stored_id.result bytes c.header_id-stored_id.ensures c.if-stored_id-id.false c.if-length-eq0.false (omega arith) c.in_default.ensures c.in_default-first_unfit.ensures in
    text_from room c.args.blocks c.args.id (4096 * (1 + c.from-2.result)) bytes (ap (λ (n : ℕ). 4096 * (1 + n)) c.from-2.ensures) (omega arith) (λ k. omega (arith, c.type_inv.bytes k)) (blocks_from room c.args.blocks c.args.id bytes entries c.in_default-first_repeated.ensures)
    (sym c.stored_sum-stored.ensures ∙ c.if-stored-computed.false ∙ c.computed_sum-computed.ensures)
