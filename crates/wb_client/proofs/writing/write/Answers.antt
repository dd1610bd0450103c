-- The front wrote the bytes of the pattern.
use Rattle.std.proofs.Common.{ℕ, List, ◌≡◌, ◌*◌, length, ◌∙◌, ap, arith}
use Rattle.wb_steps.specs.Rule.{shape_of}
use Rattle.wb_intake.specs.Passes.{client_of_pass, view_of, loads_of}
use Rattle.wb_script.specs.Patterns.{repeated}
use Rattle.wb_script.specs.Valid.{Fills}
use Rattle.wb_buffers.proofs.Repeats.{length-repeated}
use Rattle.wb_client.proofs.Fronts.{asked_many, taken_as_asked, fewer, not_stopped, stopped_for}
use Rattle.wb_client.proofs.writing.write.Goals as goal

-- the bytes are those of the pattern
bytes_are : (bytes filled asked pattern : List ℕ) (count : ℕ) → bytes ≡ filled → filled ≡ repeated asked (512 * count) → asked ≡ pattern → bytes ≡ repeated pattern (512 * count)
bytes_are bytes filled asked pattern count is fills same = is ∙ fills ∙ ap (λ (p : List ℕ). repeated p (512 * count)) same

sized : (bytes pattern : List ℕ) (count : ℕ) → bytes ≡ repeated pattern (512 * count) → Fills pattern count → length bytes ≡ 512 * count
sized bytes pattern count is fills = ap length is ∙ length-repeated pattern (512 * count) fills.some fills.whole

before : (g : _) (c : goal.After-deref g) → length c.deref.result.now ≡ 512 * c.args.count
before g c =
    sized c.deref.result.now c.args.pattern.now c.args.count
    (bytes_are c.deref.result.now c.repeat.new.bytes.items c.as_slice.result.now c.args.pattern.now c.args.count c.deref.ensures.value c.in_ok-repeat.ensures c.as_slice.ensures) c.requires.fills

pub write-requires-clause-whole : goal.write-requires-clause-whole
write-requires-clause-whole g c = omega (arith, before g c)

pub write-requires-clause-some : goal.write-requires-clause-some
write-requires-clause-some g c = omega (arith, before g c, c.requires.within.some)

pub write-requires-clause-few : goal.write-requires-clause-few
write-requires-clause-few g c = omega (arith, before g c, c.requires.within.few)

pub write-requires-clause-inside : goal.write-requires-clause-inside
write-requires-clause-inside g c = omega (arith, before g c, c.requires.within.inside)

pub returns-in-Ok-clause-written : goal.returns-in-Ok-clause-written
returns-in-Ok-clause-written g c =
    let t = g.T.Named.carried in
    let client : ℕ = client_of_pass c.args.pass.now in
    let v = view_of c.args.pass.now in
    let w = view_of c.write.new.pass in
    let is = bytes_are c.deref.result.now c.repeat.new.bytes.items c.as_slice.result.now c.args.pattern.now c.args.count c.deref.ensures.value c.in_ok-repeat.ensures c.as_slice.ensures in
    let size = sized c.deref.result.now c.args.pattern.now c.args.count is c.requires.fills in
    let put = c.in-Ok.ensures.put in
    record {
      taken = taken_as_asked client v c.args.sector c.args.count c.args.pattern.now c.deref.result.now is size w c.in-Ok.places put.0;
      ended = put.1 ∙ asked_many client v c.args.sector c.args.count c.args.pattern.now c.deref.result.now is size;
      why = not_stopped (shape_of t.geometry t.first) w;
    }

pub returns-in_ok-stop_of-in-Err-clause-written : goal.returns-in_ok-stop_of-in-Err-clause-written
returns-in_ok-stop_of-in-Err-clause-written g c =
    let t = g.T.Named.carried in
    let client : ℕ = client_of_pass c.args.pass.now in
    let p = c.args.pass.now in
    let q = c.write.new.pass in
    let stop = c.in_ok-stop_of-in-Err.field-0 in
    let places = c.in-Err.field-0.places in
    let why = c.in-Err.field-0.cause in
    let is = bytes_are c.deref.result.now c.repeat.new.bytes.items c.as_slice.result.now c.args.pattern.now c.args.count c.deref.ensures.value c.in_ok-repeat.ensures c.as_slice.ensures in
    let size = sized c.deref.result.now c.args.pattern.now c.args.count is c.requires.fills in
    let put = c.in-Err.ensures.stopped in
    let of = c.in_ok-stop_of-in-Err.ensures in
    record {
      taken = taken_as_asked client (view_of p) c.args.sector c.args.count c.args.pattern.now c.deref.result.now is size (view_of q) places put.0;
      ended = fewer client (view_of p) c.args.sector c.args.count c.args.pattern.now c.deref.result.now is size places stop why of put.1;
      why = stopped_for (shape_of t.geometry t.first) (loads_of p) (loads_of q) (view_of q) (length places) why stop of c.in-Err.ensures.cause;
    }
