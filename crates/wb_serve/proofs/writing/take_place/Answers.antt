-- An entry is absorbed where there is an id and room for it.
use Rattle.std.proofs.Common.{ℕ, ◌≡◌, ◌≤◌, ◌^◌, ap, subst, ◌∙◌, inl, inr, arith}
use Rattle.wb_geometry.specs.Layout.{segment_of}
use Rattle.wb_geometry.specs.Entering.{entered}
use Rattle.wb_serve.proofs.Moves.{moved_then, moved_entry}
use Rattle.wb_serve.proofs.Rooms.{place_small, some_left, left_still}
use Rattle.wb_crash.specs.declared.numbers.Numbers.{Numbers}
use Rattle.wb_serve.proofs.writing.take_place.Goals as goal

pub segment_of-requires-clause-place : goal.segment_of-requires-clause-place
segment_of-requires-clause-place g c =
    omega (arith, c.absorbed-place.ensures, place_small c.args.engine.now c.geometry.ensures.sound)

pub returns-in-Some : goal.returns-in-Some
returns-in-Some g c =
    let e = c.args.engine.now in
    let id : c.segment_of.result ≡ segment_of e.geometry e.absorbed e.numbers.first =
    cc (c.segment_of.ensures, c.geometry.ensures.geometry, c.absorbed-place.ensures, c.first.ensures) in
    let left = some_left e (subst (λ (n : ℕ). n ≤ 2 ^ 48) id c.if-segment_of-gt-MOST_ID.false) in
    let made = c.in-Some.ensures in
    record {
      taken = (
        record { down = made.down.0; full = made.down.1; ordered = made.down.2; left = left_still made.moved left },
        made.moved,
        (λ quiet. elim quiet [
          | inl room ↦ let same = made.kept room in (ap (λ x. x.log) same, ap (λ x. x.backing) same)
          | inr spent ↦ absurd (left spent)
        ]),
      );
    }

pub returns : goal.returns
returns g c =
    let absorb = c.absorb.ensures in
    let e = c.args.engine.now in
    let id : c.segment_of.result ≡ segment_of e.geometry e.absorbed e.numbers.first =
    cc (c.segment_of.ensures, c.geometry.ensures.geometry, c.absorbed-place.ensures, c.first.ensures) in
    let left = some_left e (subst (λ (n : ℕ). n ≤ 2 ^ 48) id c.if-segment_of-gt-MOST_ID.false) in
    record {
      taken = (
        c.absorbed-place.ensures,
        left,
        moved_then c.make_room.ensures.moved
            (moved_entry (entered c.args.entry) absorb.stands absorb.synced absorb.kept.log absorb.kept.backing
            (record { geometry = absorb.kept.geometry; first = ap (λ (n : Numbers). n.first) absorb.numbers })
            absorb.absorbed (ap (λ (n : Numbers). n.stable) absorb.numbers) absorb.kept.down),
        (λ quiet. elim quiet [
          | inl room ↦ let same = c.make_room.ensures.kept room in (absorb.kept.log ∙ ap (λ x. x.log) same, absorb.kept.backing ∙ ap (λ x. x.backing) same)
          | inr spent ↦ absurd (left spent)
        ]),
      );
    }
