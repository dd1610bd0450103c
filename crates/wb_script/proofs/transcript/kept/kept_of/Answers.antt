-- The pattern that is kept makes the bytes that are shown, and is the shortest.
use Rattle.std.proofs.Common.{◌≡◌, ◌∙◌, sym, ap, length}
use Rattle.wb_script.specs.Patterns.{repeated, shortest_pattern}
use Rattle.wb_script.specs.declared.transcript.Line.TheVariants as line
use Rattle.wb_script.proofs.transcript.kept.kept_of.Goals as goal

pub returns-in_ok-from_slice-in-Got-clause-line : goal.returns-in_ok-from_slice-in-Got-clause-line
returns-in_ok-from_slice-in-Got-clause-line c =
    let whole : repeated c.in_ok-from_slice-in-Got.field-0.items c.len.result ≡ c.in-Got.payload =
    rw (c.in_ok-from_slice-in-Got.ensures.items, c.len.ensures) c.pattern.ensures.fills
    in
    ap (line.Got c.in-Got.point) whole ∙ sym c.in-Got.is

pub returns-in_ok-from_slice-in-Got-clause-kept : goal.returns-in_ok-from_slice-in-Got-clause-kept
returns-in_ok-from_slice-in-Got-clause-kept c =
    let whole : repeated c.in_ok-from_slice-in-Got.field-0.items c.len.result ≡ c.in-Got.payload =
    rw (c.in_ok-from_slice-in-Got.ensures.items, c.len.ensures) c.pattern.ensures.fills
    in
    record {
      fills = ap length whole ∙ sym c.len.ensures;
      shortest = c.in_ok-from_slice-in-Got.ensures.items ∙ c.pattern.ensures.shortest ∙ ap shortest_pattern (sym whole);
    }
