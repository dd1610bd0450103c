use Rattle.std.proofs.Common.{◌<◌, ℕ, arith, refl, sym, subst, ◌∙◌, lit<}
use Rattle.wb_tool.proofs.Runs.{reading_nothing, reading_more, read_whole, read_cut}
use Rattle.wb_tool.proofs.reading.read_all.Goals as goal

pub loop-source-init : goal.loop-source-init
loop-source-init g c = record {
  reading = rw c.new-bytes.ensures.items (reading_nothing _);
  kept = refl;
  room = let Some : ℕ → Type 0 = λ n. 0 < n in subst Some (sym c.in_ok-piece.ensures.len) (lit< tt);
}

pub returns-then-branch-eq0-clause-read : goal.returns-then-branch-eq0-clause-read
returns-then-branch-eq0-clause-read g c =
    read_whole _ _ _ (reading_more _ _ _ _ _ _ c.loop-source.invariant.reading c.in_ok-read_piece.ensures.piece)
    (c.in_ok-read_piece.ensures.piece.at_end c.if-branch-eq0.true)

pub loop-source-preserved : goal.loop-source-preserved
loop-source-preserved g c = record {
  reading = reading_more _ _ _ _ _ _ c.loop-source.invariant.reading c.in_ok-read_piece.ensures.piece;
  kept = c.in_ok-read_piece.ensures.kept ∙ c.loop-source.invariant.kept;
  room = c.loop-source.invariant.room;
}

pub returns-clause-read : goal.returns-clause-read
returns-clause-read g c =
    read_cut _ _ _ c.loop-source.invariant.reading (omega (arith, c.loop-source-test.false, c.len.ensures, c.loop-source.bytes.ok.0))
