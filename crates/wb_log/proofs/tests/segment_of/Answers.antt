use Rattle.std.proofs.Common.{ℕ, ◌≡◌, ◌≢◌, ◌+◌, ◌<◌, ◌≤◌, ◌++◌, List, [], ◌∷◌, length, get_or, sym, ◌∙◌, ap, subst, arith, below_more}
use Rattle.std.specs.Int.{bit_at}
use Rattle.std.proofs.lemmas.Nat.Bits.{bit_at_mask_inside, bit_at-zero}
use Rattle.std.proofs.lemmas.List.{map_push, length_push, get_or_push, get_or_append_left, get_or_default}
use Rattle.wb_geometry.specs.Block.{part_bits}
use Rattle.wb_geometry.specs.declared.request.Part.{Part}
use Rattle.wb_header.specs.Text.{TextBlock, no_block}
use Rattle.wb_header.specs.Segments.{IsSegment, blocks_of, block_of}
use Rattle.wb_header.specs.declared.sealed.Cached.{Cached}
use Rattle.wb_log.proofs.tests.segment_of.Invariants.{AreNumbered}
use Rattle.wb_log.proofs.tests.segment_of.Goals as goal

AreNumbered-push : (first count : ℕ) (old new : List Cached) (cached : Cached) → new ≡ old ++ cached ∷ [] → cached.block ≡ first + count → cached.payload.value.bits ≢ 0
    → AreNumbered first count old → AreNumbered first (count + 1) new
AreNumbered-push first count old new cached is block bits before =
    let pushed : blocks_of new ≡ blocks_of old ++ block_of cached ∷ [] = ap blocks_of is ∙ map_push block_of old cached in
    let last : get_or (blocks_of new) count no_block ≡ block_of cached =
    ap (λ (blocks : List TextBlock). get_or blocks count no_block) pushed ∙ get_or_push (blocks_of old) (block_of cached) no_block count before.size in
    record {
      size = ap length pushed ∙ length_push (blocks_of old) (block_of cached) ∙ ap (λ (n : ℕ). n + 1) before.size;
      numbered = below_more _ _ (λ j below. ap (λ (b : TextBlock). b.number) (kept pushed j below) ∙ before.numbered j below) (ap (λ (b : TextBlock). b.number) last ∙ block);
      dirty = below_more _ _ (λ j below. subst (λ (b : TextBlock). b.bits ≢ 0) (sym (kept pushed j below)) (before.dirty j below)) (subst (λ (b : TextBlock). b.bits ≢ 0) (sym last) bits);
    }
  where
    kept : blocks_of new ≡ blocks_of old ++ block_of cached ∷ [] → (j : ℕ) → j < count → get_or (blocks_of new) j no_block ≡ get_or (blocks_of old) j no_block
    kept pushed j below =
        ap (λ (blocks : List TextBlock). get_or blocks j no_block) pushed ∙ get_or_append_left (blocks_of old) (block_of cached ∷ []) no_block j (omega (arith, before.size))

IsSegment-numbered : (id first count : ℕ) (cached : List Cached) → 1 ≤ id → 1 ≤ count → count ≤ 127 → AreNumbered first count cached
    → IsSegment id (blocks_of cached)
IsSegment-numbered id first count cached named some few are = record {
  named = named;
  some = omega (arith, are.size);
  few = omega (arith, are.size);
  distinct = λ i j less below same. absurd (omega (arith, same, are.numbered i (omega (arith, are.size)), are.numbered j (omega (arith, are.size))));
  dirty = λ k d below. subst (λ (b : TextBlock). b.bits ≢ 0) (sym (get_or_default (blocks_of cached) k d no_block below)) (are.dirty k (omega (arith, are.size)));
}

-- a part of a block has a dirty bit, its first
some_bit : (part : Part) (bits : ℕ) → 1 ≤ part.count → bits ≡ part_bits part → bits ≢ 0
some_bit part bits some is = λ none.
    absurd (omega (arith, bit_at_mask_inside part.from (part.from + part.count) part.from (omega arith) (omega (arith, some)), bit_at-zero part.from, ap (λ (n : ℕ). bit_at n part.from) (sym is ∙ none)))

pub loop-index-preserved : goal.loop-index-preserved
loop-index-preserved c =
    AreNumbered-push c.first_block-first.result c.loop-index.index c.loop-index.blocks.items _ _ c.in_ok-push.ensures.items
    (ap (λ (n : ℕ). c.first_block-first.result + n) c.from-in-loop-index.ensures)
    (some_bit (record { block = 0; from = 0; count = c.loop-index.index + 1 }) _ (omega arith) c.in_ok-payload.ensures.bits)
    c.loop-index.invariant

pub of-requires : goal.of-requires
of-requires c =
    let all : c.loop-index.index ≡ c.args.count = omega (arith, c.loop-index-test.false, c.loop-index.auto.index-end) in
    IsSegment-numbered c.args.id c.first_block-first.result c.args.count c.loop-index.blocks.items c.requires.named c.requires.some (omega (arith, c.requires.few))
    (subst (λ (n : ℕ). AreNumbered c.first_block-first.result n c.loop-index.blocks.items) all c.loop-index.invariant)
