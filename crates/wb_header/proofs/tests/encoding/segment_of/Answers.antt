use Rattle.std.proofs.Common.{ℕ, ◌≡◌, ◌+◌, ◌<◌, ◌≤◌, ◌++◌, List, [], ◌∷◌, length, get_or, refl, ◌∙◌, ap, arith, below_more}
use Rattle.std.proofs.lemmas.List.{map_push, length_push, get_or_push, get_or_append_left, get_or_default}
use Rattle.wb_header.specs.Text.{TextBlock, no_block}
use Rattle.wb_header.specs.Segments.{IsSegment, blocks_of, block_of}
use Rattle.wb_header.specs.declared.sealed.Cached.{Cached}
use Rattle.wb_header.proofs.tests.encoding.segment_of.Invariants.{AreNumbered}
use Rattle.wb_header.proofs.tests.encoding.segment_of.Goals as goal

AreNumbered-push : (first count : ℕ) (old new : List Cached) (cached : Cached) → new ≡ old ++ cached ∷ [] → cached.block ≡ first + count → cached.payload.value.bits ≡ 1
    → AreNumbered first count old → AreNumbered first (count + 1) new
AreNumbered-push first count old new cached is block bits before =
    let pushed : blocks_of new ≡ blocks_of old ++ block_of cached ∷ [] = ap blocks_of is ∙ map_push block_of old cached in
    let last : get_or (blocks_of new) count no_block ≡ block_of cached =
    ap (λ (blocks : List TextBlock). get_or blocks count no_block) pushed ∙ get_or_push (blocks_of old) (block_of cached) no_block count before.size in
    record {
      size = ap length pushed ∙ length_push (blocks_of old) (block_of cached) ∙ ap (λ (n : ℕ). n + 1) before.size;
      numbered = below_more _ _ (λ j below. ap (λ (b : TextBlock). b.number) (kept pushed j below) ∙ before.numbered j below) (ap (λ (b : TextBlock). b.number) last ∙ block);
      dirty = below_more _ _ (λ j below. ap (λ (b : TextBlock). b.bits) (kept pushed j below) ∙ before.dirty j below) (ap (λ (b : TextBlock). b.bits) last ∙ bits);
    }
  where
    kept : blocks_of new ≡ blocks_of old ++ block_of cached ∷ [] → (j : ℕ) → j < count → get_or (blocks_of new) j no_block ≡ get_or (blocks_of old) j no_block
    kept pushed j below =
        ap (λ (blocks : List TextBlock). get_or blocks j no_block) pushed ∙ get_or_append_left (blocks_of old) (block_of cached ∷ []) no_block j (omega (arith, before.size))

IsSegment-numbered : (id first count : ℕ) (cached : List Cached) → 1 ≤ id → 1 ≤ count → count ≤ 127 → AreNumbered first count cached
    → IsSegment id (blocks_of cached)
IsSegment-numbered id first count cached named some few are = record {
  named = named;
  some = omega (arith, are.size);
  few = omega (arith, are.size);
  distinct = λ i j less below same. absurd (omega (arith, same, are.numbered i (omega (arith, are.size)), are.numbered j (omega (arith, are.size))));
  dirty = λ k d below none.
      absurd (omega (arith, none, ap (λ (b : TextBlock). b.bits) (get_or_default (blocks_of cached) k d no_block below), are.dirty k (omega (arith, are.size))));
}

pub loop-index-preserved : goal.loop-index-preserved
loop-index-preserved c = AreNumbered-push 0x0807060504030201 c.loop-index.index c.loop-index.blocks.items _ _ c.in_ok-push.ensures.items refl c.in_ok-payload.ensures.bits c.loop-index.invariant

pub of-requires : goal.of-requires
of-requires c = IsSegment-numbered 0x0102 0x0807060504030201 c.loop-index.index c.loop-index.blocks.items (omega arith) (omega arith) (omega arith) c.loop-index.invariant
