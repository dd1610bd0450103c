-- An entry is kept in the open segment.
use Rattle.std.proofs.Common.{ℕ, ◌≡◌, ◌⊎◌, ◌+◌, ◌*◌, ◌≤◌, List, [], ◌∷◌, ◌++◌, inl, inr, refl, arith}
use Rattle.std.specs.List.{All}
use Rattle.wb_geometry.specs.declared.entry.Entry.TheVariants as entry
use Rattle.wb_header.specs.Text.{TextBlock}
use Rattle.wb_header.specs.Standing.{numbers_of}
use Rattle.wb_header.proofs.Standings.{stands_void}
use Rattle.wb_ram.specs.Merging.{IsMerged}
use Rattle.wb_back.proofs.Added.{AreInside-added}
use Rattle.wb_memory.specs.Memory.{MemoryContent}
use Rattle.wb_engine.specs.Standing.{Keeps}

-- a place that changes nothing leaves the memory as it is
pub keeps_void : (client : ℕ) (m : MemoryContent) → Keeps (entry.Void client) m m
keeps_void client m = record {
  stands = λ entries is. stands_void m.current.blocks entries client is;
  id = refl;
  sealed = refl;
  logged = refl;
  places = refl;
  segments = refl;
  few = omega arith;
  some = λ some. omega (arith, some);
  inside = λ sectors inside fits. inside;
}

numbers_either : (number bits index : ℕ) (old new : List TextBlock) → IsMerged number bits index old new → (numbers_of new ≡ numbers_of old) ⊎ (numbers_of new ≡ numbers_of old ++ number ∷ [])
numbers_either number bits index old new merged = elim merged.numbers [
  | inl same ↦ inl same
  | inr more ↦ inr more.0
]

pub merged_inside : (number bits index sectors : ℕ) (old new : List TextBlock) → IsMerged number bits index old new
    → All (λ block. 8 * block.number + 8 ≤ sectors) old → 8 * number + 8 ≤ sectors → All (λ block. 8 * block.number + 8 ≤ sectors) new
merged_inside number bits index sectors old new merged inside fits = AreInside-added sectors old new number (numbers_either number bits index old new merged) inside fits
