-- The shape of a line, whatever its pieces are.
use Rattle.std.proofs.Common.{◌≡◌, ◌++◌, List, ℕ, refl, append_assoc, codes}
use Rattle.wb_script.specs.Output.{newline}

pub inspected_shape : (version geometry recorded : List ℕ)
    → codes "version " ++ (version ++ (codes " " ++ (geometry ++ (codes " record " ++ (recorded ++ newline)))))
    ≡ codes "version " ++ version ++ codes " " ++ geometry ++ codes " record " ++ recorded ++ newline
inspected_shape version geometry recorded = simp append_assoc refl

pub entry_shape : (block bits : List ℕ)
    → codes "block " ++ (block ++ (codes " bits " ++ (bits ++ newline))) ≡ codes "block " ++ block ++ codes " bits " ++ bits ++ newline
entry_shape block bits = simp append_assoc refl

pub segment_shape : (slot id size sum : List ℕ)
    → codes "slot " ++ (slot ++ (codes " id " ++ (id ++ (codes " length " ++ (size ++ (codes " sum " ++ (sum ++ newline)))))))
    ≡ (codes "slot " ++ slot) ++ codes " id " ++ id ++ codes " length " ++ size ++ codes " sum " ++ sum ++ newline
segment_shape slot id size sum = simp append_assoc refl

pub refused_shape : (slot id cause : List ℕ)
    → codes "slot " ++ (slot ++ (codes " id " ++ (id ++ (codes " refused " ++ (cause ++ newline)))))
    ≡ (codes "slot " ++ slot) ++ codes " id " ++ id ++ codes " refused " ++ cause ++ newline
refused_shape slot id cause = simp append_assoc refl

pub recovered_shape : (count from recorded cause : List ℕ)
    → codes "recovered " ++ (count ++ (codes " segments from " ++ (from ++ (codes " record " ++ (recorded ++ (codes " stopped " ++ (cause ++ newline)))))))
    ≡ codes "recovered " ++ count ++ codes " segments from " ++ from ++ codes " record " ++ recorded ++ codes " stopped " ++ cause ++ newline
recovered_shape count from recorded cause = simp append_assoc refl

-- the pieces of the line of a workload

abbrev pub counts_pieces : (requests writes reads flushes : List ℕ) → List ℕ
counts_pieces requests writes reads flushes = codes "requests " ++ requests ++ codes " writes " ++ writes ++ codes " reads " ++ reads ++ codes " flushes " ++ flushes

pub counts_shape : (requests writes reads flushes : List ℕ)
    → codes "requests " ++ (requests ++ (codes " writes " ++ (writes ++ (codes " reads " ++ (reads ++ (codes " flushes " ++ flushes)))))) ≡ counts_pieces requests writes reads flushes
counts_shape requests writes reads flushes = simp append_assoc refl

abbrev pub workload_pieces : (seed clients counts sum : List ℕ) → List ℕ
workload_pieces seed clients counts sum =
    codes "workload seed " ++ seed ++ codes " clients " ++ clients ++ codes " " ++ counts ++ codes " sum " ++ sum ++ newline

pub workload_shape : (seed clients counts sum : List ℕ)
    → codes "workload seed " ++ (seed ++ (codes " clients " ++ (clients ++ (codes " " ++ (counts ++ (codes " sum " ++ (sum ++ newline)))))))
    ≡ workload_pieces seed clients counts sum
workload_shape seed clients counts sum = simp append_assoc refl
