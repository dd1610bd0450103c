-- The parts of the fault word.
use Rattle.std.specs.Prelude.{ℕ, ◌≤◌, ◌/◌, ◌%◌, ◌^◌, max}
use Rattle.wb_steps.specs.declared.view.Faults.{Faults}

-- The word is the sum of 1 where the log device is down, 2 where the backing device is, 4 for each read that failed on the log device,
-- and 2^33 for each that failed on the backing device.
abbrev pub parts_of : ℕ → Faults
parts_of word = record { log_down = word % 2; backing_down = word / 2 % 2; log_reads = word / 4 % 2 ^ 31; backing_reads = word / 2 ^ 33 }

-- no part of a is above that of b
pub record IsPartwiseAtMost (a b : Faults) : Type 0 where
  pub log_down : a.log_down ≤ b.log_down
  pub backing_down : a.backing_down ≤ b.backing_down
  pub log_reads : a.log_reads ≤ b.log_reads
  pub backing_reads : a.backing_reads ≤ b.backing_reads

-- the greater of each part
abbrev pub greater_parts : Faults → Faults → Faults
greater_parts a b = record {
  log_down = max a.log_down b.log_down;
  backing_down = max a.backing_down b.backing_down;
  log_reads = max a.log_reads b.log_reads;
  backing_reads = max a.backing_reads b.backing_reads;
}
