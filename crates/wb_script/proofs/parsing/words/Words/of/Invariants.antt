use Rattle.std.proofs.Common.{◌≡◌, length, take}
use Rattle.wb_script.proofs.parsing.words.Words.of.Given as goal

abbrev pub invariant-loop-word : goal.invariant-loop-word
invariant-loop-word l =
    record { sized : length l.first ≡ 6; counted : l.count ≡ length l.yielded; kept : take l.count l.first ≡ l.yielded }
