-- The clients before this one are there, and of none a note was heard.
use Rattle.std.proofs.Common.{ℕ, ◌≡◌, ◌<◌, length, get_or}
use Rattle.wb_script.specs.Valid.{requests_at}
use Rattle.wb_client.specs.declared.teller.Teller.{Teller}
use Rattle.wb_client.proofs.notes.tellers_of.Given as goal

abbrev pub invariant-loop-requests : goal.invariant-loop-requests
invariant-loop-requests l = record {
  count : length l.tellers.items ≡ l.requests-index;
  each : (k : ℕ) (d : Teller) → k < l.requests-index → ((get_or l.tellers.items k d).told ≡ 0) × ((get_or l.tellers.items k d).rest.now ≡ requests_at l.script.requests k);
}
