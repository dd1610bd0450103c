-- The pieces before this one were put.
use Rattle.std.proofs.Common.{◌≡◌, ◌++◌, length, map}
use Rattle.std.specs.Vec.Iter.{into_iter_items, into_iter_len}
use Rattle.wb_intake.specs.Passes.{pass_name, client_of_pass, view_of, loads_of}
use Rattle.wb_front.specs.Requests.{HasPut, IsSince, written}
use Rattle.wb_front.proofs.front.Front.put_all.Given as goal

abbrev pub invariant-loop-piece : goal.invariant-loop-piece
invariant-loop-piece g l = record {
  all : l.yielded ++ into_iter_items l.piece-iterator ≡ l.fn.pieces.items;
  left : into_iter_len l.piece-iterator ≡ length (into_iter_items l.piece-iterator);
  own : pass_name l.pass ≡ pass_name l.fn.pass;
  client : client_of_pass l.pass ≡ client_of_pass l.fn.pass;
  put : HasPut (view_of l.fn.pass) (view_of l.pass) l.places (map (written (client_of_pass l.fn.pass)) l.fn.pieces.items);
  count : length l.places ≡ length l.yielded;
  loads : IsSince (loads_of l.fn.pass) (loads_of l.pass);
}
