use Rattle.std.proofs.Common.{◌≡◌, ◌++◌, ℕ, List}
use Rattle.std.specs.Iterator.Adapters.{enumerate_source, enumerate_count, zip_first, zip_second}
use Rattle.std.specs.Slice.Iter.{iter_rest}
use Rattle.std.specs.String.{string_bytes}
use Rattle.wb_script.specs.Output.{transcripts_text}
use Rattle.wb_script.specs.Printed.{IsPrinted}
use Rattle.wb_script.proofs.printing.print_clients.Given as goal

abbrev pub invariant-loop-client : goal.invariant-loop-client
invariant-loop-client g l = record {
  done : List ℕ;
  printed : IsPrinted (g.K.Sink.taken l.fn.sink) (g.K.Sink.taken l.sink) (g.K.Sink.faults l.fn.sink) (g.K.Sink.faults l.sink) (string_bytes l.fn.text) (string_bytes l.text) done;
  rest : done ++ transcripts_text (enumerate_count l.client-iterator) (iter_rest (zip_first (enumerate_source l.client-iterator))) (iter_rest (zip_second (enumerate_source l.client-iterator))) ≡ transcripts_text 0 l.requests l.transcripts;
}
