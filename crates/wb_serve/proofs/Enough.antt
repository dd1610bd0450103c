-- The notes that a client of a valid script hears were left for it.
use Rattle.std.proofs.Common.{ℕ, ◌≡◌, ◌+◌, ◌<◌, List, [], length, get_or, take, min, All, None, ap, ◌∙◌, subst, inl, inr, arith}
use Rattle.std.specs.List.{enumerate_from}
use Rattle.std.proofs.lemmas.List.{length-take, get_or-take}
use Rattle.std.proofs.lemmas.List.FromFn.{get_or-enumerate_from, length-enumerate_from}
use Rattle.std.proofs.lemmas.Bool.{cases_lt}
use Rattle.wb_geometry.specs.History.{HistoryEntry}
use Rattle.wb_script.specs.Content.{ScriptContent}
use Rattle.wb_script.specs.Valid.{IsValid, told_to, requests_at}
use Rattle.wb_script.specs.Transcripts.{no_notes}
use Rattle.wb_script.specs.Clients.{AreServed, notes_after}
use Rattle.wb_script.proofs.NotesLeft.{length-notes_after}
use Rattle.wb_script.specs.declared.request.Request.{Request}
use Rattle.wb_script.specs.declared.transcript.Line.{Line}
use Rattle.wb_buffers.proofs.Asked.{asked_at}
use Rattle.wb_serve.specs.Playing.{AreEnough}
use Rattle.wb_serve.proofs.Clients.{none_heard}

pub are_enough : (script : ScriptContent) (client : ℕ) (transcripts : List (List Line)) (history : List HistoryEntry) → IsValid script → client < length script.requests
    → AreServed None history (take client script.requests) transcripts → AreEnough (notes_after no_notes 0 (take client script.requests) transcripts client) (requests_at script.requests client)
are_enough script client transcripts history valid below served teller = elim (cases_lt teller client) [
  | inl lower ↦
      let size : length (take client script.requests) ≡ min client (length script.requests) = length-take client script.requests in
      let left = length-notes_after None history no_notes 0 (take client script.requests) transcripts client teller teller (omega arith) (omega (arith, size, lower, below)) served.legal in
      let same : requests_at (take client script.requests) teller ≡ requests_at script.requests teller = get_or-take client script.requests teller [] lower in
      let told : told_to client (requests_at (take client script.requests) teller) ≡ told_to client (requests_at script.requests teller) = ap (told_to client) same in
      omega (arith, left, told, valid.left teller client lower below)
  | inr least ↦ omega (arith, none_heard script.sectors script.clients client teller (requests_at script.requests client) least (asked_at script client valid below))
]
