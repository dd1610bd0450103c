-- Part after part has its piece of the bytes.
use Rattle.std.proofs.Common.{ℕ, List, ◌≡◌, ◌+◌, ◌*◌, ◌/◌, ◌++◌, ◌∷◌, [], length, map, take, All, ap, sym, ◌∙◌, subst, append_assoc, append-nil, length-append, arith}
use Rattle.std.specs.List.{sum_by}
use Rattle.std.proofs.lemmas.List.{map_push}
use Rattle.std.proofs.lemmas.List.Elements.{All-nil, All-head, All-tail, All-push}
use Rattle.std.proofs.lemmas.List.Sums.{sum_by-cons}
use Rattle.wb_geometry.specs.History.{HistoryEntry, Write}
use Rattle.wb_geometry.specs.Block.{part_bits}
use Rattle.wb_geometry.specs.Requests.{parts, entry_of, entries_of}
use Rattle.wb_geometry.specs.declared.request.Part.{Part}
use Rattle.wb_geometry.proofs.Histories.{IsPartOf, IsSplit-parts, sum_by-parts, length-parts}
use Rattle.wb_front.specs.Requests.{written, IsPieceInside}
use Rattle.wb_front.specs.declared.writing.Piece.{Piece}
use Rattle.wb_front.proofs.writing.pieces_of.Goals as goal

pub loop-part-init : goal.loop-part-init
loop-part-init c =
    let sector : ℕ = c.args.sector in
    let bytes : List ℕ = c.args.payload.now in
    let count : ℕ = length bytes / 512 in
    let all : List Part = c.into_iter-part-iterator.result in
    let is : all ≡ parts sector count = cc (c.into_iter-part-iterator.ensures.into_iter_gives, c.split-part-items.ensures) in
    let none : c.new-pieces.result.items ≡ [] = c.new-pieces.ensures.items in
    let sum = sum_by-parts sector count in
    let whole = c.requires.whole in let some = c.requires.some in let few = c.requires.few in
    let long : length all ≡ length (parts sector count) = ap length is in
    let empty : length c.new-pieces.result.items ≡ 0 = ap length none in
    record {
      entries = λ client.
          ap (λ (ps : List Piece). map (written client) ps ++ entries_of client all bytes) none
          ∙ ap (λ (ps : List Part). entries_of client ps bytes) is;
      sized = (let g : length bytes ≡ 512 * count = omega (arith, whole) in g) ∙ ap (λ (n : ℕ). 512 * n) (sym sum ∙ ap (sum_by (λ (p : Part). p.count)) (sym is));
      parts = subst (All (IsPartOf sector count)) (sym is) (IsSplit-parts sector count).each;
      inside = λ g fits. subst (All (IsPieceInside g)) (sym none) (All-nil (IsPieceInside g));
      few = let n = length-parts sector count (omega (arith, some)) in omega (arith, long, empty, n, few);
    }

pub loop-part-preserved : goal.loop-part-preserved
loop-part-preserved c =
    let at = c.loop-part.invariant in
    let steps = c.in-Some.ensures.steps in
    let part : Part = c.in-Some.part in
    let rest : List Part = c.next.new.self in
    let left : List ℕ = c.loop-part.left.now in
    let behind : List ℕ = c.split_at.result.1.now in
    let block = c.in_ok-boxed.boxed.value in
    let before : List Piece = c.loop-part.pieces.items in
    let pushed : Piece = record { block = part.block; payload = c.in_ok-boxed.boxed } in
    let n : ℕ = length c.args.payload.now / 512 in
    let is : (client : ℕ) → written client pushed ≡ entry_of client part (take (512 * part.count) left) = λ client.
    ap (λ (bits : ℕ). Write client part.block bits block.payload) c.in_ok-boxed.ensures.bits
    ∙ ap (λ (payload : List ℕ). Write client part.block (part_bits part) payload) c.in_ok-boxed.ensures.payload
    ∙ ap (λ (piece : List ℕ). entry_of client part piece) c.split_at.ensures.front in
    let size : length left ≡ 512 * (part.count + sum_by (λ (p : Part). p.count) rest) =
    at.sized ∙ ap (λ (ps : List Part). 512 * sum_by (λ (p : Part). p.count) ps) steps ∙ ap (λ (n : ℕ). 512 * n) (sum_by-cons (λ (p : Part). p.count) part rest) in
    let all : All (IsPartOf c.args.sector n) (part ∷ rest) = subst (All (IsPartOf c.args.sector n)) steps at.parts in
    let here : IsPartOf c.args.sector n part = All-head (IsPartOf c.args.sector n) part rest all in
    record {
      entries = λ client.
          ap (λ (ps : List Piece). map (written client) ps ++ entries_of client rest behind) c.in_ok-push.ensures.items
          ∙ ap (λ (es : List HistoryEntry). es ++ entries_of client rest behind) (map_push (written client) before pushed)
          ∙ append_assoc (map (written client) before) (written client pushed ∷ []) (entries_of client rest behind)
          ∙ ap (λ (e : HistoryEntry). map (written client) before ++ e ∷ entries_of client rest behind) (is client)
          ∙ ap (λ (bytes : List ℕ). map (written client) before ++ entry_of client part (take (512 * part.count) left) ∷ entries_of client rest bytes) c.split_at.ensures.back
          ∙ sym (ap (λ (ps : List Part). map (written client) before ++ entries_of client ps left) steps) ∙ at.entries client;
      sized = let gone = c.split_at.ensures.back_len in omega (arith, gone, size);
      parts = All-tail (IsPartOf c.args.sector n) part rest all;
      inside = λ g fits. subst (All (IsPieceInside g)) (sym c.in_ok-push.ensures.items) (All-push (IsPieceInside g) before pushed (at.inside g fits)
          (let some = here.some in let end = here.end in let whole = g.backing_fits.2 in omega (arith, some, end, whole, fits), c.in_ok-boxed.ensures.dirty));
      few =
          let was = at.few in
          let long : length c.loop-part.part-iterator ≡ length (part ∷ rest) = ap length steps in
          let more = ap length c.in_ok-push.ensures.items in
          omega (arith, was, long, more, length-append before (pushed ∷ []));
    }

pub returns : goal.returns
returns c =
    let at = c.loop-part.invariant in
    let empty : c.loop-part.part-iterator ≡ [] = c.in-None.ensures.steps.0 in
    let none : length c.loop-part.part-iterator ≡ 0 = ap length empty in
    let few = at.few in
    record {
      entries = λ client.
          sym (append-nil (map (written client) c.loop-part.pieces.items))
          ∙ sym (ap (λ (ps : List Part). map (written client) c.loop-part.pieces.items ++ entries_of client ps c.loop-part.left.now) empty) ∙ at.entries client;
      inside = at.inside;
      few = omega (arith, few, none);
    }
