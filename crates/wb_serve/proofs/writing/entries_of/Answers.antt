-- Part after part has its piece of the bytes.
use Rattle.std.proofs.Common.{ℕ, List, ◌≡◌, ◌+◌, ◌*◌, ◌++◌, ◌∷◌, [], length, map, take, All, ap, sym, ◌∙◌, subst, append_assoc, arith}
use Rattle.std.specs.List.{sum_by}
use Rattle.std.proofs.lemmas.List.{map_push}
use Rattle.std.proofs.lemmas.List.Elements.{All-tail}
use Rattle.std.proofs.lemmas.List.Sums.{sum_by-cons}
use Rattle.wb_geometry.specs.History.{HistoryEntry, Write}
use Rattle.wb_geometry.specs.Block.{part_bits}
use Rattle.wb_geometry.specs.declared.entry.Entry.{Entry}
use Rattle.wb_geometry.specs.declared.entry.Entry.TheVariants as entry
use Rattle.wb_geometry.specs.Entering.{entered}
use Rattle.wb_geometry.specs.Requests.{parts, entry_of}
use Rattle.wb_geometry.specs.Requests.{entries_of as requested_entries}
use Rattle.wb_geometry.specs.declared.request.Part.{Part}
use Rattle.wb_geometry.proofs.Histories.{IsPartOf, IsSplit-parts, sum_by-parts}
use Rattle.wb_serve.proofs.writing.entries_of.Goals as goal

pub loop-part-init : goal.loop-part-init
loop-part-init c =
    let sector : ℕ = c.args.sector in
    let count : ℕ = c.args.count in
    let all : List Part = c.into_iter-part-iterator.result in
    let is : all ≡ parts sector count = cc (c.into_iter-part-iterator.ensures.into_iter_gives, c.split-part-items.ensures) in
    let sum = sum_by-parts sector count in
    record {
      entries =
          ap (λ (es : List Entry). map entered es ++ requested_entries c.args.client all c.args.bytes.now) c.new-entries.ensures.items
          ∙ ap (λ (ps : List Part). requested_entries c.args.client ps c.args.bytes.now) is;
      sized = c.requires.sized ∙ ap (λ (n : ℕ). 512 * n) (sym sum ∙ ap (sum_by (λ (p : Part). p.count)) (sym is));
      parts = subst (All (IsPartOf sector count)) (sym is) (IsSplit-parts sector count).each;
    }

pub loop-part-preserved : goal.loop-part-preserved
loop-part-preserved c =
    let at = c.loop-part.invariant in
    let steps = c.in-Some.ensures.steps in
    let part : Part = c.in-Some.part in
    let rest : List Part = c.next.new.self in
    let left : List ℕ = c.loop-part.left.now in
    let behind : List ℕ = c.split_at.result.1.now in
    let block = c.in_ok-payload.payload.value in
    let before : List HistoryEntry = map entered c.loop-part.entries.items in
    let pushed : Entry = entry.Write c.args.client part.block c.in_ok-payload.payload in
    let is : entered pushed ≡ entry_of c.args.client part (take (512 * part.count) left) =
    ap (λ (bits : ℕ). Write c.args.client part.block bits block.payload) c.in_ok-payload.ensures.bits
    ∙ ap (λ (payload : List ℕ). Write c.args.client part.block (part_bits part) payload) c.in_ok-payload.ensures.payload
    ∙ ap (λ (piece : List ℕ). entry_of c.args.client part piece) c.split_at.ensures.front in
    let size : length left ≡ 512 * (part.count + sum_by (λ (p : Part). p.count) rest) =
    at.sized ∙ ap (λ (ps : List Part). 512 * sum_by (λ (p : Part). p.count) ps) steps ∙ ap (λ (n : ℕ). 512 * n) (sum_by-cons (λ (p : Part). p.count) part rest) in
    record {
      entries =
          ap (λ (es : List Entry). map entered es ++ requested_entries c.args.client rest behind) c.in_ok-push.ensures.items
          ∙ ap (λ (es : List HistoryEntry). es ++ requested_entries c.args.client rest behind) (map_push entered c.loop-part.entries.items pushed)
          ∙ append_assoc before (entered pushed ∷ []) (requested_entries c.args.client rest behind)
          ∙ ap (λ (e : HistoryEntry). before ++ e ∷ requested_entries c.args.client rest behind) is
          ∙ ap (λ (bytes : List ℕ). before ++ entry_of c.args.client part (take (512 * part.count) left) ∷ requested_entries c.args.client rest bytes) c.split_at.ensures.back
          ∙ sym (ap (λ (ps : List Part). before ++ requested_entries c.args.client ps left) steps) ∙ at.entries;
      sized = let gone = c.split_at.ensures.back_len in omega (arith, gone, size);
      parts = All-tail (IsPartOf c.args.sector c.args.count) part rest (subst (All (IsPartOf c.args.sector c.args.count)) steps at.parts);
    }
