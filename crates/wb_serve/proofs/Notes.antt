-- The notes that are left for a client, as it hears them.
use Rattle.std.proofs.Common.{ℕ, ◌≡◌, ◌+◌, ◌≤◌, Bool, List, [], ◌∷◌, ◌++◌, cond, length, All, Option, refl, ap, sym, ◌∙◌, subst, arith, length-append}
use Rattle.std.specs.List.{filter}
use Rattle.std.proofs.lemmas.Bool.{eq-eqb}
use Rattle.std.proofs.lemmas.List.{length-drop}
use Rattle.std.proofs.lemmas.List.Elements.{filter-append, All-drop}
use Rattle.wb_geometry.specs.Image.{Image}
use Rattle.wb_geometry.specs.History.{HistoryEntry}
use Rattle.wb_script.specs.Valid.{hears_of, heard_of}
use Rattle.wb_script.specs.Transcripts.{first_seen, seen_after_all, AnswersAll}
use Rattle.wb_script.proofs.NotesLeft.{notes-seen_after_all}
use Rattle.wb_script.specs.declared.request.Request.{Request}
use Rattle.wb_script.specs.declared.request.Request.TheVariants.{Write, Read, ReadSum, Flush, Defer, Tell, Hear}
use Rattle.wb_script.specs.declared.transcript.Line.{Line}
use Rattle.wb_serve.specs.Playing.{AreBelow, MayHear, AreEnough}

heard_push : (teller : ℕ) (requests : List Request) (request : Request) → heard_of teller (requests ++ request ∷ []) ≡ heard_of teller requests + heard_of teller (request ∷ [])
heard_push teller requests request = ap length (filter-append (hears_of teller) requests (request ∷ [])) ∙ length-append (filter (hears_of teller) requests) (filter (hears_of teller) (request ∷ []))

heard_one : (teller : ℕ) → heard_of teller (Hear teller ∷ []) ≡ 1
heard_one teller = ap (λ (b : Bool). length (cond b (Hear teller ∷ []) [])) (eq-eqb teller teller refl)

pub enough_before : (notes : ℕ → List ℕ) (requests : List Request) (request : Request) → AreEnough notes (requests ++ request ∷ []) → AreEnough notes requests
enough_before notes requests request enough teller = omega (arith, enough teller, heard_push teller requests request)

module _ (content : Option Image) (history : List HistoryEntry) (client : ℕ) (notes : ℕ → List ℕ) (requests : List Request) (lines : List Line) where
  -- where enough are left the next request hears one
  pub may_hear : (request : Request) → AnswersAll content history client (first_seen notes) requests lines → AreEnough notes (requests ++ request ∷ []) → MayHear (seen_after_all (first_seen notes) requests lines) request
  may_hear (Hear teller) answers enough =
      let left = ap length (notes-seen_after_all content history client (first_seen notes) requests lines teller answers) in
      omega (arith, enough teller, heard_push teller requests (Hear teller), heard_one teller, left, length-drop (heard_of teller requests) (notes teller))
  may_hear (Write sector count pattern fua) answers enough = tt
  may_hear (Read sector count) answers enough = tt
  may_hear (ReadSum sector count) answers enough = tt
  may_hear Flush answers enough = tt
  may_hear Defer answers enough = tt
  may_hear (Tell other) answers enough = tt

  -- those that weren't heard hand on no more than all do
  pub below_after : (low high : ℕ) → low ≤ high → AnswersAll content history client (first_seen notes) requests lines → AreBelow low notes → AreBelow high (seen_after_all (first_seen notes) requests lines).notes
  below_after low high le answers below teller =
      subst (All (λ note. note ≤ high)) (sym (notes-seen_after_all content history client (first_seen notes) requests lines teller answers))
      (All-drop (λ note. note ≤ high) (heard_of teller requests) (notes teller) (λ k d lt. let here = below teller k d lt in omega (arith, here, le)))
