-- The entries of all clients together are those of the history.
use Rattle.std.proofs.Common.{ℕ, zero, suc, ◌≡◌, ◌≢◌, ◌+◌, ◌<◌, ◌≤◌, Bool, cond, eqb, List, [], ◌∷◌, ◌++◌, length, filter, inl, inr, refl, ap, sym, ◌∙◌, subst, arith}
use Rattle.std.specs.List.{All, enumerate_from}
use Rattle.std.specs.List.Sorted.{IsPermutation}
use Rattle.std.proofs.lemmas.Bool.{cases_eq, eq-eqb, ne_eqb}
use Rattle.std.proofs.lemmas.List.Elements.{All-head, All-tail}
use Rattle.std.proofs.lemmas.List.Sorted.{IsPermutation-refl, IsPermutation-trans, IsPermutation-cons, IsPermutation-append_right, IsPermutation-middle}
use Rattle.wb_geometry.specs.History.{HistoryEntry, client_of}
use Rattle.wb_steps.specs.Views.{placed}
use Rattle.wb_script.specs.Transcripts.{printed, all_printed}
use Rattle.wb_script.specs.Valid.{requests_at}
use Rattle.wb_script.specs.declared.request.Request.{Request}
use Rattle.wb_script.specs.declared.transcript.Line.{Line}
use Rattle.wb_client.specs.Ended.{lines_at}

-- those that a client names are those of the history that are its own
pub placed_filter : (client p : ℕ) (entries : List HistoryEntry) → placed client p entries ≡ filter (λ q. eqb (client_of q.1) client) (enumerate_from p entries)
placed_filter client p [] = refl
placed_filter client p (e ∷ entries) = ap (λ (l : List (ℕ × HistoryEntry)). cond (eqb (client_of e) client) ((p, e) ∷ l) l) (placed_filter client (p + 1) entries)

-- of so many clients, from this one on, where the first entry stands at the place p
abbrev pub gathered : (many client p : ℕ) → List HistoryEntry → List (ℕ × HistoryEntry)
gathered zero client p entries = []
gathered (suc many) client p entries = placed client p entries ++ gathered many (suc client) p entries

gathered_none : (many client p : ℕ) → gathered many client p [] ≡ []
gathered_none zero client p = refl
gathered_none (suc many) client p = gathered_none many (suc client) p

placed_own : (client p : ℕ) (e : HistoryEntry) (entries : List HistoryEntry) → client_of e ≡ client → placed client p (e ∷ entries) ≡ (p, e) ∷ placed client (p + 1) entries
placed_own client p e entries own = ap (λ (b : Bool). cond b ((p, e) ∷ placed client (p + 1) entries) (placed client (p + 1) entries)) (eq-eqb (client_of e) client own)

placed_other : (client p : ℕ) (e : HistoryEntry) (entries : List HistoryEntry) → client_of e ≢ client → placed client p (e ∷ entries) ≡ placed client (p + 1) entries
placed_other client p e entries other = ap (λ (b : Bool). cond b ((p, e) ∷ placed client (p + 1) entries) (placed client (p + 1) entries)) (ne_eqb (client_of e) client other)

-- the first entry is of a lower client
gathered_lower : (many client p : ℕ) (e : HistoryEntry) (entries : List HistoryEntry) → client_of e < client → gathered many client p (e ∷ entries) ≡ gathered many client (p + 1) entries
gathered_lower zero client p e entries lower = refl
gathered_lower (suc many) client p e entries lower =
    ap (λ (l : List (ℕ × HistoryEntry)). l ++ gathered many (suc client) p (e ∷ entries)) (placed_other client p e entries (λ same. omega arith))
    ∙ ap (λ (l : List (ℕ × HistoryEntry)). placed client (p + 1) entries ++ l) (gathered_lower many (suc client) p e entries (omega arith))

-- or of one of them
gathered_first : (many client p : ℕ) (e : HistoryEntry) (entries : List HistoryEntry) → client ≤ client_of e → client_of e < client + many → IsPermutation (gathered many client p (e ∷ entries)) ((p, e) ∷ gathered many client (p + 1) entries)
gathered_first zero client p e entries low high = absurd (omega arith)
gathered_first (suc many) client p e entries low high =
    let own : List (ℕ × HistoryEntry) = placed client (p + 1) entries in
    let others : List (ℕ × HistoryEntry) = gathered many (suc client) (p + 1) entries in
    elim (cases_eq (client_of e) client) [
      | inl is ↦
          subst (λ (l : List (ℕ × HistoryEntry)). IsPermutation l ((p, e) ∷ (own ++ others)))
          (sym (ap (λ (l : List (ℕ × HistoryEntry)). l ++ gathered many (suc client) p (e ∷ entries)) (placed_own client p e entries is)
          ∙ ap (λ (l : List (ℕ × HistoryEntry)). (p, e) ∷ (own ++ l)) (gathered_lower many (suc client) p e entries (omega arith))))
          (IsPermutation-refl ((p, e) ∷ (own ++ others)))
      | inr other ↦
          subst (λ (l : List (ℕ × HistoryEntry)). IsPermutation (l ++ gathered many (suc client) p (e ∷ entries)) ((p, e) ∷ (own ++ others))) (sym (placed_other client p e entries other))
          (IsPermutation-trans _ _ _ (IsPermutation-append_right own _ _ (gathered_first many (suc client) p e entries (omega arith) (omega arith))) (IsPermutation-middle own (p, e) others))
    ]

-- the entries of all clients are those of the history, in some order
pub gathered_all : (many p : ℕ) (entries : List HistoryEntry) → All (λ e. client_of e < many) entries → IsPermutation (gathered many 0 p entries) (enumerate_from p entries)
gathered_all many p [] owned = subst (λ (l : List (ℕ × HistoryEntry)). IsPermutation l []) (sym (gathered_none many 0 p)) (IsPermutation-refl [])
gathered_all many p (e ∷ entries) owned =
    IsPermutation-trans _ _ _
    (gathered_first many 0 p e entries (omega arith) (omega (arith, All-head (λ (x : HistoryEntry). client_of x < many) e entries owned)))
    (IsPermutation-cons (p, e) _ _ (gathered_all many (p + 1) entries (All-tail (λ (x : HistoryEntry). client_of x < many) e entries owned)))

-- where each client, from this one on, prints its own entries
pub printed_gathered : (history : List HistoryEntry) (client : ℕ) (all : List (List Request)) (transcripts : List (List Line)) → length transcripts ≡ length all
    → ((index own : ℕ) → own ≡ client + index → index < length all → printed own (requests_at all index) (lines_at transcripts index) ≡ placed own 0 history)
    → all_printed client all transcripts ≡ gathered (length all) client 0 history
printed_gathered history client [] transcripts same each = refl
printed_gathered history client (requests ∷ all) [] same each = absurd (omega arith)
printed_gathered history client (requests ∷ all) (lines ∷ transcripts) same each =
    ap (λ (l : List (ℕ × HistoryEntry)). l ++ all_printed (suc client) all transcripts) (each 0 client (omega arith) (omega arith))
    ∙ ap (λ (l : List (ℕ × HistoryEntry)). placed client 0 history ++ l)
    (printed_gathered history (suc client) all transcripts (omega arith) (λ index own at within. each (suc index) own (omega arith) (omega arith)))
