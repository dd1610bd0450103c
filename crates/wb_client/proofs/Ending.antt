-- All clients have ended: their transcripts are legal, and print one history.
use Rattle.std.proofs.Common.{ℕ, zero, suc, ◌≡◌, ◌≢◌, ◌+◌, ◌-◌, ◌<◌, ◌≤◌, Bool, true, false, cond, eqb, List, [], ◌∷◌, ◌++◌, length, map, filter, fold, drop, get_or, Option, inl, inr, refl, ap, sym, ◌∙◌, subst, arith}
use Rattle.std.specs.List.{All, Contains, range_with_len, zip}
use Rattle.std.specs.List.{enumerate_from}
use Rattle.std.specs.List.Sorted.{IsPermutation}
use Rattle.std.proofs.lemmas.Bool.{cases_eq, cases_lt, eq-eqb, ne_eqb}
use Rattle.std.proofs.lemmas.List.{length-append}
use Rattle.std.proofs.lemmas.List.Elements.{All-nil, All-cons, All-head, All-tail, All-weaker, Contains-append_left}
use Rattle.std.proofs.lemmas.List.FromFn.{get_or-range_with_len, length-range_with_len}
use Rattle.std.proofs.Math.ListN.{get_or-eq_default}
use Rattle.wb_geometry.specs.Image.{Image}
use Rattle.wb_geometry.specs.History.{HistoryEntry}
use Rattle.wb_steps.specs.Views.{IsPrefix, placed}
use Rattle.wb_steps.proofs.Lists.{Contains-first, Contains-more, Contains-none, Contains-cases}
use Rattle.wb_steps.specs.declared.shape.Shape.{Shape}
use Rattle.wb_steps.specs.declared.view.View.{View}
use Rattle.wb_steps.proofs.Lists.{prefix_trans}
use Rattle.wb_script.specs.Valid.{requests_at}
use Rattle.wb_script.specs.declared.request.Request.{Request}
use Rattle.wb_script.specs.declared.transcript.Line.{Line}
use Rattle.wb_script.specs.Content.{ScriptContent}
use Rattle.wb_script.specs.Transcripts as script
use Rattle.wb_script.specs.Transcripts.{first_seen, printed, left_by_all, IsHistory, IsLegal, AreLegal, Notes, no_notes, with_notes}
use Rattle.wb_script.proofs.NotesLeft.{with_notes-own, with_notes-other}
use Rattle.wb_script.proofs.Sessions.{one_history}
use Rattle.wb_client.specs.Played.{IsAhead, values_of, heard_from, last_of, AreWithin, AreLeft, hearers_of, told_for, counts_for, IsAnswered}
use Rattle.wb_client.specs.Ended.{lines_at, HasEnded, HaveEnded}
use Rattle.wb_client.proofs.Appends.{within_first}
use Rattle.wb_client.proofs.Gathered.{placed_filter, gathered_all, printed_gathered}

-- ---- what was told, by the count of what had been told with it

-- the number that was told last of so many
told_at : List ℕ → ℕ → ℕ
told_at told count = get_or told (count - 1) 0

last_get : (number : ℕ) (numbers : List ℕ) → fold (λ (before : ℕ) (now : ℕ). now) number numbers ≡ get_or (number ∷ numbers) (length numbers) 0
last_get number [] = refl
last_get number (next ∷ numbers) = last_get next numbers

get_longer : (xs ys : List ℕ) (i : ℕ) → i < length xs → get_or (xs ++ ys) i 0 ≡ get_or xs i 0
get_longer [] ys i lt = absurd (omega arith)
get_longer (x ∷ xs) ys zero lt = refl
get_longer (x ∷ xs) ys (suc i) lt = get_longer xs ys i (omega arith)

-- of a beginning of what was told
last_told : (told more : List ℕ) (heard : List ℕ) → 1 ≤ length heard → length heard ≤ length told → IsPrefix heard (told ++ more) → last_of heard ≡ told_at told (length heard)
unfolding told_at
last_told told more [] some few begins = absurd (omega arith)
last_told told more (number ∷ numbers) some few begins =
    last_get number numbers
    ∙ sym (get_longer (number ∷ numbers) begins.0 (length numbers) (omega arith))
    ∙ ap (λ (l : List ℕ). get_or l (length numbers) 0) (sym begins.1)
    ∙ get_longer told more (length numbers) (omega arith)
    ∙ ap (λ (i : ℕ). get_or told i 0) (let e : length numbers ≡ suc (length numbers) - 1 = omega arith in e)

told_numbered : (f : ℕ → ℕ) (told : List ℕ) (from : ℕ) → ((i : ℕ) → i < length told → f (from + i) ≡ get_or told i 0) → told ≡ map f (range_with_len from (length told))
told_numbered f [] from are = refl
told_numbered f (number ∷ told) from are =
    let first : f from ≡ number = ap f (let e : from ≡ from + 0 = omega arith in e) ∙ are 0 (omega arith) in
    ap (λ (n : ℕ). n ∷ told) (sym first)
    ∙ ap (λ (l : List ℕ). f from ∷ l) (told_numbered f told (from + 1) (λ i lt. ap f (let e : from + 1 + i ≡ from + suc i = omega arith in e) ∙ are (suc i) (omega arith)))

-- ---- values with clients

one_mapped : (f : ℕ → ℕ) (b : Bool) (key value : ℕ) (pairs others : List (ℕ × ℕ)) → map (λ (p : ℕ × ℕ). p.1) others ≡ map f (map (λ (p : ℕ × ℕ). p.1) pairs)
    → map (λ (p : ℕ × ℕ). p.1) (cond b ((key, f value) ∷ others) others) ≡ map f (map (λ (p : ℕ × ℕ). p.1) (cond b ((key, value) ∷ pairs) pairs))
one_mapped f true key value pairs others same = ap (λ (l : List ℕ). f value ∷ l) same
one_mapped f false key value pairs others same = same

values_map : (f : ℕ → ℕ) (client : ℕ) (keys values : List ℕ) → values_of client (zip keys (map f values)) ≡ map f (values_of client (zip keys values))
values_map f client [] values = refl
values_map f client (key ∷ keys) [] = refl
values_map f client (key ∷ keys) (value ∷ values) =
    one_mapped f (eqb key client) key value (filter (λ p. eqb p.0 client) (zip keys values)) (filter (λ p. eqb p.0 client) (zip keys (map f values))) (values_map f client keys values)

one_all : (P : ℕ → Type 0) (b : Bool) (key value : ℕ) (pairs : List (ℕ × ℕ)) → P value → All P (map (λ (p : ℕ × ℕ). p.1) pairs) → All P (map (λ (p : ℕ × ℕ). p.1) (cond b ((key, value) ∷ pairs) pairs))
one_all P true key value pairs here rest = All-cons P value (map (λ (p : ℕ × ℕ). p.1) pairs) here rest
one_all P false key value pairs here rest = rest

values_all : (P : ℕ → Type 0) (client : ℕ) (keys values : List ℕ) → All P values → All P (values_of client (zip keys values))
values_all P client [] values all = All-nil P
values_all P client (key ∷ keys) [] all = All-nil P
values_all P client (key ∷ keys) (value ∷ values) all =
    one_all P (eqb key client) key value (filter (λ p. eqb p.0 client) (zip keys values)) (All-head P value values all) (values_all P client keys values (All-tail P value values all))

values_none : (client : ℕ) (keys values : List ℕ) → All (λ key. key ≢ client) keys → values_of client (zip keys values) ≡ []
values_none client [] values others = refl
values_none client (key ∷ keys) [] others = refl
values_none client (key ∷ keys) (value ∷ values) others =
    let pairs : List (ℕ × ℕ) = filter (λ p. eqb p.0 client) (zip keys values) in
    ap (λ (b : Bool). map (λ (p : ℕ × ℕ). p.1) (cond b ((key, value) ∷ pairs) pairs)) (ne_eqb key client (All-head (λ (k : ℕ). k ≢ client) key keys others))
    ∙ values_none client keys values (All-tail (λ (k : ℕ). k ≢ client) key keys others)

values_contain : {X : Type 0} (client : ℕ) (pairs : List (ℕ × X)) (value : X) → Contains (values_of client pairs) value → Contains pairs (client, value)
values_contain client [] value has = absurd (Contains-none value has)
values_contain {X} client (pair ∷ pairs) value has =
    let shown : Bool → List X = λ b. map (λ (p : ℕ × X). p.1) (cond b (pair ∷ filter (λ p. eqb p.0 client) pairs) (filter (λ p. eqb p.0 client) pairs)) in
    elim (cases_eq pair.0 client) [
      | inl is ↦ elim (Contains-cases pair.1 (values_of client pairs) value (subst (λ (b : Bool). Contains (shown b) value) (eq-eqb pair.0 client is) has)) [
        | inl same ↦ subst (λ (p : ℕ × X). Contains (pair ∷ pairs) p) (λ i. (is i, same i)) (Contains-first pair pairs)
        | inr more ↦ Contains-more pair pairs (client, value) (values_contain client pairs value more)
      ]
      | inr other ↦ Contains-more pair pairs (client, value) (values_contain client pairs value (subst (λ (b : Bool). Contains (shown b) value) (ne_eqb pair.0 client other) has))
    ]

-- ---- what was heard

-- the counts are those of what was told
abbrev IsCount : List ℕ → ℕ → Type 0
IsCount told count = (1 ≤ count) × (count ≤ length told)

heard_told : (told more : List ℕ) (heard : List (List ℕ)) (counts : List ℕ) → IsPrefix (map length heard) counts → All (IsCount told) counts
    → ((one : List ℕ) → Contains heard one → length one ≤ length told → IsPrefix one (told ++ more)) → IsPrefix (map last_of heard) (map (told_at told) counts)
heard_told told more [] counts begins are each = (map (told_at told) counts, refl)
heard_told told more (one ∷ heard) [] begins are each = absurd (omega (arith, ap length begins.1))
heard_told told more (one ∷ heard) (count ∷ counts) begins are each =
    let same : count ≡ length one = ap (λ (l : List ℕ). get_or l 0 0) begins.1 in
    let is : IsCount told count = All-head (IsCount told) count counts are in
    let rest = heard_told told more heard counts (begins.0, ap (drop 1) begins.1) (All-tail (IsCount told) count counts are) (λ other has few. each other (Contains-more one heard other has) few) in
    let last : last_of one ≡ told_at told count =
    last_told told more one (omega (arith, is.0, same)) (omega (arith, is.1, same)) (each one (Contains-first one heard) (omega (arith, is.1, same))) ∙ ap (told_at told) (sym same) in
    (rest.0, ap (λ (l : List ℕ). told_at told count ∷ l) rest.1 ∙ ap (λ (n : ℕ). n ∷ (map last_of heard ++ rest.0)) (sym last))

counts_all : (hearer : ℕ) (requests : List Request) (told : List ℕ) → length told ≡ length (hearers_of requests) → All (IsCount told) (counts_for hearer requests)
counts_all hearer requests told same =
    let many : ℕ = length (hearers_of requests) in
    values_all (IsCount told) hearer (hearers_of requests) (range_with_len 1 many) (λ k d lt.
    let below : k < many = omega (arith, lt, length-range_with_len 1 many) in
    let is = get_or-range_with_len 1 many k d below in
    (omega (arith, is), omega (arith, is, below, same)))

counts_told : (hearer : ℕ) (requests : List Request) (told : List ℕ) → length told ≡ length (hearers_of requests) → map (told_at told) (counts_for hearer requests) ≡ told_for hearer requests told
unfolding told_at
counts_told hearer requests told same =
    let many : ℕ = length (hearers_of requests) in
    sym (values_map (told_at told) hearer (hearers_of requests) (range_with_len 1 many))
    ∙ ap (λ (n : ℕ). values_of hearer (zip (hearers_of requests) (map (told_at told) (range_with_len 1 n)))) (sym same)
    ∙ ap (λ (l : List ℕ). values_of hearer (zip (hearers_of requests) l)) (sym (told_numbered (told_at told) told 1 (λ i lt. ap (λ (n : ℕ). get_or told n 0) (let e : 1 + i - 1 ≡ i = omega arith in e))))

prefix_none : (heard : List (List ℕ)) → IsPrefix (map length heard) [] → heard ≡ []
prefix_none [] begins = refl
prefix_none (one ∷ heard) begins = absurd (omega (arith, ap length begins.1))

-- ---- a client

module _ (base : Option Image) (shape : Shape) (limit : ℕ) (all : List (List Request)) (transcripts : List (List Line)) (played ended : ℕ → View) (history : List HistoryEntry) (have : HaveEnded base shape limit all transcripts played ended history) where
  -- the notes of this client are no more than it told
  abbrev TellsRightly : ℕ → (ℕ → List ℕ) → Type 0
  TellsRightly teller left = (hearer : ℕ) → AreWithin (left hearer) (told_for hearer (requests_at all teller) (played teller).told)

  module _ (client : ℕ) (within : client < length all) where
    own : HasEnded base shape limit all transcripts played ended history client
    own = have.each client within

    -- a lower client told what was heard of it
    heard_lower : (teller : ℕ) → teller < client → IsPrefix (map last_of (heard_from teller (played client).heard)) (told_for client (requests_at all teller) (played teller).told)
    heard_lower teller lower =
        let told : List ℕ = (played teller).told in
        let same = (have.each teller (omega arith)).plays.told_each in
        let last = own.heard_last teller lower in
        subst (IsPrefix (map last_of (heard_from teller (played client).heard))) (counts_told client (requests_at all teller) told same)
        (heard_told told last.0 (heard_from teller (played client).heard) (counts_for client (requests_at all teller)) (own.in_order teller) (counts_all client (requests_at all teller) told same) (λ one has few.
        let before : Contains (ended client).heard (teller, one) =
        subst (λ (l : List (ℕ × List ℕ)). Contains l (teller, one)) (sym own.heard_more.1) (Contains-append_left (played client).heard own.heard_more.0 (teller, one) (values_contain teller (played client).heard one has))
        in
        own.alike teller one (told ++ last.0) before last.1 (omega (arith, few, length-append told last.0))))

    -- and of no other client any note was heard
    heard_others : (teller : ℕ) → client ≤ teller → heard_from teller (played client).heard ≡ []
    heard_others teller above =
        prefix_none (heard_from teller (played client).heard)
        (subst (IsPrefix (map length (heard_from teller (played client).heard))) (values_none client (hearers_of (requests_at all teller)) (range_with_len 1 (length (hearers_of (requests_at all teller)))) others) (own.in_order teller))
      where
        others : All (λ key. key ≢ client) (hearers_of (requests_at all teller))
        others = elim (cases_lt teller (length all)) [
          | inl inside ↦
              All-weaker (λ (key : ℕ). teller < key) (λ (key : ℕ). key ≢ client) (λ key higher same. omega (arith, higher, same, above)) (hearers_of (requests_at all teller)) (have.each teller inside).upward
          | inr outside ↦
              subst (λ (requests : List Request). All (λ key. key ≢ client) (hearers_of requests)) (sym (get_or-eq_default all [] outside)) (All-nil (λ (key : ℕ). key ≢ client))
        ]

    left_for : (notes : ℕ → List ℕ) → ((teller : ℕ) → teller < client → AreWithin (notes teller) (told_for client (requests_at all teller) (played teller).told)) → AreLeft notes (played client).heard
    left_for notes right teller = elim (cases_lt teller client) [
      | inl lower ↦
          let begins = heard_lower teller lower in
          within_first (notes teller) (map last_of (heard_from teller (played client).heard)) begins.0 (subst (AreWithin (notes teller)) begins.1 (right teller lower))
      | inr above ↦ subst (λ (l : List (List ℕ)). AreWithin (notes teller) (map last_of l)) (sym (heard_others teller above)) tt
    ]

    ahead : IsAhead (played client) history
    ahead = record { known = prefix_trans (played client).known (ended client).known history own.more.known own.known; seen = omega (arith, own.more.cursor, own.cursor) }

    pub prints_own : printed client (requests_at all client) (lines_at transcripts client) ≡ placed client 0 history
    prints_own = sym own.plays.mine ∙ sym own.same_mine ∙ own.mine

    module _ (notes : ℕ → List ℕ) (right : (teller : ℕ) → teller < client → AreWithin (notes teller) (told_for client (requests_at all teller) (played teller).told)) where
      answered : IsAnswered base client (played client) (played client).told (first_seen notes) (requests_at all client) (lines_at transcripts client)
      answered = own.plays.answered (first_seen notes) (omega arith) (left_for notes right)

      legal_one : IsLegal base history client notes (requests_at all client) (lines_at transcripts client)
      legal_one = record { answers = answered.answers history ahead; own = prints_own ∙ placed_filter client 0 history }

      tells_one : TellsRightly client (left_by_all (first_seen notes) (requests_at all client) (lines_at transcripts client))
      tells_one = answered.tells

  -- ---- all clients

  -- so are those of the clients below this one
  abbrev AreRight : ℕ → Notes → Type 0
  AreRight client notes = (hearer teller : ℕ) → teller < client → AreWithin (notes hearer teller) (told_for hearer (requests_at all teller) (played teller).told)

  legal_from : (client : ℕ) (notes : Notes) (rest : List (List Request)) (left : List (List Line)) → client + length rest ≡ length all → length left ≡ length rest
      → ((index at : ℕ) → at ≡ client + index → index < length rest → (requests_at rest index ≡ requests_at all at) × (lines_at left index ≡ lines_at transcripts at))
      → AreRight client notes → AreLegal base history client notes rest left
  legal_from client notes [] [] many same each right = tt
  legal_from client notes [] (lines ∷ left) many same each right = absurd (omega arith)
  legal_from client notes (requests ∷ rest) [] many same each right = absurd (omega arith)
  legal_from client notes (requests ∷ rest) (lines ∷ left) many same each right =
      let within : client < length all = omega arith in
      let here : (requests ≡ requests_at all client) × (lines ≡ lines_at transcripts client) = each 0 client (omega arith) (omega arith) in
      let lower : (teller : ℕ) → teller < client → AreWithin (notes client teller) (told_for client (requests_at all teller) (played teller).told) = λ teller below. right client teller below in
      let Legal : List Request × List Line → Type 0 = λ x. IsLegal base history client (notes client) x.0 x.1 in
      let Tells : List Request × List Line → Type 0 = λ x. TellsRightly client (left_by_all (first_seen (notes client)) x.0 x.1) in
      let tells : TellsRightly client (left_by_all (first_seen (notes client)) requests lines) = subst Tells (λ i. (sym here.0 i, sym here.1 i)) (tells_one client within (notes client) lower) in (
        subst Legal (λ i. (sym here.0 i, sym here.1 i)) (legal_one client within (notes client) lower),
        legal_from (suc client) (with_notes notes client requests lines) rest left (omega arith) (omega arith) (λ index at is inside. each (suc index) at (omega arith) (omega arith))
            (λ hearer teller below. elim (cases_lt teller client) [
              | inl before ↦
                  subst (λ (l : List ℕ). AreWithin l (told_for hearer (requests_at all teller) (played teller).told))
                  (sym (with_notes-other notes client requests lines hearer teller (λ e. omega arith))) (right hearer teller before)
              | inr behind ↦
                  let last : client ≡ teller = omega arith in
                  subst (λ (t : ℕ). AreWithin (with_notes notes client requests lines hearer t) (told_for hearer (requests_at all t) (played t).told)) last
                  (subst (λ (l : List ℕ). AreWithin l (told_for hearer (requests_at all client) (played client).told)) (sym (with_notes-own notes client requests lines hearer)) (tells hearer))
            ]),
      )

  -- the transcripts are legal
  pub legal_all : AreLegal base history 0 no_notes all transcripts
  legal_all =
      legal_from 0 no_notes all transcripts (omega arith) have.count
      (λ index at is inside. let same : index ≡ at = omega arith in (ap (requests_at all) same, ap (lines_at transcripts) same))
      (λ hearer teller below. absurd (omega arith))

  pub printed_all : IsPermutation (script.all_printed 0 all transcripts) (enumerate_from 0 history)
  printed_all =
      subst (λ (l : List (ℕ × HistoryEntry)). IsPermutation l (enumerate_from 0 history))
      (sym (printed_gathered history 0 all transcripts have.count (λ index at is inside.
      let same : at ≡ index = omega arith in
      let P : ℕ → Type 0 = λ k. printed k (requests_at all index) (lines_at transcripts index) ≡ placed k 0 history in
      subst P (sym same) (prints_own index inside))))
      (gathered_all (length all) 0 history have.owned)

-- The transcripts of clients that have ended print the history, and no other.
module _ (base : Option Image) (shape : Shape) (limit : ℕ) (played_script : ScriptContent) (transcripts : List (List Line)) (played ended : ℕ → View) (history : List HistoryEntry) (have : HaveEnded base shape limit played_script.requests transcripts played ended history) where
  pub history_all : IsHistory played_script transcripts (length history) history
  history_all = record { count = refl; once = printed_all base shape limit played_script.requests transcripts played ended history have }

  pub history_only : (other : List HistoryEntry) → IsHistory played_script transcripts (length history) other → other ≡ history
  history_only other prints = one_history played_script transcripts (length history) other history prints history_all
