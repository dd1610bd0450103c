-- The notes that lines leave, next to the requests that they spell, and counted by client.
use Rattle.std.proofs.Common.{ℕ, ◌≡◌, ◌≢◌, ◌+◌, ◌^◌, ◌<◌, ◌≤◌, true, false, cond, inl, inr, List, [], ◌∷◌, length, get_or, set, take, replicate, refl, sym, ap, ◌∙◌, arith}
use Rattle.std.specs.List.{sum_by}
use Rattle.std.specs.Bool.{Decides}
use Rattle.std.specs.Str.{bytes_eq}
use Rattle.std.specs.Fmt.{decimal}
use Rattle.std.proofs.lemmas.Bool.{cases_Bool, cases_eq, eq-eqb, ne_eqb}
use Rattle.std.proofs.lemmas.Fmt.{decimal_injective}
use Rattle.std.proofs.lemmas.Slice.Eq.{slice_eq-Decides, bytes_eq-Decides}
use Rattle.std.proofs.lemmas.List.{get_or_default, length-take, length-replicate, length-set, get_or-replicate, get_or-set_same, get_or-set_other}
use Rattle.std.proofs.lemmas.List.Filters.{length-filter_more}
use Rattle.std.proofs.lemmas.List.Sums.{length-filter, count_by-le-length, sum_by-cons}
use Rattle.wb_script.specs.Commands.{letter, word}
use Rattle.wb_script.specs.Valid.{told_to}
use Rattle.wb_script.specs.Grammar.{AreRead, IsRequest, Names, is_note, notes_in, requests_of, words}
use Rattle.wb_script.specs.Counting.{AreNotes, note_at}
use Rattle.wb_script.specs.declared.request.Command.{Command}
use Rattle.wb_script.specs.declared.request.Command.TheVariants as command
use Rattle.wb_script.specs.declared.request.Request.{Request}
use Rattle.wb_script.specs.declared.request.Request.TheVariants.{Write, Read, ReadSum, Flush, Defer, Tell, Hear}
use Rattle.wb_script.proofs.Commands.{one_name}
use Rattle.wb_script.proofs.Owned.{for_client, for_client-none, for_client-other, tells, told_owned}

-- ---- the words of a note

abbrev pub note_words : ℕ → ℕ → List (List ℕ)
note_words teller hearer = decimal teller ∷ letter command.Tell ∷ decimal hearer ∷ []

pub is_note-Decides : (teller hearer : ℕ) (parts : List (List ℕ)) → Decides (is_note teller hearer parts) (parts ≡ note_words teller hearer)
is_note-Decides teller hearer parts = slice_eq-Decides {E = bytes_eq} bytes_eq-Decides parts (note_words teller hearer) (is_note teller hearer parts) refl

is_no_note : (teller hearer : ℕ) (parts : List (List ℕ)) → (parts ≡ note_words teller hearer → ⊥) → is_note teller hearer parts ≡ false
is_no_note teller hearer parts none =
    elim (cases_Bool (is_note teller hearer parts)) [
      | inl is ↦ absurd (none ((is_note-Decides teller hearer parts).0 is))
      | inr not ↦ not
    ]

-- 1 where a line is such a note
abbrev pub notes_by : ℕ → ℕ → List (List ℕ) → ℕ
notes_by teller hearer parts = cond (is_note teller hearer parts) 1 0

-- ---- a line and its request

not_tell : (teller hearer : ℕ) (parts : List (List ℕ)) (own : ℕ × Request) (named : Command) → Names parts named → (command.Tell ≡ named → ⊥) → tells hearer own.1 ≡ 0
    → notes_by teller hearer parts ≡ for_client (tells hearer) teller own
not_tell teller hearer parts own named names other none =
    ap (λ is. cond is 1 0) (is_no_note teller hearer parts (λ same. other (one_name parts named command.Tell names (ap (λ all. word all 1) same))))
    ∙ sym (for_client-none (tells hearer) teller own none)

tell : (teller hearer client other : ℕ) (parts : List (List ℕ)) → teller < 2 ^ 64 → hearer < 2 ^ 64 → client < 2 ^ 64 → other < 2 ^ 64 → parts ≡ note_words client other
    → notes_by teller hearer parts ≡ for_client (tells hearer) teller (client, Tell other)
tell teller hearer client other parts a b c d spelled =
    elim (cases_eq client teller) [
      | inl own ↦ elim (cases_eq other hearer) [
        | inl that ↦
            let note : is_note teller hearer parts ≡ true =
            (is_note-Decides teller hearer parts).1 (spelled ∙ ap (λ n. note_words n other) own ∙ ap (λ n. note_words teller n) that) in
            ap (λ is. cond is 1 0) note
            ∙ sym (ap (λ is. cond is (tells hearer (Tell other)) 0) (eq-eqb client teller own) ∙ ap (λ is. cond is 1 0) (eq-eqb other hearer that))
        | inr apart ↦
            ap (λ is. cond is 1 0) (is_no_note teller hearer parts (λ same. apart (decimal_injective other hearer d b (ap (λ all. word all 2) (sym spelled ∙ same)))))
            ∙ sym (for_client-none (tells hearer) teller (client, Tell other) (ap (λ is. cond is 1 0) (ne_eqb other hearer apart)))
      ]
      | inr apart ↦
          ap (λ is. cond is 1 0) (is_no_note teller hearer parts (λ same. apart (decimal_injective client teller c a (ap (λ all. word all 0) (sym spelled ∙ same)))))
          ∙ sym (for_client-other (tells hearer) teller (client, Tell other) apart)
    ]

notes_by-request : (sectors clients teller hearer : ℕ) (parts : List (List ℕ)) (client : ℕ) (request : Request) → teller < 2 ^ 64 → hearer < 2 ^ 64 → clients < 2 ^ 64
    → IsRequest sectors clients parts client request → notes_by teller hearer parts ≡ for_client (tells hearer) teller (client, request)
notes_by-request sectors clients teller hearer parts client (Write sector count pattern false) a b few h =
    not_tell teller hearer parts (client, Write sector count pattern false) command.Write (ap (λ all. word all 1) h.2.2) (λ e. cc e) refl
notes_by-request sectors clients teller hearer parts client (Write sector count pattern true) a b few h =
    not_tell teller hearer parts (client, Write sector count pattern true) command.ForcedWrite (ap (λ all. word all 1) h.2.2) (λ e. cc e) refl
notes_by-request sectors clients teller hearer parts client (Read sector count) a b few h =
    not_tell teller hearer parts (client, Read sector count) command.Read (ap (λ all. word all 1) h.2) (λ e. cc e) refl
notes_by-request sectors clients teller hearer parts client (ReadSum sector count) a b few h =
    not_tell teller hearer parts (client, ReadSum sector count) command.ReadSum (ap (λ all. word all 1) h.2) (λ e. cc e) refl
notes_by-request sectors clients teller hearer parts client Flush a b few h =
    not_tell teller hearer parts (client, Flush) command.Flush (ap (λ all. word all 1) h.2) (λ e. cc e) refl
notes_by-request sectors clients teller hearer parts client Defer a b few h =
    not_tell teller hearer parts (client, Defer) command.Defer (ap (λ all. word all 1) h.2) (λ e. cc e) refl
notes_by-request sectors clients teller hearer parts client (Tell other) a b few h =
    tell teller hearer client other parts a b (omega (arith, h.0)) (omega (arith, h.1.1)) h.2
notes_by-request sectors clients teller hearer parts client (Hear other) a b few h =
    not_tell teller hearer parts (client, Hear other) command.Hear (ap (λ all. word all 1) h.2) (λ e. cc e) refl

-- ---- all lines and their requests

notes_by-read : (sectors clients teller hearer : ℕ) (read : List (List ℕ)) (owned : List (ℕ × Request)) → teller < 2 ^ 64 → hearer < 2 ^ 64 → clients < 2 ^ 64
    → AreRead sectors clients read owned → sum_by (λ line. notes_by teller hearer (words line)) read ≡ sum_by (for_client (tells hearer) teller) owned
notes_by-read sectors clients teller hearer [] [] a b few h = refl
notes_by-read sectors clients teller hearer [] (own ∷ owned) a b few h = absurd h
notes_by-read sectors clients teller hearer (line ∷ read) [] a b few h = absurd h
notes_by-read sectors clients teller hearer (line ∷ read) (own ∷ owned) a b few h =
    omega (
      arith,
      sum_by-cons (λ l. notes_by teller hearer (words l)) line read,
      sum_by-cons (for_client (tells hearer) teller) own owned,
      notes_by-request sectors clients teller hearer (words line) own.0 own.1 a b few h.0,
      notes_by-read sectors clients teller hearer read owned a b few h.1,
    )

-- the notes in lines are those that their requests leave
pub notes_in-read : (sectors clients teller hearer : ℕ) (read : List (List ℕ)) (owned : List (ℕ × Request)) → teller < 2 ^ 64 → hearer < 2 ^ 64 → clients < 2 ^ 64
    → AreRead sectors clients read owned → notes_in read teller hearer ≡ told_to hearer (requests_of owned teller)
notes_in-read sectors clients teller hearer read owned a b few h =
    length-filter (λ line. is_note teller hearer (words line)) read
    ∙ notes_by-read sectors clients teller hearer read owned a b few h ∙ sym (told_owned hearer teller owned)

-- ---- notes that are counted line by line

notes_in_more : (all : List (List ℕ)) (k : ℕ) (line : List ℕ) (teller hearer : ℕ) → k < length all → line ≡ get_or all k []
    → notes_in (take (k + 1) all) teller hearer ≡ notes_in (take k all) teller hearer + notes_by teller hearer (words line)
notes_in_more all k line teller hearer below same =
    length-filter_more (λ l. is_note teller hearer (words l)) all k [] below
    ∙ ap (λ l. notes_in (take k all) teller hearer + notes_by teller hearer (words l)) (sym same)

notes_in-le : (all : List (List ℕ)) (teller hearer : ℕ) → notes_in all teller hearer ≤ length all
notes_in-le all teller hearer =
    omega (arith, length-filter (λ line. is_note teller hearer (words line)) all, count_by-le-length (λ line. is_note teller hearer (words line)) all)

pub AreNotes-none : (all : List (List ℕ)) → AreNotes (take 0 all) (replicate 1024 0)
AreNotes-none all =
    record {
      sized = length-replicate {A = ℕ} 1024 0;
      each = λ teller hearer a b. get_or-replicate 1024 (note_at teller hearer) 0 0 (omega arith);
    }

-- no count is more than the lines
pub AreNotes-le : (all : List (List ℕ)) (k : ℕ) (left : List ℕ) (teller hearer : ℕ) → AreNotes (take k all) left → teller < 32 → hearer < 32
    → get_or left (note_at teller hearer) 0 ≤ length all
AreNotes-le all k left teller hearer are a b = omega (arith, are.each teller hearer a b, notes_in-le (take k all) teller hearer, length-take k all)

-- what stands at the place of a note
pub left_at : (all : List (List ℕ)) (k : ℕ) (left : List ℕ) (place value teller hearer : ℕ) → AreNotes (take k all) left → teller < 32 → hearer < 32
    → place ≡ note_at teller hearer → value ≡ get_or left place value → value ≡ get_or left (note_at teller hearer) 0
left_at all k left place value teller hearer are a b at is =
    let inside : note_at teller hearer < length left = omega (arith, are.sized) in
    is ∙ ap (λ n. get_or left n value) at ∙ get_or_default left (note_at teller hearer) value 0 inside

-- a line that is no note
pub AreNotes-same : (all : List (List ℕ)) (k : ℕ) (line left : List ℕ) → AreNotes (take k all) left → k < length all → line ≡ get_or all k []
    → ((teller hearer : ℕ) → teller < 32 → hearer < 32 → is_note teller hearer (words line) ≡ true → ⊥) → AreNotes (take (k + 1) all) left
AreNotes-same all k line left are below same none =
    record {
      sized = are.sized;
      each = λ teller hearer a b.
          let not : is_note teller hearer (words line) ≡ false =
          elim (cases_Bool (is_note teller hearer (words line))) [ inl is ↦ absurd (none teller hearer a b is) | inr other ↦ other ] in
          omega (arith, are.each teller hearer a b, notes_in_more all k line teller hearer below same, ap {B = ℕ} (λ is. cond is 1 0) not);
    }

-- a line is one note at most
one_note : (parts : List (List ℕ)) (a b c d : ℕ) → a < 32 → b < 32 → c < 32 → d < 32 → is_note a b parts ≡ true → is_note c d parts ≡ true → (c ≡ a) × (d ≡ b)
one_note parts a b c d e f g h is also =
    let same : note_words c d ≡ note_words a b = sym ((is_note-Decides c d parts).0 also) ∙ (is_note-Decides a b parts).0 is in
    (decimal_injective c a (omega arith) (omega arith) (ap (λ all. word all 0) same), decimal_injective d b (omega arith) (omega arith) (ap (λ all. word all 2) same))

pub AreNotes-more : (all : List (List ℕ)) (k : ℕ) (line left : List ℕ) (from to count : ℕ) → AreNotes (take k all) left → k < length all → line ≡ get_or all k []
    → from < 32 → to < 32 → is_note from to (words line) ≡ true → count ≡ get_or left (note_at from to) 0 + 1
    → AreNotes (take (k + 1) all) (set left (note_at from to) count)
AreNotes-more all k line left from to count are below same low high is more =
    record {
      sized = length-set left (note_at from to) count ∙ are.sized;
      each = λ teller hearer a b.
          let next = notes_in_more all k line teller hearer below same in
          elim (cases_Bool (is_note teller hearer (words line))) [
            | inl also ↦
                let own = one_note (words line) from to teller hearer low high a b is also in
                let place : note_at teller hearer ≡ note_at from to = omega (arith, own.0, own.1) in
                let inside : note_at from to < length left = omega (arith, are.sized) in
                ap (λ at. get_or (set left (note_at from to) count) at 0) place ∙ get_or-set_same left (note_at from to) count 0 inside
                ∙ omega (arith, more, next, are.each teller hearer a b, ap (λ at. get_or left at 0) place, ap {B = ℕ} (λ t. cond t 1 0) also)
            | inr other ↦
                let apart : note_at teller hearer ≢ note_at from to = λ place.
                let own : (teller ≡ from) × (hearer ≡ to) = (omega arith, omega arith) in
                cc (sym other ∙ ap (λ n. is_note n hearer (words line)) own.0 ∙ ap (λ n. is_note from n (words line)) own.1 ∙ is) in
                get_or-set_other left (note_at from to) (note_at teller hearer) count 0 apart
                ∙ omega (arith, next, are.each teller hearer a b, ap {B = ℕ} (λ t. cond t 1 0) other)
          ];
    }
