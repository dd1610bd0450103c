-- What was read of a script so far: a request more, and what follows for the lines.
use Rattle.std.proofs.Common.{ℕ, ◌≡◌, ◌+◌, ◌^◌, ◌<◌, ◌≤◌, inl, inr, List, [], ◌∷◌, ◌++◌, length, get_or, set, take, map, sym, ap, subst, ◌∙◌, arith}
use Rattle.std.specs.List.{range_with_len}
use Rattle.std.proofs.lemmas.Bool.{cases_eq}
use Rattle.std.proofs.lemmas.List.{get_or_default, length-set, get_or-set_same, get_or-set_other}
use Rattle.std.proofs.lemmas.List.FromFn.{fill_by_all, length-map-range_with_len, get_or-map-range_with_len}
use Rattle.wb_script.specs.Grammar.{AreRead, IsHeader, IsRefused, IsRequest, lines, most_bytes, most_lines, request_lines, requests_of, words, words_at}
use Rattle.wb_script.specs.Counting.{AreNotes, IsReadSoFar, IsCounted, IsLineRefused, note_at}
use Rattle.wb_script.specs.declared.request.Request.{Request}
use Rattle.wb_script.specs.declared.refusal.Cause.{Cause}
use Rattle.wb_script.specs.declared.parsing.requests.LineStop.TheVariants.{Offends}
use Rattle.wb_script.specs.declared.parsing.reading.Reading.{Reading}
use Rattle.wb_script.proofs.Owned.{heard_push, requests_of_push_other, requests_of_push_own, shown_push}
use Rattle.wb_script.proofs.Grammars.{IsFineUpTo, IsRefused-note, IsRefused-reads, IsRefused-words}

-- ---- nothing yet

pub IsReadSoFar-none : (all : List (List ℕ)) (clients : ℕ) (reading : Reading) → reading.requests.items ≡ map (requests_of []) (range_with_len 0 clients)
    → AreNotes all reading.notes.left.items → reading.shown ≡ 0 → IsReadSoFar all clients [] reading
IsReadSoFar-none all clients reading requests notes shown =
    record {
      requests_are = requests;
      sized = notes.sized;
      notes = λ teller hearer a b. omega (arith, notes.each teller hearer a b);
      shown_is = shown;
      few = omega arith;
    }

-- as many clients
pub IsReadSoFar-size : (all : List (List ℕ)) (clients : ℕ) (owned : List (ℕ × Request)) (reading : Reading) → IsReadSoFar all clients owned reading
    → length reading.requests.items ≡ clients
IsReadSoFar-size all clients owned reading so_far = ap length so_far.requests_are ∙ length-map-range_with_len (requests_of owned) 0 clients

-- ---- one request more

-- the requests of each client, where one has one more
pushed_to : (all after : List (List Request)) (owned : List (ℕ × Request)) (clients client : ℕ) (asked : Request) → all ≡ map (requests_of owned) (range_with_len 0 clients)
    → client < clients → after ≡ set all client (get_or all client [] ++ asked ∷ []) → after ≡ map (requests_of (owned ++ (client, asked) ∷ [])) (range_with_len 0 clients)
pushed_to all after owned clients client asked are below is =
    let size : length all ≡ clients = ap length are ∙ length-map-range_with_len (requests_of owned) 0 clients in
    let own : get_or all client [] ≡ requests_of owned client =
    ap (λ l. get_or l client []) are ∙ get_or-map-range_with_len (requests_of owned) 0 clients client client [] below (omega arith) in
    let more : List Request = get_or all client [] ++ asked ∷ [] in
    fill_by_all (requests_of (owned ++ (client, asked) ∷ [])) after clients [] (ap length is ∙ length-set all client more ∙ size)
    (λ k low. elim (cases_eq k client) [
      | inl here ↦
          let inside : client < length all = omega arith in
          ap (λ l. get_or l k []) is ∙ ap (λ n. get_or (set all client more) n []) here ∙ get_or-set_same all client more [] inside
          ∙ ap (λ l. l ++ asked ∷ []) own ∙ sym (requests_of_push_own owned client asked) ∙ ap (requests_of (owned ++ (client, asked) ∷ [])) (sym here)
      | inr apart ↦
          ap (λ l. get_or l k []) is ∙ get_or-set_other all client k more [] apart
          ∙ ap (λ l. get_or l k []) are ∙ get_or-map-range_with_len (requests_of owned) 0 clients k k [] low (omega arith)
          ∙ sym (requests_of_push_other owned client asked k (λ e. apart (sym e)))
    ])

pub IsReadSoFar-more : (all : List (List ℕ)) (clients : ℕ) (owned : List (ℕ × Request)) (client : ℕ) (asked : Request) (old mid new : Reading) (last : List Request)
    → IsReadSoFar all clients owned old → IsCounted client asked old mid → client < clients → last ≡ get_or mid.requests.items client last
    → new.requests.items ≡ set mid.requests.items client (last ++ asked ∷ []) → new.notes.left.items ≡ mid.notes.left.items → new.shown ≡ mid.shown
    → IsReadSoFar all clients (owned ++ (client, asked) ∷ []) new
IsReadSoFar-more all clients owned client asked old mid new last so_far counted below is requests notes shown =
    let own : ℕ × Request = (client, asked) in
    let kept : mid.requests.items ≡ old.requests.items = ap (λ v. v.items) counted.requests in
    let inside : client < length mid.requests.items = omega (arith, ap length kept, IsReadSoFar-size all clients owned old so_far) in
    let behind : last ≡ get_or mid.requests.items client [] = is ∙ get_or_default mid.requests.items client last [] inside in
    record {
      requests_are = pushed_to mid.requests.items new.requests.items owned clients client asked (kept ∙ so_far.requests_are) below
          (requests ∙ ap (λ l. set mid.requests.items client (l ++ asked ∷ [])) behind);
      sized = ap length notes ∙ counted.sized ∙ so_far.sized;
      notes = λ teller hearer a b.
          let left : get_or new.notes.left.items (note_at teller hearer) 0 ≡ get_or mid.notes.left.items (note_at teller hearer) 0 = ap (λ l. get_or l (note_at teller hearer) 0) notes in
          omega (arith, left, counted.notes teller hearer a b, so_far.notes teller hearer a b, heard_push teller hearer owned own);
      shown_is = omega (arith, counted.shown_is, so_far.shown_is, shown_push owned own);
      few = omega (arith, counted.few);
    }

-- ---- lines that were read

-- they are fine
pub IsFineUpTo-read : (sectors clients : ℕ) (bytes : List ℕ) (n : ℕ) (owned : List (ℕ × Request)) (reading : Reading) → length bytes ≤ most_bytes → length (lines bytes) ≤ most_lines
    → IsHeader (words_at bytes 1) clients → AreRead sectors clients (take n (request_lines bytes)) owned → IsReadSoFar (request_lines bytes) clients owned reading
    → IsFineUpTo sectors clients bytes n owned
IsFineUpTo-read sectors clients bytes n owned reading short few header read so_far =
    let most = header.few in
    record {
      short = short;
      few = few;
      header = header;
      read = read;
      heard = λ teller hearer low high. omega (arith, so_far.notes teller hearer (omega arith) (omega arith));
      shown = omega (arith, so_far.shown_is, so_far.few);
    }

-- what is refused of a line behind them, is refused of the script
pub IsRefused-line : (sectors clients : ℕ) (bytes : List ℕ) (n : ℕ) (owned : List (ℕ × Request)) (reading : Reading) (why : Cause) → sectors < 2 ^ 64
    → IsFineUpTo sectors clients bytes n owned → IsReadSoFar (request_lines bytes) clients owned reading → n + 1 < length (lines bytes)
    → IsLineRefused sectors clients (words (get_or (request_lines bytes) n [])) reading (Offends why) → IsRefused sectors bytes (n + 2) why
IsRefused-line sectors clients bytes n owned reading why small fine so_far inside (inl first) = IsRefused-words sectors clients bytes n owned why small fine inside first
IsRefused-line sectors clients bytes n owned reading why small fine so_far inside (inr (client, asked, is, inl (other, same, (hears, none)))) =
    let few = fine.header.few in
    let spelled = subst (IsRequest sectors clients (words (get_or (request_lines bytes) n [])) client) hears is in
    subst (IsRefused sectors bytes (n + 2)) (sym same)
    (IsRefused-note sectors clients bytes n owned client other small fine inside spelled
    (omega (arith, none, so_far.notes other client (omega (arith, spelled.1, spelled.0)) (omega (arith, spelled.0)))))
IsRefused-line sectors clients bytes n owned reading why small fine so_far inside (inr (client, asked, is, inr (shown, same, (sector, count, reads, sum_is, many)))) =
    subst (IsRefused sectors bytes (n + 2)) (sym same)
    (IsRefused-reads sectors clients bytes n owned client sector count shown small fine inside
    (subst (IsRequest sectors clients (words (get_or (request_lines bytes) n [])) client) reads is)
    (omega (arith, sum_is, so_far.shown_is)) many)
