-- A script that bytes spell is valid.
use Rattle.std.proofs.Common.{ℕ, ◌≡◌, ◌<◌, List, [], ◌∷◌, Bool, true, false, map, filter, sum, cond, eqb, length, get_or, zero-add, refl, sym, ap, subst, ◌∙◌, arith}
use Rattle.std.specs.List.{All, range_with_len, enumerate_from}
use Rattle.std.proofs.lemmas.Bool.{eqb-true}
use Rattle.std.proofs.lemmas.List.{length-drop}
use Rattle.std.proofs.lemmas.Slice.Zip.{AllZip-long}
use Rattle.std.proofs.lemmas.List.Elements.{All-nil, All-cons}
use Rattle.std.proofs.lemmas.List.FromFn.{length-enumerate_from, length-map-range_with_len, get_or-enumerate_from, get_or-map-range_with_len}
use Rattle.wb_script.specs.Content.{ScriptContent}
use Rattle.wb_script.specs.Valid.{IsAsked, IsValid, shown_by_all}
use Rattle.wb_script.specs.Grammar.{AreRead, IsRequest, IsScript, lines, most_lines, request_lines, requests_of, words}
use Rattle.wb_script.specs.declared.request.Request.{Request}
use Rattle.wb_script.proofs.Owned.{requests_by_clients, shown_by_clients}
use Rattle.wb_script.proofs.Spelled.{AreBelow-read}

-- one request more, which is the client's where the test says so
asked_next : (sectors clients client : ℕ) (own : ℕ × Request) (rest : List (ℕ × Request)) (is : Bool) → eqb own.0 client ≡ is → IsAsked sectors clients own.0 own.1
    → All (IsAsked sectors clients client) (map (λ (o : ℕ × Request). o.1) rest)
    → All (IsAsked sectors clients client) (map (λ (o : ℕ × Request). o.1) (cond is (own ∷ rest) rest))
asked_next sectors clients client own rest true same asked all =
    All-cons (IsAsked sectors clients client) own.1 (map (λ o. o.1) rest) (subst (λ n. IsAsked sectors clients n own.1) (eqb-true own.0 client same) asked) all
asked_next sectors clients client own rest false other asked all = all

-- the requests of each client may be made
asked_of : (sectors clients : ℕ) (read : List (List ℕ)) (owned : List (ℕ × Request)) (client : ℕ) → AreRead sectors clients read owned
    → All (IsAsked sectors clients client) (requests_of owned client)
asked_of sectors clients [] [] client spelled = All-nil (IsAsked sectors clients client)
asked_of sectors clients [] (own ∷ owned) client spelled = absurd spelled
asked_of sectors clients (line ∷ read) [] client spelled = absurd spelled
asked_of sectors clients (line ∷ read) (own ∷ owned) client spelled =
    asked_next sectors clients client own (filter (λ o. eqb o.0 client) owned) (eqb own.0 client) refl spelled.0.1 (asked_of sectors clients read owned client spelled.1)

-- of as many clients
pub asked_all : (sectors clients : ℕ) (own : ℕ → List Request) → ((client : ℕ) → client < clients → All (IsAsked sectors clients client) (own client))
    → All (λ own. All (IsAsked sectors clients own.0) own.1) (enumerate_from 0 (map own (range_with_len 0 clients)))
asked_all sectors clients own each k d within =
    let all = map own (range_with_len 0 clients) in
    let inside : k < length all = omega (arith, within, length-enumerate_from 0 all) in
    let below : k < clients = omega (arith, inside, length-map-range_with_len own 0 clients) in
    let at : get_or (enumerate_from 0 all) k d ≡ (k, own k) =
    get_or-enumerate_from 0 all k d inside
    ∙ (λ i. (zero-add k i, get_or-map-range_with_len own 0 clients k k d.1 below (zero-add k) i)) in
    subst (λ (o : ℕ × List Request). All (IsAsked sectors clients o.0) o.1) (sym at) (each k below)

pub valid_script : (sectors : ℕ) (bytes : List ℕ) (script : ScriptContent) → IsScript sectors bytes script → IsValid script
valid_script sectors bytes script is =
    record {
      some = is.header.some;
      few = is.header.few;
      each = ap length is.requests_are ∙ length-map-range_with_len (requests_of is.owned) 0 script.clients;
      asked = subst (λ n. All (λ own. All (IsAsked n script.clients own.0) own.1) (enumerate_from 0 script.requests)) (sym is.sectors_are)
          (subst (λ all. All (λ own. All (IsAsked sectors script.clients own.0) own.1) (enumerate_from 0 all)) (sym is.requests_are)
          (asked_all sectors script.clients (requests_of is.owned) (λ client below. asked_of sectors script.clients (request_lines bytes) is.owned client is.spelled)));
      left = is.left;
      shown = omega (
        arith,
        is.shown,
        ap (λ all. sum (map shown_by_all all)) is.requests_are,
        shown_by_clients script.clients is.owned (AreBelow-read sectors script.clients (request_lines bytes) is.owned is.spelled),
      );
    }

-- all clients together have fewer requests than a script may have lines
pub few_requests : (sectors : ℕ) (bytes : List ℕ) (script : ScriptContent) → IsScript sectors bytes script → sum (map length script.requests) < most_lines
few_requests sectors bytes script is =
    let read = AllZip-long (λ (line : List ℕ) (own : ℕ × Request). IsRequest sectors script.clients (words line) own.0 own.1) (request_lines bytes) is.owned is.spelled in
    omega (
      arith,
      is.few,
      read,
      length-drop 1 (lines bytes),
      ap (λ all. sum (map length all)) is.requests_are,
      requests_by_clients script.clients is.owned (AreBelow-read sectors script.clients (request_lines bytes) is.owned is.spelled),
    )
