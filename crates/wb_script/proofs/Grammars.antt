-- The laws of the grammar: bytes spell one script or have one refusal, and never both.
use Rattle.std.proofs.Common.{ℕ, ◌≡◌, ◌+◌, ◌-◌, ◌^◌, ◌<◌, ◌≤◌, ◌⊎◌, inl, inr, List, [], ◌∷◌, ◌++◌, length, get_or, take, map, refl, sym, ap, subst, ◌∙◌, arith}
use Rattle.std.specs.List.{range_with_len}
use Rattle.std.proofs.lemmas.Bool.{cases_order}
use Rattle.std.proofs.lemmas.List.{length-drop, same_from_push, take_all}
use Rattle.std.proofs.lemmas.List.FromFn.{length-map-range_with_len, get_or-map-range_with_len}
use Rattle.wb_script.specs.Content.{ScriptContent}
use Rattle.wb_script.specs.Valid.{heard_of, told_to, most_shown, requests_at}
use Rattle.wb_script.specs.Grammar.{AreRead, HearsNone, IsHeader, IsReadUpTo, IsRequest, IsRefused, IsScript, IsTheRefusal, IsTheScript, Offends, OffendsAt, OffendsInLine, ShowsTooMuch, lines, most_bytes, most_lines, notes_in, rank, request_lines, requests_of, shown_by_owned, words, words_at}
use Rattle.wb_script.specs.Reading.{IsFirstInLine}
use Rattle.wb_script.specs.declared.request.Request.{Request}
use Rattle.wb_script.specs.declared.request.Request.TheVariants as request
use Rattle.wb_script.specs.declared.refusal.Cause.{Cause}
use Rattle.wb_script.specs.declared.refusal.Cause.TheVariants.{Size, Header, Client, Command, Words, Number, Count, Range, Data, Note, Reads}
use Rattle.wb_script.proofs.Causes.{one_cause, request_offends_not}
use Rattle.wb_script.proofs.Notes.{notes_in-read}
use Rattle.wb_script.proofs.Owned.{heard_more, heard-take-le, shown_push, shown-take-le}
use Rattle.wb_script.proofs.Spelled.{AreRead-more, first_owned, one_header, request_up_to, same_owned, some_request_at, words_at-rest}

-- ---- the places at which something offends

-- a rule on the whole script
abbrev OffendsBehind : ℕ → List ℕ → ℕ → Cause → Type 0
OffendsBehind sectors bytes line why =
    ((other : ℕ) × (why ≡ Note other) × HearsNone sectors bytes line other) ⊎ ((shown : ℕ) × (why ≡ Reads shown) × ShowsTooMuch sectors bytes line shown)

-- the script is too large, it has no header, the words of a line offend, or a rule on the whole script
abbrev Placed : ℕ → List ℕ → ℕ → Cause → Type 0
Placed sectors bytes line why =
    ((line ≡ 0) × (why ≡ Size (length bytes) (length (lines bytes))) × ((most_bytes < length bytes) ⊎ (most_lines < length (lines bytes))))
    ⊎ ((line ≡ 1) × (why ≡ Header) × ((clients : ℕ) → IsHeader (words_at bytes 1) clients → ⊥))
    ⊎ OffendsAt sectors bytes line why
    ⊎ OffendsBehind sectors bytes line why

too_large : (bytes : List ℕ) (size count : ℕ) → size ≡ length bytes → count ≡ length (lines bytes) → (most_bytes < size) ⊎ (most_lines < count)
    → (most_bytes < length bytes) ⊎ (most_lines < length (lines bytes))
too_large bytes size count sized counted (inl long) = inl (omega arith)
too_large bytes size count sized counted (inr many) = inr (omega arith)

placed : (sectors : ℕ) (bytes : List ℕ) (line : ℕ) (why : Cause) → Offends sectors bytes line why → Placed sectors bytes line why
placed sectors bytes line (Size size count) offends = inl (offends.0, (λ i. Size (offends.1 i) (offends.2 i)), too_large bytes size count offends.1 offends.2 offends.3)
placed sectors bytes line Header offends = inr (inl (offends.0, refl, offends.1))
placed sectors bytes line Client offends = inr (inr (inl offends))
placed sectors bytes line Command offends = inr (inr (inl offends))
placed sectors bytes line (Words found needed) offends = inr (inr (inl offends))
placed sectors bytes line (Number at) offends = inr (inr (inl offends))
placed sectors bytes line (Count count) offends = inr (inr (inl offends))
placed sectors bytes line (Range sector count of) offends = inr (inr (inl offends))
placed sectors bytes line (Data digits) offends = inr (inr (inl offends))
placed sectors bytes line (Note other) (inl offends) = inr (inr (inl offends))
placed sectors bytes line (Note other) (inr hears) = inr (inr (inr (inl (other, refl, hears))))
placed sectors bytes line (Reads shown) offends = inr (inr (inr (inr (shown, refl, offends))))

offends_at : (sectors : ℕ) (bytes : List ℕ) (line : ℕ) (why : Cause) → OffendsAt sectors bytes line why → Offends sectors bytes line why
offends_at sectors bytes line (Size size count) offends = absurd offends.offends
offends_at sectors bytes line Header offends = absurd offends.offends
offends_at sectors bytes line Client offends = offends
offends_at sectors bytes line Command offends = offends
offends_at sectors bytes line (Words found needed) offends = offends
offends_at sectors bytes line (Number at) offends = offends
offends_at sectors bytes line (Count count) offends = offends
offends_at sectors bytes line (Range sector count of) offends = offends
offends_at sectors bytes line (Data digits) offends = offends
offends_at sectors bytes line (Note other) offends = inl offends
offends_at sectors bytes line (Reads shown) offends = absurd offends.offends

-- a line at which a rule on the whole script is asked spells a request
behind_reads : (sectors : ℕ) (bytes : List ℕ) (line : ℕ) (why : Cause) → OffendsBehind sectors bytes line why
    → (clients : ℕ) × (before : List (ℕ × Request)) × (client : ℕ) × (asked : Request) × IsReadUpTo sectors clients bytes line before client asked
behind_reads sectors bytes line why (inl hears) = (hears.2.clients, hears.2.before, hears.2.client, request.Hear hears.0, hears.2.is)
behind_reads sectors bytes line why (inr shows) = (shows.2.clients, shows.2.before, shows.2.client, request.Read shows.2.sector shows.2.count, shows.2.is)

-- how far down a line may offend
line_within : (sectors : ℕ) (bytes : List ℕ) (line : ℕ) (why : Cause) → Offends sectors bytes line why → line < length (request_lines bytes) + 2
line_within sectors bytes line why offends =
    let rest = length-drop 1 (lines bytes) in
    elim (placed sectors bytes line why offends) [
      | inl whole ↦ omega (arith, whole.0)
      | inr (inl header) ↦ omega (arith, header.0)
      | inr (inr (inl at)) ↦ omega (arith, at.low, at.high)
      | inr (inr (inr behind)) ↦
          let is = (behind_reads sectors bytes line why behind).4 in
          omega (arith, is.low, is.high)
    ]

-- ---- lines that are fine

-- the first lines behind the header spell requests that may be made
pub record IsFineUpTo (sectors clients : ℕ) (bytes : List ℕ) (n : ℕ) (owned : List (ℕ × Request)) : Type 0 where
  pub short : length bytes ≤ most_bytes
  pub few : length (lines bytes) ≤ most_lines
  pub header : IsHeader (words_at bytes 1) clients
  pub read : AreRead sectors clients (take n (request_lines bytes)) owned
  pub heard : (teller hearer : ℕ) → teller < hearer → hearer < clients → heard_of teller (requests_of owned hearer) ≤ notes_in (request_lines bytes) teller hearer
  pub shown : shown_by_owned owned ≤ most_shown

-- a request has no words that offend
fine_words : (sectors clients : ℕ) (bytes : List ℕ) (line client : ℕ) (asked : Request) → sectors < 2 ^ 64 → IsHeader (words_at bytes 1) clients
    → IsRequest sectors clients (words_at bytes line) client asked → (why : Cause) → OffendsAt sectors bytes line why → ⊥
fine_words sectors clients bytes line client asked small header is why at =
    let few = header.few in
    let same : at.clients ≡ clients = one_header (words_at bytes 1) clients at.clients header at.header in
    request_offends_not sectors clients (words_at bytes line) client asked small (omega arith) is why
    (subst (λ n. OffendsInLine sectors n (words_at bytes line) why) same at.offends)

-- as many clients as the header names
same_clients : (sectors clients other : ℕ) (bytes : List ℕ) (line : ℕ) (before : List (ℕ × Request)) (client : ℕ) (asked : Request) → IsHeader (words_at bytes 1) clients
    → IsReadUpTo sectors other bytes line before client asked → IsReadUpTo sectors clients bytes line before client asked
same_clients sectors clients other bytes line before client asked header is =
    subst (λ n. IsReadUpTo sectors n bytes line before client asked) (one_header (words_at bytes 1) clients other header is.header) is

fine_notes : (sectors clients : ℕ) (bytes : List ℕ) (n : ℕ) (owned : List (ℕ × Request)) (line other : ℕ) → sectors < 2 ^ 64
    → IsFineUpTo sectors clients bytes n owned → line < n + 2 → HearsNone sectors bytes line other → ⊥
fine_notes sectors clients bytes n owned line other small fine high hears =
    let few = fine.header.few in
    let is = same_clients sectors clients hears.clients bytes line hears.before hears.client (request.Hear other) fine.header hears.is in
    let asked = request_up_to sectors clients bytes line hears.before hears.client (request.Hear other) is in
    let front = first_owned sectors clients bytes n owned line hears.before hears.client (request.Hear other) small (omega arith) fine.read high is in
    let more = heard_more hears.before hears.client other in
    let same : heard_of other (requests_of (hears.before ++ (hears.client, request.Hear other) ∷ []) hears.client) ≡ heard_of other (requests_of (take (line - 1) owned) hears.client) =
    ap (λ all. heard_of other (requests_of all hears.client)) front in
    let most = heard-take-le other hears.client (line - 1) owned in
    omega (arith, more, same, most, hears.many, fine.heard other hears.client asked.1 asked.0)

fine_shown : (sectors clients : ℕ) (bytes : List ℕ) (n : ℕ) (owned : List (ℕ × Request)) (line shown : ℕ) → sectors < 2 ^ 64
    → IsFineUpTo sectors clients bytes n owned → line < n + 2 → ShowsTooMuch sectors bytes line shown → ⊥
fine_shown sectors clients bytes n owned line shown small fine high shows =
    let few = fine.header.few in
    let own : ℕ × Request = (shows.client, request.Read shows.sector shows.count) in
    let is = same_clients sectors clients shows.clients bytes line shows.before shows.client own.1 fine.header shows.is in
    let front = first_owned sectors clients bytes n owned line shows.before shows.client own.1 small (omega arith) fine.read high is in
    let more = shown_push shows.before own in
    let same : shown_by_owned (shows.before ++ own ∷ []) ≡ shown_by_owned (take (line - 1) owned) = ap shown_by_owned front in
    let most = shown-take-le (line - 1) owned in
    omega (arith, more, same, most, shows.sum_is, shows.many, fine.shown)

-- none of them offends
pub fine_before : (sectors clients : ℕ) (bytes : List ℕ) (n : ℕ) (owned : List (ℕ × Request)) (line : ℕ) (why : Cause) → sectors < 2 ^ 64
    → IsFineUpTo sectors clients bytes n owned → line < n + 2 → Offends sectors bytes line why → ⊥
fine_before sectors clients bytes n owned line why small fine high offends =
    elim (placed sectors bytes line why offends) [
      | inl whole ↦ elim whole.2 [ inl long ↦ omega (arith, long, fine.short) | inr many ↦ omega (arith, many, fine.few) ]
      | inr (inl header) ↦ header.2 clients fine.header
      | inr (inr (inl at)) ↦
          let is = some_request_at sectors clients bytes n owned line fine.read at.low high at.high in
          fine_words sectors clients bytes line is.0 is.1 small fine.header is.2 why at
      | inr (inr (inr (inl hears))) ↦ fine_notes sectors clients bytes n owned line hears.0 small fine high hears.2
      | inr (inr (inr (inr shows))) ↦ fine_shown sectors clients bytes n owned line shows.0 small fine high shows.2
    ]

-- ---- bytes spell one script

one_script : (sectors : ℕ) (bytes : List ℕ) (a b : ScriptContent) → sectors < 2 ^ 64 → IsScript sectors bytes a → IsScript sectors bytes b → b ≡ a
one_script sectors bytes a b small h k =
    let few = h.header.few in
    let clients : b.clients ≡ a.clients = one_header (words_at bytes 1) a.clients b.clients h.header k.header in
    let read : AreRead sectors a.clients (request_lines bytes) k.owned = subst (λ n. AreRead sectors n (request_lines bytes) k.owned) clients k.spelled in
    let owned : k.owned ≡ h.owned = same_owned sectors a.clients (request_lines bytes) h.owned k.owned small (omega arith) h.spelled read in
    let sectors_are : b.sectors ≡ a.sectors = k.sectors_are ∙ sym h.sectors_are in
    let requests : b.requests ≡ a.requests =
    k.requests_are ∙ ap (λ owns. map (requests_of owns) (range_with_len 0 b.clients)) owned ∙ ap (λ n. map (requests_of h.owned) (range_with_len 0 n)) clients ∙ sym h.requests_are in
    λ i. record { clients = clients i; sectors = sectors_are i; requests = requests i }

-- ---- no line of a script offends

-- the requests of a client in a script
requests_at-owned : (all : List (List Request)) (owned : List (ℕ × Request)) (clients client : ℕ) → all ≡ map (requests_of owned) (range_with_len 0 clients) → client < clients
    → requests_at all client ≡ requests_of owned client
requests_at-owned all owned clients client are below =
    ap (λ every. requests_at every client) are ∙ get_or-map-range_with_len (requests_of owned) 0 clients client client [] below (omega arith)

fine_script : (sectors : ℕ) (bytes : List ℕ) (script : ScriptContent) → (is : IsScript sectors bytes script)
    → IsFineUpTo sectors script.clients bytes (length (request_lines bytes)) is.owned
fine_script sectors bytes script is =
    let few = is.header.few in
    record {
      short = is.short;
      few = is.few;
      header = is.header;
      read = subst (λ all. AreRead sectors script.clients all is.owned) (sym (take_all (length (request_lines bytes)) (request_lines bytes) (omega arith))) is.spelled;
      heard = λ teller hearer low high.
          let every = ap length is.requests_are ∙ length-map-range_with_len (requests_of is.owned) 0 script.clients in
          let hears = ap (heard_of teller) (requests_at-owned script.requests is.owned script.clients hearer is.requests_are high) in
          let tells = ap (told_to hearer) (requests_at-owned script.requests is.owned script.clients teller is.requests_are (omega arith)) in
          let notes = notes_in-read sectors script.clients teller hearer (request_lines bytes) is.owned (omega arith) (omega arith) (omega arith) is.spelled in
          omega (arith, hears, tells, notes, is.left teller hearer low (omega arith));
      shown = is.shown;
    }

script_not_refused : (sectors : ℕ) (bytes : List ℕ) (script : ScriptContent) → sectors < 2 ^ 64 → IsScript sectors bytes script
    → (line : ℕ) (why : Cause) → Offends sectors bytes line why → ⊥
script_not_refused sectors bytes script small is line why offends =
    fine_before sectors script.clients bytes (length (request_lines bytes)) is.owned line why small (fine_script sectors bytes script is)
    (line_within sectors bytes line why offends) offends

-- ---- one refusal

same_place : (a b x y : ℕ) → (a < b) ⊎ ((a ≡ b) × (x ≤ y)) → (b < a) ⊎ ((b ≡ a) × (y ≤ x)) → (b ≡ a) × (x ≡ y)
same_place a b x y (inl before) (inl behind) = absurd (omega arith)
same_place a b x y (inl before) (inr here) = absurd (omega (arith, here.0))
same_place a b x y (inr here) (inl behind) = absurd (omega (arith, here.0))
same_place a b x y (inr here) (inr there) = (there.0, omega (arith, here.1, there.1))

-- one cause of a rank in the words of a line
same_at : (sectors : ℕ) (bytes : List ℕ) (line : ℕ) (a b : Cause) → OffendsAt sectors bytes line a → OffendsAt sectors bytes line b → rank a ≡ rank b → b ≡ a
same_at sectors bytes line a b h k e =
    let same : k.clients ≡ h.clients = one_header (words_at bytes 1) h.clients k.clients h.header k.header in
    one_cause sectors h.clients (words_at bytes line) a b h.offends (subst (λ n. OffendsInLine sectors n (words_at bytes line) b) same k.offends) e

-- words that offend are no request
not_both : (sectors : ℕ) (bytes : List ℕ) (line : ℕ) (a b : Cause) → sectors < 2 ^ 64 → OffendsAt sectors bytes line a → OffendsBehind sectors bytes line b → ⊥
not_both sectors bytes line a b small at behind =
    let is = behind_reads sectors bytes line b behind in
    fine_words sectors is.0 bytes line is.2 is.3 small is.4.header (request_up_to sectors is.0 bytes line is.1 is.2 is.3 is.4) a at

-- what is read up to a line
same_read : (sectors : ℕ) (bytes : List ℕ) (line clients other : ℕ) (before : List (ℕ × Request)) (client : ℕ) (asked : Request) (front : List (ℕ × Request)) (owner : ℕ) (also : Request)
    → sectors < 2 ^ 64 → IsReadUpTo sectors clients bytes line before client asked → IsReadUpTo sectors other bytes line front owner also
    → (front ≡ before) × (◌≡◌ {A = ℕ × Request} (owner, also) (client, asked))
same_read sectors bytes line clients other before client asked front owner also small h k =
    let few = h.header.few in
    let is = same_clients sectors clients other bytes line front owner also h.header k in
    same_from_push front before (owner, also) (client, asked)
    (same_owned sectors clients (take (line - 1) (request_lines bytes)) (before ++ (client, asked) ∷ []) (front ++ (owner, also) ∷ []) small (omega arith) h.read is.read)

-- one cause that a rule on the whole script gives
same_behind : (sectors : ℕ) (bytes : List ℕ) (line : ℕ) (a b : Cause) → sectors < 2 ^ 64 → OffendsBehind sectors bytes line a → OffendsBehind sectors bytes line b → b ≡ a
same_behind sectors bytes line a b small (inl hears) (inl also) =
    let same = same_read sectors bytes line hears.2.clients also.2.clients hears.2.before hears.2.client (request.Hear hears.0) also.2.before also.2.client (request.Hear also.0) small hears.2.is also.2.is in
    let asked : request.Hear also.0 ≡ request.Hear hears.0 = ap (λ (o : ℕ × Request). o.1) same.1 in
    let other : also.0 ≡ hears.0 = cc in
    also.1 ∙ ap Note other ∙ sym hears.1
same_behind sectors bytes line a b small (inl hears) (inr shows) =
    let same = same_read sectors bytes line hears.2.clients shows.2.clients hears.2.before hears.2.client (request.Hear hears.0) shows.2.before shows.2.client (request.Read shows.2.sector shows.2.count) small hears.2.is shows.2.is in
    cc (ap (λ (o : ℕ × Request). o.1) same.1)
same_behind sectors bytes line a b small (inr shows) (inl hears) =
    let same = same_read sectors bytes line hears.2.clients shows.2.clients hears.2.before hears.2.client (request.Hear hears.0) shows.2.before shows.2.client (request.Read shows.2.sector shows.2.count) small hears.2.is shows.2.is in
    cc (ap (λ (o : ℕ × Request). o.1) same.1)
same_behind sectors bytes line a b small (inr shows) (inr also) =
    let same = same_read sectors bytes line shows.2.clients also.2.clients shows.2.before shows.2.client (request.Read shows.2.sector shows.2.count) also.2.before also.2.client (request.Read also.2.sector also.2.count) small shows.2.is also.2.is in
    let asked : request.Read also.2.sector also.2.count ≡ request.Read shows.2.sector shows.2.count = ap (λ (o : ℕ × Request). o.1) same.1 in
    let count : also.2.count ≡ shows.2.count = cc in
    let front : shown_by_owned also.2.before ≡ shown_by_owned shows.2.before = ap shown_by_owned same.0 in
    let shown : also.0 ≡ shows.0 = omega (arith, also.2.sum_is, shows.2.sum_is) in
    also.1 ∙ ap Reads shown ∙ sym shows.1

-- one cause of a rank at a line
same_cause : (sectors : ℕ) (bytes : List ℕ) (line : ℕ) (a b : Cause) → sectors < 2 ^ 64 → Offends sectors bytes line a → Offends sectors bytes line b → rank a ≡ rank b → b ≡ a
same_cause sectors bytes line a b small h k e = same (placed sectors bytes line a h) (placed sectors bytes line b k)
  where
    same : Placed sectors bytes line a → Placed sectors bytes line b → b ≡ a
    same (inl whole) (inl also) = also.1 ∙ sym whole.1
    same (inl whole) (inr (inl header)) = absurd (omega (arith, whole.0, header.0))
    same (inl whole) (inr (inr (inl at))) = absurd (omega (arith, whole.0, at.low))
    same (inl whole) (inr (inr (inr behind))) = absurd (omega (arith, whole.0, (behind_reads sectors bytes line b behind).4.low))
    same (inr (inl header)) (inl whole) = absurd (omega (arith, whole.0, header.0))
    same (inr (inl header)) (inr (inl also)) = also.1 ∙ sym header.1
    same (inr (inl header)) (inr (inr (inl at))) = absurd (omega (arith, header.0, at.low))
    same (inr (inl header)) (inr (inr (inr behind))) = absurd (omega (arith, header.0, (behind_reads sectors bytes line b behind).4.low))
    same (inr (inr (inl at))) (inl whole) = absurd (omega (arith, whole.0, at.low))
    same (inr (inr (inl at))) (inr (inl header)) = absurd (omega (arith, header.0, at.low))
    same (inr (inr (inl at))) (inr (inr (inl also))) = same_at sectors bytes line a b at also e
    same (inr (inr (inl at))) (inr (inr (inr behind))) = absurd (not_both sectors bytes line a b small at behind)
    same (inr (inr (inr behind))) (inl whole) = absurd (omega (arith, whole.0, (behind_reads sectors bytes line a behind).4.low))
    same (inr (inr (inr behind))) (inr (inl header)) = absurd (omega (arith, header.0, (behind_reads sectors bytes line a behind).4.low))
    same (inr (inr (inr behind))) (inr (inr (inl at))) = absurd (not_both sectors bytes line b a small at behind)
    same (inr (inr (inr behind))) (inr (inr (inr other))) = same_behind sectors bytes line a b small behind other

one_refusal : (sectors : ℕ) (bytes : List ℕ) (line other : ℕ) (a b : Cause) → sectors < 2 ^ 64 → IsRefused sectors bytes line a → IsRefused sectors bytes other b
    → (other ≡ line) × (b ≡ a)
one_refusal sectors bytes line other a b small h k =
    let place = same_place line other (rank a) (rank b) (h.first other b k.offends) (k.first line a h.offends) in
    (place.0, same_cause sectors bytes line a b small h.offends (subst (λ n. Offends sectors bytes n b) place.0 k.offends) place.1)

-- ---- the laws

pub the_script : (sectors : ℕ) (bytes : List ℕ) (script : ScriptContent) → sectors < 2 ^ 64 → IsScript sectors bytes script → IsTheScript sectors bytes script
the_script sectors bytes script small h =
    record {
      is = h;
      only = λ other k. one_script sectors bytes script other small h k;
      fine = script_not_refused sectors bytes script small h;
    }

pub the_refusal : (sectors : ℕ) (bytes : List ℕ) (line : ℕ) (why : Cause) → sectors < 2 ^ 64 → IsRefused sectors bytes line why → IsTheRefusal sectors bytes line why
the_refusal sectors bytes line why small h =
    record {
      is = h;
      only = λ other also k. one_refusal sectors bytes line other why also small h k;
      none = λ script k. script_not_refused sectors bytes script small k line why h.offends;
    }

-- ---- refusals of the whole script and of its header

pub IsRefused-size : (sectors : ℕ) (bytes : List ℕ) → (most_bytes < length bytes) ⊎ (most_lines < length (lines bytes))
    → IsRefused sectors bytes 0 (Size (length bytes) (length (lines bytes)))
IsRefused-size sectors bytes large =
    record {
      offends = (refl, refl, refl, large);
      first = λ other also k. elim (placed sectors bytes other also k) [
        | inl whole ↦ inr (sym whole.0, omega (arith, ap rank whole.1))
        | inr (inl header) ↦ inl (omega (arith, header.0))
        | inr (inr (inl at)) ↦ inl (omega (arith, at.low))
        | inr (inr (inr behind)) ↦ inl (omega (arith, (behind_reads sectors bytes other also behind).4.low))
      ];
    }

-- neither the bytes nor the lines are too many
not_large : (bytes : List ℕ) → length bytes ≤ most_bytes → length (lines bytes) ≤ most_lines → (most_bytes < length bytes) ⊎ (most_lines < length (lines bytes)) → ⊥
not_large bytes short few (inl long) = omega arith
not_large bytes short few (inr many) = omega arith

pub IsRefused-header : (sectors : ℕ) (bytes : List ℕ) → length bytes ≤ most_bytes → length (lines bytes) ≤ most_lines → ((clients : ℕ) → IsHeader (words_at bytes 1) clients → ⊥)
    → IsRefused sectors bytes 1 Header
IsRefused-header sectors bytes short few none =
    record {
      offends = (refl, none);
      first = λ other also k. elim (placed sectors bytes other also k) [
        | inl whole ↦ absurd (not_large bytes short few whole.2)
        | inr (inl header) ↦ inr (sym header.0, omega (arith, ap rank header.1))
        | inr (inr (inl at)) ↦ inl (omega (arith, at.low))
        | inr (inr (inr behind)) ↦ inl (omega (arith, (behind_reads sectors bytes other also behind).4.low))
      ];
    }

-- ---- refusals of a line

-- where the lines before are fine, and no cause of a lower rank offends at this one
first_at : (sectors clients : ℕ) (bytes : List ℕ) (n : ℕ) (owned : List (ℕ × Request)) (low : ℕ) → sectors < 2 ^ 64 → IsFineUpTo sectors clients bytes n owned
    → ((also : Cause) → Offends sectors bytes (n + 2) also → low ≤ rank also)
    → (other : ℕ) (also : Cause) → Offends sectors bytes other also → (n + 2 < other) ⊎ ((n + 2 ≡ other) × (low ≤ rank also))
first_at sectors clients bytes n owned low small fine here other also offends =
    elim (cases_order other (n + 2)) [
      | inl equal ↦ inr (sym equal, here also (subst (λ line. Offends sectors bytes line also) equal offends))
      | inr (inl before) ↦ absurd (fine_before sectors clients bytes n owned other also small fine before offends)
      | inr (inr behind) ↦ inl behind
    ]

-- the words of the line offend
pub IsRefused-words : (sectors clients : ℕ) (bytes : List ℕ) (n : ℕ) (owned : List (ℕ × Request)) (why : Cause) → sectors < 2 ^ 64 → IsFineUpTo sectors clients bytes n owned
    → n + 1 < length (lines bytes) → IsFirstInLine sectors clients (words (get_or (request_lines bytes) n [])) why → IsRefused sectors bytes (n + 2) why
IsRefused-words sectors clients bytes n owned why small fine inside first =
    let here : OffendsAt sectors bytes (n + 2) why =
    record {
      low = omega arith;
      high = omega arith;
      clients = clients;
      header = fine.header;
      offends = subst (λ parts. OffendsInLine sectors clients parts why) (sym (words_at-rest bytes (n + 2) n refl)) first.offends;
    } in
    record {
      offends = offends_at sectors bytes (n + 2) why here;
      first = first_at sectors clients bytes n owned (rank why) small fine (λ also offends. elim (placed sectors bytes (n + 2) also offends) [
        | inl whole ↦ absurd (omega (arith, whole.0))
        | inr (inl header) ↦ absurd (omega (arith, header.0))
        | inr (inr (inl at)) ↦
            let same : at.clients ≡ clients = one_header (words_at bytes 1) clients at.clients fine.header at.header in
            first.first also (subst (λ parts. OffendsInLine sectors clients parts also) (words_at-rest bytes (n + 2) n refl)
            (subst (λ k. OffendsInLine sectors k (words_at bytes (n + 2)) also) same at.offends))
        | inr (inr (inr behind)) ↦ absurd (not_both sectors bytes (n + 2) why also small here behind)
      ]);
    }

-- the line is read, as the last so far
read_up_to : (sectors clients : ℕ) (bytes : List ℕ) (n : ℕ) (owned : List (ℕ × Request)) (client : ℕ) (asked : Request) → IsFineUpTo sectors clients bytes n owned
    → n + 1 < length (lines bytes) → IsRequest sectors clients (words (get_or (request_lines bytes) n [])) client asked
    → IsReadUpTo sectors clients bytes (n + 2) owned client asked
read_up_to sectors clients bytes n owned client asked fine inside is =
    let own : ℕ × Request = (client, asked) in
    let place : n + 1 ≡ n + 2 - 1 = omega arith in
    record {
      low = omega arith;
      high = omega arith;
      header = fine.header;
      read = subst (λ k. AreRead sectors clients (take k (request_lines bytes)) (owned ++ own ∷ [])) place
          (AreRead-more sectors clients (request_lines bytes) n owned (get_or (request_lines bytes) n []) own fine.read (omega (arith, length-drop 1 (lines bytes))) refl is);
    }

-- a rule on the whole script is broken by a request, and is the only one that is
refused_behind : (sectors clients : ℕ) (bytes : List ℕ) (n : ℕ) (owned : List (ℕ × Request)) (client : ℕ) (asked : Request) (why : Cause) → sectors < 2 ^ 64
    → IsFineUpTo sectors clients bytes n owned → IsReadUpTo sectors clients bytes (n + 2) owned client asked → OffendsBehind sectors bytes (n + 2) why
    → Offends sectors bytes (n + 2) why → IsRefused sectors bytes (n + 2) why
refused_behind sectors clients bytes n owned client asked why small fine is breaks offends =
    record {
      offends = offends;
      first = first_at sectors clients bytes n owned (rank why) small fine (λ also k. elim (placed sectors bytes (n + 2) also k) [
        | inl whole ↦ absurd (omega (arith, whole.0))
        | inr (inl header) ↦ absurd (omega (arith, header.0))
        | inr (inr (inl at)) ↦ absurd (not_both sectors bytes (n + 2) also why small at breaks)
        | inr (inr (inr behind)) ↦ omega (arith, ap rank (same_behind sectors bytes (n + 2) why also small breaks behind))
      ]);
    }

-- it hears a note, and none is left
pub IsRefused-note : (sectors clients : ℕ) (bytes : List ℕ) (n : ℕ) (owned : List (ℕ × Request)) (client other : ℕ) → sectors < 2 ^ 64 → IsFineUpTo sectors clients bytes n owned
    → n + 1 < length (lines bytes) → IsRequest sectors clients (words (get_or (request_lines bytes) n [])) client (request.Hear other)
    → notes_in (request_lines bytes) other client ≤ heard_of other (requests_of owned client) → IsRefused sectors bytes (n + 2) (Note other)
IsRefused-note sectors clients bytes n owned client other small fine inside asked many =
    let is = read_up_to sectors clients bytes n owned client (request.Hear other) fine inside asked in
    let hears : HearsNone sectors bytes (n + 2) other = record { clients = clients; client = client; before = owned; is = is; many = many } in
    refused_behind sectors clients bytes n owned client (request.Hear other) (Note other) small fine is (inl (other, refl, hears)) (inr hears)

-- it is a read, and shows too much
pub IsRefused-reads : (sectors clients : ℕ) (bytes : List ℕ) (n : ℕ) (owned : List (ℕ × Request)) (client sector count shown : ℕ) → sectors < 2 ^ 64
    → IsFineUpTo sectors clients bytes n owned → n + 1 < length (lines bytes)
    → IsRequest sectors clients (words (get_or (request_lines bytes) n [])) client (request.Read sector count)
    → shown ≡ shown_by_owned owned + count → most_shown < shown → IsRefused sectors bytes (n + 2) (Reads shown)
IsRefused-reads sectors clients bytes n owned client sector count shown small fine inside asked sum_is many =
    let is = read_up_to sectors clients bytes n owned client (request.Read sector count) fine inside asked in
    let shows : ShowsTooMuch sectors bytes (n + 2) shown =
    record { clients = clients; client = client; sector = sector; count = count; before = owned; is = is; sum_is = sum_is; many = many } in
    refused_behind sectors clients bytes n owned client (request.Read sector count) (Reads shown) small fine is (inr (shown, refl, shows)) shows

-- ---- the script that was read

-- a script whose lines are all fine
pub IsScript-fine : (sectors clients : ℕ) (bytes : List ℕ) (n : ℕ) (owned : List (ℕ × Request)) (requests : List (List Request)) → sectors < 2 ^ 64
    → IsFineUpTo sectors clients bytes n owned → length (request_lines bytes) ≤ n → requests ≡ map (requests_of owned) (range_with_len 0 clients)
    → IsScript sectors bytes (record { clients = clients; sectors = sectors; requests = requests })
IsScript-fine sectors clients bytes n owned requests small fine all are =
    let few = fine.header.few in
    let spelled : AreRead sectors clients (request_lines bytes) owned =
    subst (λ every. AreRead sectors clients every owned) (take_all n (request_lines bytes) all) fine.read in
    record {
      short = fine.short;
      few = fine.few;
      header = fine.header;
      owned = owned;
      spelled = spelled;
      left = λ teller hearer low high.
          let every = ap length are ∙ length-map-range_with_len (requests_of owned) 0 clients in
          let hears = ap (heard_of teller) (requests_at-owned requests owned clients hearer are (omega arith)) in
          let tells = ap (told_to hearer) (requests_at-owned requests owned clients teller are (omega arith)) in
          let notes = notes_in-read sectors clients teller hearer (request_lines bytes) owned (omega arith) (omega arith) (omega arith) spelled in
          omega (arith, hears, tells, notes, fine.heard teller hearer low (omega arith));
      shown = fine.shown;
      sectors_are = refl;
      requests_are = are;
    }
