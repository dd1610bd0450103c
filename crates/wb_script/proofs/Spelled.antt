-- Lines and the requests that they spell: in one way, and line by line.
use Rattle.std.proofs.Common.{ℕ, zero, suc, ◌≡◌, ◌+◌, ◌-◌, ◌^◌, ◌<◌, ◌≤◌, true, false, List, [], ◌∷◌, ◌++◌, length, get_or, take, refl, sym, ap, subst, ◌∙◌, arith}
use Rattle.std.specs.Fmt.{decimal}
use Rattle.std.proofs.lemmas.Fmt.{decimal_injective}
use Rattle.std.proofs.lemmas.List.{get_or-drop, get_or-take, length-take, length-drop, length_push, get_or_push, take_more, take-take}
use Rattle.std.proofs.lemmas.Slice.Zip.{AllZip-long}
use Rattle.hex.proofs.HexLemmas.{decode_of-same}
use Rattle.wb_script.specs.Commands.{word}
use Rattle.wb_script.specs.Grammar.{AreRead, IsHeader, IsReadUpTo, IsRequest, Names, lines, request_lines, words, words_at}
use Rattle.wb_script.specs.declared.request.Request.{Request}
use Rattle.wb_script.specs.declared.request.Request.TheVariants.{Write, Read, ReadSum, Flush, Defer, Tell, Hear}
use Rattle.wb_script.proofs.Commands.{one_name}
use Rattle.wb_script.proofs.Causes.{command_of}
use Rattle.wb_script.proofs.Owned.{AreBelow}

-- ---- headers and requests are spelled in one way

pub one_header : (parts : List (List ℕ)) (a b : ℕ) → IsHeader parts a → IsHeader parts b → b ≡ a
one_header parts a b h k =
    let small = h.few in
    let few = k.few in
    decimal_injective b a (omega arith) (omega arith) (ap (λ all. word all 1) (sym k.spelled ∙ h.spelled))

-- numbers up to one that fits 64 bits have texts of their own
same_number : (limit a b : ℕ) → limit < 2 ^ 64 → a ≤ limit → b ≤ limit → decimal a ≡ decimal b → a ≡ b
same_number limit a b small low high e = decimal_injective a b (omega arith) (omega arith) e

-- the second word of a request
names-request : (sectors clients : ℕ) (parts : List (List ℕ)) (client : ℕ) (request : Request) → IsRequest sectors clients parts client request → Names parts (command_of request)
names-request sectors clients parts client (Write sector count pattern false) h = ap (λ all. word all 1) h.2.2
names-request sectors clients parts client (Write sector count pattern true) h = ap (λ all. word all 1) h.2.2
names-request sectors clients parts client (Read sector count) h = ap (λ all. word all 1) h.2
names-request sectors clients parts client (ReadSum sector count) h = ap (λ all. word all 1) h.2
names-request sectors clients parts client Flush h = ap (λ all. word all 1) h.2
names-request sectors clients parts client Defer h = ap (λ all. word all 1) h.2
names-request sectors clients parts client (Tell other) h = ap (λ all. word all 1) h.2
names-request sectors clients parts client (Hear other) h = ap (λ all. word all 1) h.2

-- the first word of a request
own-request : (sectors clients : ℕ) (parts : List (List ℕ)) (client : ℕ) (request : Request) → IsRequest sectors clients parts client request → word parts 0 ≡ decimal client
own-request sectors clients parts client (Write sector count pattern fua) h = ap (λ all. word all 0) h.2.2
own-request sectors clients parts client (Read sector count) h = ap (λ all. word all 0) h.2
own-request sectors clients parts client (ReadSum sector count) h = ap (λ all. word all 0) h.2
own-request sectors clients parts client Flush h = ap (λ all. word all 0) h.2
own-request sectors clients parts client Defer h = ap (λ all. word all 0) h.2
own-request sectors clients parts client (Tell other) h = ap (λ all. word all 0) h.2
own-request sectors clients parts client (Hear other) h = ap (λ all. word all 0) h.2

-- two numbers of requests that the same word spells
same_word : (parts all others : List (List ℕ)) (at limit a b : ℕ) → limit < 2 ^ 64 → a ≤ limit → b ≤ limit → parts ≡ all → parts ≡ others
    → word all at ≡ decimal a → word others at ≡ decimal b → b ≡ a
same_word parts all others at limit a b small low high spelled also is was =
    same_number limit b a small high low (sym was ∙ ap (λ l. word l at) (sym also ∙ spelled) ∙ is)

same_request : (sectors clients : ℕ) (parts : List (List ℕ)) (c d : ℕ) (r s : Request) → sectors < 2 ^ 64 → clients < 2 ^ 64 → command_of s ≡ command_of r
    → IsRequest sectors clients parts c r → IsRequest sectors clients parts d s → s ≡ r
same_request sectors clients parts c d (Write sector count pattern false) (Write from many bytes false) small few e h k =
    let first : from ≡ sector = same_word parts _ _ 2 sectors sector from small (omega (arith, h.1.0.inside)) (omega (arith, k.1.0.inside)) h.2.2 k.2.2 refl refl in
    let amount : many ≡ count = same_word parts _ _ 3 sectors count many small (omega (arith, h.1.0.inside)) (omega (arith, k.1.0.inside)) h.2.2 k.2.2 refl refl in
    let digits : k.2.0 ≡ h.2.0 = ap (λ all. word all 4) (sym k.2.2 ∙ h.2.2) in
    let decoded : bytes ≡ pattern = decode_of-same h.2.0 bytes pattern (rw digits at k.2.1) h.2.1 in
    λ i. Write (first i) (amount i) (decoded i) false
same_request sectors clients parts c d (Write sector count pattern true) (Write from many bytes true) small few e h k =
    let first : from ≡ sector = same_word parts _ _ 2 sectors sector from small (omega (arith, h.1.0.inside)) (omega (arith, k.1.0.inside)) h.2.2 k.2.2 refl refl in
    let amount : many ≡ count = same_word parts _ _ 3 sectors count many small (omega (arith, h.1.0.inside)) (omega (arith, k.1.0.inside)) h.2.2 k.2.2 refl refl in
    let digits : k.2.0 ≡ h.2.0 = ap (λ all. word all 4) (sym k.2.2 ∙ h.2.2) in
    let decoded : bytes ≡ pattern = decode_of-same h.2.0 bytes pattern (rw digits at k.2.1) h.2.1 in
    λ i. Write (first i) (amount i) (decoded i) true
same_request sectors clients parts c d (Read sector count) (Read from many) small few e h k =
    let first : from ≡ sector = same_word parts _ _ 2 sectors sector from small (omega (arith, h.1.inside)) (omega (arith, k.1.inside)) h.2 k.2 refl refl in
    let amount : many ≡ count = same_word parts _ _ 3 sectors count many small (omega (arith, h.1.inside)) (omega (arith, k.1.inside)) h.2 k.2 refl refl in
    λ i. Read (first i) (amount i)
same_request sectors clients parts c d (ReadSum sector count) (ReadSum from many) small few e h k =
    let first : from ≡ sector = same_word parts _ _ 2 sectors sector from small (omega (arith, h.1.inside)) (omega (arith, k.1.inside)) h.2 k.2 refl refl in
    let amount : many ≡ count = same_word parts _ _ 3 sectors count many small (omega (arith, h.1.inside)) (omega (arith, k.1.inside)) h.2 k.2 refl refl in
    λ i. ReadSum (first i) (amount i)
same_request sectors clients parts c d Flush Flush small few e h k = refl
same_request sectors clients parts c d Defer Defer small few e h k = refl
same_request sectors clients parts c d (Tell other) (Tell that) small few e h k =
    ap Tell (same_word parts _ _ 2 clients other that few (omega (arith, h.1.1)) (omega (arith, k.1.1)) h.2 k.2 refl refl)
same_request sectors clients parts c d (Hear other) (Hear that) small few e h k =
    ap Hear (same_word parts _ _ 2 clients other that few (omega (arith, h.1, h.0)) (omega (arith, k.1, k.0)) h.2 k.2 refl refl)
same_request sectors clients parts c d r s small few e h k = cc

pub one_request : (sectors clients : ℕ) (parts : List (List ℕ)) (c d : ℕ) (r s : Request) → sectors < 2 ^ 64 → clients < 2 ^ 64
    → IsRequest sectors clients parts c r → IsRequest sectors clients parts d s → (d ≡ c) × (s ≡ r)
one_request sectors clients parts c d r s small few h k = (
  same_number clients d c few (omega (arith, k.0)) (omega (arith, h.0)) (sym (own-request sectors clients parts d s k) ∙ own-request sectors clients parts c r h),
  same_request sectors clients parts c d r s small few
      (one_name parts (command_of r) (command_of s) (names-request sectors clients parts c r h) (names-request sectors clients parts d s k)) h k,
)

-- ---- lines and what they spell

pub same_owned : (sectors clients : ℕ) (read : List (List ℕ)) (a b : List (ℕ × Request)) → sectors < 2 ^ 64 → clients < 2 ^ 64
    → AreRead sectors clients read a → AreRead sectors clients read b → b ≡ a
same_owned sectors clients [] [] [] small few h k = refl
same_owned sectors clients [] [] (y ∷ b) small few h k = absurd k
same_owned sectors clients [] (x ∷ a) b small few h k = absurd h
same_owned sectors clients (line ∷ read) [] b small few h k = absurd h
same_owned sectors clients (line ∷ read) (x ∷ a) [] small few h k = absurd k
same_owned sectors clients (line ∷ read) (x ∷ a) (y ∷ b) small few h k =
    let here = one_request sectors clients (words line) x.0 y.0 x.1 y.1 small few h.0 k.0 in
    let rest = same_owned sectors clients read a b small few h.1 k.1 in
    let own : y ≡ x = λ i. (here.0 i, here.1 i) in
    λ i. own i ∷ rest i

AreRead-push : (sectors clients : ℕ) (read : List (List ℕ)) (owned : List (ℕ × Request)) (line : List ℕ) (own : ℕ × Request)
    → AreRead sectors clients read owned → IsRequest sectors clients (words line) own.0 own.1 → AreRead sectors clients (read ++ line ∷ []) (owned ++ own ∷ [])
AreRead-push sectors clients [] [] line own h k = (k, tt)
AreRead-push sectors clients [] (x ∷ owned) line own h k = absurd h
AreRead-push sectors clients (other ∷ read) [] line own h k = absurd h
AreRead-push sectors clients (other ∷ read) (x ∷ owned) line own h k = (h.0, AreRead-push sectors clients read owned line own h.1 k)

-- one line more
pub AreRead-more : (sectors clients : ℕ) (rest : List (List ℕ)) (k : ℕ) (owned : List (ℕ × Request)) (line : List ℕ) (own : ℕ × Request)
    → AreRead sectors clients (take k rest) owned → k < length rest → line ≡ get_or rest k [] → IsRequest sectors clients (words line) own.0 own.1
    → AreRead sectors clients (take (k + 1) rest) (owned ++ own ∷ [])
AreRead-more sectors clients rest k owned line own h below same is =
    let more : take k rest ++ line ∷ [] ≡ take (k + 1) rest = ap (λ l. take k rest ++ l ∷ []) same ∙ sym (take_more rest k [] below) in
    subst (λ read. AreRead sectors clients read (owned ++ own ∷ [])) more (AreRead-push sectors clients (take k rest) owned line own h is)

AreRead-take : (sectors clients n : ℕ) (read : List (List ℕ)) (owned : List (ℕ × Request)) → AreRead sectors clients read owned → AreRead sectors clients (take n read) (take n owned)
AreRead-take sectors clients zero read owned h = tt
AreRead-take sectors clients (suc n) [] [] h = tt
AreRead-take sectors clients (suc n) [] (own ∷ owned) h = absurd h
AreRead-take sectors clients (suc n) (line ∷ read) [] h = absurd h
AreRead-take sectors clients (suc n) (line ∷ read) (own ∷ owned) h = (h.0, AreRead-take sectors clients n read owned h.1)

-- the line at this place spells the request at it
AreRead-at : (sectors clients : ℕ) (read : List (List ℕ)) (owned : List (ℕ × Request)) (i : ℕ) (other : ℕ × Request) → AreRead sectors clients read owned → i < length read
    → IsRequest sectors clients (words (get_or read i [])) (get_or owned i other).0 (get_or owned i other).1
AreRead-at sectors clients [] owned i other h below = absurd (omega arith)
AreRead-at sectors clients (line ∷ read) [] i other h below = absurd h
AreRead-at sectors clients (line ∷ read) (x ∷ owned) zero other h below = h.0
AreRead-at sectors clients (line ∷ read) (x ∷ owned) (suc i) other h below = AreRead-at sectors clients read owned i other h.1 (omega arith)

pub AreBelow-read : (sectors clients : ℕ) (read : List (List ℕ)) (owned : List (ℕ × Request)) → AreRead sectors clients read owned → AreBelow clients owned
AreBelow-read sectors clients [] [] h = tt
AreBelow-read sectors clients [] (own ∷ owned) h = absurd h
AreBelow-read sectors clients (line ∷ read) [] h = absurd h
AreBelow-read sectors clients (line ∷ read) (own ∷ owned) h = (h.0.0, AreBelow-read sectors clients read owned h.1)

-- ---- a line by its number

-- the words of a line behind the first
pub words_at-rest : (bytes : List ℕ) (line i : ℕ) → line ≡ i + 2 → words_at bytes line ≡ words (get_or (request_lines bytes) i [])
unfolding words_at
words_at-rest bytes line i e =
    let place : line - 1 ≡ 1 + i = omega arith in
    ap words (ap (λ n. get_or (lines bytes) n []) place ∙ sym (get_or-drop 1 (lines bytes) i []))

-- where the lines behind the first spell requests up to one, that line spells the request at its place
request_at : (sectors clients : ℕ) (bytes : List ℕ) (n : ℕ) (owned : List (ℕ × Request)) (line : ℕ) (other : ℕ × Request)
    → AreRead sectors clients (take n (request_lines bytes)) owned → 2 ≤ line → line < n + 2 → line ≤ length (lines bytes)
    → IsRequest sectors clients (words_at bytes line) (get_or owned (line - 2) other).0 (get_or owned (line - 2) other).1
request_at sectors clients bytes n owned line other read low high inside =
    let rest = request_lines bytes in
    let below : line - 2 < length (take n rest) = omega (arith, length-take n rest, length-drop 1 (lines bytes)) in
    let same : words (get_or (take n rest) (line - 2) []) ≡ words_at bytes line =
    ap words (get_or-take n rest (line - 2) [] (omega arith)) ∙ sym (words_at-rest bytes line (line - 2) (omega arith)) in
    subst (λ parts. IsRequest sectors clients parts (get_or owned (line - 2) other).0 (get_or owned (line - 2) other).1) same
    (AreRead-at sectors clients (take n rest) owned (line - 2) other read below)

pub some_request_at : (sectors clients : ℕ) (bytes : List ℕ) (n : ℕ) (owned : List (ℕ × Request)) (line : ℕ)
    → AreRead sectors clients (take n (request_lines bytes)) owned → 2 ≤ line → line < n + 2 → line ≤ length (lines bytes)
    → (client : ℕ) × (request : Request) × IsRequest sectors clients (words_at bytes line) client request
some_request_at sectors clients bytes n owned line read low high inside =
    let own = get_or owned (line - 2) (0, Flush) in
    (own.0, own.1, request_at sectors clients bytes n owned line (0, Flush) read low high inside)

-- the line up to which requests are read is the last of them
pub request_up_to : (sectors clients : ℕ) (bytes : List ℕ) (line : ℕ) (before : List (ℕ × Request)) (client : ℕ) (request : Request)
    → IsReadUpTo sectors clients bytes line before client request → IsRequest sectors clients (words_at bytes line) client request
request_up_to sectors clients bytes line before client request is =
    let own : ℕ × Request = (client, request) in
    let low = is.low in
    let high = is.high in
    let rest = request_lines bytes in
    let long = AllZip-long (λ (l : List ℕ) (o : ℕ × Request). IsRequest sectors clients (words l) o.0 o.1) (take (line - 1) rest) (before ++ own ∷ []) is.read in
    let place : length before ≡ line - 2 = omega (arith, long, length_push before own, length-take (line - 1) rest, length-drop 1 (lines bytes)) in
    subst (λ (o : ℕ × Request). IsRequest sectors clients (words_at bytes line) o.0 o.1) (get_or_push before own own (line - 2) place)
    (request_at sectors clients bytes (line - 1) (before ++ own ∷ []) line own is.read low (omega arith) high)

-- requests that are read up to a line are the first of those that are read behind it
pub first_owned : (sectors clients : ℕ) (bytes : List ℕ) (n : ℕ) (owned : List (ℕ × Request)) (line : ℕ) (before : List (ℕ × Request)) (client : ℕ) (request : Request)
    → sectors < 2 ^ 64 → clients < 2 ^ 64 → AreRead sectors clients (take n (request_lines bytes)) owned → line < n + 2
    → IsReadUpTo sectors clients bytes line before client request → before ++ (client, request) ∷ [] ≡ take (line - 1) owned
first_owned sectors clients bytes n owned line before client request small few read high is =
    let front : AreRead sectors clients (take (line - 1) (request_lines bytes)) (take (line - 1) owned) =
    subst (λ all. AreRead sectors clients all (take (line - 1) owned)) (take-take (line - 1) n (request_lines bytes) (omega arith))
    (AreRead-take sectors clients (line - 1) (take n (request_lines bytes)) owned read) in
    same_owned sectors clients (take (line - 1) (request_lines bytes)) (take (line - 1) owned) (before ++ (client, request) ∷ []) small few front is.read
