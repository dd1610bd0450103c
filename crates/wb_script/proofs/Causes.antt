-- What offends in the words of a line: the first cause, one of a rank, and none in a request.
use Rattle.std.proofs.Common.{ℕ, ◌≡◌, ◌+◌, ◌^◌, ◌<◌, ◌≤◌, inl, inr, Bool, true, false, List, [], ◌∷◌, length, Result, Ok, refl, sym, ap, subst, ◌∙◌, arith}
use Rattle.std.specs.List.{Contains}
use Rattle.std.specs.Fmt.{decimal}
use Rattle.std.specs.Result.{IfErr, IsErrAnd}
use Rattle.std.proofs.lemmas.Bool.{cases_lt, cases_order}
use Rattle.std.proofs.lemmas.Result.{err_from_is_err_and}
use Rattle.hex.specs.Hex.{decode_of}
use Rattle.wb_script.specs.Commands.{letter, words_needed, numbers, IsWriting, IsRanged, word, IsNumber}
use Rattle.wb_script.specs.Valid.{most_sectors, IsWithin, Fills}
use Rattle.wb_script.specs.Grammar.{IsRequest, Names, NamesWrongClient, OffendsInLine, rank, write_letter}
use Rattle.wb_script.specs.Reading.{IsShaped, IsFirstInLine, IsNotRead, IsNoNumber, HasNumber, IsBadRange, HasWrite, IsBadPattern, IsBadWrite}
use Rattle.wb_script.specs.declared.request.Command.{Command}
use Rattle.wb_script.specs.declared.request.Command.TheVariants as command
use Rattle.wb_script.specs.declared.request.Request.{Request}
use Rattle.wb_script.specs.declared.request.Request.TheVariants.{Write, Read, ReadSum, Flush, Defer, Tell, Hear}
use Rattle.wb_script.specs.declared.refusal.Cause.{Cause}
use Rattle.wb_script.specs.declared.refusal.Cause.TheVariants.{Size, Header, Client, Words, Number, Count, Range, Data, Note, Reads}
use Rattle.wb_script.specs.declared.refusal.Cause.TheVariants as cause
use Rattle.wb_script.specs.declared.parsing.requests.LineStop.{LineStop}
use Rattle.wb_script.specs.declared.parsing.requests.LineStop.TheVariants.{Offends, Memory}
use Rattle.wb_script.proofs.Commands.{spelled_by, one_name, one_number, one_place, no_place, two_places, numbers-ranged, ranged-numbers}

-- ---- what holds of a line where no cause below a rank offends in it

pub record Met (low sectors clients : ℕ) (parts : List (List ℕ)) (named : Command) : Type 0 where
  pub client : ℕ
  pub below : client < clients
  pub own : word parts 0 ≡ decimal client
  pub names : Names parts named
  pub counted : 5 < low → length parts ≡ words_needed named
  pub numbered : 6 < low → (at : ℕ) → Contains (numbers named) at → HasNumber (word parts at)
  pub amount : 7 < low → IsRanged named → (count : ℕ) → IsNumber (word parts 3) count → (1 ≤ count) × (count ≤ most_sectors)
  pub inside : 8 < low → IsRanged named → (sector count : ℕ) → IsNumber (word parts 2) sector → IsNumber (word parts 3) count → sector + count ≤ sectors
  pub filled : 9 < low → IsWriting named → (count : ℕ) → IsNumber (word parts 3) count → (pattern : List ℕ) × (decode_of (word parts 4) ≡ Ok pattern) × Fills pattern count
  pub partner : 10 < low → (other : ℕ) → NamesWrongClient clients parts other → ⊥

pub ranked : (low sectors clients : ℕ) (parts : List (List ℕ)) (named : Command) → Met low sectors clients parts named
    → (also : Cause) → OffendsInLine sectors clients parts also → low ≤ rank also
ranked low sectors clients parts named met (Size size count) offends = absurd offends
ranked low sectors clients parts named met Header offends = absurd offends
ranked low sectors clients parts named met Client offends = absurd (offends met.client met.below met.own)
ranked low sectors clients parts named met cause.Command offends = absurd (offends named met.names)
ranked low sectors clients parts named met (Words found needed) offends =
    elim (cases_lt 5 low) [
      | inl more ↦
          let same : offends.0 ≡ named = one_name parts named offends.0 met.names offends.1 in
          absurd (offends.4 (offends.2 ∙ met.counted more ∙ ap words_needed (sym same) ∙ sym offends.3))
      | inr few ↦ few
    ]
ranked low sectors clients parts named met (Number at) offends =
    elim (cases_lt 6 low) [
      | inl more ↦
          let same : offends.0 ≡ named = one_name parts named offends.0 met.names offends.1 in
          let found = met.numbered more at (subst (λ c. Contains (numbers c) at) same offends.2) in
          absurd (offends.3 found.0 found.1)
      | inr few ↦ few
    ]
ranked low sectors clients parts named met (Count count) offends =
    elim (cases_lt 7 low) [
      | inl more ↦
          let same : offends.0 ≡ named = one_name parts named offends.0 met.names offends.1 in
          let fine = met.amount more (subst IsRanged same offends.2) count offends.3 in
          elim offends.4 [ inl none ↦ absurd (omega (arith, fine.0)) | inr many ↦ absurd (omega (arith, fine.1)) ]
      | inr few ↦ few
    ]
ranked low sectors clients parts named met (Range sector count of) offends =
    elim (cases_lt 8 low) [
      | inl more ↦
          let same : offends.0 ≡ named = one_name parts named offends.0 met.names offends.1 in
          let fine = met.inside more (subst IsRanged same offends.2) sector count offends.3 offends.4 in
          absurd (omega (arith, fine, offends.6))
      | inr few ↦ few
    ]
ranked low sectors clients parts named met (Data digits) offends =
    elim (cases_lt 9 low) [
      | inl more ↦
          let same : offends.0 ≡ named = one_name parts named offends.0 met.names offends.1 in
          let fine = met.filled more (subst IsWriting same offends.2) offends.4.0 offends.4.1 in
          absurd (offends.4.2 fine.0 fine.1 fine.2)
      | inr few ↦ few
    ]
ranked low sectors clients parts named met (Note other) offends =
    elim (cases_lt 10 low) [
      | inl more ↦ absurd (met.partner more other offends)
      | inr few ↦ few
    ]
ranked low sectors clients parts named met (Reads shown) offends = absurd offends

-- ---- lines with as many words as their command needs

-- the client, the command and the number of words are met
Met-shaped : (sectors clients : ℕ) (parts : List (List ℕ)) (client : ℕ) (named : Command) → IsShaped clients parts client named → Met 6 sectors clients parts named
Met-shaped sectors clients parts client named shaped =
    record {
      client = client;
      below = shaped.below;
      own = shaped.own;
      names = shaped.names;
      counted = λ more. shaped.counted;
      numbered = λ more. absurd (omega arith);
      amount = λ more. absurd (omega arith);
      inside = λ more. absurd (omega arith);
      filled = λ more. absurd (omega arith);
      partner = λ more. absurd (omega arith);
    }

-- a command with one number beside the client, or with none, has no range
unranged : (named : Command) (rest : List ℕ) → numbers named ≡ rest → length rest < 2 → IsRanged named → ⊥
unranged named rest are few ranged = omega (arith, ap length are, ap length (numbers-ranged named ranged))

-- a request of such a command
Met-plain : (sectors clients : ℕ) (parts : List (List ℕ)) (client : ℕ) (named : Command) (rest : List ℕ) → IsShaped clients parts client named
    → numbers named ≡ rest → length rest < 2 → ((at : ℕ) → Contains (numbers named) at → HasNumber (word parts at))
    → ((other : ℕ) → NamesWrongClient clients parts other → ⊥) → Met 12 sectors clients parts named
Met-plain sectors clients parts client named rest shaped are few numbered partner =
    record {
      client = client;
      below = shaped.below;
      own = shaped.own;
      names = shaped.names;
      counted = λ more. shaped.counted;
      numbered = λ more. numbered;
      amount = λ more ranged. absurd (unranged named rest are few ranged);
      inside = λ more ranged. absurd (unranged named rest are few ranged);
      filled = λ more writing. absurd (unranged named rest are few (inl writing));
      partner = λ more. partner;
    }

-- the wrong client stands in a line of a command with one number
wrong_named : (clients : ℕ) (parts : List (List ℕ)) (other : ℕ) (named : Command) → Names parts named → NamesWrongClient clients parts other → numbers named ≡ 2 ∷ []
wrong_named clients parts other named names wrong =
    elim wrong.3 [
      | inl tells ↦ ap numbers (one_name parts command.Tell named tells.0 names)
      | inr hears ↦ ap numbers (one_name parts command.Hear named hears.0 names)
    ]

-- a line with sectors that are fine
Met-ranged : (low sectors clients : ℕ) (parts : List (List ℕ)) (client : ℕ) (named : Command) (sector count : ℕ) → IsShaped clients parts client named → IsRanged named
    → IsNumber (word parts 2) sector → IsNumber (word parts 3) count → (7 < low → (1 ≤ count) × (count ≤ most_sectors)) → (8 < low → sector + count ≤ sectors)
    → (9 < low → IsWriting named → (pattern : List ℕ) × (decode_of (word parts 4) ≡ Ok pattern) × Fills pattern count) → Met low sectors clients parts named
Met-ranged low sectors clients parts client named sector count shaped ranged from many amount inside filled =
    record {
      client = client;
      below = shaped.below;
      own = shaped.own;
      names = shaped.names;
      counted = λ more. shaped.counted;
      numbered = λ more. ranged-numbers parts named ranged (sector, from) (count, many);
      amount = λ more is n number. subst (λ k. (1 ≤ k) × (k ≤ most_sectors)) (sym (one_number (word parts 3) count n many number)) (amount more);
      inside = λ more is k n first number.
          let a = one_number (word parts 2) sector k from first in
          let b = one_number (word parts 3) count n many number in
          let fine = inside more in
          omega arith;
      filled = λ more writing n number.
          subst (λ k. (pattern : List ℕ) × (decode_of (word parts 4) ≡ Ok pattern) × Fills pattern k) (sym (one_number (word parts 3) count n many number)) (filled more writing);
      partner = λ more other wrong. unranged named (2 ∷ []) (wrong_named clients parts other named shaped.names wrong) (omega arith) ranged;
    }

-- ---- refusals of a line

-- a word that should be a number and isn't
first_number : (sectors clients : ℕ) (parts : List (List ℕ)) (client : ℕ) (named : Command) (at : ℕ) → IsShaped clients parts client named → Contains (numbers named) at
    → IsNoNumber (word parts at) → ((earlier : ℕ) → Contains (numbers named) earlier → earlier < at → HasNumber (word parts earlier))
    → IsFirstInLine sectors clients parts (Number at)
first_number sectors clients parts client named at shaped has none earlier =
    record {
      offends = (named, shaped.names, has, none, earlier);
      first = ranked 6 sectors clients parts named (Met-shaped sectors clients parts client named shaped);
    }

pub first_range : (sectors clients : ℕ) (parts : List (List ℕ)) (client : ℕ) (named : Command) (why : Cause) → IsShaped clients parts client named → IsRanged named
    → IsBadRange sectors parts why → IsFirstInLine sectors clients parts why
first_range sectors clients parts client named (Size size count) shaped ranged bad = absurd bad
first_range sectors clients parts client named Header shaped ranged bad = absurd bad
first_range sectors clients parts client named Client shaped ranged bad = absurd bad
first_range sectors clients parts client named cause.Command shaped ranged bad = absurd bad
first_range sectors clients parts client named (Words found needed) shaped ranged bad = absurd bad
first_range sectors clients parts client named (Number at) shaped ranged bad =
    let are = numbers-ranged named ranged in
    elim bad [
      | inl second ↦
          subst (λ k. IsFirstInLine sectors clients parts (Number k)) (sym second.0)
          (first_number sectors clients parts client named 2 shaped (subst (λ all. Contains all 2) (sym are) (0, omega arith, refl)) second.1
          (λ earlier has low. elim (two_places 2 3 earlier (subst (λ all. Contains all earlier) are has)) [ inl two ↦ absurd (omega (arith, low, two)) | inr three ↦ absurd (omega (arith, low, three)) ]))
      | inr third ↦
          subst (λ k. IsFirstInLine sectors clients parts (Number k)) (sym third.0)
          (first_number sectors clients parts client named 3 shaped (subst (λ all. Contains all 3) (sym are) (1, omega arith, refl)) third.2
          (λ earlier has low. elim (two_places 2 3 earlier (subst (λ all. Contains all earlier) are has)) [ inl two ↦ subst (λ k. HasNumber (word parts k)) (sym two) third.1 | inr three ↦ absurd (omega (arith, low, three)) ]))
    ]
first_range sectors clients parts client named (Count count) shaped ranged bad =
    record {
      offends = (named, shaped.names, ranged, bad.1, bad.2);
      first = ranked 7 sectors clients parts named
          (Met-ranged 7 sectors clients parts client named bad.0.0 count shaped ranged bad.0.1 bad.1 (λ more. absurd (omega arith)) (λ more. absurd (omega arith)) (λ more. absurd (omega arith)));
    }
first_range sectors clients parts client named (Range sector count of) shaped ranged bad =
    record {
      offends = (named, shaped.names, ranged, bad.0, bad.1, bad.4, bad.5);
      first = ranked 8 sectors clients parts named
          (Met-ranged 8 sectors clients parts client named sector count shaped ranged bad.0 bad.1 (λ more. (bad.2, bad.3)) (λ more. absurd (omega arith)) (λ more. absurd (omega arith)));
    }
first_range sectors clients parts client named (Data digits) shaped ranged bad = absurd bad
first_range sectors clients parts client named (Note other) shaped ranged bad = absurd bad
first_range sectors clients parts client named (Reads shown) shaped ranged bad = absurd bad

pub first_pattern : (sectors clients : ℕ) (parts : List (List ℕ)) (client : ℕ) (named : Command) (why : Cause) → IsShaped clients parts client named → IsWriting named
    → IsBadPattern sectors parts why → IsFirstInLine sectors clients parts why
first_pattern sectors clients parts client named why shaped writing bad =
    subst (IsFirstInLine sectors clients parts) (sym bad.is)
    (record {
      offends = (named, shaped.names, writing, refl, (bad.count, bad.many, bad.none));
      first = ranked 9 sectors clients parts named
          (Met-ranged 9 sectors clients parts client named bad.sector bad.count shaped (inl writing) bad.from bad.many (λ more. (bad.within.some, bad.within.few)) (λ more. bad.within.inside) (λ more. absurd (omega arith)));
    })

-- what a call answers where it hands on such a cause
pub refused_so : {T : Type 0} (sectors clients : ℕ) (parts : List (List ℕ)) (r : Result T LineStop) (why : Cause) → IsErrAnd r (λ stop. stop ≡ Offends why)
    → IsFirstInLine sectors clients parts why → IfErr r (IsNotRead sectors clients parts)
refused_so sectors clients parts r why stops first =
    let found = err_from_is_err_and r stops in
    subst (λ answer. IfErr answer (IsNotRead sectors clients parts)) (sym found.1) (subst (IsNotRead sectors clients parts) (sym found.2) first)

-- ---- writes

pub request_write : (sectors clients : ℕ) (parts : List (List ℕ)) (client : ℕ) (named : Command) (fua : Bool) (asked : Request) → IsShaped clients parts client named
    → letter named ≡ write_letter fua → words_needed named ≡ 5 → HasWrite sectors parts fua asked → IsRequest sectors clients parts client asked
request_write sectors clients parts client named fua asked shaped names five has =
    let spelled : word parts 0 ∷ word parts 1 ∷ word parts 2 ∷ word parts 3 ∷ word parts 4 ∷ []
    ≡ decimal client ∷ write_letter fua ∷ decimal has.sector ∷ decimal has.count ∷ word parts 4 ∷ [] =
    λ i. shaped.own i ∷ (shaped.names ∙ names) i ∷ has.from.spelled i ∷ has.many.spelled i ∷ word parts 4 ∷ [] in
    subst (IsRequest sectors clients parts client) (sym has.is)
    (shaped.below, (has.within, has.fills), (word parts 4, has.decoded, spelled_by parts 5 (shaped.counted ∙ five) ∙ spelled))

pub not_written : (sectors clients : ℕ) (parts : List (List ℕ)) (client : ℕ) (named : Command) (stop : LineStop) → IsShaped clients parts client named → IsWriting named
    → IsBadWrite sectors parts stop → IsNotRead sectors clients parts stop
not_written sectors clients parts client named (Offends why) shaped writing bad =
    elim bad [
      | inl range ↦ first_range sectors clients parts client named why shaped (inl writing) range
      | inr pattern ↦ first_pattern sectors clients parts client named why shaped writing pattern
    ]
not_written sectors clients parts client named Memory shaped writing bad = tt

-- ---- no cause offends in a request

-- the words begin with the client and the command
shaped_as : (clients : ℕ) (parts rest : List (List ℕ)) (client : ℕ) (named : Command) → client < clients → parts ≡ decimal client ∷ letter named ∷ rest
    → length rest + 2 ≡ words_needed named → IsShaped clients parts client named
shaped_as clients parts rest client named below spelled size =
    record {
      below = below;
      own = ap (λ all. word all 0) spelled;
      names = ap (λ all. word all 1) spelled;
      counted = omega (arith, ap length spelled);
    }

number_at : (parts all : List (List ℕ)) (at n : ℕ) → parts ≡ all → word all at ≡ decimal n → n < 2 ^ 64 → IsNumber (word parts at) n
number_at parts all at n spelled is small = record { spelled = ap (λ l. word l at) spelled ∙ is; small = small }

abbrev pub command_of : Request → Command
command_of (Write sector count pattern false) = command.Write
command_of (Write sector count pattern true) = command.ForcedWrite
command_of (Read sector count) = command.Read
command_of (ReadSum sector count) = command.ReadSum
command_of Flush = command.Flush
command_of Defer = command.Defer
command_of (Tell other) = command.Tell
command_of (Hear other) = command.Hear

-- a request on sectors
Met-on_sectors : (sectors clients : ℕ) (parts rest : List (List ℕ)) (client : ℕ) (named : Command) (sector count : ℕ) → sectors < 2 ^ 64 → client < clients → IsRanged named
    → parts ≡ decimal client ∷ letter named ∷ decimal sector ∷ decimal count ∷ rest → length rest + 4 ≡ words_needed named → IsWithin sectors sector count
    → (IsWriting named → (pattern : List ℕ) × (decode_of (word parts 4) ≡ Ok pattern) × Fills pattern count) → Met 12 sectors clients parts named
Met-on_sectors sectors clients parts rest client named sector count small below ranged spelled size within filled =
    Met-ranged 12 sectors clients parts client named sector count
    (shaped_as clients parts (decimal sector ∷ decimal count ∷ rest) client named below spelled (omega arith)) ranged
    (number_at parts _ 2 sector spelled refl (omega (arith, within.inside))) (number_at parts _ 3 count spelled refl (omega (arith, within.inside)))
    (λ more. (within.some, within.few)) (λ more. within.inside) (λ more. filled)

-- one that names a client
Met-on_client : (sectors clients : ℕ) (parts : List (List ℕ)) (client : ℕ) (named : Command) (other : ℕ) → client < clients
    → parts ≡ decimal client ∷ letter named ∷ decimal other ∷ [] → words_needed named ≡ 3 → numbers named ≡ 2 ∷ [] → other < 2 ^ 64
    → ((wrong : ℕ) → NamesWrongClient clients parts wrong → ⊥) → Met 12 sectors clients parts named
Met-on_client sectors clients parts client named other below spelled three are small right =
    Met-plain sectors clients parts client named (2 ∷ [])
    (shaped_as clients parts (decimal other ∷ []) client named below spelled (omega arith)) are (omega arith)
    (λ at has. subst (λ k. HasNumber (word parts k)) (sym (one_place 2 at (subst (λ all. Contains all at) are has))) (other, number_at parts _ 2 other spelled refl small))
    right

-- one that names nothing
Met-bare : (sectors clients : ℕ) (parts : List (List ℕ)) (client : ℕ) (named : Command) → client < clients → parts ≡ decimal client ∷ letter named ∷ []
    → words_needed named ≡ 2 → numbers named ≡ [] → Met 12 sectors clients parts named
Met-bare sectors clients parts client named below spelled two are =
    Met-plain sectors clients parts client named [] (shaped_as clients parts [] client named below spelled (omega arith)) are (omega arith)
    (λ at has. absurd (no_place at (subst (λ all. Contains all at) are has)))
    (λ other wrong. omega (arith, ap length are, ap length (wrong_named clients parts other named (ap (λ all. word all 1) spelled) wrong)))

-- a client may leave a note for this one
tells_right : (clients : ℕ) (parts : List (List ℕ)) (client other : ℕ) → client < other → other < clients → clients < 2 ^ 64
    → parts ≡ decimal client ∷ letter command.Tell ∷ decimal other ∷ [] → (wrong : ℕ) → NamesWrongClient clients parts wrong → ⊥
tells_right clients parts client other low high few spelled wrong names =
    let own = one_number (word parts 0) client names.0 (number_at parts _ 0 client spelled refl (omega arith)) names.1 in
    let that = one_number (word parts 2) other wrong (number_at parts _ 2 other spelled refl (omega arith)) names.2 in
    elim names.3 [
      | inl tells ↦ elim tells.1 [ inl before ↦ omega (arith, before, own, that) | inr behind ↦ omega (arith, behind, that) ]
      | inr hears ↦ cc (one_name parts command.Tell command.Hear (ap (λ all. word all 1) spelled) hears.0)
    ]

-- a client may hear a note of this one
hears_right : (clients : ℕ) (parts : List (List ℕ)) (client other : ℕ) → other < client → client < clients → clients < 2 ^ 64
    → parts ≡ decimal client ∷ letter command.Hear ∷ decimal other ∷ [] → (wrong : ℕ) → NamesWrongClient clients parts wrong → ⊥
hears_right clients parts client other low high few spelled wrong names =
    let own = one_number (word parts 0) client names.0 (number_at parts _ 0 client spelled refl (omega arith)) names.1 in
    let that = one_number (word parts 2) other wrong (number_at parts _ 2 other spelled refl (omega arith)) names.2 in
    elim names.3 [
      | inl tells ↦ cc (one_name parts command.Hear command.Tell (ap (λ all. word all 1) spelled) tells.0)
      | inr hears ↦ omega (arith, hears.1, own, that)
    ]

Met-request : (sectors clients : ℕ) (parts : List (List ℕ)) (client : ℕ) (request : Request) → sectors < 2 ^ 64 → clients < 2 ^ 64
    → IsRequest sectors clients parts client request → Met 12 sectors clients parts (command_of request)
Met-request sectors clients parts client (Write sector count pattern false) small few h =
    Met-on_sectors sectors clients parts (h.2.0 ∷ []) client command.Write sector count small h.0 (inl (inl refl)) h.2.2 refl h.1.0
    (λ writing. (pattern, ap (λ all. decode_of (word all 4)) h.2.2 ∙ h.2.1, h.1.1))
Met-request sectors clients parts client (Write sector count pattern true) small few h =
    Met-on_sectors sectors clients parts (h.2.0 ∷ []) client command.ForcedWrite sector count small h.0 (inl (inr refl)) h.2.2 refl h.1.0
    (λ writing. (pattern, ap (λ all. decode_of (word all 4)) h.2.2 ∙ h.2.1, h.1.1))
Met-request sectors clients parts client (Read sector count) small few h =
    Met-on_sectors sectors clients parts [] client command.Read sector count small h.0 (inr (inl refl)) h.2 refl h.1
    (λ writing. elim writing [ inl is ↦ cc is | inr is ↦ cc is ])
Met-request sectors clients parts client (ReadSum sector count) small few h =
    Met-on_sectors sectors clients parts [] client command.ReadSum sector count small h.0 (inr (inr refl)) h.2 refl h.1
    (λ writing. elim writing [ inl is ↦ cc is | inr is ↦ cc is ])
Met-request sectors clients parts client Flush small few h = Met-bare sectors clients parts client command.Flush h.0 h.2 refl refl
Met-request sectors clients parts client Defer small few h = Met-bare sectors clients parts client command.Defer h.0 h.2 refl refl
Met-request sectors clients parts client (Tell other) small few h =
    Met-on_client sectors clients parts client command.Tell other h.0 h.2 refl refl (omega (arith, h.1.1))
    (tells_right clients parts client other h.1.0 h.1.1 few h.2)
Met-request sectors clients parts client (Hear other) small few h =
    Met-on_client sectors clients parts client command.Hear other h.0 h.2 refl refl (omega (arith, h.1, h.0))
    (hears_right clients parts client other h.1 h.0 few h.2)

rank-le : (why : Cause) → rank why ≤ 11
rank-le (Size size count) = omega arith
rank-le Header = omega arith
rank-le Client = omega arith
rank-le cause.Command = omega arith
rank-le (Words found needed) = omega arith
rank-le (Number at) = omega arith
rank-le (Count count) = omega arith
rank-le (Range sector count of) = omega arith
rank-le (Data digits) = omega arith
rank-le (Note other) = omega arith
rank-le (Reads shown) = omega arith

pub request_offends_not : (sectors clients : ℕ) (parts : List (List ℕ)) (client : ℕ) (request : Request) → sectors < 2 ^ 64 → clients < 2 ^ 64
    → IsRequest sectors clients parts client request → (why : Cause) → OffendsInLine sectors clients parts why → ⊥
request_offends_not sectors clients parts client request small few h why offends =
    omega (arith, ranked 12 sectors clients parts (command_of request) (Met-request sectors clients parts client request small few h) why offends, rank-le why)

-- ---- one cause of a rank

-- the first word that is no number
one_first : (parts : List (List ℕ)) (a b : Command) (at other : ℕ) → a ≡ b → Contains (numbers a) at → IsNoNumber (word parts at)
    → ((earlier : ℕ) → Contains (numbers b) earlier → earlier < other → HasNumber (word parts earlier)) → at < other → ⊥
one_first parts a b at other same has none earlier low =
    let found = earlier at (subst (λ c. Contains (numbers c) at) same has) low in
    none found.0 found.1

pub one_cause : (sectors clients : ℕ) (parts : List (List ℕ)) (a b : Cause) → OffendsInLine sectors clients parts a → OffendsInLine sectors clients parts b → rank a ≡ rank b → b ≡ a
one_cause sectors clients parts (Size size count) b h k e = absurd h
one_cause sectors clients parts Header b h k e = absurd h
one_cause sectors clients parts (Reads shown) b h k e = absurd h
one_cause sectors clients parts Client Client h k e = refl
one_cause sectors clients parts cause.Command cause.Command h k e = refl
one_cause sectors clients parts (Words found needed) (Words count need) h k e =
    let same : k.0 ≡ h.0 = one_name parts h.0 k.0 h.1 k.1 in
    let counts : count ≡ found = k.2 ∙ sym h.2 in
    let needs : need ≡ needed = k.3 ∙ ap words_needed same ∙ sym h.3 in
    cc
one_cause sectors clients parts (Number at) (Number other) h k e =
    let same : k.0 ≡ h.0 = one_name parts h.0 k.0 h.1 k.1 in
    elim (cases_order other at) [
      | inl equal ↦ ap Number equal
      | inr apart ↦ elim apart [
        | inl before ↦ absurd (one_first parts k.0 h.0 other at same k.2 k.3 h.4 before)
        | inr behind ↦ absurd (one_first parts h.0 k.0 at other (sym same) h.2 h.3 k.4 behind)
      ]
    ]
one_cause sectors clients parts (Count count) (Count other) h k e = ap Count (one_number (word parts 3) count other h.3 k.3)
one_cause sectors clients parts (Range sector count of) (Range from many all) h k e =
    let first : from ≡ sector = one_number (word parts 2) sector from h.3 k.3 in
    let counts : many ≡ count = one_number (word parts 3) count many h.4 k.4 in
    let ends : all ≡ of = k.5 ∙ sym h.5 in
    cc
one_cause sectors clients parts (Data digits) (Data size) h k e = ap Data (k.3 ∙ sym h.3)
one_cause sectors clients parts (Note other) (Note that) h k e = ap Note (one_number (word parts 2) other that h.2 k.2)
one_cause sectors clients parts a b h k e = absurd (omega arith)
