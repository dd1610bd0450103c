-- A log image of an engine has a chain, so recovery makes an image of it.
use Rattle.std.proofs.Common.{ℕ, suc, zero, ◌≡◌, ◌⊎◌, ◌+◌, ◌<◌, ◌≤◌, List, [], ◌∷◌, ◌++◌, length, get_or, drop, inl, inr, refl, ap, sym, ◌∙◌, subst, arith}
use Rattle.std.specs.List.{flat_map}
use Rattle.std.proofs.lemmas.Bool.{cases_lt, cases_eq}
use Rattle.std.proofs.lemmas.List.{get_or_append_left, get_or_push, length_push}
use Rattle.wb_geometry.specs.Image.{Image, sector}
use Rattle.wb_geometry.specs.History.{after}
use Rattle.wb_geometry.specs.Layout.{slot_start}
use Rattle.wb_geometry.specs.Line.{Line}
use Rattle.wb_geometry.specs.declared.geometry.Geometry.{Geometry}
use Rattle.wb_header.specs.Text.{TextBlock}
use Rattle.wb_header.specs.Standing.{entries_of}
use Rattle.wb_header.specs.Slots.{HoldsText}
use Rattle.wb_super.specs.Superblock.{record_of}
use Rattle.wb_crash.specs.Chain.{IsRun, IsChain, IsRecovered, SumHolds}
use Rattle.wb_crash.specs.Images.{BeginsSegment, IsLogImage}
use Rattle.wb_crash.specs.declared.numbers.Numbers.{Numbers}
use Rattle.wb_crash.proofs.Recover.{found_tried, whole_stands, holds_text}

-- ---- whether a text stands

cases_bytes : (xs ys : List ℕ) → (xs ≡ ys) ⊎ (xs ≡ ys → ⊥)
cases_bytes [] [] = inl refl
cases_bytes [] (y ∷ ys) = inr (λ is. absurd (omega (arith, ap length is)))
cases_bytes (x ∷ xs) [] = inr (λ is. absurd (omega (arith, ap length is)))
cases_bytes (x ∷ xs) (y ∷ ys) = elim (cases_eq x y) [
  | inl same ↦ elim (cases_bytes xs ys) [
    | inl rest ↦ inl (ap (λ (z : ℕ). z ∷ xs) same ∙ ap (λ (zs : List ℕ). y ∷ zs) rest)
    | inr other ↦ inr (λ is. other (ap (λ (zs : List ℕ). drop 1 zs) is))
  ]
  | inr other ↦ inr (λ is. other (ap (λ (zs : List ℕ). get_or zs 0 0) is))
]

abbrev StandsFront : (at n : ℕ) (text x : Image) → Type 0
StandsFront at n text x = (i : ℕ) → i < n → sector x (at + i) ≡ sector text i

cases_front : (at n : ℕ) (text x : Image) → StandsFront at n text x ⊎ (StandsFront at n text x → ⊥)
cases_front at zero text x = inl (λ i below. absurd (omega arith))
cases_front at (suc n) text x = elim (cases_front at n text x) [
  | inl front ↦ elim (cases_bytes (sector x (at + n)) (sector text n)) [
    | inl same ↦ inl (λ i below. elim (cases_lt i n) [
      | inl before ↦ front i before
      | inr from ↦ let is : n ≡ i = omega arith in subst (λ (k : ℕ). sector x (at + k) ≡ sector text k) is same
    ])
    | inr other ↦ inr (λ all. other (all n (omega arith)))
  ]
  | inr other ↦ inr (λ all. other (λ i below. all i (omega arith)))
]

abbrev HoldsSome : (g : Geometry) (x : Image) (s : ℕ) → Type 0
HoldsSome g x s = (blocks : List TextBlock) × HoldsText g x s blocks

abbrev HoldsNone : (g : Geometry) (x : Image) (s : ℕ) → Type 0
HoldsNone g x s = (blocks : List TextBlock) → HoldsText g x s blocks → ⊥

cases_text : (g : Geometry) (line : Line) (e : Numbers) (x : Image) (s : ℕ) → IsLogImage g line e x → SumHolds g line x e.stable e.tried → e.recorded < s
    → HoldsSome g x s ⊎ HoldsNone g x s
cases_text g line e x s logs sums above = elim (cases_lt e.stable s) [
  | inr low ↦ let segment = logs.synced s above low in inl (segment.is.blocks, holds_text segment)
  | inl behind ↦ elim (cases_lt e.tried s) [
    | inl past ↦ inr (λ blocks held. absurd (omega (arith, found_tried g line e x s blocks logs held)))
    | inr high ↦
        let begins : BeginsSegment g line x s = logs.begun s behind high in
        elim (cases_front (slot_start g s) (length begins.text) begins.text x) [
          | inl all ↦ inl (begins.is.blocks, record { text = begins.text; is = begins.is.is; stands = record { each = all } })
          | inr torn ↦ inr (λ blocks held. torn ((whole_stands g line e.stable e.tried x s blocks sums behind high begins held).each))
        ]
  ]
]

-- ---- the chain, member by member

pub run_none : (g : Geometry) (x : Image) → IsRun g x []
run_none g x = record { few = omega arith; texts = λ i below. absurd (omega arith) }

-- one more segment
pub run_more : (g : Geometry) (x : Image) (chain : List (List TextBlock)) (blocks : List TextBlock) → IsRun g x chain → length chain < g.slots
    → HoldsText g x (record_of x + 1 + length chain) blocks → IsRun g x (chain ++ blocks ∷ [])
run_more g x chain blocks run room held = record {
  few = omega (arith, length_push chain blocks);
  texts = λ i below. elim (cases_lt i (length chain)) [
    | inl before ↦ subst (HoldsText g x (record_of x + 1 + i)) (sym (get_or_append_left chain (blocks ∷ []) [] i before)) (run.texts i before)
    | inr from ↦
        let is : length chain ≡ i = omega (arith, length_push chain blocks) in
        subst (HoldsText g x (record_of x + 1 + i)) (sym (get_or_push chain blocks [] i is)) (subst (λ (k : ℕ). HoldsText g x (record_of x + 1 + k) blocks) is held)
  ];
}

-- where all slots are taken, it is the chain
pub run_full : (g : Geometry) (x : Image) (chain : List (List TextBlock)) → IsRun g x chain → length chain ≡ g.slots → IsChain g x chain
run_full g x chain run full = record { run = run; longest = inl full }

-- so it is where no text of the next segment is there
pub run_ends : (g : Geometry) (x : Image) (chain : List (List TextBlock)) → IsRun g x chain → ((blocks : List TextBlock) → HoldsText g x (record_of x + 1 + length chain) blocks → ⊥)
    → IsChain g x chain
run_ends g x chain run none = record { run = run; longest = inr none }

-- the longest of at most n
abbrev Longest : (g : Geometry) (x : Image) (n : ℕ) → Type 0
Longest g x n = (chain : List (List TextBlock)) × IsRun g x chain × ((length chain ≡ n) ⊎ HoldsNone g x (record_of x + 1 + length chain))

begin : (g : Geometry) (line : Line) (e : Numbers) (x : Image) (n : ℕ) → n ≤ g.slots → IsLogImage g line e x → SumHolds g line x e.stable e.tried → Longest g x n
begin g line e x zero few logs sums = ([], run_none g x, inl refl)
begin g line e x (suc n) few logs sums =
    let so_far : Longest g x n = begin g line e x n (omega arith) logs sums in
    elim so_far.2 [
      | inl full ↦ elim (cases_text g line e x (record_of x + 1 + length so_far.0) logs sums (omega (arith, logs.from))) [
        | inl held ↦ (so_far.0 ++ held.0 ∷ [], run_more g x so_far.0 held.0 so_far.1 (omega (arith, full)) held.1, inl (omega (arith, length_push so_far.0 held.0, full)))
        | inr none ↦ (so_far.0, so_far.1, inr none)
      ]
      | inr none ↦ (so_far.0, so_far.1, inr none)
    ]

pub has_chain : (g : Geometry) (line : Line) (e : Numbers) (x : Image) → IsLogImage g line e x → SumHolds g line x e.stable e.tried → (chain : List (List TextBlock)) × IsChain g x chain
has_chain g line e x logs sums =
    let all : Longest g x g.slots = begin g line e x g.slots (omega arith) logs sums in
    (all.0, record { run = all.1; longest = all.2 })

pub has_recovered : (g : Geometry) (line : Line) (e : Numbers) (x y : Image) → IsLogImage g line e x → SumHolds g line x e.stable e.tried → (z : Image) × IsRecovered g x y z
has_recovered g line e x y logs sums =
    let chain = has_chain g line e x logs sums in
    (after y (flat_map entries_of chain.0), record { chain = chain.0; is = chain.1; all = refl })
