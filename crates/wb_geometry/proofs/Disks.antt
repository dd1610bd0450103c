-- What the calls do to a disk: what a read gives of it, and what a crash may leave of it.
use Rattle.std.proofs.Common.{◌≡◌, ◌⊎◌, ℕ, zero, suc, ◌+◌, ◌-◌, ◌%◌, ◌<◌, ◌≤◌, List, [], ◌∷◌, ◌++◌, length, get_or, take, min, mod-lt, Some, refl, sym, ◌∙◌, ap, subst, inl, inr, arith, length-append, length-take}
use Rattle.std.specs.List.{All, Contains, enumerate_from}
use Rattle.std.specs.Prelude.{slice_index}
use Rattle.std.proofs.Math.ListN.{get_or-eq_default}
use Rattle.std.proofs.lemmas.Bool.{cases_lt}
use Rattle.std.proofs.lemmas.Bool.Decides.{nat_tests}
use Rattle.std.proofs.lemmas.Option.{same_Some}
use Rattle.std.proofs.Math.Seq.{get_or-append_seam}
use Rattle.std.proofs.lemmas.List.{get_or_default, ext_get_or, take_all, take-append-le, get_or-take, get_or-map, length-map}
use Rattle.std.proofs.lemmas.List.Elements.{All-take, Contains-push_cases}
use Rattle.std.proofs.lemmas.List.FromFn.{length-enumerate_from, get_or-enumerate_from}
use Rattle.wb_geometry.specs.Image.{Image, IsImage, sector, overlay, IsPartlyWritten}
use Rattle.wb_geometry.specs.Device.{NothingPending, Passes, IsDevice}
use Rattle.wb_geometry.specs.Disk.{Change, Write, Sync, IsWhole, newest, candidates_after, candidates, MayLeave, IsContent, taken, choose, all_candidates, disk_state}
use Rattle.wb_geometry.proofs.Images.{length-overlay, sector-overlay_before, sector-overlay_inside, sector-overlay_behind}
use Rattle.wb_geometry.proofs.Moments.{moment_same, moment_trans}

-- lists of sectors

-- a list from a choice for each index
pub build : (P : ℕ → List ℕ → Type 0) (n : ℕ) → ((i : ℕ) → i < n → (s : List ℕ) × P i s)
    → (x : Image) × (length x ≡ n) × ((i : ℕ) → i < n → P i (sector x i))
build P zero each = ([], refl, λ i below. absurd (omega arith))
build P (suc n) each =
    let head = each 0 (omega arith) in
    let rest = build (λ i s. P (suc i) s) n (λ i below. each (suc i) (omega arith)) in
    (head.0 ∷ rest.0, ap (λ (k : ℕ). suc k) rest.1, built P n head.0 rest.0 head.1 rest.2)
  where
    built : (P : ℕ → List ℕ → Type 0) (n : ℕ) (s : List ℕ) (x : Image) → P 0 s → ((i : ℕ) → i < n → P (suc i) (sector x i)) → (i : ℕ) → i < suc n → P i (sector (s ∷ x) i)
    built P n s x first more zero below = first
    built P n s x first more (suc i) below = more i (omega arith)

-- candidates

pub candidates-push : (i : ℕ) (changes : List Change) (c : Change) (cs : List (List ℕ)) → candidates i (changes ++ c ∷ []) cs ≡ candidates_after i c (candidates i changes cs)
candidates-push i [] c cs = refl
candidates-push i (change ∷ changes) c cs = candidates-push i changes c (candidates_after i change cs)

-- a write adds its sector where it writes, and nothing elsewhere
pub after_write : (i at : ℕ) (new : Image) (cs : List (List ℕ))
    → ((at ≤ i) × (i < at + length new) × (candidates_after i (Write at new) cs ≡ cs ++ sector new (i - at) ∷ []))
    ⊎ (((i < at) ⊎ (at + length new ≤ i)) × (candidates_after i (Write at new) cs ≡ cs))
after_write i at new cs = elim (cases_lt i at) [
  | inl before ↦ inr (inl before, grind (arith, nat_tests))
  | inr from ↦ elim (cases_lt i (at + length new)) [
    | inl below ↦ inl (from, below, grind (arith, nat_tests))
    | inr behind ↦ inr (inr behind, grind (arith, nat_tests))
  ]
]

some_after : (i : ℕ) (c : Change) (cs : List (List ℕ)) → 1 ≤ length cs → 1 ≤ length (candidates_after i c cs)
some_after i (Write at new) cs some = elim (after_write i at new cs) [
  | inl more ↦ rw (more.2, length-append cs (sector new (i - at) ∷ [])) (omega arith)
  | inr same ↦ rw same.1 some
]
some_after i Sync cs some = omega arith

pub some_candidates : (i : ℕ) (changes : List Change) (cs : List (List ℕ)) → 1 ≤ length cs → 1 ≤ length (candidates i changes cs)
some_candidates i [] cs some = some
some_candidates i (change ∷ changes) cs some = some_candidates i changes (candidates_after i change cs) (some_after i change cs some)

-- the newest is one of them
pub Contains-newest : (cs : List (List ℕ)) → 1 ≤ length cs → Contains cs (newest cs)
Contains-newest cs some = (length cs - 1, omega arith, get_or_default cs (length cs - 1) (newest cs) [] (omega arith))

pub newest-push : (cs : List (List ℕ)) (s : List ℕ) → newest (cs ++ s ∷ []) ≡ s
newest-push cs s =
    let last : length (cs ++ s ∷ []) - 1 ≡ length cs = rw (length-append cs (s ∷ [])) (omega arith) in
    ap (λ (k : ℕ). get_or (cs ++ s ∷ []) k []) last ∙ get_or-append_seam cs s [] []

-- each of them is a sector of 512 bytes
abbrev IsSector : List ℕ → Type 0
IsSector s = length s ≡ 512

whole_after : (i : ℕ) (c : Change) (cs : List (List ℕ)) → IsWhole c → 1 ≤ length cs → ((s : List ℕ) → Contains cs s → IsSector s) → (s : List ℕ) → Contains (candidates_after i c cs) s → IsSector s
whole_after i (Write at new) cs whole some each s found = elim (after_write i at new cs) [
  | inl more ↦ elim (Contains-push_cases cs (sector new (i - at)) s (subst (λ (ds : Image). Contains ds s) more.2 found)) [
    | inl old ↦ each s old
    | inr is ↦ ap length (sym is) ∙ whole.whole (i - at) (omega (arith, more.0, more.1))
  ]
  | inr same ↦ each s (subst (λ (ds : Image). Contains ds s) same.1 found)
]
whole_after i Sync cs whole some each s found = elim (Contains-push_cases [] (newest cs) s found) [
  | inl none ↦ absurd (omega (arith, none.1))
  | inr is ↦ ap length (sym is) ∙ each (newest cs) (Contains-newest cs some)
]

whole_candidates : (i : ℕ) (changes : List Change) (cs : List (List ℕ)) → All IsWhole changes → 1 ≤ length cs → ((s : List ℕ) → Contains cs s → IsSector s)
    → (s : List ℕ) → Contains (candidates i changes cs) s → IsSector s
whole_candidates i [] cs whole some each s found = each s found
whole_candidates i (change ∷ changes) cs whole some each s found =
    whole_candidates i changes (candidates_after i change cs) (λ k d below. whole (suc k) d (omega arith)) (some_after i change cs some)
    (whole_after i change cs (whole 0 change (omega arith)) some each) s found

pub length-candidate : (n : ℕ) (start : Image) (changes : List Change) (i : ℕ) (s : List ℕ) → IsImage n start → All IsWhole changes → i < n → Contains (candidates i changes (sector start i ∷ [])) s → length s ≡ 512
length-candidate n start changes i s image whole below found =
    whole_candidates i changes (sector start i ∷ []) whole (omega arith)
    (λ t in_start. elim (Contains-push_cases [] (sector start i) t in_start) [
      | inl none ↦ absurd (omega (arith, none.1))
      | inr is ↦ ap length (sym is) ∙ image.whole i below
    ]) s found

-- images that a crash may leave

IsImage-left : (n : ℕ) (start : Image) (changes : List Change) (x : Image) → IsImage n start → All IsWhole changes → MayLeave start changes x → IsImage n x
IsImage-left n start changes x image whole left = record {
  size = left.size ∙ image.size;
  whole = λ i below.
      let inside : i < length start = omega (arith, image.size) in
      whole_candidates i changes (sector start i ∷ []) whole (omega arith)
      (λ s found. elim (Contains-push_cases [] (sector start i) s found) [
        | inl none ↦ absurd (omega (arith, none.1))
        | inr is ↦ ap length (sym is) ∙ image.whole i below
      ]) (sector x i) (left.each i inside);
}

content_is_left : {start x : Image} {changes : List Change} → IsContent start changes x → MayLeave start changes x
content_is_left {start} {x} {changes} content = record {
  size = content.size;
  each = λ i below.
      let cs : List (List ℕ) = candidates i changes (sector start i ∷ []) in
      subst (λ (s : List ℕ). Contains cs s) (sym (content.each i below)) (Contains-newest cs (some_candidates i changes (sector start i ∷ []) (omega arith)));
}

-- such a disk is a device
pub disk_is_device : (n : ℕ) (x start : Image) (changes : List Change) (faults syncs reads : ℕ) → IsImage n start → All IsWhole changes → IsContent start changes x
    → IsDevice (disk_state n x start changes faults syncs reads)
disk_is_device n x start changes faults syncs reads image whole content = record {
  content = λ y told. subst (IsImage n) (same_Some x y told) (IsImage-left n start changes x image whole (content_is_left content));
  now = λ y left. IsImage-left n start changes y image whole left;
  since = λ m y left. IsImage-left n start (take left.at changes) y image (All-take IsWhole left.at changes whole) left.left;
  left = λ tells y told. subst (MayLeave start changes) (same_Some x y told) (content_is_left content);
  counts_now = λ m y le left. record { at = length changes; since = le; until = omega arith; left = rw (take_all (length changes) changes (omega arith)) left };
  only_now = λ y left.
      let all : take left.at changes ≡ changes = take_all left.at changes (left.since.each 0) in
      subst (λ (cs : List Change). MayLeave start cs y) all left.left;
  wider = λ m o y first last left. record { at = left.at; since = moment_trans first left.since; until = left.until; left = left.left };
  told = λ tells. refl;
  shown = λ m y left. tt;
}

-- the steps

-- one more change
step_pushed : {Step : Image → Image → Type 0} (n n' : ℕ) (x y start : Image) (changes : List Change) (c : Change) (faults syncs reads faults' syncs' reads' : ℕ)
    → ((z : Image) → MayLeave start (changes ++ c ∷ []) z → (w : Image) × MayLeave start changes w × Step w z)
    → Passes Step (disk_state n x start changes faults syncs reads) (disk_state n' y start (changes ++ c ∷ []) faults' syncs' reads')
step_pushed n n' x y start changes c faults syncs reads faults' syncs' reads' step =
    let more : length (changes ++ c ∷ []) ≡ length changes + 1 = length-append changes (c ∷ []) in
    record {
      later = record { parts = refl; each = later_each (length changes) (length (changes ++ c ∷ [])) (omega (arith, more)) };
      now = step;
      since = λ m z le left. elim (cases_lt (length changes) left.at) [
        | inl last ↦
            let all : take left.at (changes ++ c ∷ []) ≡ changes ++ c ∷ [] = take_all left.at (changes ++ c ∷ []) (omega (arith, more)) in
            inr (step z (subst (λ (cs : List Change). MayLeave start cs z) all left.left))
        | inr before ↦
            let front : take left.at (changes ++ c ∷ []) ≡ take left.at changes = take-append-le left.at changes (c ∷ []) before in
            inl (record { at = left.at; since = left.since; until = before; left = subst (λ (cs : List Change). MayLeave start cs z) front left.left })
      ];
      keeps = λ m z le left.
          let front : take left.at (changes ++ c ∷ []) ≡ take left.at changes = take-append-le left.at changes (c ∷ []) left.until in
          record { at = left.at; since = left.since; until = omega (arith, more, left.until); left = subst (λ (cs : List Change). MayLeave start cs z) (sym front) left.left };
    }
  where
    later_each : (a b : ℕ) → a ≤ b → (i : ℕ) → slice_index (a ∷ []) i ≤ slice_index (b ∷ []) i
    later_each a b le zero = le
    later_each a b le (suc i) = omega arith

-- where a written sector may come from
record IsStep (start : Image) (changes : List Change) (at : ℕ) (new : Image) (z : Image) (i : ℕ) (s : List ℕ) : Type 0 where
  was : Contains (candidates i changes (sector start i ∷ [])) s
  step : (sector z i ≡ s) ⊎ ((at ≤ i) × (i < at + length new) × (sector z i ≡ sector new (i - at)))

left_before_write : (start : Image) (changes : List Change) (at : ℕ) (new z : Image) → MayLeave start (changes ++ Write at new ∷ []) z
    → (w : Image) × MayLeave start changes w × IsPartlyWritten at new w z
left_before_write start changes at new z left =
    let found = build (IsStep start changes at new z) (length start) each in (
      found.0,
      record { size = found.1; each = λ i below. (found.2 i below).was },
      record {
        size = left.size ∙ sym found.1;
        each = λ i. elim (cases_lt i (length start)) [
          | inl below ↦ (found.2 i below).step
          | inr beyond ↦ inl (get_or-eq_default z [] (omega (arith, left.size)) ∙ sym (get_or-eq_default found.0 [] (omega (arith, found.1))))
        ];
      },
    )
  where
    each : (i : ℕ) → i < length start → (s : List ℕ) × IsStep start changes at new z i s
    each i below =
        let cs : List (List ℕ) = candidates i changes (sector start i ∷ []) in
        let found : Contains (candidates_after i (Write at new) cs) (sector z i) =
        subst (λ (ds : Image). Contains ds (sector z i)) (candidates-push i changes (Write at new) (sector start i ∷ [])) (left.each i below) in
        let some : 1 ≤ length cs = some_candidates i changes (sector start i ∷ []) (omega arith) in
        elim (after_write i at new cs) [
          | inl more ↦ elim (Contains-push_cases cs (sector new (i - at)) (sector z i) (subst (λ (ds : Image). Contains ds (sector z i)) more.2 found)) [
            | inl old ↦ (sector z i, record { was = old; step = inl refl })
            | inr is ↦ (newest cs, record { was = Contains-newest cs some; step = inr (more.0, more.1, sym is) })
          ]
          | inr same ↦ (sector z i, record { was = subst (λ (ds : Image). Contains ds (sector z i)) same.1 found; step = inl refl })
        ]

left_by_sync : (start : Image) (changes : List Change) (z : Image) → MayLeave start (changes ++ Sync ∷ []) z
    → (i : ℕ) → i < length start → newest (candidates i changes (sector start i ∷ [])) ≡ sector z i
left_by_sync start changes z left i below =
    let cs : List (List ℕ) = candidates i changes (sector start i ∷ []) in
    let found : Contains (newest cs ∷ []) (sector z i) =
    subst (λ (ds : Image). Contains ds (sector z i)) (candidates-push i changes Sync (sector start i ∷ [])) (left.each i below) in
    elim (Contains-push_cases [] (newest cs) (sector z i) found) [
      | inl none ↦ absurd (omega (arith, none.1))
      | inr is ↦ is
    ]

left_before_sync : (start : Image) (changes : List Change) (z : Image) → MayLeave start (changes ++ Sync ∷ []) z → MayLeave start changes z
left_before_sync start changes z left = record {
  size = left.size;
  each = λ i below.
      let cs : List (List ℕ) = candidates i changes (sector start i ∷ []) in
      let some : 1 ≤ length cs = some_candidates i changes (sector start i ∷ []) (omega arith) in
      subst (λ (s : List ℕ). Contains cs s) (left_by_sync start changes z left i below) (Contains-newest cs some);
}

-- contents

pub IsContent-start : (start : Image) → IsContent start [] start
IsContent-start start = record { size = refl; each = λ i below. refl }

pub IsContent-write : (start : Image) (changes : List Change) (at : ℕ) (new x : Image) → at + length new ≤ length x → IsContent start changes x
    → IsContent start (changes ++ Write at new ∷ []) (overlay at new x)
IsContent-write start changes at new x inside content = record {
  size = length-overlay at new x inside ∙ content.size;
  each = λ i below.
      let cs : List (List ℕ) = candidates i changes (sector start i ∷ []) in
      let pushed : candidates i (changes ++ Write at new ∷ []) (sector start i ∷ []) ≡ candidates_after i (Write at new) cs =
      candidates-push i changes (Write at new) (sector start i ∷ []) in
      elim (after_write i at new cs) [
        | inl more ↦ sector-overlay_inside at new x i (omega arith) more.0 more.1 ∙ sym (newest-push cs (sector new (i - at))) ∙ ap newest (sym more.2 ∙ sym pushed)
        | inr same ↦ outside i same.0 ∙ content.each i below ∙ ap newest (sym same.1 ∙ sym pushed)
      ];
}
  where
    outside : (i : ℕ) → (i < at) ⊎ (at + length new ≤ i) → sector (overlay at new x) i ≡ sector x i
    outside i where_ = elim where_ [
      | inl before ↦ sector-overlay_before at new x i (omega arith) before
      | inr behind ↦ sector-overlay_behind at new x i (omega arith) behind
    ]

pub IsContent-sync : (start : Image) (changes : List Change) (x : Image) → IsContent start changes x → IsContent start (changes ++ Sync ∷ []) x
IsContent-sync start changes x content = record {
  size = content.size;
  each = λ i below. content.each i below ∙ ap newest (sym (candidates-push i changes Sync (sector start i ∷ [])));
}

-- the calls, as steps from one state of a disk to the next

module _ {n n' : ℕ} {x y start start' : Image} {changes changes' : List Change} {faults syncs reads faults' syncs' reads' : ℕ} where
  -- a write
  pub disk_written : (at : ℕ) (new : Image) → start' ≡ start → changes' ≡ changes ++ Write at new ∷ []
      → Passes (IsPartlyWritten at new) (disk_state n x start changes faults syncs reads) (disk_state n' y start' changes' faults' syncs' reads')
  disk_written at new same more =
      rw (same, more) (step_pushed n n' x y start changes (Write at new) faults syncs reads faults' syncs' reads' (left_before_write start changes at new))

  -- a sync
  pub disk_synced : start' ≡ start → changes' ≡ changes ++ Sync ∷ []
      → Passes (λ z w. w ≡ z) (disk_state n x start changes faults syncs reads) (disk_state n' y start' changes' faults' syncs' reads')
  disk_synced same more =
      rw (same, more) (step_pushed n n' x y start changes Sync faults syncs reads faults' syncs' reads' (λ z left. (z, left_before_sync start changes z left, refl)))

  -- a call that changes nothing
  pub disk_kept : {Step : Image → Image → Type 0} → ((z : Image) → Step z z) → start' ≡ start → changes' ≡ changes
      → Passes Step (disk_state n x start changes faults syncs reads) (disk_state n' y start' changes' faults' syncs' reads')
  disk_kept step same none = rw (same, none) (record {
    later = moment_same (length changes ∷ []);
    now = λ z left. (z, left, step z);
    since = λ m z le left. inl left;
    keeps = λ m z le left. left;
  })

-- after a sync a crash leaves what a read gives
pub disk_durable : {n : ℕ} {x start : Image} {changes : List Change} {faults syncs reads : ℕ} (before : List Change) → changes ≡ before ++ Sync ∷ [] → IsContent start changes x
    → NothingPending (disk_state n x start changes faults syncs reads)
disk_durable {n} {x} {start} {changes} before is content = record {
  only = λ z left.
      let last : MayLeave start (before ++ Sync ∷ []) z = subst (λ (cs : List Change). MayLeave start cs z) is left in
      let now : IsContent start (before ++ Sync ∷ []) x = subst (λ (cs : List Change). IsContent start cs x) is content in
      ap (λ (w : Image). Some w) (ext_get_or [] x z (now.size ∙ sym last.size)
      (λ i below. now.each i (omega (arith, now.size)) ∙ ap newest (candidates-push i before Sync (sector start i ∷ [])) ∙ left_by_sync start before z last i (omega (arith, now.size))));
}

-- so does a crash of a disk that was not written
pub disk_new : {n : ℕ} {x start : Image} {changes : List Change} {faults syncs reads : ℕ} → changes ≡ [] → x ≡ start → NothingPending (disk_state n x start changes faults syncs reads)
disk_new {n} {x} {start} {changes} none is = record {
  only = λ z left.
      let last : MayLeave start [] z = subst (λ (cs : List Change). MayLeave start cs z) none left in
      ap (λ (w : Image). Some w) (is ∙ ext_get_or [] start z (sym last.size)
      (λ i below. elim (Contains-push_cases [] (sector start i) (sector z i) (last.each i below)) [
        | inl none_ ↦ absurd (omega (arith, none_.1))
        | inr at ↦ at
      ]));
}

-- the image that a choice takes

pub Contains-taken : (choice : List ℕ) (i : ℕ) (cs : List (List ℕ)) → 1 ≤ length cs → Contains cs (taken choice i cs)
Contains-taken choice i cs some =
    let k : ℕ = slice_index choice (i % length choice) % length cs in
    let below : k < length cs = mod-lt (slice_index choice (i % length choice)) some in
    (k, below, get_or_default cs k (taken choice i cs) [] below)

length-choose : (choice : List ℕ) (css : List (List (List ℕ))) (i : ℕ) → length (choose choice i css) ≡ length css
length-choose choice [] i = refl
length-choose choice (cs ∷ rest) i = ap (λ (k : ℕ). suc k) (length-choose choice rest _)

Contains-choose : (choice : List ℕ) (css : List (List (List ℕ))) (i k : ℕ) → k < length css → ((j : ℕ) → j < length css → 1 ≤ length (get_or css j []))
    → Contains (get_or css k []) (sector (choose choice i css) k)
Contains-choose choice [] i k below some = absurd (omega arith)
Contains-choose choice (cs ∷ rest) i zero below some = Contains-taken choice i cs (some 0 (omega arith))
Contains-choose choice (cs ∷ rest) i (suc k) below some = Contains-choose choice rest _ k (omega arith) (λ j inside. some (suc j) (omega arith))

pub get_or-all_candidates : (start : Image) (changes : List Change) (k : ℕ) → k < length start → get_or (all_candidates start changes) k [] ≡ candidates k changes (sector start k ∷ [])
get_or-all_candidates start changes k below =
    get_or-map (λ (p : ℕ × List ℕ). candidates p.0 changes (p.1 ∷ [])) (enumerate_from 0 start) k (0, []) [] (rw (length-enumerate_from 0 start) below)
    ∙ ap (λ (p : ℕ × List ℕ). candidates p.0 changes (p.1 ∷ [])) (get_or-enumerate_from 0 start k (0, []) below)
    ∙ (let first : 0 + k ≡ k = omega arith in ap (λ (j : ℕ). candidates j changes (sector start k ∷ [])) first)

pub length-all_candidates : (start : Image) (changes : List Change) → length (all_candidates start changes) ≡ length start
length-all_candidates start changes = length-map (enumerate_from 0 start) (λ (p : ℕ × List ℕ). candidates p.0 changes (p.1 ∷ [])) ∙ length-enumerate_from 0 start

-- it is one that a crash may leave
pub MayLeave-choose : (choice : List ℕ) (start : Image) (changes : List Change) → MayLeave start changes (choose choice 0 (all_candidates start changes))
MayLeave-choose choice start changes =
    let size : length (all_candidates start changes) ≡ length start = length-all_candidates start changes in
    record {
      size = length-choose choice (all_candidates start changes) 0 ∙ size;
      each = λ i below. subst (λ (cs : List (List ℕ)). Contains cs (sector (choose choice 0 (all_candidates start changes)) i)) (get_or-all_candidates start changes i below)
          (Contains-choose choice (all_candidates start changes) 0 i (omega (arith, size))
          (λ j inside. let lt : j < length start = omega (arith, size) in rw (get_or-all_candidates start changes j lt) (some_candidates j changes (sector start j ∷ []) (omega arith))));
    }

-- a front of the written sectors is some of them
pub IsPartlyWritten-front : (at count : ℕ) (written x y : Image) → IsPartlyWritten at (take count written) x y → IsPartlyWritten at written x y
IsPartlyWritten-front at count written x y some = record {
  size = some.size;
  each = λ i. elim (some.each i) [
    | inl kept ↦ inl kept
    | inr put ↦
        let shorter : length (take count written) ≤ length written = rw (length-take count written) (omega arith) in
        let size : length (take count written) ≡ min count (length written) = length-take count written in
        let inside : i - at < count = omega (arith, size, put.0, put.1) in
        inr (put.0, omega (arith, shorter, put.1), put.2 ∙ get_or-take count written (i - at) [] inside)
  ];
}
