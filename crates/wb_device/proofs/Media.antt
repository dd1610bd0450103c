-- What is recorded of a disk, as changes, and that what a read gives follows it.
use Rattle.std.proofs.Common.{◌≡◌, refl, ◌-◌, ◌<◌, ◌⊎◌, get_or, append_assoc, nat_lt, ℕ, List, [], ◌∷◌, ◌++◌, ◌+◌, ◌*◌, ◌/◌, ◌%◌, ◌≤◌, length, take, drop, min, arith, length-take, length-drop, Bool, true, false, if◌then◌else◌, inl, inr, sym, ◌∙◌, ap, subst}
use Rattle.std.proofs.lemmas.List.{map-append, get_or-take, get_or-drop, take_all, take_more, drop_more}
use Rattle.std.proofs.lemmas.List.Elements.{All-push}
use Rattle.std.specs.List.{All, Contains}
use Rattle.std.specs.Simd.{first_chunks}
use Rattle.std.proofs.lemmas.Bool.{cases_lt}
use Rattle.wb_geometry.specs.Image.{Image, IsImage, sector, sectors_of, overlay, IsPartlyWritten}
use Rattle.wb_geometry.specs.Disk.{Change, Write, Sync, IsWhole, IsContent, newest, candidates, candidates_after, taken, choose, all_candidates}
use Rattle.wb_geometry.proofs.Images.{IsPartlyWritten-overlay, length-sectors_of, sectors_of-take, sectors_of-append}
use Rattle.wb_geometry.proofs.Disks.{candidates-push, after_write, some_candidates, length-candidate, Contains-taken, get_or-all_candidates, length-all_candidates, IsPartlyWritten-front, IsContent-write, IsContent-sync}
use Rattle.wb_device.specs.declared.medium.Recorded.{Recorded}
use Rattle.wb_device.specs.Recorded.{IsWithin, change_of, changes_of}

pub changes_push : {items : List Recorded} (old : List Recorded) (r : Recorded) → items ≡ old ++ r ∷ [] → changes_of items ≡ changes_of old ++ change_of r ∷ []
changes_push old r is = ap changes_of is ∙ map-append change_of old (r ∷ [])

-- after a push that may have failed
pub recorded_sync : (b : Bool) {items : List Recorded} (old : List Recorded) (r : Recorded) (start x : Image) → change_of r ≡ Sync → items ≡ (if b then old ++ r ∷ [] else old)
    → IsContent start (changes_of old) x → IsContent start (changes_of items) x
recorded_sync true old r start x sync is content =
    subst (λ (cs : List Change). IsContent start cs x) (sym (changes_push old r is ∙ ap (λ (c : Change). changes_of old ++ c ∷ []) sync)) (IsContent-sync start (changes_of old) x content)
recorded_sync false old r start x sync is content = subst (λ (rs : List Recorded). IsContent start (changes_of rs) x) (sym is) content

pub within_push : (b : Bool) {items : List Recorded} (sectors : ℕ) (old : List Recorded) (r : Recorded) → IsWithin sectors r → items ≡ (if b then old ++ r ∷ [] else old)
    → All (IsWithin sectors) old → All (IsWithin sectors) items
within_push true sectors old r one is within = subst (All (IsWithin sectors)) (sym is) (All-push (IsWithin sectors) old r within one)
within_push false sectors old r one is within = subst (All (IsWithin sectors)) (sym is) within

-- a write that was recorded
pub recorded_write : {items : List Recorded} {y : Image} (old : List Recorded) (r : Recorded) (at : ℕ) (written : List ℕ) (start x : Image) → change_of r ≡ Write at (sectors_of written)
    → items ≡ old ++ r ∷ [] → y ≡ overlay at (sectors_of written) x → at + length (sectors_of written) ≤ length x
    → IsContent start (changes_of old) x → IsContent start (changes_of items) y
recorded_write {items} {y} old r at written start x change is laid inside content =
    rw (changes_push old r is, change, laid) (IsContent-write start (changes_of old) at (sectors_of written) x inside content)

-- the sectors of a front
pub front_sectors : (count stored : ℕ) (bytes : List ℕ) → stored ≡ min count (length bytes / 512) * 512 → sectors_of (take stored bytes) ≡ take count (sectors_of bytes)
front_sectors count stored bytes is =
    let k : ℕ = length bytes / 512 in
    let size : length (sectors_of bytes) ≡ k = length-sectors_of bytes in
    let whole : stored / 512 ≡ min count k = omega (arith, is) in
    sectors_of-take stored bytes (omega (arith, is)) ∙ elim (cases_lt count k) [
      | inl fewer ↦ (let same : stored / 512 ≡ count = omega (arith, is) in ap (λ (j : ℕ). take j (sectors_of bytes)) same)
      | inr all ↦ (take_all (stored / 512) (sectors_of bytes) (omega (arith, is, size)) ∙ sym (take_all count (sectors_of bytes) (omega (arith, size))))
    ]

-- a write of a front is one of some of the sectors
pub front_partly : {y : Image} (at count : ℕ) (bytes old : List ℕ) → at + length bytes / 512 ≤ length old / 512 → y ≡ overlay at (take count (sectors_of bytes)) (sectors_of old)
    → IsPartlyWritten at (sectors_of bytes) (sectors_of old) y
front_partly at count bytes old inside is =
    let written : Image = sectors_of bytes in
    let size : length (take count written) ≡ min count (length written) = length-take count written in
    rw is (IsPartlyWritten-front at count written (sectors_of old) (overlay at (take count written) (sectors_of old))
    (IsPartlyWritten-overlay at (take count written) (sectors_of old) (omega (arith, size, length-sectors_of bytes, length-sectors_of old))))

-- a read of the first so many, and of those behind them
pub read_before : {items : List Recorded} (recorded : List Recorded) (count i : ℕ) (r : Recorded) → items ≡ recorded → i < length (take count items) → r ≡ get_or (take count items) i r
    → (i < length recorded) × (get_or recorded i r ≡ r)
read_before recorded count i r same below is =
    let fewer : i < min count (length recorded) = rw (← length-take count recorded, ← same) below in
    (omega (arith, fewer), sym (is ∙ ap (λ (rs : List Recorded). get_or (take count rs) i r) same ∙ get_or-take count recorded i r (omega (arith, fewer))))

pub read_behind : {items : List Recorded} (recorded : List Recorded) (count more i : ℕ) (r : Recorded) → items ≡ recorded → i < length (take more (drop count items))
    → r ≡ get_or (take more (drop count items)) i r → (count + i < length recorded) × (get_or recorded (count + i) r ≡ r)
read_behind recorded count more i r same below is =
    let read = read_before (drop count recorded) more i r (ap (λ (rs : List Recorded). drop count rs) same) below is in
    (omega (arith, read.0, length-drop count recorded), sym (get_or-drop count recorded i r) ∙ read.1)

-- what was recorded, and one more
pub recorded_more : (recorded : List Recorded) (i : ℕ) (r : Recorded) → i < length recorded → get_or recorded i r ≡ r → take (i + 1) recorded ≡ take i recorded ++ r ∷ []
recorded_more recorded i r below is = take_more recorded i r below ∙ ap (λ (q : Recorded). take i recorded ++ q ∷ []) is

-- where there is one candidate it is the newest
pub only_newest : (cs : Image) → length cs ≡ 1 → newest cs ∷ [] ≡ cs
only_newest [] one = absurd (omega (arith, one))
only_newest (s ∷ []) one = refl
only_newest (s ∷ t ∷ cs) one = absurd (omega (arith, one))

-- one more of what was recorded
candidates_more : (index : ℕ) (recorded : List Recorded) (i : ℕ) (r : Recorded) (cs : Image) → i < length recorded → get_or recorded i r ≡ r
    → candidates index (changes_of (take (i + 1) recorded)) cs ≡ candidates_after index (change_of r) (candidates index (changes_of (take i recorded)) cs)
candidates_more index recorded i r cs below is =
    ap (λ (changes : List Change). candidates index changes cs) (changes_push (take i recorded) r (recorded_more recorded i r below is))
    ∙ candidates-push index (changes_of (take i recorded)) (change_of r) cs

-- right behind a sync each sector has one candidate
pub alone_after_sync : (recorded : List Recorded) (i : ℕ) (r : Recorded) → i < length recorded → get_or recorded i r ≡ r → change_of r ≡ Sync
    → (index : ℕ) (s : List ℕ) → length (candidates index (changes_of (take (i + 1) recorded)) (s ∷ [])) ≡ 1
alone_after_sync recorded i r below is sync index s = rw (candidates_more index recorded i r (s ∷ []) below is, sync) refl

pub after_sync : {last : List ℕ} (index : ℕ) (recorded : List Recorded) (i : ℕ) (r : Recorded) (cs : Image) → i < length recorded → get_or recorded i r ≡ r → change_of r ≡ Sync
    → last ≡ newest (candidates index (changes_of (take i recorded)) cs) → last ∷ [] ≡ candidates index (changes_of (take (i + 1) recorded)) cs
after_sync {last} index recorded i r cs below is sync newest_is = rw (candidates_more index recorded i r cs below is, sync) (ap (λ (s : List ℕ). s ∷ []) newest_is)

pub after_written : {found : Image} (index : ℕ) (recorded : List Recorded) (i : ℕ) (r : Recorded) (cs : Image) (at : ℕ) (new : Image) → i < length recorded → get_or recorded i r ≡ r
    → change_of r ≡ Write at new → at ≤ index → index < at + length new → found ≡ candidates index (changes_of (take i recorded)) cs
    → found ++ sector new (index - at) ∷ [] ≡ candidates index (changes_of (take (i + 1) recorded)) cs
after_written {found} index recorded i r cs at new below is write from inside found_is = rw (candidates_more index recorded i r cs below is, write, found_is)
    (elim (after_write index at new (candidates index (changes_of (take i recorded)) cs)) [
      | inl more ↦ sym more.2
      | inr none ↦ elim none.0 [
        | inl before ↦ absurd (omega arith)
        | inr behind ↦ absurd (omega arith)
      ]
    ])

pub after_other : (index : ℕ) (recorded : List Recorded) (i : ℕ) (r : Recorded) (cs : Image) (at : ℕ) (new : Image) → i < length recorded → get_or recorded i r ≡ r
    → change_of r ≡ Write at new → (index < at) ⊎ (at + length new ≤ index) → candidates index (changes_of (take i recorded)) cs ≡ candidates index (changes_of (take (i + 1) recorded)) cs
after_other index recorded i r cs at new below is write outside = rw (candidates_more index recorded i r cs below is, write)
    (elim (after_write index at new (candidates index (changes_of (take i recorded)) cs)) [
      | inl more ↦ elim outside [
        | inl before ↦ absurd (omega (arith, more.0))
        | inr behind ↦ absurd (omega (arith, more.1))
      ]
      | inr none ↦ sym none.1
    ])

sectors_of-one : (s : List ℕ) → length s ≡ 512 → sectors_of s ≡ s ∷ []
sectors_of-one s size =
    let one : length s / 512 ≡ 1 = omega (arith, size) in
    ap (λ (k : ℕ). first_chunks 512 k s) one ∙ ap (λ (t : List ℕ). t ∷ []) (take_all 512 s (omega (arith, size)))

pub length_taken : (choice : List ℕ) (start : Image) (changes : List Change) (k written : ℕ) (s : List ℕ) → IsImage (length start) start → All IsWhole changes → k < length start
    → s ≡ taken choice written (candidates k changes (sector start k ∷ [])) → length s ≡ 512
length_taken choice start changes k written s start_is whole below s_is =
    let cs : Image = candidates k changes (sector start k ∷ []) in
    length-candidate (length start) start changes k s start_is whole below
    (subst (Contains cs) (sym s_is) (Contains-taken choice written cs (some_candidates k changes (sector start k ∷ []) (omega arith))))

-- one more sector of the image that a choice takes
pub chosen_more : (choice : List ℕ) (start : Image) (changes : List Change) (k written written' : ℕ) (image s : List ℕ) → IsImage (length start) start → All IsWhole changes
    → k < length start → length image ≡ 512 * k → s ≡ taken choice written (candidates k changes (sector start k ∷ []))
    → written' ≡ (if nat_lt 1 (length (candidates k changes (sector start k ∷ []))) then written + 1 else written)
    → choose choice 0 (all_candidates start changes) ≡ sectors_of image ++ choose choice written (drop k (all_candidates start changes))
    → choose choice 0 (all_candidates start changes) ≡ sectors_of (image ++ s) ++ choose choice written' (drop (k + 1) (all_candidates start changes))
chosen_more choice start changes k written written' image s start_is whole below size s_is next before =
    let css : List Image = all_candidates start changes in
    let cs : Image = candidates k changes (sector start k ∷ []) in
    let s_size : length s ≡ 512 = length_taken choice start changes k written s start_is whole below s_is in
    let inside : k < length css = omega (arith, length-all_candidates start changes) in
    let parts : drop k css ≡ cs ∷ drop (k + 1) css = drop_more css k [] inside ∙ ap (λ (c : Image). c ∷ drop (k + 1) css) (get_or-all_candidates start changes k below) in
    let image_whole : length image % 512 ≡ 0 = omega arith in
    before ∙ ap (λ (d : List Image). sectors_of image ++ choose choice written d) parts
    ∙ ap (λ (t : List ℕ). sectors_of image ++ t ∷ choose choice (if nat_lt 1 (length cs) then written + 1 else written) (drop (k + 1) css)) (sym s_is)
    ∙ ap (λ (w : ℕ). sectors_of image ++ s ∷ choose choice w (drop (k + 1) css)) (sym next)
    ∙ sym (ap (λ (x : Image). x ++ choose choice written' (drop (k + 1) css)) (sectors_of-append image s image_whole ∙ ap (λ (x : Image). sectors_of image ++ x) (sectors_of-one s s_size))
    ∙ append_assoc (sectors_of image) (s ∷ []) (choose choice written' (drop (k + 1) css)))
