use Rattle.std.proofs.Common.{◌≡◌, ◌+◌, ◌%◌, ◌<◌, ◌≤◌, ◌∷◌, [], ◌++◌, ap, sym, ◌∙◌, subst, arith, drop, map, length, get_or, ℕ, List, Bor, length-append, if◌then◌else◌, nat_lt}
use Rattle.std.specs.Prelude.{slice_index}
use Rattle.std.proofs.lemmas.Bool.Decides.{nat_tests}
use Rattle.std.proofs.lemmas.List.{length-map, get_or-map, drop_all, append-nil}
use Rattle.wb_geometry.specs.Image.{Image, IsImage, sector, sectors_of}
use Rattle.wb_geometry.specs.Disk.{Change, candidates, taken, choose, all_candidates}
use Rattle.wb_geometry.proofs.Images.{length-sectors_of, IsImage-sectors_of}
use Rattle.wb_geometry.proofs.Disks.{some_candidates, length-all_candidates}
use Rattle.wb_device.specs.Recorded.{changes_of, IsWhole-changes}
use Rattle.wb_device.proofs.Media.{chosen_more, length_taken}
use Rattle.wb_device.proofs.medium.Medium.crashed.Goals.{then-len-gt1, else-len-gt1}
use Rattle.wb_device.proofs.medium.Medium.crashed.Goals as goal

abbrev contents : List (Bor (List ℕ)) → Image
contents items = map (λ s. s.now) items

-- as many as are found
count_is : (n : ℕ) (items : List (Bor (List ℕ))) (cs : Image) → contents items ≡ cs → n ≡ length items → n ≡ length cs
count_is n items cs is size = size ∙ sym (length-map items (λ (s : Bor (List ℕ)). s.now)) ∙ ap length is

-- the one at that place
found_at : (items : List (Bor (List ℕ))) (cs : Image) (at : ℕ) (b : Bor (List ℕ)) → contents items ≡ cs → at < length items → b ≡ get_or items at b → b.now ≡ get_or cs at []
found_at items cs at b is below b_is = ap (λ (s : Bor (List ℕ)). s.now) b_is ∙ sym (get_or-map (λ (s : Bor (List ℕ)). s.now) items at b [] below) ∙ ap (λ (x : Image). get_or x at []) is

is_start : (first : List ℕ) → IsImage (length (sectors_of first)) (sectors_of first)
is_start first = subst (λ (n : ℕ). IsImage n (sectors_of first)) (sym (length-sectors_of first)) (IsImage-sectors_of first)

pub taken-at-requires : goal.taken-at-requires
taken-at-requires c =
    let changes : List Change = changes_of c.args.self.now.recorded.items in
    let first : List (List ℕ) = sector (sectors_of c.args.self.now.first.items) c.loop-index.index ∷ [] in
    let cs : Image = candidates c.loop-index.index changes first in
    let v = c.in_ok-candidates.candidates in
    let size : c.len.result ≡ length cs = count_is c.len.result v.items cs c.in_ok-candidates.ensures (omega (arith, c.len.ensures, v.ok.0)) in
    omega (arith, size, some_candidates c.loop-index.index changes first (omega arith))

-- one more was written where there is a choice
next_more : (n written written' : ℕ) → 1 < n → written' ≡ written + 1 → written' ≡ (if nat_lt 1 n then written + 1 else written)
next_more n written written' many is = grind (arith, nat_tests)

next_same : (n written written' : ℕ) → n ≤ 1 → written' ≡ written → written' ≡ (if nat_lt 1 n then written + 1 else written)
next_same n written written' few is = grind (arith, nat_tests)

pub loop-index-preserved : goal.loop-index-preserved
loop-index-preserved c =
    let start : Image = sectors_of c.args.self.now.first.items in
    let changes : List Change = changes_of c.args.self.now.recorded.items in
    let k : ℕ = c.loop-index.index in
    let cs : Image = candidates k changes (sector start k ∷ []) in
    let v = c.in_ok-candidates.candidates in
    let size : c.len.result ≡ length cs = count_is c.len.result v.items cs c.in_ok-candidates.ensures (omega (arith, c.len.ensures, v.ok.0)) in
    let below : k < length start = omega (arith, length-sectors_of c.args.self.now.first.items, c.args.self.now.size, c.sectors-index-end.ensures, c.loop-index-test.true) in
    let s : List ℕ = c.index.result.now.now in
    let at : slice_index c.args.choice.now (c.loop-index.written % length c.args.choice.now) % length cs ≡ c.taken-at.result = sym (c.taken-at.ensures.taken ∙ ap (λ (n : ℕ). slice_index c.args.choice.now (c.loop-index.written % length c.args.choice.now) % n) size) in
    let s_is : s ≡ taken c.args.choice.now c.loop-index.written cs =
    found_at v.items cs c.taken-at.result c.index.result.now c.in_ok-candidates.ensures (omega (arith, c.taken-at.ensures.inside, c.len.ensures, v.ok.0)) c.index.ensures
    ∙ ap (λ (j : ℕ). get_or cs j []) (sym at) in
    let s_size : length s ≡ 512 = length_taken c.args.choice.now start changes k c.loop-index.written s (is_start c.args.self.now.first.items) (IsWhole-changes c.args.self.now.recorded.items) below s_is in
    let again : c.len-in-loop-index.result ≡ length cs = count_is c.len-in-loop-index.result v.items cs c.in_ok-candidates.ensures (omega (arith, c.len-in-loop-index.ensures, v.ok.0)) in
    let next : c.if-len-gt1.written ≡ (if nat_lt 1 (length cs) then c.loop-index.written + 1 else c.loop-index.written) = elim c.if-len-gt1.branch [
      | then-len-gt1 w ↦ next_more (length cs) c.loop-index.written c.if-len-gt1.written (omega (arith, again, w.if-len-gt1.true)) w.written-is
      | else-len-gt1 w ↦ next_same (length cs) c.loop-index.written c.if-len-gt1.written (omega (arith, again, w.if-len-gt1.false)) w.written-is
    ] in
    record {
      chosen = rw c.in_ok-extend_from_slice.ensures.items
          (chosen_more c.args.choice.now start changes k c.loop-index.written c.if-len-gt1.written c.loop-index.image.items s
          (is_start c.args.self.now.first.items) (IsWhole-changes c.args.self.now.recorded.items) below c.loop-index.invariant.size s_is next c.loop-index.invariant.chosen);
      size = rw (c.in_ok-extend_from_slice.ensures.items, length-append c.loop-index.image.items s) (omega (arith, s_size, c.loop-index.invariant.size));
      few = elim c.if-len-gt1.branch [
        | then-len-gt1 w ↦ omega (arith, w.written-is, c.loop-index.invariant.few)
        | else-len-gt1 w ↦ omega (arith, w.written-is, c.loop-index.invariant.few)
      ];
    }

pub returns : goal.returns
returns c =
    let start : Image = sectors_of c.args.self.now.first.items in
    let changes : List Change = changes_of c.args.self.now.recorded.items in
    let css = all_candidates start changes in
    let done : drop c.loop-index.index css ≡ [] =
    drop_all c.loop-index.index css (omega (arith, length-all_candidates start changes, length-sectors_of c.args.self.now.first.items, c.args.self.now.size, c.sectors-index-end.ensures, c.loop-index-test.false)) in
    sym (c.loop-index.invariant.chosen ∙ ap (λ (d : List Image). sectors_of c.loop-index.image.items ++ choose c.args.choice.now c.loop-index.written d) done ∙ append-nil (sectors_of c.loop-index.image.items))
