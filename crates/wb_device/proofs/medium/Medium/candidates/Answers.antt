use Rattle.std.proofs.Common.{◌≡◌, refl, get_or, ◌+◌, ◌-◌, ◌*◌, ◌/◌, ◌<◌, ◌∷◌, [], ap, sym, ◌∙◌, arith, take, drop, map, length, ℕ, List, Bor}
use Rattle.std.proofs.lemmas.List.{map-append}
use Rattle.wb_geometry.specs.Image.{Image, sector, sectors_of}
use Rattle.wb_geometry.specs.Disk.{newest, candidates}
use Rattle.wb_geometry.proofs.Images.{sector-sectors_of, length-sectors_of}
use Rattle.wb_geometry.proofs.Disks.{newest-push}
use Rattle.wb_device.specs.Recorded.{change_of, changes_of}
use Rattle.wb_device.proofs.Media.{only_newest, read_behind, after_sync, after_written, after_other}
use Rattle.wb_device.proofs.medium.Medium.candidates.Goals.{in-Synced+in_ok-push-in-Synced, in-Written+in-Some+in_ok-push-in-Written, in-Written+in_default}
use Rattle.wb_device.proofs.medium.Medium.candidates.Goals as goal

abbrev contents : List (Bor (List ℕ)) → Image
contents items = map (λ s. s.now) items

first_sector : (i : ℕ) (n : ℕ) (bytes first : List ℕ) → bytes ≡ first → i < length first / 512 → n ≡ i * 512 + 512 - i * 512 → take n (drop (i * 512) bytes) ≡ sector (sectors_of first) i
first_sector i n bytes first is below size =
    let one : n ≡ 512 = omega (arith, size) in
    let from : i * 512 ≡ 512 * i = omega arith in
    rw (is, one, from) (sym (sector-sectors_of first i below))

pub loop-change-init : goal.loop-change-init
loop-change-init c =
    let start : Image = sectors_of c.args.self.now.first.items in
    let synced = c.args.synced.now in
    let cs : Image = candidates c.args.index (changes_of (take c.args.count c.args.self.now.recorded.items)) (sector start c.args.index ∷ []) in
    let none : c.args.count + 0 ≡ c.args.count = omega arith in
    let first = first_sector c.args.index _ synced synced refl (omega (arith, c.requires.index, c.requires.size, c.args.self.now.size)) (omega arith)
    ∙ c.requires.content.each c.args.index (omega (arith, length-sectors_of c.args.self.now.first.items, c.requires.index, c.args.self.now.size)) in
    record {
      found = rw (none, c.in_ok-push.ensures.items, c.new-found.ensures.items) (ap (λ (s : List ℕ). s ∷ []) first ∙ only_newest cs (c.requires.alone c.args.index (sector start c.args.index)));
      newest = rw none first;
    }

pub loop-change-preserved : goal.loop-change-preserved
loop-change-preserved c =
    let recorded = c.args.self.now.recorded.items in
    let i = c.args.count + c.loop-change.change-index in
    let cs : Image = sector (sectors_of c.args.self.now.first.items) c.args.index ∷ [] in
    let next : c.args.count + (c.loop-change.change-index + 1) ≡ i + 1 = omega arith in
    let read = read_behind recorded c.args.count _ c.loop-change.change-index c.change-item.result c.deref.ensures.value c.loop-change-test.true c.change-item.is in
    let below : i < length recorded = read.0 in
    let is : get_or recorded i c.change-item.result ≡ c.change-item.result = read.1 in
    elim c.match-change.branch [
      | in-Synced+in_ok-push-in-Synced w ↦
          let now = after_sync {last = c.loop-change.newest.now} c.args.index recorded i c.change-item.result cs below is (ap change_of w.in-Synced.is) c.loop-change.invariant.newest in
          record {
            found = rw (next, w.found-is, w.in_ok-push-in-Synced.ensures.items, w.clear.ensures.items) now;
            newest = rw (next, w.newest-is) (ap newest now);
          }
      | in-Written+in-Some+in_ok-push-in-Written w ↦
          let told = rw w.deref-in-Written.ensures.value at w.in-Some.ensures in
          let new : Image = sectors_of w.in-Written.bytes.items in
          let found : Image = contents c.loop-change.found.items in
          let now = after_written {found = found} c.args.index recorded i c.change-item.result cs w.in-Written.at new below is (ap change_of w.in-Written.is)
          told.0 (rw (length-sectors_of w.in-Written.bytes.items) told.1) c.loop-change.invariant.found in
          record {
            found = rw (next, w.found-is, w.in_ok-push-in-Written.ensures.items, map-append (λ (s : Bor (List ℕ)). s.now) c.loop-change.found.items (w.in-Some.written ∷ []), told.2) now;
            newest = rw next (ap (λ (s : Bor (List ℕ)). s.now) w.newest-is ∙ told.2 ∙ sym (newest-push found (sector new (c.args.index - w.in-Written.at))) ∙ ap newest now);
          }
      | in-Written+in_default w ↦
          let told = rw w.deref-in-Written.ensures.value at w.in_default.ensures in
          let same = after_other c.args.index recorded i c.change-item.result cs w.in-Written.at (sectors_of w.in-Written.bytes.items) below is (ap change_of w.in-Written.is)
          (rw (length-sectors_of w.in-Written.bytes.items) told) in
          record {
            found = rw (next, w.found-is) (c.loop-change.invariant.found ∙ same);
            newest = rw (next, w.newest-is) (c.loop-change.invariant.newest ∙ ap newest same);
          }
    ]
