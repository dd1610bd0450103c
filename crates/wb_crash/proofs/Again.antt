-- Recovery again: what is put partly is put again, and behind a new record nothing is left to put.
use Rattle.std.proofs.Common.{ℕ, ◌≡◌, ◌+◌, ◌-◌, ◌%◌, ◌<◌, ◌≤◌, List, [], Option, Some, None, inr, refl, ap, sym, ◌∙◌, arith}
use Rattle.std.specs.List.{flat_map}
use Rattle.wb_geometry.specs.Image.{Image, sector}
use Rattle.wb_geometry.specs.History.{HistoryEntry, standing, last_write, after, PutsPartly}
use Rattle.wb_geometry.specs.Layout.{slot_at}
use Rattle.wb_geometry.specs.Line.{Line}
use Rattle.wb_geometry.specs.declared.geometry.Geometry.{Geometry}
use Rattle.wb_geometry.proofs.Histories.{length-after, sector-after, images_equal}
use Rattle.wb_header.specs.Text.{TextBlock}
use Rattle.wb_header.specs.Standing.{entries_of}
use Rattle.wb_header.specs.Slots.{HoldsText}
use Rattle.wb_super.specs.Superblock.{SuperText, record_of, header_id}
use Rattle.wb_super.specs.Recording.{Records}
use Rattle.wb_super.specs.Formatting.{IsEmptyLog}
use Rattle.wb_crash.specs.Chain.{IsRecovered, IsTidy}
use Rattle.wb_crash.specs.Images.{IsOrdered, IsLogImage}
use Rattle.wb_crash.specs.Safety.{IsFresh}
use Rattle.wb_crash.specs.Crash.{WritesAlike}
use Rattle.wb_crash.specs.declared.numbers.Numbers.{Numbers}
use Rattle.wb_crash.proofs.Chains.{run_none}
use Rattle.wb_crash.proofs.Recover.{one_recovered}
use Rattle.wb_crash.proofs.Texts.{some_sector, first_stands, header_of_text}
use Rattle.wb_geometry.proofs.Slots.{slot_below}
use Rattle.wb_crash.proofs.Backs.{kept_unwritten}
use Rattle.wb_crash.proofs.Logs.{super_kept, others_kept, id_kept}

-- ---- the backing device

stands_again : (s t : List ℕ) (last other : Option (List ℕ)) → last ≡ other → (other ≡ None → s ≡ t) → standing s last ≡ standing t other
stands_again s t last (Some u) is same = ap (standing s) is
stands_again s t last None is same = ap (standing s) is ∙ same refl

-- Entries that are put where some of them, or of others that write alike, were put make what they would have made before.
pub puts_again : (entries others : List HistoryEntry) (x y : Image) → WritesAlike others entries → PutsPartly others x y → after y entries ≡ after x entries
puts_again entries others x y alike partly =
    images_equal (after y entries) (after x entries) (length-after y entries ∙ partly.size ∙ sym (length-after x entries))
    (λ i below.
    sector-after y entries i (omega (arith, length-after y entries))
    ∙ stands_again (sector y i) (sector x i) (last_write i entries) (last_write i entries) refl (λ none. kept_unwritten others x y i partly (alike i ∙ none))
    ∙ sym (sector-after x entries i (omega (arith, length-after y entries, partly.size))))

-- recovery makes of it what it made before
pub again : (g : Geometry) (x y z u : Image) (entries : List HistoryEntry) (is : IsRecovered g x y z) → WritesAlike entries (flat_map entries_of is.chain) → PutsPartly entries y u → IsRecovered g x u z
again g x y z u entries is alike partly = record {
  chain = is.chain;
  is = is.is;
  all = is.all ∙ sym (puts_again (flat_map entries_of is.chain) entries y u alike partly);
}

-- ---- nothing is left

-- where no slot has an id behind the record, no text is found
none_held : (g : Geometry) (n : ℕ) (x : Image) (s : ℕ) (blocks : List TextBlock) → IsFresh g n x → record_of x < s → HoldsText g x s blocks → ⊥
none_held g n x s blocks fresh above held =
    omega (
      arith,
      above,
      fresh.number,
      fresh.newest ((s - 1) % g.slots) (slot_below g s),
      header_of_text x ((s - 1) % g.slots) held.is (first_stands held.stands (some_sector held.is)),
    )

-- so recovery makes of the backing device what it is
pub makes_itself : (g : Geometry) (n : ℕ) (x y : Image) → IsFresh g n x → IsRecovered g x y y
makes_itself g n x y fresh = record {
  chain = [];
  is = record {
    run = run_none g x;
    longest = inr (λ blocks held. none_held g n x (record_of x + 1 + 0) blocks fresh (omega arith) held);
  };
  all = refl;
}

pub nothing_left : (g : Geometry) (n : ℕ) (x y z : Image) → IsFresh g n x → IsRecovered g x y z → z ≡ y
nothing_left g n x y z fresh is = one_recovered g x y z y is (makes_itself g n x y fresh)

-- ---- no slot has an id too high

-- it is so of each image of an engine
pub tidy_log : (g : Geometry) (line : Line) (e : Numbers) (x : Image) → IsOrdered g e → IsLogImage g line e x → IsTidy g x
tidy_log g line e x ordered logs slot below = omega (arith, logs.newest slot below, ordered.room, logs.from)

-- of an empty log
pub tidy_empty : (g : Geometry) (x : Image) → IsEmptyLog g x → IsTidy g x
tidy_empty g x empty slot below = omega (arith, empty.no_segment slot below)

pub fresh_empty : (g : Geometry) (x : Image) → IsEmptyLog g x → IsFresh g 0 x
fresh_empty g x empty = record { super = empty.text; number = empty.no_record; newest = λ slot below. omega (arith, empty.no_segment slot below) }

header_recorded : (g : Geometry) (id : ℕ) (x y : Image) (slot : ℕ) → Records id x y → header_id g y slot ≡ header_id g x slot
header_recorded g id x y slot records = id_kept g x y slot (others_kept id x y (slot_at g slot) records (λ is. absurd (omega arith)))

-- of one with a later record
pub tidy_recorded : (g : Geometry) (id : ℕ) (x y : Image) → record_of x ≤ id → IsTidy g x → Records id x y → IsTidy g y
tidy_recorded g id x y later tidy records slot below = omega (arith, tidy slot below, header_recorded g id x y slot records, records.number, later)

-- with the record behind all of its slots, an engine may begin
pub fresh_recorded : (g : Geometry) (x y : Image) → SuperText x g 1 → IsTidy g x → Records (record_of x + g.slots) x y → IsFresh g (record_of x + g.slots) y
fresh_recorded g x y super tidy records = record {
  super = super_kept g x y records.sector.others.size (others_kept (record_of x + g.slots) x y 0 records (λ is. absurd (omega arith))) super;
  number = records.number;
  newest = λ slot below. omega (arith, tidy slot below, header_recorded g (record_of x + g.slots) x y slot records);
}
