-- The sector in the segment that its spot names.
use Rattle.std.proofs.Common.{ℕ, ◌≡◌, ◌+◌, ◌-◌, ◌*◌, ◌<◌, ◌≤◌, ◌∙◌, List, length, get_or, take, drop, Some, subst, arith}
use Rattle.wb_geometry.specs.declared.spot.Spot.{Spot}
use Rattle.wb_geometry.specs.History.{last_write, IsUnwritten}
use Rattle.wb_table.specs.Lookup.{nowhere}
use Rattle.wb_table.specs.Tables.{lookup_of}
use Rattle.wb_memory.specs.Memory.{MemoryContent, live, kept_entries, last_logged}
use Rattle.wb_memory.proofs.ListedReads.{newest_none, newest_logged, newest_here, current_bytes, current_some, spot_before, spot_read, segment_read, segment_bytes}
use Rattle.wb_memory.proofs.memory.Memory.newest.Goals as goal

-- the backing device

pub returns-then-spot-eq0-clause-newest : goal.returns-then-spot-eq0-clause-newest
returns-then-spot-eq0-clause-newest c =
    let spot_is = spot_read _ c.find.result c.args.block c.args.index c.from.result c.self.invariant.sound c.requires c.from.ensures c.find.ensures in
    subst (λ (m : MemoryContent). IsUnwritten (8 * c.args.block + c.args.index) (kept_entries (live m)) × ((lookup_of m.lookup).spots c.args.block c.args.index ≡ nowhere)) c.self.view_is
    (newest_none _ c.args.block c.args.index (get_or c.find.result c.from.result nowhere) c.self.invariant.sound c.requires spot_is c.if-spot-eq0.true)

pub overflow_sub-behind : goal.overflow_sub-behind
overflow_sub-behind c =
    let spot_is = spot_read _ c.find.result c.args.block c.args.index c.from.result c.self.invariant.sound c.requires c.from.ensures c.find.ensures in
    omega (arith, spot_before _ c.args.block c.args.index (get_or c.find.result c.from.result nowhere) c.self.invariant.sound c.requires spot_is, c.id.ensures)

-- the open segment

pub unwrap-requires : goal.unwrap-requires
unwrap-requires c =
    let spot_is = spot_read _ c.find.result c.args.block c.args.index c.from.result c.self.invariant.sound c.requires c.from.ensures c.find.ensures in
    let before = spot_before _ c.args.block c.args.index (get_or c.find.result c.from.result nowhere) c.self.invariant.sound c.requires spot_is in
    current_some _ c.args.block c.args.index (get_or c.find.result c.from.result nowhere) c.sector.result c.self.invariant.sound c.requires spot_is (omega (arith, before, c.if-behind-eq0.true, c.id.ensures)) c.sector.ensures.bytes

pub returns-then-behind-eq0-clause-newest : goal.returns-then-behind-eq0-clause-newest
returns-then-behind-eq0-clause-newest c =
    let spot : Spot = get_or c.find.result c.from.result nowhere in
    let spot_is = spot_read _ c.find.result c.args.block c.args.index c.from.result c.self.invariant.sound c.requires c.from.ensures c.find.ensures in
    let before = spot_before _ c.args.block c.args.index spot c.self.invariant.sound c.requires spot_is in
    let at : spot.id ≡ c.self.inside.current.id = omega (arith, before, c.if-behind-eq0.true, c.id.ensures) in
    let read = current_bytes _ c.args.block c.args.index spot c.sector.result c.unwrap.result c.self.invariant.sound c.requires spot_is at c.sector.ensures.bytes c.sector.ensures.size c.unwrap.ensures in
    subst (λ (m : MemoryContent). (last_write (8 * c.args.block + c.args.index) (kept_entries (live m)) ≡ Some c.unwrap.result.now) × (length c.unwrap.result.now ≡ 512)
    × (last_logged m < ((lookup_of m.lookup).spots c.args.block c.args.index).id)) c.self.view_is
    (newest_here _ c.args.block c.args.index spot c.unwrap.result.now c.self.invariant.sound c.requires spot_is (omega (arith, at, c.self.invariant.sound.early)) read.0 read.1)

-- the log

pub returns-then-behind-len-clause-newest : goal.returns-then-behind-len-clause-newest
returns-then-behind-len-clause-newest c =
    let spot : Spot = get_or c.find.result c.from.result nowhere in
    let spot_is = spot_read _ c.find.result c.args.block c.args.index c.from.result c.self.invariant.sound c.requires c.from.ensures c.find.ensures in
    subst (λ (m : MemoryContent). IsUnwritten (8 * c.args.block + c.args.index) (kept_entries (live m)) × (spot ≡ (lookup_of m.lookup).spots c.args.block c.args.index)
    × (1 ≤ spot.id) × (spot.id ≤ last_logged m) × (spot.index < m.places)) c.self.view_is
    (newest_logged _ c.args.block c.args.index spot c.self.invariant.sound c.requires spot_is c.if-spot-eq0.false
    (omega (arith, c.if-behind-len.true, c.len.ensures, c.self.inside.sealed.ok.0, c.id.ensures)))

-- a sealed segment

pub payload-requires : goal.payload-requires
payload-requires c =
    let spot : Spot = get_or c.find.result c.from.result nowhere in
    let spot_is = spot_read _ c.find.result c.args.block c.args.index c.from.result c.self.invariant.sound c.requires c.from.ensures c.find.ensures in
    let read = segment_read _ c.args.block c.args.index spot c.index-segment.result.now c.id.result c.len-2.result c.self.invariant.sound c.requires spot_is c.id.ensures (c.len-2.ensures ∙ c.self.inside.sealed.ok.0)
    c.if-behind-eq0.false (omega (arith, c.if-behind-len.false, c.len.ensures, c.len-2.ensures)) c.index-segment.ensures in
    omega (arith, read.index, c.from-2.ensures)

pub returns-clause-newest : goal.returns-clause-newest
returns-clause-newest c =
    let spot : Spot = get_or c.find.result c.from.result nowhere in
    let spot_is = spot_read _ c.find.result c.args.block c.args.index c.from.result c.self.invariant.sound c.requires c.from.ensures c.find.ensures in
    let read = segment_read _ c.args.block c.args.index spot c.index-segment.result.now c.id.result c.len-2.result c.self.invariant.sound c.requires spot_is c.id.ensures (c.len-2.ensures ∙ c.self.inside.sealed.ok.0)
    c.if-behind-eq0.false (omega (arith, c.if-behind-len.false, c.len.ensures, c.len-2.ensures)) c.index-segment.ensures in
    let bytes : List ℕ = take (c.from-start.result * 512 + 512 - c.from-start.result * 512) (drop (c.from-start.result * 512) c.payload.result.now) in
    subst (λ (m : MemoryContent). (last_write (8 * c.args.block + c.args.index) (kept_entries (live m)) ≡ Some bytes) × (length bytes ≡ 512)
    × (last_logged m < ((lookup_of m.lookup).spots c.args.block c.args.index).id)) c.self.view_is
    (segment_bytes _ c.args.block c.args.index spot c.index-segment.result.now c.payload.result.now c.from-2.result c.from-start.result c.self.invariant.sound c.requires spot_is read c.from-2.ensures c.payload.ensures.bytes
    c.payload.ensures.size c.from-start.ensures)
