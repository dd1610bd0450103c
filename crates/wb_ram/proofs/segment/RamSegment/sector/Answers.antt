use Rattle.std.proofs.Common.{◌*◌, Some, None, sym, arith, rules}
use Rattle.wb_ram.proofs.Merges.{searched}
use Rattle.wb_ram.proofs.Sectors.{sector_unfound, sector_unset, sector_set}
use Rattle.wb_ram.proofs.segment.RamSegment.sector.Goals as goal

pub returns-in_err-found-clause-bytes : goal.returns-in_err-found-clause-bytes
returns-in_err-found-clause-bytes c =
    let none = searched c.args.block c.self.inside.blocks.items _ _ None c.deref.ensures.value c.find.ensures c.in_err-found.was in
    rw (c.from_residual.ensures, ← c.self.view_is) (sym (sector_unfound c.self.inside.blocks.items c.args.block c.args.index c.requires none))

pub returns-then-deref-index-eq0-clause-bytes : goal.returns-then-deref-index-eq0-clause-bytes
returns-then-deref-index-eq0-clause-bytes c =
    let found = searched c.args.block c.self.inside.blocks.items _ _ (Some c.in_ok-found.found) c.deref.ensures.value c.find.ensures c.in_ok-found.was in
    let unset = rw c.deref-2.ensures at c.if-deref-index-eq0.true in
    rw (← c.self.view_is) (sym (sector_unset c.self.inside.blocks.items c.args.block c.in_ok-found.found c.args.index c.index.result.now c.requires c.self.invariant.distinct found c.index.ensures unset))

pub returns-clause-bytes : goal.returns-clause-bytes
returns-clause-bytes c =
    let found = searched c.args.block c.self.inside.blocks.items _ _ (Some c.in_ok-found.found) c.deref.ensures.value c.find.ensures c.in_ok-found.was in
    let set = rw c.deref-2.ensures at c.if-deref-index-eq0.false in
    rw (← c.self.view_is, c.deref-3.ensures)
    (sector_set c.self.inside.blocks.items c.args.block c.in_ok-found.found c.args.index (c.from-start.result * 512) c.index.result.now c.requires c.self.invariant.distinct found c.index.ensures set (search rules) (omega (arith, c.from-start.ensures)))
