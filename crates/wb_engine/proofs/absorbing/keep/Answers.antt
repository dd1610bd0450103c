use Rattle.std.proofs.Common.{subst, sym}
use Rattle.wb_geometry.specs.declared.entry.Entry.{Entry}
use Rattle.wb_geometry.specs.declared.entry.Entry.TheVariants as entry
use Rattle.wb_engine.specs.Standing.{Keeps}
use Rattle.wb_engine.proofs.Keepings.{keeps_void, merged_inside}
use Rattle.wb_engine.proofs.absorbing.keep.Goals as goal

pub returns-in-Write : goal.returns-in-Write
returns-in-Write c =
    let put = c.put.ensures in
    let keeps : Keeps (entry.Write c.in-Write.client c.in-Write.block c.in-Write.payload) c.args.memory.now c.put.new.self = record {
      stands = λ entries is. put.stands c.in-Write.client entries is;
      id = put.id;
      sealed = put.sealed;
      logged = put.logged;
      places = put.sizes.0;
      segments = put.sizes.1;
      few = put.few;
      some = λ _. put.some;
      inside = λ sectors inside fits. merged_inside c.in-Write.block c.in-Write.payload.value.bits put.merged.0 sectors c.args.memory.now.current.blocks c.put.new.self.current.blocks put.merged.1 inside fits;
    } in
    subst (λ (e : Entry). Keeps e c.args.memory.now c.put.new.self) (sym c.in-Write.is) keeps

pub returns-in_default : goal.returns-in_default
returns-in_default c =
    subst (λ (e : Entry). Keeps e c.args.memory.now c.args.memory.now) (sym c.in_default.is) (keeps_void c.in_default.field-0 c.args.memory.now)
