-- A read after another, and the record that it found.
use Rattle.std.proofs.Common.{◌∙◌, refl, inr, ap}
use Rattle.wb_geometry.specs.Device.{next_count}
use Rattle.wb_super.proofs.Superblocks.{record_read, reads_only}
use Rattle.wb_super.proofs.reading.read_super.Goals as goal

pub returns-in-Err-clause-in_turn : goal.returns-in-Err-clause-in_turn
returns-in-Err-clause-in_turn g c = λ is. record {
  turn = inr (c.read.ensures.reads ∙ ap next_count c.in_ok-geometry.ensures.reads, (c.in_ok-geometry.geometry, c.in_ok-geometry.ensures.found));
}

pub returns-then-recorded-gt-MOST_RECORD-clause-refused : goal.returns-then-recorded-gt-MOST_RECORD-clause-refused
returns-then-recorded-gt-MOST_RECORD-clause-refused g c = (
  c.if-recorded-gt-MOST_RECORD.true,
  (c.in_ok-geometry.geometry, c.in_ok-geometry.ensures.found),
  record_read c.in_ok-geometry.geometry c.read.new.into c.field_64-recorded.result c.in_ok-geometry.ensures.found c.read_geometry.ensures.only_read (g.met.D.Device.sound c.read_geometry.new.log) c.read.auto.into c.in_default.ensures.ok c.field_64-recorded.ensures,
)

pub returns-then-recorded-gt-MOST_RECORD-clause-only_read : goal.returns-then-recorded-gt-MOST_RECORD-clause-only_read
returns-then-recorded-gt-MOST_RECORD-clause-only_read g c = reads_only c.read_geometry.ensures.only_read (record {
  content = c.read.ensures.content;
  crash = c.read.ensures.crash;
  left = c.read.ensures.left;
  syncs = c.read.ensures.syncs;
  same = c.read.ensures.same;
})

pub returns-clause-found : goal.returns-clause-found
returns-clause-found g c = record {
  version = refl;
  formatted = c.in_ok-geometry.ensures.found;
  number = record_read c.in_ok-geometry.geometry c.read.new.into c.field_64-recorded.result c.in_ok-geometry.ensures.found c.read_geometry.ensures.only_read (g.met.D.Device.sound c.read_geometry.new.log) c.read.auto.into c.in_default.ensures.ok c.field_64-recorded.ensures;
  bounded = c.if-recorded-gt-MOST_RECORD.false;
}

pub returns-clause-only_read : goal.returns-clause-only_read
returns-clause-only_read g c = reads_only c.read_geometry.ensures.only_read (record {
  content = c.read.ensures.content;
  crash = c.read.ensures.crash;
  left = c.read.ensures.left;
  syncs = c.read.ensures.syncs;
  same = c.read.ensures.same;
})
