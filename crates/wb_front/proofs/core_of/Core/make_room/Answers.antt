-- What was drained stands between.
use Rattle.std.proofs.Common.{◌≡◌, ◌<◌, ◌≤◌, None, refl, ap, sym, subst, true≢false}
use Rattle.wb_engine.specs.Content.{EngineContent}
use Rattle.wb_front.specs.Joined.{CoreContent}
use Rattle.wb_front.proofs.core_of.Core.make_room.Goals as goal

pub returns-then-not-has_waiting : goal.returns-then-not-has_waiting
returns-then-not-has_waiting g c =
    let at : c.self.inside.engine ≡ c.drain.new.self.engine = ap (λ (x : CoreContent g.row.L.Denot g.row.B.Denot). x.engine) c.self.view_is in record {
      between = c.drain.new.self;
      drains = c.drain.ensures.drained;
      turns = λ e. absurd (true≢false (sym e));
      rests = λ e. (refl, subst (λ (x : EngineContent g.row.L.Denot g.row.B.Denot). x.down ≡ None → x.numbers.sealed ≤ x.numbers.logged) at (search (c.if-not-has_waiting.ensures.none)));
    }

pub returns : goal.returns
returns g c =
    let at : c.self.inside.engine ≡ c.drain.new.self.engine = ap (λ (x : CoreContent g.row.L.Denot g.row.B.Denot). x.engine) c.self.view_is in
    let up : (c.drain.new.self.engine.down ≡ None) × (c.drain.new.self.engine.numbers.logged < c.drain.new.self.engine.numbers.sealed) =
    subst (λ (x : EngineContent g.row.L.Denot g.row.B.Denot). (x.down ≡ None) × (x.numbers.logged < x.numbers.sealed)) at (search (c.if-not-has_waiting.ensures.waiting)) in record {
      between = c.drain.new.self;
      drains = c.drain.ensures.drained;
      turns = λ e. (up.0, up.1, (c.turn-turned.result, c.turn-turned.ensures.does));
      rests = λ e. absurd (true≢false e);
    }
