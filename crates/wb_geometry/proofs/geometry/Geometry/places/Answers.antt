use Rattle.std.proofs.Common.{◌≤◌, subst, sym}
use Rattle.wb_geometry.proofs.Geometries.{places_few, places_shifted}
use Rattle.wb_geometry.proofs.geometry.Geometry.places.Goals as goal

-- src/geometry.rt:91:5
pub returns-clause-some : goal.returns-clause-some
returns-clause-some c = subst (λ n. 1 ≤ n) (sym (places_shifted c.args.self.now)) (places_few c.args.self.now).0

pub returns-clause-few : goal.returns-clause-few
returns-clause-few c = subst (λ n. n ≤ 127) (sym (places_shifted c.args.self.now)) (places_few c.args.self.now).1
