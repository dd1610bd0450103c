-- The first of the sealed segments.
use Rattle.std.proofs.Common.{◌≡◌, ◌∷◌, List, subst}
use Rattle.std.specs.Option.{IfSome}
use Rattle.wb_header.specs.Segments.{Segment}
use Rattle.wb_memory.specs.Memory.{MemoryContent}
use Rattle.wb_memory.proofs.ListedReads.{first_lent}
use Rattle.wb_memory.proofs.memory.Memory.front.Goals as goal

pub returns-clause-front : goal.returns-clause-front
returns-clause-front c =
    subst (λ (m : MemoryContent). IfSome c.front.result (λ s. (rest : List Segment) × (m.sealed ≡ s.now ∷ rest))) c.self.view_is
    (first_lent c.front.result c.self.inside.sealed.items _ c.front.ensures.variant c.self.inside.sealed.ok.0 c.front.ensures.lookup)
