-- The bit isn't set, so each byte of the sector has to be zero.
use Rattle.std.proofs.Common.{◌≢◌, ◌+◌, ◌*◌, ◌/◌, ◌^◌, ℕ, subst, bit_and}
use Rattle.wb_header.specs.Firsts.{Finds, IsSet}
use Rattle.wb_header.proofs.Checkings.{strays_of_sector}
use Rattle.wb_header.proofs.checking.stray_in_sector.Goals as goal

pub returns : goal.returns
returns c = strays_of_sector c.args.bytes.now c.args.index c.args.sector c.first_set.result c.requires.inside c.requires.sector
    (subst (λ (n : ℕ). bit_and (n / 2 ^ c.args.sector) 1 ≢ 1) c.bits_at.ensures c.if-bits_at-sector-eq1.false)
    (subst (λ (n : ℕ). Finds (IsSet c.args.bytes.now) (4096 * (n + 1) + 512 * c.args.sector) (4096 * (n + 1) + 512 * c.args.sector + 512) c.first_set.result) c.from.ensures c.first_set.ensures)
