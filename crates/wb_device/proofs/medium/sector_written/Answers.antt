use Rattle.std.proofs.Common.{◌≡◌, ◌+◌, ◌-◌, ◌*◌, ap, sym, ◌∙◌, arith, take, drop, ℕ}
use Rattle.wb_geometry.proofs.Images.{sector-sectors_of}
use Rattle.wb_device.proofs.medium.sector_written.Goals as goal

pub returns : goal.returns
returns c =
    let i : ℕ = c.args.index - c.args.at in
    let one : i * 512 + 512 - i * 512 ≡ 512 = omega arith in
    let from : i * 512 ≡ 512 * i = omega arith in (
      c.if-index-at.false,
      omega (arith, c.if-index-at.false, c.if-bytes-index.false),
      ap (λ (n : ℕ). take n (drop (i * 512) c.args.bytes.now)) one ∙ ap (λ (n : ℕ). take 512 (drop n c.args.bytes.now)) from
          ∙ sym (sector-sectors_of c.args.bytes.now i c.if-bytes-index.false),
    )
