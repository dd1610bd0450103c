-- What is left once all is written back.
use Rattle.std.proofs.Common.{ℕ, suc, zero, ◌≡◌, ◌-◌, ◌<◌, ◌≤◌, replicate, refl, ap, sym, ◌∙◌, subst, arith}
use Rattle.wb_geometry.specs.Image.{Image}
use Rattle.wb_geometry.specs.History.{Void, put, after, last_write}
use Rattle.wb_geometry.specs.Line.{Line, span, image}
use Rattle.wb_geometry.proofs.Histories.{length-put, sector-put, length-after, images_equal}
use Rattle.wb_crash.specs.Images.{IsBackingImage}
use Rattle.wb_crash.specs.declared.numbers.Numbers.{Numbers}

-- once all that is stable is recorded, the image is that after those segments
pub backing_image_whole : (line : Line) (e : Numbers) (y : Image) → e.recorded ≤ e.back → e.stable ≡ e.recorded → IsBackingImage line e y → y ≡ image line e.recorded
backing_image_whole line e y back same is =
    let at : ℕ = e.recorded in
    let none : e.stable - at ≡ 0 = omega arith in
    images_equal y (image line at) (is.size ∙ sym (length-after line.base (span line.list line.first (at - line.first))))
    (λ k lt. (is.agrees at (omega arith) back).each k (ap (λ (m : ℕ). last_write k (span line.list at m)) none))

put-void : (x : Image) (client : ℕ) → put x (Void client) ≡ x
put-void x client = images_equal (put x (Void client)) x (length-put x (Void client)) (λ k lt. sector-put x (Void client) k (subst (λ (n : ℕ). k < n) (length-put x (Void client)) lt))

-- places that change nothing change nothing
pub after-voids : (x : Image) (count client : ℕ) → after x (replicate count (Void client)) ≡ x
after-voids x zero client = refl
after-voids x (suc count) client = ap (λ (y : Image). after y (replicate count (Void client))) (put-void x client) ∙ after-voids x count client
