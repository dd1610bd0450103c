-- Eight bytes and the word that they spell.
use Rattle.std.proofs.Common.{◌≡◌, ℕ, ◌<◌, List, [], ◌∷◌, length, get_or, arith}
use Rattle.std.specs.Int.{w64, from_le_bytes}
use Rattle.wb_sum.specs.Crc32c.{number, message}
use Rattle.wb_sum.proofs.Division.{number_message, number_none}

eight : (a b c d e f g h : ℕ) → a < 256 → b < 256 → c < 256 → d < 256 → e < 256 → f < 256 → g < 256 → h < 256
    → from_le_bytes w64 (a ∷ b ∷ c ∷ d ∷ e ∷ f ∷ g ∷ h ∷ []) ≡ number (message (a ∷ b ∷ c ∷ d ∷ e ∷ f ∷ g ∷ h ∷ []))
eight a b c d e f g h la lb lc ld le lf lg lh =
    omega (
      arith,
      number_message a (b ∷ c ∷ d ∷ e ∷ f ∷ g ∷ h ∷ []),
      number_message b (c ∷ d ∷ e ∷ f ∷ g ∷ h ∷ []),
      number_message c (d ∷ e ∷ f ∷ g ∷ h ∷ []),
      number_message d (e ∷ f ∷ g ∷ h ∷ []),
      number_message e (f ∷ g ∷ h ∷ []),
      number_message f (g ∷ h ∷ []),
      number_message g (h ∷ []),
      number_message h [],
      number_none,
    )

pub le_word : (bytes : List ℕ) → length bytes ≡ 8 → ((i : ℕ) → get_or bytes i 0 < 256) → from_le_bytes w64 bytes ≡ number (message bytes)
le_word [] size small = absurd (omega arith)
le_word (a ∷ []) size small = absurd (omega arith)
le_word (a ∷ b ∷ []) size small = absurd (omega arith)
le_word (a ∷ b ∷ c ∷ []) size small = absurd (omega arith)
le_word (a ∷ b ∷ c ∷ d ∷ []) size small = absurd (omega arith)
le_word (a ∷ b ∷ c ∷ d ∷ e ∷ []) size small = absurd (omega arith)
le_word (a ∷ b ∷ c ∷ d ∷ e ∷ f ∷ []) size small = absurd (omega arith)
le_word (a ∷ b ∷ c ∷ d ∷ e ∷ f ∷ g ∷ []) size small = absurd (omega arith)
le_word (a ∷ b ∷ c ∷ d ∷ e ∷ f ∷ g ∷ h ∷ []) size small = eight a b c d e f g h (small 0) (small 1) (small 2) (small 3) (small 4) (small 5) (small 6) (small 7)
le_word (a ∷ b ∷ c ∷ d ∷ e ∷ f ∷ g ∷ h ∷ i ∷ bytes) size small = absurd (omega arith)
