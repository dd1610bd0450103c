use Rattle.std.proofs.Common.{ℕ, ◌≡◌, ◌/◌, List, length, Ok, refl, arith}
use Rattle.hex.specs.Hex.{decode_of}
use Rattle.hex.proofs.HexLemmas.{decode_of-ok}
use Rattle.wb_script.proofs.parsing.requests.pattern_of.Goals as goal

-- two digits a byte
half : (digits pattern : List ℕ) → decode_of digits ≡ Ok pattern → length digits / 2 ≡ length pattern
half digits pattern decoded = let two = (decode_of-ok digits pattern decoded).2 in omega (arith, two)

pub returns-then-not-is_size-clause-refused : goal.returns-then-not-is_size-clause-refused
returns-then-not-is_size-clause-refused c = λ _. (
  refl,
  λ pattern decoded fills.
      let holds = c.is_size.ensures.1 (rw (half c.args.digits.now pattern decoded) (fills.some, fills.whole)) in
      cc,
)

pub returns-in-Ok-clause-fills : goal.returns-in-Ok-clause-fills
returns-in-Ok-clause-fills c =
    let size = c.is_size.ensures.0 c.if-not-is_size.false in
    let two = half c.args.digits.now c.in-Ok.bytes.items c.in-Ok.ensures.ok in
    rw c.of.ensures (record {
      some = rw (← two) size.0;
      whole = rw (← two) size.1;
    })
