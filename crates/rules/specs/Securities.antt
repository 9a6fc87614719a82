-- 000, articles 56 and 57: what a member's securities count for.
use Rattle.std.specs.Prelude.{cond, ℕ, pos, ◌*ℤ◌}
use Rattle.std.specs.Int.Signed.{lt_z, quot_z}
use Rattle.numbers.specs.Choice.{smaller_of}
use Rattle.rules.specs.Units.{Fen, fen}

-- market value × discount rate: 000, article 56; rounded down (house)
abbrev pub discounted_of : (market : Fen) (discount : ℕ) → Fen
discounted_of market discount = fen (quot_z (market.0 *ℤ pos discount) (pos 10_000))

-- the smaller of discounted securities and 4 times money, 0 if money is negative: 000, article 57
abbrev pub usable_of : (discounted money : Fen) → Fen
usable_of discounted money = fen (cond (lt_z money.0 (pos 0)) (pos 0) (smaller_of discounted.0 (pos 4 *ℤ money.0)))
