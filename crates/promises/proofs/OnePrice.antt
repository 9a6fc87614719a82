-- A number of lots at one price, before other lots: how many there are, and what they come to.
use mathlib.Core.Path.{◌≡◌, ap, ◌∙◌}
use mathlib.Core.List.{List, ◌++◌}
use Prim.Native.Nat.{ℕ, zero, suc, ◌+◌, ◌*◌}
use native.Mathlib.Nat.{suc-mul}
use native.Mathlib.Omega.{arith}
use borrow.Author.Differences.{ints}
use lib.IntN.{pos, ◌+ℤ◌}
use lib.ListN.{length, replicate, length-append, length-replicate}
use Rattle.numbers.specs.Sum.{sum_of}
use Rattle.rules.specs.declared.units.Price.{Price}
use Rattle.profit.specs.Day.{sum_over, worth}

pub many : (n : ℕ) (price : Price) (prices : List Price) → length (replicate n price ++ prices) ≡ n + length prices
many n price prices = length-append (replicate n price) prices ∙ ap (λ (x : ℕ). x + length prices) (length-replicate n price)

pub sum_many : (n : ℕ) (price : Price) (prices : List Price) → sum_over worth (replicate n price ++ prices) ≡ pos (n * price.0) +ℤ sum_over worth prices
unfolding sum_of
sum_many zero price prices = omega (arith, ints)
sum_many (suc n) price prices = omega (arith, ints, sum_many n price prices, suc-mul n price.0)
