-- Sums over a list of lots: one lot picked out, each set against one price, and each turned round.
use mathlib.Core.Path.{◌≡◌, refl, ap}
use mathlib.Core.List.{List, [], ◌∷◌}
use Prim.Native.Nat.{suc}
use native.Mathlib.Omega.{arith}
use lib.ListN.{length}
use borrow.Author.Differences.{ints}
use lib.IntN.{ℤ, pos, neg_ℤ, ◌+ℤ◌, ◌-ℤ◌, ◌*ℤ◌, suc_ℤ-*ℤ}
use Rattle.numbers.specs.Sum.{sum_of}
use Rattle.rules.specs.declared.units.Price.{Price}
use Rattle.profit.specs.Day.{sum_over, worth}
use Rattle.profit.specs.Article31.{Pick, here, there, of_longs, of_shorts, gain}

pub sum_picked : {price : Price} {opened rest : List Price} (f : Price → ℤ) → Pick price opened rest → sum_over f opened ≡ f price +ℤ sum_over f rest
unfolding sum_of
sum_picked f here = refl
sum_picked {price} f (there {other} {rest = rest} pick) = omega (arith, ints, sum_picked f pick)

pub length_picked : {price : Price} {opened rest : List Price} → Pick price opened rest → length opened ≡ suc (length rest)
length_picked here = refl
length_picked (there pick) = ap suc (length_picked pick)

pub turned : {A : Type 0} (f g : A → ℤ) → ((x : A) → f x ≡ neg_ℤ (g x)) → (xs : List A) → sum_over f xs ≡ neg_ℤ (sum_over g xs)
unfolding sum_of
turned f g h [] = refl
turned f g h (x ∷ xs) =
    omega (arith, ints, h x, turned f g h xs)

-- shorts gain what longs lose
pub gain_turned : (from to : Price) → gain of_shorts from to ≡ neg_ℤ (gain of_longs from to)
gain_turned from to = omega (arith, ints)

pub from_one : (from : Price) (prices : List Price) → sum_over (gain of_longs from) prices ≡ sum_over worth prices -ℤ pos (length prices) *ℤ worth from
unfolding sum_of
from_one from [] = omega (arith, ints)
from_one from (price ∷ prices) =
    omega (arith, ints, from_one from prices, suc_ℤ-*ℤ (pos (length prices)) (worth from))

pub to_one : (to : Price) (prices : List Price) → sum_over (λ price. gain of_longs price to) prices ≡ pos (length prices) *ℤ worth to -ℤ sum_over worth prices
unfolding sum_of
to_one to [] = omega (arith, ints)
to_one to (price ∷ prices) =
    omega (arith, ints, to_one to prices, suc_ℤ-*ℤ (pos (length prices)) (worth to))
