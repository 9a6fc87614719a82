-- Whichever lot each closing closes, closing and holding together come to one sum: a lot's opening price is taken off once, in the one or in the other.
use mathlib.Core.Path.{◌≡◌, refl}
use mathlib.Core.List.{List, [], ◌∷◌}
use Prim.Native.Nat.{suc, ◌-◌, ◌≤◌, zero-le}
use native.Mathlib.Omega.{arith}
use lib.ListN.{length}
use borrow.Author.Differences.{ints}
use lib.IntN.{pos, neg_ℤ, ◌+ℤ◌, ◌-ℤ◌, ◌*ℤ◌}
use Rattle.numbers.specs.Sum.{sum_of}
use Rattle.rules.specs.declared.units.Price.{Price}
use Rattle.rules.specs.declared.units.Prices.{Prices}
use Rattle.profit.specs.Day.{sum_over, worth}
use Rattle.profit.specs.Article31.{here, Pairing, held, closing, of_longs, of_shorts, closed_today, left_open, held_today}
use Rattle.profit.proofs.Sums.{sum_picked, length_picked, gain_turned, to_one}

-- no more is closed than was opened
pub no_more : {opened closed : List Price} → Pairing opened closed → length closed ≤ length opened
no_more held = zero-le
no_more (closing pick pairing) = omega (arith, no_more pairing, length_picked pick)

-- and then there is a pairing
pub some_pairing : (opened closed : List Price) → length closed ≤ length opened → Pairing opened closed
some_pairing opened [] h = held
some_pairing [] (to ∷ closed) h = absurd (omega arith)
some_pairing (from ∷ opened) (to ∷ closed) h = closing here (some_pairing opened closed (omega arith))

pub any_pairing : {opened closed : List Price} (prices : Prices) (pairing : Pairing opened closed) →
    closed_today of_longs pairing +ℤ held_today of_longs prices pairing
    ≡ sum_over worth closed -ℤ sum_over worth opened +ℤ pos (length opened - length closed) *ℤ worth prices.tonight
unfolding closed_today left_open sum_of
any_pairing prices (held {opened}) =
    let e : length opened - 0 ≡ length opened = omega arith in
    rw e (omega (arith, ints, to_one prices.tonight opened))
any_pairing prices (closing {from} {to} {opened} {rest} {closed} pick pairing) =
    let e : length opened - suc (length closed) ≡ length rest - length closed = omega (arith, length_picked pick) in
    rw e (omega (arith, ints, any_pairing prices pairing, sum_picked worth pick))

pub closed_turned : {opened closed : List Price} (pairing : Pairing opened closed) → closed_today of_shorts pairing ≡ neg_ℤ (closed_today of_longs pairing)
unfolding closed_today
closed_turned held = refl
closed_turned (closing {from} {to} pick pairing) =
    omega (arith, ints, gain_turned from to, closed_turned pairing)
