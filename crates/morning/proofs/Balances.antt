-- As many remaining lots are long as short, since held and paired lots are.
use mathlib.Core.Path.{◌≡◌}
use mathlib.Core.Bool.{true}
use Prim.Native.Nat.{ℕ, ◌-◌, ◌<◌}
use native.Mathlib.Omega.{arith}
use Rattle.numbers.specs.Sum.{sum_to}
use Rattle.numbers.proofs.Sums.{sum_less}
use Rattle.book.specs.Positions.{held_of}
use Rattle.book.specs.Books.{Book}
use Rattle.validity.specs.Valid.{valid_rows}
use Rattle.validity.specs.Totals.{Ranged, PositionIn}
use Rattle.validity.proofs.Facts.{position_in}
use Rattle.validity.proofs.AsFacts.{balance_of}

module _ (b : Book) (e : valid_rows b ≡ true) (r : Ranged b) (j : ℕ) (l : j < b.head.contracts) where
  abbrev n : ℕ
  n = b.head.members

  at : (m : ℕ) → m < n → PositionIn (b.position m j)
  at m q = position_in b r m j q l

  abbrev pub long_left : ℕ → ℕ
  long_left m = held_of (b.position m j).long - (b.position m j).long.paired.0

  abbrev pub short_left : ℕ → ℕ
  short_left m = held_of (b.position m j).short - (b.position m j).short.paired.0

  pub remaining_even : sum_to long_left n ≡ sum_to short_left n
  remaining_even =
      omega (
        arith,
        sum_less (λ (m : ℕ). held_of (b.position m j).long) (λ (m : ℕ). (b.position m j).long.paired.0) n (λ m q. (at m q).long.paired),
        sum_less (λ (m : ℕ). held_of (b.position m j).short) (λ (m : ℕ). (b.position m j).short.paired.0) n (λ m q. (at m q).short.paired),
        (balance_of b e).held j l,
        (balance_of b e).paired j l,
      )
