-- A contract's sums, row by row.
use mathlib.Core.Path.{◌≡◌}
use Prim.Native.Nat.{ℕ, ◌+◌, ◌≤◌, ◌<◌}
use native.Mathlib.Nat.{le_trans}
use native.Mathlib.Omega.{arith}
use lib.IntN.{ℤ}
use Rattle.numbers.proofs.Sums.{sum_none, sum_next, sum_most, total_none, total_next, in_total_most}
use Rattle.rules.specs.declared.units.Sides.{Sides}
use Rattle.book.specs.declared.positions.Position.{Position}
use Rattle.book.specs.Positions.{opening_of, held_sides, paired_of}
use Rattle.book.specs.Books.{Book}
use Rattle.validity.specs.Totals.{Ranged, PositionIn, TotalsFew, add_row, no_totals, totals_to}
use Rattle.validity.proofs.Facts.{position_in}

module _ (b : Book) (j : ℕ) where
  abbrev long_at : (Position → Sides) → ℕ → ℕ
  long_at count m = (count (b.position m j)).long.0

  abbrev short_at : (Position → Sides) → ℕ → ℕ
  short_at count m = (count (b.position m j)).short.0

  abbrev cash_at : ℕ → ℤ
  cash_at m = (b.position m j).cash.0

  pub totals_none : totals_to b j 0 ≡ no_totals
  unfolding totals_to
  totals_none i = record {
    long = record { opening = sum_none (long_at opening_of) i; held = sum_none (long_at held_sides) i; paired = sum_none (long_at paired_of) i };
    short = record { opening = sum_none (short_at opening_of) i; held = sum_none (short_at held_sides) i; paired = sum_none (short_at paired_of) i };
    cash = total_none cash_at i;
  }

  pub totals_next : (m : ℕ) → totals_to b j (m + 1) ≡ add_row (totals_to b j m) (b.position m j)
  unfolding totals_to
  totals_next m i = record {
    long = record { opening = sum_next (long_at opening_of) m i; held = sum_next (long_at held_sides) m i; paired = sum_next (long_at paired_of) m i };
    short = record { opening = sum_next (short_at opening_of) m i; held = sum_next (short_at held_sides) m i; paired = sum_next (short_at paired_of) m i };
    cash = total_next cash_at m i;
  }

  -- at most the lots of 32 members
  module _ (r : Ranged b) (few : b.head.members ≤ 32) (l : j < b.head.contracts) (n : ℕ) (le : n ≤ b.head.members) where
    at : (m : ℕ) → m < n → PositionIn (b.position m j)
    at m q = position_in b r m j (omega arith) l

    lots_few : (f : ℕ → ℕ) → ((m : ℕ) → m < n → f m ≤ 100_000) → Rattle.numbers.specs.Sum.sum_to f n ≤ 3_200_000
    lots_few f h = omega (arith, sum_most 100_000 f n h)

    pub totals_few : TotalsFew (totals_to b j n)
    unfolding totals_to
    totals_few = record {
      long = record {
        opening = lots_few (long_at opening_of) (λ m q. (at m q).long.opening);
        held = lots_few (long_at held_sides) (λ m q. (at m q).long.held);
        paired = lots_few (long_at paired_of) (λ m q. le_trans (at m q).long.paired (at m q).long.held);
      };
      short = record {
        opening = lots_few (short_at opening_of) (λ m q. (at m q).short.opening);
        held = lots_few (short_at held_sides) (λ m q. (at m q).short.held);
        paired = lots_few (short_at paired_of) (λ m q. le_trans (at m q).short.paired (at m q).short.held);
      };
      cash = in_total_most 32 cash_at n (omega arith) (λ m q. (at m q).cash);
    }
