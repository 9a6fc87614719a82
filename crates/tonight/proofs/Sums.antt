-- A member's totals, contract by contract, and their range; and that of its figures tonight.
use mathlib.Core.Path.{◌≡◌}
use mathlib.Core.List.{List}
use Prim.Native.Nat.{ℕ, ◌+◌, ◌≤◌, ◌<◌}
use native.Mathlib.Omega.{arith}
use lib.IntN.{ℤ}
use Rattle.numbers.proofs.Sums.{total_none, total_next, in_total_most}
use Rattle.rules.proofs.Totals.{total_in}
use Rattle.book.specs.declared.heads.Head.{Head}
use Rattle.book.specs.Books.{Book, book_by}
use Rattle.tonight.specs.Given.{Given}
use Rattle.tonight.specs.Prices.{prices_by}
use Rattle.tonight.specs.Night.{tally_in, add_tally, no_tally, tally_to}
use Rattle.tonight.specs.Evening.{Evening, TallyFew}
use Rattle.tonight.proofs.Facts.{rows_in, tally_one}

module _ (b : Book) (given : Given) (m : ℕ) where
  abbrev profit_at : ℕ → ℤ
  profit_at j = (tally_in b given m j).profit.0

  abbrev fee_at : ℕ → ℤ
  fee_at j = (tally_in b given m j).fee.0

  abbrev margin_at : ℕ → ℤ
  margin_at j = (tally_in b given m j).margin.0

  pub tally_none : tally_to b given m 0 ≡ no_tally
  unfolding tally_to
  tally_none = cc (total_none profit_at, total_none fee_at, total_none margin_at)

  pub tally_next : (j : ℕ) → tally_to b given m (j + 1) ≡ add_tally (tally_to b given m j) (tally_in b given m j)
  unfolding tally_to
  tally_next j = cc (total_next profit_at j, total_next fee_at j, total_next margin_at j)

module _ (xs : List ℕ) (given : Given) (h : Head) (e : Evening xs given h) (m : ℕ) (l : m < h.members) where
  pub tally_at : (j : ℕ) → j < h.contracts → TallyFew 1 (tally_in (book_by h xs) given m j)
  unfolding tally_in
  tally_at j q = tally_one ((book_by h xs).contract j).terms ((book_by h xs).position m j) (prices_by ((book_by h xs).contract j).terms.last given.prices j) (rows_in xs given h e m j l q)

  pub tally_few : (k : ℕ) → k ≤ h.contracts → TallyFew 32 (tally_to (book_by h xs) given m k)
  unfolding tally_to
  tally_few k q =
      let few : k ≤ 32 = omega (arith, e.shaped.contracts) in
      record {
        profit = in_total_most 32 (profit_at (book_by h xs) given m) k few (λ j p. (tally_at j (omega arith)).profit);
        fee = total_in 32 (fee_at (book_by h xs) given m) k few (λ j p. (tally_at j (omega arith)).fee);
        margin = total_in 32 (margin_at (book_by h xs) given m) k few (λ j p. (tally_at j (omega arith)).margin);
      }
