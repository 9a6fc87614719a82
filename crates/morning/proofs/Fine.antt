-- Each row of the next book is in its range: what is carried was so in the old book, what is new by tonight's bounds.
use mathlib.Core.Path.{◌≡◌}
use mathlib.Core.Bool.{true}
use mathlib.Core.List.{List, [], ◌∷◌}
use Prim.{tt}
use Prim.Native.Nat.{ℕ, ◌-◌, ◌*◌, ◌^◌, ◌≤◌, ◌<◌, zero-le}
use native.Mathlib.Nat.{le_refl}
use native.Mathlib.Omega.{arith}
use borrow.Author.Tests.{leb-true}
use lib.Dec.{eqb, lit≤}
use lib.IntN.{nat_abs}
use lib.ListN.{length, get_or}
use Rattle.std.proofs.lemmas.Bool.{and_parts}
use Rattle.numbers.proofs.Ranges.{in_lit}
use Rattle.folds.specs.Tests.{all_to, all_of, between}
use Rattle.folds.proofs.Tests.{all_at, each}
use Rattle.rules.specs.Units.{lots}
use Rattle.rules.specs.Ranges.{Amount}
use Rattle.rules.specs.Money.{money_of}
use Rattle.rules.specs.Securities.{discounted_of}
use Rattle.rules.specs.Night.{money_tonight_of}
use Rattle.rules.proofs.Bounds.{amount, amount_more, discounted_in, usable_in}
use Rattle.book.specs.declared.heads.Head.{Head}
use Rattle.book.specs.declared.members.Member.{Member}
use Rattle.book.specs.declared.positions.Position.{Position}
use Rattle.book.specs.Positions.{held_of}
use Rattle.book.specs.Books.{Book, book_by}
use Rattle.validity.specs.Valid.{about_zero, contract_tests}
use Rattle.validity.specs.Totals.{Ranged, SideIn, PositionIn}
use Rattle.validity.specs.InRange.{MemberIn, PositionIs}
use Rattle.validity.proofs.Facts.{contract_row}
use Rattle.validity.proofs.RowTests.{member_in}
use Rattle.tonight.specs.Given.{Given}
use Rattle.tonight.specs.Prices.{pair_size, tonight_at, delivery_at, none_paired, pair_tests, pair_ok, prices_ok}
use Rattle.tonight.specs.Night.{tally_to, night_of}
use Rattle.tonight.specs.Evening.{Evening}
use Rattle.tonight.proofs.Sums.{tally_few}
use Rattle.settlement.specs.Next.{next_contract, next_member, opened, position_after}

-- ---- positions

side_fine : (n : ℕ) → n ≤ 100_000 → SideIn (opened (lots n))
side_fine n l = record { closed = zero-le; opening = l; held = omega arith; paired = zero-le }

pub position_fine : (p : Position) → PositionIn p → PositionIs (position_after p)
position_fine p h = record {
  long = side_fine (held_of p.long - p.long.paired.0) (omega (arith, h.long.held));
  short = side_fine (held_of p.short - p.short.paired.0) (omega (arith, h.short.held));
  cash = in_lit tt;
  zero = λ i. 0;
}

-- ---- contracts

module _ (b : Book) (given : Given) (r : Ranged b) (e : prices_ok b given.prices ≡ true) (j : ℕ) (l : j < b.head.contracts) where
  tonight_ok : between 1 10_000_000 (tonight_at given.prices j).0 ≡ true
  unfolding prices_ok
  tonight_ok =
      let k = b.head.contracts in
      each (pair_tests (tonight_at given.prices j) (delivery_at given.prices j) (none_paired b j)) (all_at (pair_ok b given.prices) k (and_parts (eqb (length given.prices) (k * pair_size)) (all_to (pair_ok b given.prices) k) e).1 j l) 0

  old : (i : ℕ) → get_or (contract_tests (b.contract j)) i true ≡ true
  old = each (contract_tests (b.contract j)) (contract_row b r.rows j l)

  pub contract_fine : all_of (contract_tests (next_contract b given j)) ≡ true
  contract_fine i = all_of (tonight_ok i ∷ old 1 i ∷ old 2 i ∷ old 3 i ∷ old 4 i ∷ old 5 i ∷ [])

-- ---- members

module _ (xs : List ℕ) (given : Given) (h : Head) (e : Evening xs given h) (m : ℕ) (l : m < h.members) where
  abbrev b : Book
  b = book_by h xs

  abbrev row : Member
  row = b.member m

  margin_up : Amount (10 ^ 16) (night_of b given m).figures.margin
  unfolding night_of
  margin_up = amount_more (night_of b given m).figures.margin (lit≤ tt) (tally_few xs given h e m l h.contracts (le_refl h.contracts)).margin

  usable_up : Amount (10 ^ 15) (night_of b given m).figures.usable
  unfolding night_of
  usable_up =
      let t = tally_to b given m h.contracts in
      let i = member_in b e.ranged m l in
      amount_more {A = 8 * 10 ^ 14} (night_of b given m).figures.usable (lit≤ tt)
      (usable_in (discounted_of row.securities.market row.securities.discount) (money_tonight_of (money_of row.figures) t.profit row.day.deposits row.day.withdrawals t.fee)
      (discounted_in row.securities.market row.securities.discount i.market i.discount))

  -- with tonight's reserve in its range: refusal 9
  pub member_fine : about_zero (10 ^ 15) (night_of b given m).figures.reserve ≡ true → MemberIn (next_member b given m)
  member_fine reserve =
      let i = member_in b e.ranged m l in
      record {
        accepted = zero-le;
        reserve = record { within = leb-true (nat_abs (night_of b given m).figures.reserve.0) (10 ^ 15) reserve };
        margin = margin_up;
        usable = usable_up;
        market = i.market;
        discount = i.discount;
        deposits = amount zero-le;
        withdrawals = amount zero-le;
      }
