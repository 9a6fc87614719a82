-- What a valid book and prices that have passed say of the ranges of a night.
use mathlib.Core.Path.{◌≡◌}
use mathlib.Core.Bool.{true}
use mathlib.Core.List.{List}
use Prim.{tt}
use Prim.Native.Nat.{ℕ, ◌*◌, ◌<◌}
use native.Mathlib.Nat.{le_trans}
use native.Mathlib.Omega.{arith}
use borrow.Author.Tests.{leb-true, eqb-true}
use lib.Dec.{eqb, lit≤}
use lib.ListN.{length}
use Rattle.std.proofs.lemmas.Bool.{and_parts}
use Rattle.numbers.proofs.Ranges.{in_weaken}
use Rattle.folds.specs.Tests.{all_to}
use Rattle.folds.proofs.Tests.{all_at, each, between_high}
use Rattle.rules.specs.declared.units.Prices.{Prices}
use Rattle.rules.specs.Ranges.{AtMost, SidesIn, ProfitIn, FeeIn, MarginIn, FiguresIn, FiguresTonightIn}
use Rattle.rules.specs.Margin.{remaining_of, larger_side_of}
use Rattle.rules.specs.declared.units.Movements.{Movements}
use Rattle.rules.specs.Securities.{discounted_of}
use Rattle.rules.proofs.Bounds.{profit_in, fee_in, margin_in, discounted_in, figures_tonight_in}
use Rattle.book.specs.declared.heads.Head.{Head}
use Rattle.book.specs.declared.contracts.Terms.{Terms}
use Rattle.book.specs.declared.members.Member.{Member}
use Rattle.book.specs.declared.positions.Position.{Position}
use Rattle.book.specs.Positions.{opening_of, held_sides, paired_of}
use Rattle.book.specs.Books.{Book, book_by}
use Rattle.validity.specs.Totals.{PositionIn}
use Rattle.validity.specs.InRange.{MemberIn}
use Rattle.validity.proofs.Facts.{position_in, traded_most}
use Rattle.validity.proofs.RowTests.{contract_in_lem}
use Rattle.validity.proofs.Fits.{deposits_most, withdrawals_most}
use Rattle.tonight.specs.Given.{Given}
use Rattle.tonight.specs.Prices.{pair_size, tonight_at, delivery_at, prices_by, none_paired, pair_tests, pair_ok, prices_ok}
use Rattle.tonight.specs.Night.{Tally, tally_by, figures_after}
use Rattle.tonight.specs.Evening.{Priced, Evening, RowsIn, TallyFew}

-- ---- prices

pub priced : (b : Book) (ps : List ℕ) → prices_ok b ps ≡ true → Priced b.head ps
unfolding prices_ok
priced b ps e =
    let k = b.head.contracts in
    let exact = (and_parts (eqb (length ps) (k * pair_size)) (all_to (pair_ok b ps) k) e).0 in
    let pairs = (and_parts (eqb (length ps) (k * pair_size)) (all_to (pair_ok b ps) k) e).1 in
    let tests = λ (j : ℕ) (l : j < k). each (pair_tests (tonight_at ps j) (delivery_at ps j) (none_paired b j)) (all_at (pair_ok b ps) k pairs j l) in
    record {
      enough = omega (arith, eqb-true (length ps) (k * pair_size) exact);
      tonight = λ j l. between_high 1 10_000_000 (tonight_at ps j).0 (tests j l 0);
      delivery = λ j l. leb-true (delivery_at ps j).0 10_000_000 (tests j l 1);
    }

pub rows_in : (xs : List ℕ) (given : Given) (h : Head) → Evening xs given h → (m j : ℕ) → m < h.members → j < h.contracts →
    RowsIn ((book_by h xs).contract j).terms ((book_by h xs).position m j) (prices_by ((book_by h xs).contract j).terms.last given.prices j)
rows_in xs given h e m j l q =
    let terms = (contract_in_lem (book_by h xs) e.ranged j q).terms in
    record {
      terms = terms;
      position = position_in (book_by h xs) e.ranged m j l q;
      traded = traded_most (book_by h xs) e.ranged m j l q;
      evening = record { last_in = terms.last; tonight_in = e.priced.tonight j q; delivery_in = e.priced.delivery j q };
    }

-- ---- what the rules ask

pub paired_held : (p : Position) → PositionIn p → AtMost (paired_of p) (held_sides p)
paired_held p h = record { long = h.long.paired; short = h.short.paired }

paired_in : (p : Position) → PositionIn p → SidesIn (paired_of p)
paired_in p h = record { long_in = le_trans h.long.paired h.long.held; short_in = le_trans h.short.paired h.short.held }

module _ (t : Terms) (p : Position) (prices : Prices) (h : RowsIn t p prices) where
  pub profit_asks : ProfitIn t.multiplier p.cash (held_sides p) (opening_of p) (paired_of p) prices
  profit_asks = record {
    multiplier_in = h.terms.multiplier;
    cash_in = h.position.cash;
    held_in = record { long_in = h.position.long.held; short_in = h.position.short.held };
    opening_in = record { long_in = h.position.long.opening; short_in = h.position.short.opening };
    paired_in = paired_in p h.position;
    prices_in = h.evening;
  }

  pub fee_asks : FeeIn p.traded (paired_of p) t.fee t.delivery
  fee_asks = record { traded_in = h.traded; paired_in = paired_in p h.position; trade_fee_in = h.terms.fee; delivery_fee_in = h.terms.delivery }

  pub margin_asks : MarginIn (larger_side_of (remaining_of (held_sides p) (paired_of p))) prices.tonight t.multiplier t.rate
  margin_asks = record {
    charged_in = omega (arith, h.position.long.held, h.position.short.held);
    price_in = h.evening.tonight_in;
    multiplier_in = h.terms.multiplier;
    rate_in = h.terms.rate;
  }

  pub tally_one : TallyFew 1 (tally_by t p prices)
  tally_one = record {
    profit = profit_in t.multiplier p.cash (held_sides p) (opening_of p) (paired_of p) prices profit_asks;
    fee = fee_in p.traded (paired_of p) t.fee t.delivery fee_asks;
    margin = margin_in (larger_side_of (remaining_of (held_sides p) (paired_of p))) prices.tonight t.multiplier t.rate margin_asks;
  }

-- ---- tonight's figures

module _ (r : Member) (t : Tally) (h : MemberIn r) (few : TallyFew 32 t) where
  abbrev pub moved : Movements
  moved = record { profit = t.profit; deposits = r.day.deposits; withdrawals = r.day.withdrawals; fee = t.fee }

  pub figures_asks : FiguresTonightIn r.figures moved (discounted_of r.securities.market r.securities.discount) t.margin
  figures_asks =
      let d = discounted_in r.securities.market r.securities.discount h.market h.discount in
      record {
        reserve_in = h.reserve;
        morning_margin_in = h.margin.within;
        usable_in = h.usable.within;
        profit_in = in_weaken (lit≤ tt) few.profit;
        deposits_in = deposits_most r h;
        withdrawals_in = withdrawals_most r h;
        fee_in = in_weaken (lit≤ tt) few.fee.within;
        discounted_in = record { within = in_weaken (lit≤ tt) d.within; low = d.low };
        margin_in = in_weaken (lit≤ tt) few.margin.within;
      }

  -- so that room, call and standing may be asked of them
  pub figures_in : FiguresIn (figures_after r t)
  figures_in = figures_tonight_in r.figures moved (discounted_of r.securities.market r.securities.discount) t.margin figures_asks
