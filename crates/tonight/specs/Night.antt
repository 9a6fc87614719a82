-- 01, Evening settlement: a member's night, from the book and what settlement is given.
use Rattle.std.specs.Prelude.{ℕ, ◌^◌, Bool, ◌+ℤ◌, pos}
use Rattle.numbers.specs.Sum.{total_to}
use Rattle.folds.specs.Tests.{all_to}
use Rattle.rules.specs.declared.units.Fen.{Fen}
use Rattle.rules.specs.declared.units.Prices.{Prices}
use Rattle.rules.specs.declared.units.Figures.{Figures}
use Rattle.rules.specs.Units.{fen}
use Rattle.rules.specs.Members.{standing_of, call_of}
use Rattle.rules.specs.Money.{withdrawable_of}
use Rattle.rules.specs.Securities.{discounted_of}
use Rattle.rules.specs.Margin.{remaining_of, larger_side_of, margin_of}
use Rattle.rules.specs.Profit.{profit_of}
use Rattle.rules.specs.Fee.{fee_of}
use Rattle.rules.specs.Night.{figures_tonight_of}
use Rattle.book.specs.declared.contracts.Terms.{Terms}
use Rattle.book.specs.declared.members.Member.{Member}
use Rattle.book.specs.declared.positions.Position.{Position}
use Rattle.book.specs.Positions.{opening_of, held_sides, paired_of}
use Rattle.book.specs.Books.{Book}
use Rattle.validity.specs.Valid.{about_zero}
use Rattle.tonight.specs.Given.{Given}
use Rattle.tonight.specs.Prices.{prices_by}
pub use Rattle.tonight.specs.declared.tallies.Tally.{Tally}
pub use Rattle.tonight.specs.declared.nights.Night.{Night}

-- ---- one member in one contract

-- 000, articles 31 and 50
abbrev pub profit_by : Terms → Position → Prices → Fen
profit_by t p prices = profit_of t.multiplier p.cash (held_sides p) (opening_of p) (paired_of p) prices

-- 000, articles 27 and 47
abbrev pub fee_by : Terms → Position → Fen
fee_by t p = fee_of p.traded (paired_of p) t.fee t.delivery

-- on the larger side of the remaining lots, at tonight's price: 000, articles 25 and 26
abbrev pub margin_by : Terms → Position → Prices → Fen
margin_by t p prices = margin_of (larger_side_of (remaining_of (held_sides p) (paired_of p))) prices.tonight t.multiplier t.rate

abbrev pub tally_by : Terms → Position → Prices → Tally
tally_by t p prices = record { profit = profit_by t p prices; fee = fee_by t p; margin = margin_by t p prices }

unfoldable pub tally_in : Book → Given → ℕ → ℕ → Tally
tally_in b given m j = tally_by (b.contract j).terms (b.position m j) (prices_by (b.contract j).terms.last given.prices j)

-- ---- one member over its contracts

abbrev pub add_tally : Tally → Tally → Tally
add_tally t u = record {
  profit = fen (t.profit.0 +ℤ u.profit.0);
  fee = fen (t.fee.0 +ℤ u.fee.0);
  margin = fen (t.margin.0 +ℤ u.margin.0);
}

abbrev pub no_tally : Tally
no_tally = record { profit = fen (pos 0); fee = fen (pos 0); margin = fen (pos 0) }

-- the totals over the first k contracts
unfoldable pub tally_to : Book → Given → ℕ → ℕ → Tally
tally_to b given m k = record {
  profit = fen (total_to (λ (j : ℕ). (tally_in b given m j).profit.0) k);
  fee = fen (total_to (λ (j : ℕ). (tally_in b given m j).fee.0) k);
  margin = fen (total_to (λ (j : ℕ). (tally_in b given m j).margin.0) k);
}

-- ---- tonight's figures and the sheet's nine fields

-- 000, articles 33, 56 and 57
abbrev pub figures_after : Member → Tally → Figures
figures_after r t =
    figures_tonight_of r.figures (record { profit = t.profit; deposits = r.day.deposits; withdrawals = r.day.withdrawals; fee = t.fee })
    (discounted_of r.securities.market r.securities.discount) t.margin

-- 000, articles 34 and 37
abbrev pub night_by : ℕ → Member → Tally → Figures → Night
night_by m r t figures = record {
  member = m;
  profit = t.profit;
  fee = t.fee;
  figures = figures;
  withdrawable = withdrawable_of r.kind figures;
  call = call_of r.kind figures.reserve;
  standing = standing_of r.kind figures.reserve;
}

abbrev pub night_after : ℕ → Member → Tally → Night
night_after m r t = night_by m r t (figures_after r t)

unfoldable pub night_of : Book → Given → ℕ → Night
night_of b given m = night_after m (b.member m) (tally_to b given m b.head.contracts)

-- every member's reserve tonight in −10^15..10^15: 01, refusal 9
unfoldable pub reserves_ok : Book → Given → Bool
reserves_ok b given = all_to (λ (m : ℕ). about_zero (10 ^ 15) (night_of b given m).figures.reserve) b.head.members
