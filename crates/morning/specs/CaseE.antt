-- 01, Case E: the book after its one record, the prices, and what the evening gives, each from its rows. Money in fen.
use Rattle.std.specs.Prelude.{ℕ, List, [], ◌∷◌}
use Rattle.tonight.specs.Given.{Given}
use Rattle.folds.specs.Rows.{row_bytes}
use Rattle.rules.specs.declared.members.Standing.TheVariants.{MayOpen}
use Rattle.rules.specs.declared.units.Fen.{Fen}
use Rattle.rules.specs.declared.units.Figures.{Figures}
use Rattle.rules.specs.Units.{lots, price}
use Rattle.book.specs.declared.contracts.Contract.{Contract}
use Rattle.book.specs.declared.members.Member.{Member}
use Rattle.book.specs.declared.positions.Position.{Position}
use Rattle.book.specs.Whole.{rows_bytes, whole}
use Rattle.tonight.specs.declared.nights.Night.{Night}
use Rattle.tonight.specs.Prices.{pair_fields}
use Rattle.settlement.specs.Next.{result_fields}
use Rattle.morning.specs.SmallRows.{amount, minus, contract, broker, other, opens, longs, shorts}

-- ---- the book: member 1 has bought 4 lots from member 0 at 510,000, both closing 4 of 10 old lots

abbrev longs_less : Position
longs_less = record longs { long = record longs.long { closed = lots 4 }; cash = amount 2_040_000; traded = lots 4 }

abbrev shorts_less : Position
shorts_less = record shorts { short = record shorts.short { closed = lots 4 }; cash = minus 2_040_000; traded = lots 4 }

abbrev pub book_e : List ℕ
book_e = whole (contract ∷ []) (record broker { accepted = 1 } ∷ record other { accepted = 1 } ∷ []) (longs_less ∷ shorts_less ∷ [])

-- ---- the prices: 505,000 and 0

abbrev pub given_e : Given
given_e = record { prices = row_bytes (pair_fields (price 505_000) (price 0)) }

-- ---- the next book: last price 505,000; reserves 301,683,800 and 80,283,800, margins 1,515,000; 6 lots

abbrev contract_next : Contract
contract_next = record contract { terms = record contract.terms { last = price 505_000 } }

abbrev figures_next : (reserve : Fen) → Figures
figures_next reserve = record { reserve = reserve; margin = amount 1_515_000; usable = amount 0 }

abbrev broker_next : Member
broker_next = record broker { figures = figures_next (amount 301_683_800) }

abbrev other_next : Member
other_next = record other { figures = figures_next (amount 80_283_800) }

abbrev longs_next : Position
longs_next = opens 6 0

abbrev shorts_next : Position
shorts_next = opens 0 6

abbrev pub next_e : List ℕ
next_e = whole (contract_next ∷ []) (broker_next ∷ other_next ∷ []) (longs_next ∷ shorts_next ∷ [])

-- ---- the results: 0 700000 1200 1515000 0 301683800 101683800 0 0, and 1 −700000 1200 1515000 0 80283800 30283800 0 0

abbrev broker_night : Night
broker_night = record {
  member = 0;
  profit = amount 700_000;
  fee = amount 1_200;
  figures = broker_next.figures;
  withdrawable = amount 101_683_800;
  call = amount 0;
  standing = MayOpen;
}

abbrev other_night : Night
other_night = record {
  member = 1;
  profit = minus 700_000;
  fee = amount 1_200;
  figures = other_next.figures;
  withdrawable = amount 30_283_800;
  call = amount 0;
  standing = MayOpen;
}

abbrev pub results_e : List ℕ
results_e = rows_bytes result_fields (broker_night ∷ other_night ∷ [])
