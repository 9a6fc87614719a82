-- 01, Day records: what a trade and a pairing do to a position, and what refusals 4, 5 and 7 ask of it. One side at a time.
use Rattle.std.specs.Prelude.{ℕ, ◌+◌, ◌-◌, ◌*◌, Bool, true, ◌&&◌, leb, pos, ◌+ℤ◌, ◌-ℤ◌}
use Rattle.rules.specs.declared.units.Lots.{Lots}
use Rattle.rules.specs.declared.units.Price.{Price}
use Rattle.rules.specs.declared.units.Fen.{Fen}
use Rattle.rules.specs.Units.{fen, lots}
use Rattle.book.specs.declared.positions.Side.{Side}
use Rattle.book.specs.declared.positions.Position.{Position}
use Rattle.book.specs.Positions.{held_of}
use Rattle.requests.specs.declared.records.Mark.{Mark}
use Rattle.requests.specs.declared.records.Mark.TheVariants.{Opens, ClosesOld, ClosesNew}
pub use Rattle.posting.specs.declared.fills.Way.{Way}
pub use Rattle.posting.specs.declared.fills.Way.TheVariants.{Long, Short}
pub use Rattle.posting.specs.declared.fills.Party.{Party}
pub use Rattle.posting.specs.declared.fills.Party.TheVariants.{Buyer, Seller}

-- a buyer opens longs and closes shorts, a seller opens shorts and closes longs
abbrev pub way_of : Party → Mark → Way
way_of Buyer Opens = Long
way_of Buyer ClosesOld = Short
way_of Buyer ClosesNew = Short
way_of Seller Opens = Short
way_of Seller ClosesOld = Long
way_of Seller ClosesNew = Long

abbrev pub side_on : Way → Position → Side
side_on Long p = p.long
side_on Short p = p.short

abbrev pub with_side : Way → Side → Position → Position
with_side Long s p = record { long = s; short = p.short; cash = p.cash; traded = p.traded; zero = p.zero }
with_side Short s p = record { long = p.long; short = s; cash = p.cash; traded = p.traded; zero = p.zero }

-- n lots under a mark: opened, old lots closed, lots of today closed
abbrev pub marked : Mark → ℕ → Side → Side
marked Opens n s = record { opening = s.opening; closed = s.closed; new = lots (s.new.0 + n); paired = s.paired }
marked ClosesOld n s = record { opening = s.opening; closed = lots (s.closed.0 + n); new = s.new; paired = s.paired }
marked ClosesNew n s = record { opening = s.opening; closed = s.closed; new = lots (s.new.0 - n); paired = s.paired }

-- n lots paired for delivery
abbrev pub paired_up : ℕ → Side → Side
paired_up n s = record { opening = s.opening; closed = s.closed; new = s.new; paired = lots (s.paired.0 + n) }

-- lots sold × price less lots bought × price
abbrev pub paid : Party → Price → Lots → Fen → Fen
paid Buyer price n cash = fen (cash.0 -ℤ pos (n.0 * price.0))
paid Seller price n cash = fen (cash.0 +ℤ pos (n.0 * price.0))

-- one party's side of a trade
abbrev pub dealt : Party → Mark → Price → Lots → Position → Position
dealt party mark price n p =
    let q = with_side (way_of party mark) (marked mark n.0 (side_on (way_of party mark) p)) p in
    record { long = q.long; short = q.short; cash = paid party price n p.cash; traded = lots (p.traded.0 + n.0); zero = p.zero }

-- ---- refusals

-- 4: the lots under the mark (1: opening − closed old; 2: new) are not fewer than asked, and the close leaves no fewer held than paired
abbrev pub enough : Mark → ℕ → Side → Bool
enough Opens n s = true
enough ClosesOld n s = leb n (s.opening.0 - s.closed.0) && leb (s.paired.0 + n) (held_of s)
enough ClosesNew n s = leb n s.new.0 && leb (s.paired.0 + n) (held_of s)

-- 5: the held side does not pass 100,000
abbrev pub roomy : Mark → ℕ → Side → Bool
roomy Opens n s = leb (held_of s + n) 100_000
roomy ClosesOld n s = true
roomy ClosesNew n s = true

-- 7: the held lots less those paired are not fewer
abbrev pub free : ℕ → Side → Bool
free n s = leb (s.paired.0 + n) (held_of s)
