-- Fills posted to a row one after the other: the row's sums are those of the day's lots.
use mathlib.Core.Path.{◌≡◌, refl}
use mathlib.Core.Bool.{Bool, true}
use mathlib.Core.List.{List, [], ◌∷◌, ◌++◌}
use Prim.Native.Nat.{ℕ, ◌+◌, ◌≤◌}
use native.Mathlib.Omega.{arith}
use borrow.Author.Tests.{leb-true}
use lib.Dec.{leb}
use borrow.Author.Differences.{ints}
use lib.IntN.{◌+ℤ◌}
use lib.ListN.{length}
use Rattle.std.proofs.lemmas.Bool.{and_parts}
use Rattle.numbers.specs.Sum.{sum_of}
use Rattle.rules.specs.declared.units.Price.{Price}
use Rattle.profit.specs.Day.{SideDay, cash_of}
use Rattle.book.specs.declared.positions.Side.{Side}
use Rattle.book.specs.declared.positions.Position.{Position}
use Rattle.book.specs.Positions.{held_of}
use Rattle.requests.specs.declared.records.Mark.TheVariants.{Opens, ClosesOld, ClosesNew}
use Rattle.posting.specs.declared.fills.Way.TheVariants.{Long, Short}
use Rattle.posting.specs.declared.fills.Party.TheVariants.{Buyer, Seller}
use Rattle.posting.specs.Fills.{way_of, side_on, with_side, paired_up, dealt, enough}
use Rattle.promises.proofs.OnePrice.{many, sum_many}
use Rattle.promises.specs.Dealings.{Fill, dealing, delivering, prices_of, traded_of, day_from}

-- the row after a fill, and that it had lots enough
abbrev pub filled : Fill → Position → Position
filled (dealing party mark price n) p = dealt party mark price n p
filled (delivering way n) p = with_side way (paired_up n.0 (side_on way p)) p

abbrev pub allows : Fill → Position → Bool
allows (dealing party mark price n) p = enough mark n.0 (side_on (way_of party mark) p)
allows (delivering way n) p = true

-- from one row to another, each fill allowed by the row that it met
pub data Moves : Position → List Fill → Position → Type 0 where
  none : {a : Position} → Moves a [] a
  next : {a b : Position} {f : Fill} {fs : List Fill} → allows f a ≡ true → Moves (filled f a) fs b → Moves a (f ∷ fs) b

pub join : {a b c : Position} {fs gs : List Fill} → Moves a fs b → Moves b gs c → Moves a (fs ++ gs) c
join none y = y
join (next e x) y = next e (join x y)

-- ---- a row and the lots

-- the side t is s after the lots of d
pub record Grew (d : SideDay) (s t : Side) : Type 0 where
  pub opening : t.opening ≡ d.opening
  pub closed : t.closed.0 ≡ s.closed.0 + length d.closed_old
  pub new : t.new.0 + length d.closed_today ≡ s.new.0 + length d.opened
  pub paired : t.paired.0 ≡ s.paired.0 + d.paired.0

pub record Grown (a : Position) (fs : List Fill) (b : Position) : Type 0 where
  pub long : Grew (day_from a fs).long a.long b.long
  pub short : Grew (day_from a fs).short a.short b.short
  pub cash : b.cash.0 ≡ a.cash.0 +ℤ (cash_of (day_from a fs)).0
  pub traded : b.traded.0 ≡ a.traded.0 + traded_of fs

-- no more of today's lots are closed than there are
under : (n : ℕ) (s : Side) → enough ClosesNew n s ≡ true → n ≤ s.new.0
under n s e = leb-true n s.new.0 (and_parts (leb n s.new.0) (leb (s.paired.0 + n) (held_of s)) e).0

pub grown : {a b : Position} {fs : List Fill} → Moves a fs b → Grown a fs b
unfolding sum_of
grown {a} none = record {
  long = record { opening = refl; closed = omega arith; new = omega arith; paired = omega arith };
  short = record { opening = refl; closed = omega arith; new = omega arith; paired = omega arith };
  cash = omega (arith, ints);
  traded = omega arith;
}
grown {a} {b} (next {f = dealing Buyer Opens price n} {fs = fs} e moves) =
    let g = grown moves in
    let before : List Price = prices_of Buyer Opens fs in
    record {
      long = record { opening = g.long.opening; closed = g.long.closed; new = omega (arith, many n.0 price before, g.long.new); paired = omega (arith, g.long.paired) };
      short = record { opening = g.short.opening; closed = g.short.closed; new = g.short.new; paired = omega (arith, g.short.paired) };
      cash = omega (arith, ints, g.cash, sum_many n.0 price before);
      traded = omega (arith, g.traded);
    }
grown {a} {b} (next {f = dealing Buyer ClosesOld price n} {fs = fs} e moves) =
    let g = grown moves in
    let before : List Price = prices_of Buyer ClosesOld fs in
    record {
      long = record { opening = g.long.opening; closed = g.long.closed; new = g.long.new; paired = omega (arith, g.long.paired) };
      short = record { opening = g.short.opening; closed = omega (arith, many n.0 price before, g.short.closed); new = g.short.new; paired = omega (arith, g.short.paired) };
      cash = omega (arith, ints, g.cash, sum_many n.0 price before);
      traded = omega (arith, g.traded);
    }
grown {a} {b} (next {f = dealing Buyer ClosesNew price n} {fs = fs} e moves) =
    let g = grown moves in
    let before : List Price = prices_of Buyer ClosesNew fs in
    record {
      long = record { opening = g.long.opening; closed = g.long.closed; new = g.long.new; paired = omega (arith, g.long.paired) };
      short = record { opening = g.short.opening; closed = g.short.closed; new = omega (arith, many n.0 price before, g.short.new, under n.0 a.short e); paired = omega (arith, g.short.paired) };
      cash = omega (arith, ints, g.cash, sum_many n.0 price before);
      traded = omega (arith, g.traded);
    }
grown {a} {b} (next {f = dealing Seller Opens price n} {fs = fs} e moves) =
    let g = grown moves in
    let before : List Price = prices_of Seller Opens fs in
    record {
      long = record { opening = g.long.opening; closed = g.long.closed; new = g.long.new; paired = omega (arith, g.long.paired) };
      short = record { opening = g.short.opening; closed = g.short.closed; new = omega (arith, many n.0 price before, g.short.new); paired = omega (arith, g.short.paired) };
      cash = omega (arith, ints, g.cash, sum_many n.0 price before);
      traded = omega (arith, g.traded);
    }
grown {a} {b} (next {f = dealing Seller ClosesOld price n} {fs = fs} e moves) =
    let g = grown moves in
    let before : List Price = prices_of Seller ClosesOld fs in
    record {
      long = record { opening = g.long.opening; closed = omega (arith, many n.0 price before, g.long.closed); new = g.long.new; paired = omega (arith, g.long.paired) };
      short = record { opening = g.short.opening; closed = g.short.closed; new = g.short.new; paired = omega (arith, g.short.paired) };
      cash = omega (arith, ints, g.cash, sum_many n.0 price before);
      traded = omega (arith, g.traded);
    }
grown {a} {b} (next {f = dealing Seller ClosesNew price n} {fs = fs} e moves) =
    let g = grown moves in
    let before : List Price = prices_of Seller ClosesNew fs in
    record {
      long = record { opening = g.long.opening; closed = g.long.closed; new = omega (arith, many n.0 price before, g.long.new, under n.0 a.long e); paired = omega (arith, g.long.paired) };
      short = record { opening = g.short.opening; closed = g.short.closed; new = g.short.new; paired = omega (arith, g.short.paired) };
      cash = omega (arith, ints, g.cash, sum_many n.0 price before);
      traded = omega (arith, g.traded);
    }
grown {a} {b} (next {f = delivering Long n} {fs = fs} e moves) =
    let g = grown moves in
    record {
      long = record { opening = g.long.opening; closed = g.long.closed; new = g.long.new; paired = omega (arith, g.long.paired) };
      short = record { opening = g.short.opening; closed = g.short.closed; new = g.short.new; paired = omega (arith, g.short.paired) };
      cash = g.cash;
      traded = omega (arith, g.traded);
    }
grown {a} {b} (next {f = delivering Short n} {fs = fs} e moves) =
    let g = grown moves in
    record {
      long = record { opening = g.long.opening; closed = g.long.closed; new = g.long.new; paired = omega (arith, g.long.paired) };
      short = record { opening = g.short.opening; closed = g.short.closed; new = g.short.new; paired = omega (arith, g.short.paired) };
      cash = g.cash;
      traded = omega (arith, g.traded);
    }
