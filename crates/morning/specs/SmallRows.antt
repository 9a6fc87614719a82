-- 01, Case E: the rows that the examples' books are made of: a contract, and two members with ten lots between them. Money in fen.
use Rattle.std.specs.Prelude.{ℕ, pos, neg_ℤ}
use Rattle.rules.specs.declared.members.MemberKind.TheVariants.{Broker, Other}
use Rattle.rules.specs.declared.units.Fen.{Fen}
use Rattle.rules.specs.Units.{fen, lots, price}
use Rattle.book.specs.declared.contracts.Contract.{Contract}
use Rattle.book.specs.declared.members.Member.{Member}
use Rattle.book.specs.declared.positions.Side.{Side}
use Rattle.book.specs.declared.positions.Position.{Position}

abbrev pub amount : ℕ → Fen
amount n = fen (pos n)

abbrev pub minus : ℕ → Fen
minus n = fen (neg_ℤ (pos n))

-- last price 500,000, multiplier 10, rate 500, fees 300 and 100
abbrev pub contract : Contract
contract = record { terms = record { last = price 500_000; multiplier = 10; rate = 500; fee = 300; delivery = 100 }; zero = 0 }

-- member 0: a broker, reserve 300,000,000, margin 2,500,000
abbrev pub broker : Member
broker = record {
  kind = Broker;
  accepted = 0;
  figures = record { reserve = amount 300_000_000; margin = amount 2_500_000; usable = amount 0 };
  securities = record { market = amount 0; discount = 0 };
  day = record { deposits = amount 0; withdrawals = amount 0 };
}

-- member 1: another, reserve 80,000,000, margin 2,500,000
abbrev pub other : Member
other = record broker { kind = Other; figures = record broker.figures { reserve = amount 80_000_000 } }

-- a side that opens with so many lots, of which none is dealt in yet
abbrev opening : ℕ → Side
opening n = record { opening = lots n; closed = lots 0; new = lots 0; paired = lots 0 }

abbrev pub opens : (long short : ℕ) → Position
opens long short = record { long = opening long; short = opening short; cash = amount 0; traded = lots 0; zero = 0 }

-- member 0: opening long 10
abbrev pub longs : Position
longs = opens 10 0

-- member 1: opening short 10
abbrev pub shorts : Position
shorts = opens 0 10
