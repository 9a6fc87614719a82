-- The fields of a row in its range fit their bytes.
use Prim.{tt}
use Prim.Native.Nat.{◌*◌, ◌^◌, ◌≤◌}
use native.Mathlib.Omega.{arith}
use Rattle.numbers.specs.Range.{In}
use Rattle.numbers.proofs.Ranges.{in_weaken, in_sfits}
use Rattle.book.specs.declared.contracts.Contract.{Contract}
use Rattle.book.specs.declared.members.Member.{Member}
use Rattle.book.specs.declared.positions.Side.{Side}
use Rattle.book.specs.declared.positions.Position.{Position}
use Rattle.book.proofs.Rows.{ContractFits, MemberFits, SideFits, PositionFits}
use Rattle.validity.specs.Totals.{SideIn}
use Rattle.validity.specs.InRange.{ContractIn, MemberIn, PositionIs}

pub contract_fits : (c : Contract) → ContractIn c → ContractFits c
contract_fits c i = record {
  terms = record {
    last = omega (arith, i.terms.last);
    multiplier = omega (arith, i.terms.multiplier);
    rate = omega (arith, i.terms.rate);
    fee = omega (arith, i.terms.fee);
    delivery = omega (arith, i.terms.delivery);
  };
  zero = omega (arith, i.zero);
}

-- the sums of a day of at most 20,000 records
pub deposits_most : (r : Member) → MemberIn r → In (2 * 10 ^ 16) r.day.deposits.0
deposits_most r i = in_weaken (omega (arith, i.accepted)) i.deposits.within

pub withdrawals_most : (r : Member) → MemberIn r → In (2 * 10 ^ 16) r.day.withdrawals.0
withdrawals_most r i = in_weaken (omega (arith, i.accepted)) i.withdrawals.within

pub member_fits : (r : Member) → MemberIn r → MemberFits r
member_fits r i = record {
  accepted = omega (arith, i.accepted);
  figures = record { reserve = in_sfits tt i.reserve; margin = in_sfits tt i.margin.within; usable = in_sfits tt i.usable.within };
  market = in_sfits tt i.market.within;
  discount = omega (arith, i.discount);
  deposits = in_sfits tt (deposits_most r i);
  withdrawals = in_sfits tt (withdrawals_most r i);
}

side_fits : (s : Side) → SideIn s → SideFits s
side_fits s i = record { opening = omega (arith, i.opening); closed = omega (arith, i.closed, i.opening); new = omega (arith, i.held); paired = omega (arith, i.paired, i.held) }

pub position_fits : (p : Position) → PositionIs p → p.traded.0 ≤ 200_000_000 → PositionFits p
position_fits p i most =
    let cash : In (2 * 10 ^ 15) p.cash.0 = in_weaken (omega arith) i.cash in
    record { long = side_fits p.long i.long; short = side_fits p.short i.short; cash = in_sfits tt cash; traded = omega arith; zero = omega (arith, i.zero) }
