-- The tests of a contract's row, a member's and a position's, as facts and back.
use mathlib.Core.Path.{◌≡◌}
use mathlib.Core.Bool.{true}
use mathlib.Core.List.{[], ◌∷◌}
use Prim.Native.Nat.{ℕ, ◌*◌, ◌^◌, ◌<◌, zero-le}
use native.Mathlib.Omega.{arith}
use borrow.Author.Tests.{leb-true, eqb-true, le-leb, eq-eqb}
use lib.Dec.{leb}
use lib.IntN.{ℤ, pos, negsuc, nat_abs}
use lib.Signed.{◌≤ℤ◌}
use Rattle.std.proofs.lemmas.Bool.{and_parts}
use Rattle.numbers.specs.Range.{In}
use Rattle.folds.specs.Tests.{all_of, between}
use Rattle.std.specs.Cmp.Derive.{both_true}
use Rattle.folds.proofs.Tests.{each, between_high}
use Rattle.rules.specs.declared.units.Fen.{Fen}
use Rattle.rules.specs.Units.{fen}
use Rattle.rules.specs.Ranges.{Amount}
use Rattle.rules.proofs.Bounds.{amount}
use Rattle.book.specs.declared.contracts.Contract.{Contract}
use Rattle.book.specs.declared.members.Member.{Member}
use Rattle.book.specs.declared.positions.Side.{Side}
use Rattle.book.specs.declared.positions.Position.{Position}
use Rattle.book.specs.Positions.{held_of}
use Rattle.book.specs.Books.{Book}
use Rattle.validity.specs.Valid.{up_to, contract_tests, member_tests, side_tests, position_tests}
use Rattle.validity.specs.Totals.{Ranged, SideIn}
use Rattle.validity.specs.InRange.{ContractIn, MemberIn, PositionIs}
use Rattle.validity.proofs.Facts.{contract_row, member_row_lem, side_in, cash_most}

-- ---- amounts of 0 up to some most

pub amount_of : (most : ℕ) (sum : Fen) → up_to most sum ≡ true → Amount most sum
amount_of most sum e = of sum.0 e
  where
    of : (z : ℤ) → up_to most (fen z) ≡ true → Amount most (fen z)
    of (pos n) e = amount (leb-true n most (and_parts (leb 0 n) (leb n most) e).1)
    of (negsuc n) e = let z : ◌≡◌ {A = ℕ} 0 1 = cc in absurd (omega arith)

pub of_amount : (most : ℕ) (sum : Fen) → Amount most sum → up_to most sum ≡ true
of_amount most sum a = of sum.0 a.within a.low
  where
    of : (z : ℤ) → In most z → pos 0 ≤ℤ z → up_to most (fen z) ≡ true
    of (pos n) w l = both_true (le-leb 0 n zero-le) (le-leb n most w.within)
    of (negsuc n) w l = absurd l.le

-- ---- contracts

pub contract_is : (c : Contract) → all_of (contract_tests c) ≡ true → ContractIn c
contract_is c e =
    let t = each (contract_tests c) e in
    record {
      terms = record {
        last = between_high 1 10_000_000 c.terms.last.0 (t 0);
        multiplier = between_high 1 100 c.terms.multiplier (t 1);
        rate = between_high 1 10_000 c.terms.rate (t 2);
        fee = leb-true c.terms.fee 100_000 (t 3);
        delivery = leb-true c.terms.delivery 100_000 (t 4);
      };
      zero = eqb-true c.zero 0 (t 5);
    }

pub contract_in_lem : (b : Book) → Ranged b → (j : ℕ) → j < b.head.contracts → ContractIn (b.contract j)
contract_in_lem b r j l = contract_is (b.contract j) (contract_row b r.rows j l)

-- ---- members

pub member_is : (r : Member) → all_of (member_tests r) ≡ true → MemberIn r
member_is r e =
    let t = each (member_tests r) e in
    record {
      accepted = leb-true r.accepted 20_000 (t 0);
      reserve = record { within = leb-true (nat_abs r.figures.reserve.0) (10 ^ 15) (t 1) };
      margin = amount_of (10 ^ 16) r.figures.margin (t 2);
      usable = amount_of (10 ^ 15) r.figures.usable (t 3);
      market = amount_of (10 ^ 15) r.securities.market (t 4);
      discount = leb-true r.securities.discount 8_000 (t 5);
      deposits = amount_of (10 ^ 12 * r.accepted) r.day.deposits (t 6);
      withdrawals = amount_of (10 ^ 12 * r.accepted) r.day.withdrawals (t 7);
    }

pub member_in : (b : Book) → Ranged b → (m : ℕ) → m < b.head.members → MemberIn (b.member m)
member_in b r m l = member_is (b.member m) (and_parts (between 1 2 (b.kind_number m)) (all_of (member_tests (b.member m))) (member_row_lem b r.rows m l)).1

pub in_member : (r : Member) → MemberIn r → all_of (member_tests r) ≡ true
in_member r m i = all_of (
    le-leb r.accepted 20_000 m.accepted i
    ∷ le-leb (nat_abs r.figures.reserve.0) (10 ^ 15) m.reserve.within i
    ∷ of_amount (10 ^ 16) r.figures.margin m.margin i
    ∷ of_amount (10 ^ 15) r.figures.usable m.usable i
    ∷ of_amount (10 ^ 15) r.securities.market m.market i
    ∷ le-leb r.securities.discount 8_000 m.discount i
    ∷ of_amount (10 ^ 12 * r.accepted) r.day.deposits m.deposits i
    ∷ of_amount (10 ^ 12 * r.accepted) r.day.withdrawals m.withdrawals i
    ∷ [])

-- ---- positions

pub position_is : (p : Position) → all_of (position_tests p) ≡ true → PositionIs p
position_is p e =
    let t = each (position_tests p) e in
    record { long = side_in p.long (t 0); short = side_in p.short (t 1); cash = record { within = cash_most p e }; zero = eqb-true p.zero 0 (t 3) }

in_side : (s : Side) → SideIn s → all_of (side_tests s) ≡ true
in_side s k i = all_of (
    le-leb s.closed.0 s.opening.0 k.closed i
    ∷ le-leb s.opening.0 100_000 k.opening i
    ∷ le-leb (held_of s) 100_000 k.held i
    ∷ le-leb s.paired.0 (held_of s) k.paired i
    ∷ [])

pub is_position : (p : Position) → PositionIs p → all_of (position_tests p) ≡ true
is_position p k i = all_of (
    in_side p.long k.long i
    ∷ in_side p.short k.short i
    ∷ le-leb (nat_abs p.cash.0) (10_000_000 * p.traded.0) k.cash.within i
    ∷ eq-eqb p.zero 0 k.zero i
    ∷ [])
