-- An account of a valid book; what a posting may make of it; and that its fields fit their bytes.
use mathlib.Core.Path.{◌≡◌}
use Prim.Native.Nat.{◌+◌, ◌*◌, ◌≤◌}
use native.Mathlib.Omega.{arith}
use Rattle.book.specs.declared.accounts.Account.{Account}
use Rattle.book.proofs.Rows.{PositionFits}
use Rattle.validity.specs.InRange.{MemberIn, PositionIs}
use Rattle.validity.proofs.Fits as fits

-- an account of a valid book
pub record Sound (a : Account) : Type 0 where
  pub member : MemberIn a.member
  pub position : PositionIs a.position
  pub traded : a.position.traded.0 ≤ 10_000 * a.member.accepted

-- what a posting may make of the account a: the same kind, rows in range, and at most 10,000 lots more traded to each record more accepted
pub record Fine (a b : Account) : Type 0 where
  pub kind : b.member.kind ≡ a.member.kind
  pub member : MemberIn b.member
  pub position : PositionIs b.position
  pub traded : b.position.traded.0 + 10_000 * a.member.accepted ≤ a.position.traded.0 + 10_000 * b.member.accepted

pub sound_next : {a b : Account} → Sound a → Fine a b → Sound b
sound_next s f = record { member = f.member; position = f.position; traded = omega (arith, s.traded, f.traded) }

pub position_fits : {a : Account} → Sound a → PositionFits a.position
position_fits {a} s = fits.position_fits a.position s.position (omega (arith, s.traded, s.member.accepted))
