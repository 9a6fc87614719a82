-- The lens laws of the book: what is seen of other members' places stays, and an account put back reads back.
use mathlib.Core.Path.{refl}
use mathlib.Core.List.{List}
use Prim.Native.Nat.{ℕ, ◌≤◌}
use native.Mathlib.Omega.{arith}
use lib.ListN.{length}
use Rattle.order.specs.Lens.{Laws, Stores}
use Rattle.book.specs.Layout.{Head, book_length}
use Rattle.book.specs.Accounts.{Account, account_at, Within, Far}
use Rattle.book.specs.Views.{sights}
use Rattle.book.proofs.Rows.{MemberFits, PositionFits}
use Rattle.book.proofs.LensLaws.{length_account, head_put, get_put, put_put, account_back}

-- a book of the head h has room in xs
abbrev pub Room : Head → List ℕ → Type 0
Room h xs = book_length h ≤ length xs

pub record Fits (a : Account) : Type 0 where
  pub member : MemberFits a.member
  pub position : PositionFits a.position

pub laws : Laws sights Room Within Far
laws = record {
  head_put = head_put;
  head_add = λ h s c. refl;
  sound_put = λ h s p x room. omega (arith, room, length_account h s p x);
  sound_add = λ h s c room. room;
  see_put = λ h s p q x far i. record { account = get_put h s p q x far i };
  put_put = put_put;
  see_add = λ h s c p w. refl;
  put_add = λ h s c p x w. refl;
  add_add = λ h s c c' room. refl;
}

pub stores : Stores sights account_at Room Within Far Fits
stores = record {
  get_back = λ h s p x room w fits. account_back h s p x room w fits.member fits.position;
  get_put = get_put;
  get_add = λ h s c p w. refl;
}
