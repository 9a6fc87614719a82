-- What the parts of a valid book say of each row and each field.
use mathlib.Core.Path.{◌≡◌}
use mathlib.Core.Bool.{true}
use mathlib.Core.List.{List, [], ◌∷◌}
use Prim.Native.Nat.{ℕ, ◌*◌, ◌≤◌, ◌<◌}
use native.Mathlib.Omega.{arith}
use borrow.Author.Tests.{leb-true, eqb-true}
use lib.Dec.{leb}
use lib.IntN.{nat_abs}
use lib.ListN.{length}
use Rattle.std.proofs.lemmas.Bool.{and_parts}
use Rattle.numbers.proofs.Sums.{sum_has}
use Rattle.folds.specs.Tests.{all_of, between}
use Rattle.folds.proofs.Tests.{all_at, each, between_low, between_high}
use Rattle.book.specs.declared.positions.Side.{Side}
use Rattle.book.specs.declared.positions.Position.{Position}
use Rattle.book.specs.Layout.{head_size, most_members, most_contracts, book_length}
use Rattle.book.specs.Heads.{head_at, total_of}
use Rattle.book.specs.Positions.{held_of}
use Rattle.book.specs.Books.{Book, book_at}
use Rattle.book.specs.Accounts.{Shaped}
use Rattle.validity.specs.Valid.{head_tests, head_ok, contract_tests, member_tests, side_tests, position_tests, contract_rows, member_row, member_rows, position_row, position_rows, rows_ok, traded_of, traded_ok, balanced, valid_rows, valid_book}
use Rattle.validity.specs.Totals.{Ranged, SideIn, PositionIn}

-- ---- the head

-- the first contract is there
pub has_contract : (xs : List ℕ) → head_ok xs ≡ true → 0 < (head_at xs).contracts
unfolding head_ok
has_contract xs e =
    let counts = each (head_tests xs) e 1 in
    let k = (and_parts (between 1 most_members (head_at xs).members) (between 1 most_contracts (head_at xs).contracts) counts).1 in
    omega (arith, between_low 1 most_contracts (head_at xs).contracts k)

pub head_shaped : (xs : List ℕ) → head_ok xs ≡ true → Shaped xs (head_at xs)
unfolding head_ok
head_shaped xs e =
    let counts = each (head_tests xs) e 1 in
    let n = (and_parts (between 1 most_members (head_at xs).members) (between 1 most_contracts (head_at xs).contracts) counts).0 in
    let k = (and_parts (between 1 most_members (head_at xs).members) (between 1 most_contracts (head_at xs).contracts) counts).1 in
    record {
      members = between_high 1 most_members (head_at xs).members n;
      contracts = between_high 1 most_contracts (head_at xs).contracts k;
      enough = omega (arith, eqb-true (length xs) (total_of xs) (each (head_tests xs) e 4), eqb-true (total_of xs) (book_length (head_at xs)) (each (head_tests xs) e 2));
    }

-- ---- rows

pub contract_row : (b : Book) → rows_ok b ≡ true → (j : ℕ) → j < b.head.contracts → all_of (contract_tests (b.contract j)) ≡ true
unfolding contract_rows
contract_row b e j l =
    all_at (λ (i : ℕ). all_of (contract_tests (b.contract i))) b.head.contracts (each (contract_rows b ∷ member_rows b ∷ position_rows b ∷ []) e 0) j l

pub member_row_lem : (b : Book) → rows_ok b ≡ true → (m : ℕ) → m < b.head.members → member_row b m ≡ true
unfolding member_rows
member_row_lem b e m l = all_at (member_row b) b.head.members (each (contract_rows b ∷ member_rows b ∷ position_rows b ∷ []) e 1) m l

pub position_row_lem : (b : Book) → rows_ok b ≡ true → (m j : ℕ) → m < b.head.members → j < b.head.contracts → all_of (position_tests (b.position m j)) ≡ true
unfolding position_rows position_row
position_row_lem b e m j l l' =
    all_at (λ (i : ℕ). all_of (position_tests (b.position m i))) b.head.contracts
    (all_at (position_row b) b.head.members (each (contract_rows b ∷ member_rows b ∷ position_rows b ∷ []) e 2) m l) j l'

-- ---- fields

pub side_in : (s : Side) → all_of (side_tests s) ≡ true → SideIn s
side_in s e = record {
  closed = leb-true s.closed.0 s.opening.0 (each (side_tests s) e 0);
  opening = leb-true s.opening.0 100_000 (each (side_tests s) e 1);
  held = leb-true (held_of s) 100_000 (each (side_tests s) e 2);
  paired = leb-true s.paired.0 (held_of s) (each (side_tests s) e 3);
}

pub cash_most : (p : Position) → all_of (position_tests p) ≡ true → nat_abs p.cash.0 ≤ 10_000_000 * p.traded.0
cash_most p e = leb-true (nat_abs p.cash.0) (10_000_000 * p.traded.0) (each (position_tests p) e 2)

pub accepted_most : (b : Book) → rows_ok b ≡ true → (m : ℕ) → m < b.head.members → (b.member m).accepted ≤ 20_000
accepted_most b e m l =
    leb-true (b.member m).accepted 20_000 (each (member_tests (b.member m)) (and_parts (between 1 2 (b.kind_number m)) (all_of (member_tests (b.member m))) (member_row_lem b e m l)).1 0)

-- ---- over a member's contracts

pub traded_of_lem : (b : Book) → traded_ok b ≡ true → (m : ℕ) → m < b.head.members → traded_of b m ≤ 10_000 * (b.member m).accepted
unfolding traded_ok
traded_of_lem b e m l =
    leb-true (traded_of b m) (10_000 * (b.member m).accepted) (all_at (λ (i : ℕ). leb (traded_of b i) (10_000 * (b.member i).accepted)) b.head.members e m l)

pub traded_most : (b : Book) → Ranged b → (m j : ℕ) → m < b.head.members → j < b.head.contracts → (b.position m j).traded.0 ≤ 200_000_000
traded_most b r m j l l' =
    omega (arith, sum_has (λ (i : ℕ). (b.position m i).traded.0) b.head.contracts j l', traded_of_lem b r.traded m l, accepted_most b r.rows m l)

pub position_in : (b : Book) → Ranged b → (m j : ℕ) → m < b.head.members → j < b.head.contracts → PositionIn (b.position m j)
position_in b r m j l l' =
    let p : Position = b.position m j in
    let e = position_row_lem b r.rows m j l l' in
    record {
      long = side_in p.long (each (position_tests p) e 0);
      short = side_in p.short (each (position_tests p) e 1);
      cash = record { within = omega (arith, cash_most p e, traded_most b r m j l l') };
    }

-- ---- the whole

module _ (xs : List ℕ) (e : valid_book xs ≡ true) where
  pub valid_head : head_ok xs ≡ true
  unfolding valid_book
  valid_head = (and_parts (head_ok xs) (valid_rows (book_at xs)) e).0

  pub valid_rows_lem : valid_rows (book_at xs) ≡ true
  unfolding valid_book
  valid_rows_lem = (and_parts (head_ok xs) (valid_rows (book_at xs)) e).1

  pub valid_shaped : Shaped xs (head_at xs)
  valid_shaped = head_shaped xs valid_head

  pub valid_ranged : Ranged (book_at xs)
  unfolding valid_rows
  valid_ranged =
      let l = rows_ok (book_at xs) ∷ traded_ok (book_at xs) ∷ balanced (book_at xs) ∷ [] in
      record { rows = each l valid_rows_lem 0; traded = each l valid_rows_lem 1 }

  pub valid_balanced : balanced (book_at xs) ≡ true
  unfolding valid_rows
  valid_balanced = each (rows_ok (book_at xs) ∷ traded_ok (book_at xs) ∷ balanced (book_at xs) ∷ []) valid_rows_lem 2

pub head_room : (xs : List ℕ) → head_ok xs ≡ true → head_size ≤ length xs
unfolding head_ok
head_room xs e = leb-true head_size (length xs) (each (head_tests xs) e 0)
