-- The rows and the sums of a valid book as facts, and that these facts are its validity.
use mathlib.Core.Path.{◌≡◌, ap}
use mathlib.Core.Bool.{Bool, true}
use mathlib.Core.List.{List, [], ◌∷◌}
use Prim.Native.Nat.{ℕ, ◌*◌, ◌≤◌, ◌<◌}
use native.Mathlib.Omega.{arith}
use borrow.Author.Differences.{ints}
use borrow.Author.Tests.{eqb-true, le-leb, eq-eqb}
use lib.Dec.{leb}
use lib.IntN.{pos, nat_abs}
use Rattle.std.specs.Cmp.Derive.{both_true}
use Rattle.std.proofs.lemmas.Bool.{and_parts}
use Rattle.numbers.specs.Sum.{sum_to}
use Rattle.folds.specs.Tests.{all_of, between}
use Rattle.folds.proofs.Tests.{all_at, all_of_lem, each}
use Rattle.rules.specs.declared.units.Sides.{Sides}
use Rattle.book.specs.declared.heads.Head.{Head}
use Rattle.book.specs.declared.positions.Position.{Position}
use Rattle.book.specs.Positions.{opening_of, held_sides, paired_of}
use Rattle.book.specs.Books.{Book}
use Rattle.validity.specs.Valid.{contract_tests, member_tests, contract_rows, member_row, member_rows, position_row, position_rows, rows_ok, traded_of, traded_ok, longs_to, shorts_to, cash_to, balance_tests, balanced, valid_rows}
use Rattle.validity.specs.InRange.{MemberIn, PositionIs}
use Rattle.validity.proofs.Facts.{contract_row, member_row_lem, position_row_lem, traded_of_lem}
use Rattle.validity.proofs.RowTests.{member_is, in_member, position_is, is_position}

-- every row in range, and each member's traded lots at most 10,000 to a record
pub record Rows (h : Head) (b : Book) : Type 0 where
  pub contracts : (j : ℕ) → j < h.contracts → all_of (contract_tests (b.contract j)) ≡ true
  pub kinds : (m : ℕ) → m < h.members → between 1 2 (b.kind_number m) ≡ true
  pub members : (m : ℕ) → m < h.members → MemberIn (b.member m)
  pub positions : (m j : ℕ) → m < h.members → j < h.contracts → PositionIs (b.position m j)
  pub traded : (m : ℕ) → m < h.members → sum_to (λ (j : ℕ). (b.position m j).traded.0) h.contracts ≤ 10_000 * (b.member m).accepted

-- of one count: in each contract as many long as short
abbrev pub Level : (Position → Sides) → Head → Book → Type 0
Level count h b = (j : ℕ) → j < h.contracts → longs_to count b j h.members ≡ shorts_to count b j h.members

pub record Balance (h : Head) (b : Book) : Type 0 where
  pub opening : Level opening_of h b
  pub held : Level held_sides h b
  pub paired : Level paired_of h b
  pub cash : (j : ℕ) → j < h.contracts → cash_to b j h.members ≡ pos 0

module _ (b : Book) (e : valid_rows b ≡ true) where
  abbrev parts : List Bool
  parts = rows_ok b ∷ traded_ok b ∷ balanced b ∷ []

  rows_ok_lem : rows_ok b ≡ true
  unfolding valid_rows
  rows_ok_lem = each parts e 0

  pub rows_of : Rows b.head b
  unfolding valid_rows
  rows_of = record {
    contracts = contract_row b rows_ok_lem;
    kinds = λ m l. (and_parts (between 1 2 (b.kind_number m)) (all_of (member_tests (b.member m))) (member_row_lem b rows_ok_lem m l)).0;
    members = λ m l. member_is (b.member m) (and_parts (between 1 2 (b.kind_number m)) (all_of (member_tests (b.member m))) (member_row_lem b rows_ok_lem m l)).1;
    positions = λ m j l k. position_is (b.position m j) (position_row_lem b rows_ok_lem m j l k);
    traded = traded_of_lem b (each parts e 1);
  }

  balance_at : (j : ℕ) → j < b.head.contracts → all_of (balance_tests b j) ≡ true
  unfolding valid_rows balanced
  balance_at j l = all_at (λ (i : ℕ). all_of (balance_tests b i)) b.head.contracts (each parts e 2) j l

  pub balance_of : Balance b.head b
  balance_of = record {
    opening = λ j l. eqb-true _ _ (each (balance_tests b j) (balance_at j l) 0);
    held = λ j l. eqb-true _ _ (each (balance_tests b j) (balance_at j l) 1);
    paired = λ j l. eqb-true _ _ (each (balance_tests b j) (balance_at j l) 2);
    cash = λ j l. omega (arith, ints, eqb-true (nat_abs (cash_to b j b.head.members)) 0 (each (balance_tests b j) (balance_at j l) 3));
  }

pub valid_of : (b : Book) → Rows b.head b → Balance b.head b → valid_rows b ≡ true
unfolding valid_rows contract_rows member_rows position_rows position_row traded_ok balanced
valid_of b r e =
    let contracts = all_of_lem (λ (j : ℕ). all_of (contract_tests (b.contract j))) b.head.contracts r.contracts in
    let members = all_of_lem (member_row b) b.head.members (λ m l. both_true (r.kinds m l) (in_member (b.member m) (r.members m l))) in
    let positions = all_of_lem (position_row b) b.head.members (λ m l. all_of_lem _ b.head.contracts (λ j k. is_position (b.position m j) (r.positions m j l k))) in
    let lots = all_of_lem (λ (m : ℕ). leb (traded_of b m) (10_000 * (b.member m).accepted)) b.head.members (λ m l. le-leb _ _ (r.traded m l)) in
    let even = all_of_lem (λ (j : ℕ). all_of (balance_tests b j)) b.head.contracts (λ j l i. all_of (eq-eqb _ _ (e.opening j l) i ∷ eq-eqb _ _ (e.held j l) i ∷ eq-eqb _ _ (e.paired j l) i ∷ eq-eqb _ _ (ap nat_abs (e.cash j l)) i ∷ [])) in
    λ i. all_of (all_of (contracts i ∷ members i ∷ positions i ∷ []) ∷ lots i ∷ even i ∷ [])
