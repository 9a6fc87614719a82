-- The answer and the book after it, on a valid book and on one that is not.
use mathlib.Core.Path.{◌≡◌, refl}
use mathlib.Core.Bool.{Bool, true, false}
use mathlib.Core.List.{List}
use Prim.Native.Nat.{ℕ}
use native.Mathlib.Omega.{arith}
use Rattle.validity.specs.Valid.{valid_book}
use Rattle.posting.specs.Answers.{says, step, answer, after}

module _ (book r : List ℕ) where
  pub valid_answer : valid_book book ≡ true → answer book r ≡ says book r
  unfolding answer
  valid_answer e = rw e

  pub valid_after : valid_book book ≡ true → after book r ≡ step book r
  unfolding after
  valid_after e = rw e

  pub invalid_answer : valid_book book ≡ false → answer book r ≡ 10
  unfolding answer
  invalid_answer e = rw e

  pub invalid_after : valid_book book ≡ false → after book r ≡ book
  unfolding after
  invalid_after e = rw e

  -- a record is accepted on a valid book alone
  pub accepted_valid : answer book r ≡ 0 → valid_book book ≡ true
  accepted_valid a = elim (valid_book book) as (λ (t : Bool). valid_book book ≡ t → t ≡ true) [ true ↦ λ e. refl | false ↦ λ e. absurd (omega (arith, invalid_answer e)) ] refl
