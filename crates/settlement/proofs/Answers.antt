-- What the answer 0 says, and the answer and the buffers by whether the book is valid.
use mathlib.Core.Path.{◌≡◌, refl, ap, ◌∙◌}
use mathlib.Core.Bool.{true, false, not, cond}
use mathlib.Core.List.{List}
use Prim.Native.Nat.{ℕ, ◌*◌, ◌≤◌, ◌<◌}
use borrow.Author.Tests.{ltb-false, not-false, lt-ltb, le-ltb}
use lib.Dec.{ltb}
use lib.ListN.{length}
use Rattle.folds.specs.First.{on_zero}
use Rattle.folds.specs.Laid.{over}
use Rattle.folds.proofs.First.{none_holds}
use Rattle.book.specs.Layout.{book_length}
use Rattle.book.specs.Books.{Book, book_at}
use Rattle.validity.specs.Valid.{valid_book}
use Rattle.tonight.specs.Given.{Given}
use Rattle.tonight.specs.Prices.{prices_ok}
use Rattle.tonight.specs.Night.{reserves_ok}
use Rattle.settlement.specs.Next.{result_size, next_bytes, result_bytes}
use Rattle.settlement.specs.Settle.{evening_rules, evening_answer, settle_answer, next_after, results_after}

pub record Accepted (b : Book) (given : Given) (next_length results_length : ℕ) : Type 0 where
  pub prices : prices_ok b given.prices ≡ true
  pub next : book_length b.head ≤ next_length
  pub results : b.head.members * result_size ≤ results_length
  pub reserves : reserves_ok b given ≡ true

pub accepted : (b : Book) (given : Given) (next_length results_length : ℕ) → evening_answer b given next_length results_length ≡ 0 → Accepted b given next_length results_length
unfolding evening_answer
accepted b given next_length results_length e =
    let t = none_holds (evening_rules b given next_length results_length) refl e in
    record {
      prices = not-false (prices_ok b given.prices) (t 0);
      next = ltb-false next_length (book_length b.head) (t 1);
      results = ltb-false results_length (b.head.members * result_size) (t 2);
      reserves = not-false (reserves_ok b given) (t 3);
    }

-- of a valid book, rule by rule
module _ (b : Book) (given : Given) (next_length results_length : ℕ) where
  pub answer_prices : prices_ok b given.prices ≡ false → evening_answer b given next_length results_length ≡ 8
  unfolding evening_answer
  answer_prices p = rw p

  module _ (p : prices_ok b given.prices ≡ true) where
    pub answer_next : next_length < book_length b.head → evening_answer b given next_length results_length ≡ 11
    unfolding evening_answer
    answer_next l = rw (p, lt-ltb next_length (book_length b.head) l)

    pub answer_room : book_length b.head ≤ next_length → evening_answer b given next_length results_length
        ≡ cond (ltb results_length (b.head.members * result_size)) 11 (cond (not (reserves_ok b given)) 9 0)
    unfolding evening_answer
    answer_room l = rw (p, le-ltb next_length (book_length b.head) l)

    pub answer_results : book_length b.head ≤ next_length → results_length < b.head.members * result_size → evening_answer b given next_length results_length ≡ 11
    answer_results l k = answer_room l ∙ rw (lt-ltb results_length (b.head.members * result_size) k)

    pub answer_reserves : book_length b.head ≤ next_length → b.head.members * result_size ≤ results_length
        → evening_answer b given next_length results_length ≡ cond (not (reserves_ok b given)) 9 0
    answer_reserves l k = answer_room l ∙ rw (le-ltb results_length (b.head.members * result_size) k)

module _ (xs : List ℕ) (given : Given) where
  pub answer_invalid : (next_length results_length : ℕ) → valid_book xs ≡ false → settle_answer xs given next_length results_length ≡ 10
  unfolding settle_answer
  answer_invalid next_length results_length e = rw e

  pub answer_valid : (next_length results_length : ℕ) → valid_book xs ≡ true → settle_answer xs given next_length results_length ≡ evening_answer (book_at xs) given next_length results_length
  unfolding settle_answer evening_answer
  answer_valid next_length results_length e = rw e

  module _ (next results : List ℕ) where
    pub next_by : (r : ℕ) → settle_answer xs given (length next) (length results) ≡ r → next_after xs given next results ≡ on_zero r (over (next_bytes (book_at xs) given) next) next
    unfolding next_after
    next_by r e = ap (λ (n : ℕ). on_zero n (over (next_bytes (book_at xs) given) next) next) e

    pub results_by : (r : ℕ) → settle_answer xs given (length next) (length results) ≡ r → results_after xs given next results ≡ on_zero r (over (result_bytes (book_at xs) given) results) results
    unfolding results_after
    results_by r e = ap (λ (n : ℕ). on_zero n (over (result_bytes (book_at xs) given) results) results) e
