-- 01, Refusal numbers and Evening settlement: the answer, and what is lent, afterwards.
use Rattle.std.specs.Prelude.{ℕ, ◌*◌, not, List, [], ◌∷◌, ltb, length}
use Rattle.folds.specs.First.{Rule, ◌gives◌, first_of, on_zero}
use Rattle.folds.specs.Laid.{over}
use Rattle.book.specs.Layout.{book_length}
use Rattle.book.specs.Books.{Book, book_at}
use Rattle.validity.specs.Valid.{valid_book}
use Rattle.tonight.specs.Given.{Given}
use Rattle.tonight.specs.Prices.{prices_ok}
use Rattle.tonight.specs.Night.{reserves_ok}
use Rattle.settlement.specs.Next.{result_size, next_bytes, result_bytes}

-- of a valid book: 8, 11, 9; next_length and results_length are what is lent for the next book and the results
abbrev pub evening_rules : Book → Given → (next_length results_length : ℕ) → List Rule
evening_rules b given next_length results_length =
    (not (prices_ok b given.prices) gives 8)
    ∷ (ltb next_length (book_length b.head) gives 11)
    ∷ (ltb results_length (b.head.members * result_size) gives 11)
    ∷ (not (reserves_ok b given) gives 9)
    ∷ []

unfoldable pub evening_answer : Book → Given → (next_length results_length : ℕ) → ℕ
evening_answer b given next_length results_length = first_of (evening_rules b given next_length results_length)

-- in the order 10, 8, 11, 9
abbrev pub settle_rules : (book : List ℕ) (given : Given) (next_length results_length : ℕ) → List Rule
settle_rules xs given next_length results_length = (not (valid_book xs) gives 10) ∷ evening_rules (book_at xs) given next_length results_length

unfoldable pub settle_answer : (book : List ℕ) (given : Given) (next_length results_length : ℕ) → ℕ
settle_answer xs given next_length results_length = first_of (settle_rules xs given next_length results_length)

-- on a refusal as it stood; else the new bytes, and beyond them its own
unfoldable pub next_after : (book : List ℕ) (given : Given) (next results : List ℕ) → List ℕ
next_after xs given next results = on_zero (settle_answer xs given (length next) (length results)) (over (next_bytes (book_at xs) given) next) next

unfoldable pub results_after : (book : List ℕ) (given : Given) (next results : List ℕ) → List ℕ
results_after xs given next results = on_zero (settle_answer xs given (length next) (length results)) (over (result_bytes (book_at xs) given) results) results
