-- The three parts of the check, put together: the head, the ranges, the balances.
use Rattle.std.proofs.lemmas.Bool.{and_from}
use Rattle.std.proofs.Common.{◌≡◌, true, ℕ, List, [], ◌∷◌}
use Rattle.folds.specs.Tests.{all_of}
use Rattle.book.specs.Heads.{head_at}
use Rattle.book.specs.Books.{book_at, book_by}
use Rattle.book.specs.declared.lent.Rows.{Rows}
use Rattle.book.specs.Rows.{book_of}
use Rattle.validity.specs.Valid.{head_ok, balanced, valid_rows, valid_book}
use Rattle.validity.specs.Totals.{Ranged}

-- by the head of xs, the book of xs
pub same_book : (rows : Rows) (xs : List ℕ) → (rows.bytes.now ≡ xs) × (rows.head ≡ head_at xs) → book_of rows ≡ book_at xs
same_book rows xs e i = book_by (e.1 i) (e.0 i)

pub valid_by_parts : (xs : List ℕ) → head_ok xs ≡ true → Ranged (book_at xs) → balanced (book_at xs) ≡ true → valid_book xs ≡ true
unfolding valid_book valid_rows
valid_by_parts xs h r e =
    and_from (head_ok xs) (valid_rows (book_at xs)) h (λ i. all_of (r.rows i ∷ r.traded i ∷ e i ∷ []))
