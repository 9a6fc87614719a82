-- 01, Refusal numbers, for records: the answer to a record, and the book's bytes after it.
use Rattle.std.specs.Prelude.{ℕ, cond, List}
use Rattle.order.specs.Lens as lens
use Rattle.book.specs.declared.heads.Head.{Head}
use Rattle.book.specs.declared.accounts.Place.{Place}
use Rattle.book.specs.declared.accounts.Account.{Account}
use Rattle.book.specs.Views.{View, Count, sights}
use Rattle.validity.specs.Valid.{valid_book}
use Rattle.requests.specs.Records.{request_of, places_for}
use Rattle.posting.specs.Postings.{posting_of}

abbrev pub places_of : Head → List ℕ → List Place
places_of h r = places_for (request_of h r)

abbrev pub posting : Head → List ℕ → List View → lens.Posting Account ℕ Count
posting h r views = posting_of (request_of h r) views

-- on a valid book: the named places seen, their accounts posted and put back
abbrev pub says : List ℕ → List ℕ → ℕ
says = lens.answer sights places_of posting

abbrev pub step : List ℕ → List ℕ → List ℕ
step = lens.after sights places_of posting

-- 10 on a book that is not valid
unfoldable pub answer : List ℕ → List ℕ → ℕ
answer book r = cond (valid_book book) (says book r) 10

unfoldable pub after : List ℕ → List ℕ → List ℕ
after book r = cond (valid_book book) (step book r) book
