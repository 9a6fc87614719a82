-- 01, Day records: a list of records posted one after the other: the answers, one for each, and the book at the end.
use Rattle.std.specs.Prelude.{ℕ, List}
use Rattle.order.specs.Order.{final, answers}
use Rattle.posting.specs.Answers.{answer, after}

abbrev pub answers_to : (book : List ℕ) (records : List (List ℕ)) → List ℕ
answers_to book records = answers after answer book records

abbrev pub end_of : (book : List ℕ) (records : List (List ℕ)) → List ℕ
end_of book records = final after book records
