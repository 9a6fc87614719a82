-- 01, What the promises say, and demand 3: what two lists of the same records have in common, to `i` being the place in `other` of the record at place i of `records`.
use Rattle.std.specs.Prelude.{ℕ, ◌<◌, ◌≡◌, List, length, get_or}
use Rattle.tonight.specs.Given.{Given}
use Rattle.settlement.specs.Settle.{settle_answer, next_after, results_after}
use Rattle.promises.specs.Runs.{answers_to, end_of}

-- each record gets the same answer, and the books at the end are equal; the 0 stands for an answer past the end, and is never read
pub record SameRun (book : List ℕ) (records other : List (List ℕ)) (to : ℕ → ℕ) : Type 0 where
  pub each : (i : ℕ) → i < length records → get_or (answers_to book other) (to i) 0 ≡ get_or (answers_to book records) i 0
  pub end : end_of book other ≡ end_of book records

-- settlement of the two books at the end, given the same and with equal buffers lent
pub record SameEvening (book : List ℕ) (records other : List (List ℕ)) (given : Given) (next results : List ℕ) : Type 0 where
  pub answer : settle_answer (end_of book other) given (length next) (length results) ≡ settle_answer (end_of book records) given (length next) (length results)
  pub next_book : next_after (end_of book other) given next results ≡ next_after (end_of book records) given next results
  pub sheet : results_after (end_of book other) given next results ≡ results_after (end_of book records) given next results
