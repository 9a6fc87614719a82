-- Each refusal is that of the first rule that holds; past them all, both passes find the room that they need.
use Rattle.std.proofs.Common.{◌≡◌, ◌↔◌, ℕ, true, false, refl, List, length, Option, None, Some, is_some, Err, sym, ap, ◌∙◌, arith}
use Rattle.std.specs.Prelude.{IsSome, IfSome}
use Rattle.std.specs.Option.{ok_or}
use Rattle.std.proofs.lemmas.Result.{err_from_is_err_and}
use Rattle.std.proofs.lemmas.Bool.{both_ways, false_from_ne_true, false≢true}
use Rattle.folds.proofs.Laid.{sets_over}
use Rattle.rules.specs.declared.refusals.Refusal.{Refusal}
use Rattle.rules.specs.Refusals.{refusal_number, answered}
use Rattle.book.specs.Heads.{head_at}
use Rattle.book.specs.Books.{Book, book_at}
use Rattle.book.specs.Rows.{book_of}
use Rattle.validity.specs.Valid.{valid_book}
use Rattle.validity.specs.declared.ranged.RangedRows.{RangedRows}
use Rattle.validity.proofs.Whole.{same_book}
use Rattle.tonight.specs.declared.evening.Evening.{Evening}
use Rattle.tonight.specs.Given.{Given}
use Rattle.tonight.specs.GivenOf.{given_of}
use Rattle.tonight.specs.Prices.{prices_ok}
use Rattle.tonight.specs.Night.{reserves_ok}
use Rattle.settlement.specs.Next.{next_bytes, result_bytes}
use Rattle.settlement.specs.Settle.{settle_answer, evening_answer}
use Rattle.settlement.proofs.Parts.{next_length, results_length}
use Rattle.settlement.proofs.Answers.{answer_invalid, answer_valid, answer_prices, answer_next, answer_results, answer_reserves, next_by, results_by}
use Rattle.settlement.proofs.settle.Goals.{then-next-book_length-via-then-next-book_length, then-next-book_length-via-else-next-book_length+then-results-head}
use Rattle.settlement.proofs.settle.Goals as goal

record Found (xs : List ℕ) (given : Given) (e : Evening) : Type 0 where
  answer : (n r : ℕ) → settle_answer xs given n r ≡ evening_answer (book_of e.rows) given n r
  right : prices_ok (book_of e.rows) given.prices ≡ true
  book : book_of e.rows ≡ book_at xs
  handed : given_of e ≡ given

err_of : (o : Option RangedRows) (e refusal : Refusal) → Err e ≡ ok_or o refusal → e ≡ refusal
err_of None e refusal h = cc
err_of (Some x) e refusal h = cc

-- of a book that was found valid, and of its evening
module _ (xs : List ℕ) (given : Given) (o : Option RangedRows) (b : RangedRows) (valid : IsSome o ↔ (valid_book xs ≡ true))
    (told : IfSome o (λ (x : RangedRows). (x.rows.bytes.now ≡ xs) × (x.rows.head ≡ head_at xs))) (some : o ≡ Some b) where
  was_book : book_of b.rows ≡ book_at xs
  was_book = same_book b.rows xs (rw some at told)

  was_valid : (n r : ℕ) → settle_answer xs given n r ≡ evening_answer (book_of b.rows) given n r
  was_valid n r = answer_valid xs given n r (valid.0 (ap is_some some)) ∙ ap (λ (x : Book). evening_answer x given n r) (sym was_book)

  found : (e : Evening) → (true ≡ true) ↔ (prices_ok (book_of b.rows) given.prices ≡ true) → (e.rows ≡ b.rows) × (e.prices.now ≡ given.prices) → Found xs given e
  found e right same = record { answer = rw same.0 was_valid; right = rw same.0 (right.0 refl); book = ap book_of same.0 ∙ was_book; handed = λ i. record { prices = same.1 i } }

pub returns-in_err-book : goal.returns-in_err-book
returns-in_err-book c =
    let xs = c.args.book.now in
    let given : Given = record { prices = c.args.prices.now } in
    let next = c.args.next.now in
    let results = c.args.results.now in
    let invalid = false_from_ne_true (valid_book xs) (λ v. both_ways _ (sym c.in_err-book.ensures.variant) (c.checked.ensures.valid.1 v)) in
    let refused = answer_invalid xs given (length next) (length results) invalid in
    let passed = err_from_is_err_and c.from_residual.result c.from_residual.ensures.1 in
    record {
      value = ap answered passed.1 ∙ ap refusal_number (passed.2 ∙ err_of c.checked.result _ _ c.in_err-book.ensures.value) ∙ sym refused;
      next_after = sym (next_by xs given next results 10 refused);
      results_after = sym (results_by xs given next results 10 refused);
    }

pub returns-in_err-evening : goal.returns-in_err-evening
returns-in_err-evening c =
    let xs = c.args.book.now in
    let given : Given = record { prices = c.args.prices.now } in
    let next = c.args.next.now in
    let results = c.args.results.now in
    let b = book_of c.in_ok-book.book.rows in
    let wrong = false_from_ne_true (prices_ok b given.prices) (λ p. false≢true (c.in_err-evening.ensures.right.1 p)) in
    let refused : settle_answer xs given (length next) (length results) ≡ 8 =
    was_valid xs given _ _ c.checked.ensures.valid c.checked.ensures.rows c.in_ok-book.ensures.ok_part _ _ ∙ answer_prices b given _ _ wrong in
    let passed = err_from_is_err_and c.from_residual-in_err-evening.result c.from_residual-in_err-evening.ensures.1 in
    record {
      value = ap answered passed.1 ∙ ap refusal_number (passed.2 ∙ c.in_err-evening.ensures.refused) ∙ sym refused;
      next_after = sym (next_by xs given next results 8 refused);
      results_after = sym (results_by xs given next results 8 refused);
    }

pub returns-then-next-book_length : goal.returns-then-next-book_length
returns-then-next-book_length c =
    let xs = c.args.book.now in
    let given : Given = record { prices = c.args.prices.now } in
    let next = c.args.next.now in
    let results = c.args.results.now in
    let b = book_of c.in_ok-evening.evening.rows in
    let f = found xs given _ _ c.checked.ensures.valid c.checked.ensures.rows c.in_ok-book.ensures.ok_part c.in_ok-evening.evening c.in_ok-evening.ensures.right c.in_ok-evening.ensures.same in
    let refused : settle_answer xs given (length next) (length results) ≡ 11 =
    f.answer _ _
    ∙ elim c.then-next-book_length.branch [
      | then-next-book_length-via-then-next-book_length w ↦ answer_next b given _ _ f.right (omega arith)
      | then-next-book_length-via-else-next-book_length+then-results-head w ↦ answer_results b given _ _ f.right (omega arith) (omega arith)
    ] in
    record {
      value = sym refused;
      next_after = sym (next_by xs given next results 11 refused);
      results_after = sym (results_by xs given next results 11 refused);
    }

pub returns-then-not-reserves_ok : goal.returns-then-not-reserves_ok
returns-then-not-reserves_ok c =
    let xs = c.args.book.now in
    let given : Given = record { prices = c.args.prices.now } in
    let next = c.args.next.now in
    let results = c.args.results.now in
    let b = book_of c.in_ok-evening.evening.rows in
    let f = found xs given _ _ c.checked.ensures.valid c.checked.ensures.rows c.in_ok-book.ensures.ok_part c.in_ok-evening.evening c.in_ok-evening.ensures.right c.in_ok-evening.ensures.same in
    let beyond : reserves_ok b given ≡ false = cc in
    let refused : settle_answer xs given (length next) (length results) ≡ 9 = f.answer _ _ ∙ answer_reserves b given _ _ f.right (omega arith) (omega arith) ∙ rw beyond in
    record {
      value = sym refused;
      next_after = sym (next_by xs given next results 9 refused);
      results_after = sym (results_by xs given next results 9 refused);
    }

pub returns : goal.returns
returns c =
    let xs = c.args.book.now in
    let given : Given = record { prices = c.args.prices.now } in
    let next = c.args.next.now in
    let results = c.args.results.now in
    let b = book_of c.in_ok-evening.evening.rows in
    let f = found xs given _ _ c.checked.ensures.valid c.checked.ensures.rows c.in_ok-book.ensures.ok_part c.in_ok-evening.evening c.in_ok-evening.ensures.right c.in_ok-evening.ensures.same in
    let within : reserves_ok b given ≡ true = cc in
    let accepted : settle_answer xs given (length next) (length results) ≡ 0 = f.answer _ _ ∙ answer_reserves b given _ _ f.right (omega arith) (omega arith) ∙ rw within in
    record {
      value = sym accepted;
      next_after = cc (sets_over (next_bytes b given) next (omega (arith, next_length b given)), next_by xs given next results 0 accepted);
      results_after = cc (sets_over (result_bytes b given) results (omega (arith, results_length b given)), results_by xs given next results 0 accepted);
    }
