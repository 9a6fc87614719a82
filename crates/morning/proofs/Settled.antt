-- An evening that is answered 0: what is known of it, and that a member's profit or loss reads back from the results' bytes.
use mathlib.Core.Path.{◌≡◌, refl, sym, ◌∙◌}
use mathlib.Core.Bool.{true}
use mathlib.Core.List.{List}
use Prim.{tt}
use Prim.Native.Nat.{ℕ, ◌+◌, ◌*◌, ◌≤◌, ◌<◌}
use native.Mathlib.Nat.{zero-add, le_refl}
use native.Mathlib.Omega.{arith}
use borrow.Author.Tests.{not-false}
use lib.Dec.{lit<}
use lib.ListN.{length}
use lib.Seq.{sets, length-sets}
use mir.Syntax.{w64}
use mir.Val.{SFits}
use Rattle.wire.specs.LittleEndian.{number_at, signed_at}
use Rattle.numbers.proofs.Ranges.{in_sfits}
use Rattle.folds.specs.Rows.{widths}
use Rattle.folds.specs.Laid.{bytes_to}
use Rattle.folds.proofs.First.{none_holds}
use Rattle.folds.proofs.Rows.{row_back}
use Rattle.folds.proofs.Laid.{sets_over, rows_back}
use Rattle.book.specs.Heads.{head_at}
use Rattle.book.specs.Books.{Book, book_at}
use Rattle.book.proofs.Rows.{money_back}
use Rattle.validity.specs.Valid.{valid_book}
use Rattle.validity.proofs.Facts.{valid_shaped, valid_ranged}
use Rattle.tonight.specs.Given.{Given}
use Rattle.tonight.specs.Night.{night_of}
use Rattle.tonight.specs.Evening.{Evening}
use Rattle.tonight.proofs.Facts.{priced}
use Rattle.tonight.proofs.Sums.{tally_few}
use Rattle.settlement.specs.Next.{result_size, result_fields, result_row, result_bytes}
use Rattle.settlement.specs.Settle.{settle_rules, settle_answer, results_after}
use Rattle.settlement.proofs.Sizes.{result_size_lem}
use Rattle.settlement.proofs.Parts.{results_length}
use Rattle.settlement.proofs.Answers.{Accepted, accepted, answer_valid, results_by}

module _ (xs : List ℕ) (given : Given) (next results : List ℕ) (e : settle_answer xs given (length next) (length results) ≡ 0) where
  abbrev b : Book
  b = book_at xs

  pub was_valid : valid_book xs ≡ true
  unfolding settle_answer
  was_valid = not-false (valid_book xs) (none_holds (settle_rules xs given (length next) (length results)) refl e 0)

  pub passed : Accepted b given (length next) (length results)
  passed = accepted b given (length next) (length results) (sym (answer_valid xs given (length next) (length results) was_valid) ∙ e)

  pub evening : Evening xs given (head_at xs)
  evening = record { shaped = valid_shaped xs was_valid; ranged = valid_ranged xs was_valid; priced = priced b given.prices passed.prices }

  -- ---- the results

  laid : results_after xs given next results ≡ sets results 0 (bytes_to (result_row b given) (head_at xs).members)
  unfolding result_bytes
  laid = results_by xs given next results 0 e ∙ sym (sets_over (result_bytes b given) results (omega (arith, results_length b given, passed.results)))

  module _ (m : ℕ) (l : m < (head_at xs).members) where
    -- the results up to the member's row
    abbrev before_row : List ℕ
    before_row = sets results 0 (bytes_to (result_row b given) m)

    profit_fits : SFits w64 (night_of b given m).profit.0
    unfolding night_of
    profit_fits = in_sfits tt (tally_few xs given (head_at xs) evening m l (head_at xs).contracts (le_refl (head_at xs).contracts)).profit

    room : 0 + m * result_size + widths (result_fields (night_of b given m)) ≤ length before_row
    room = simp length-sets (omega (arith, passed.results))

    -- the second of the sheet's nine fields
    pub profit_back : signed_at (results_after xs given next results) (m * result_size + 8) ≡ (night_of b given m).profit.0
    profit_back =
        money_back (number_at (results_after xs given next results) (m * result_size + 8) 8) (night_of b given m).profit profit_fits
        ((λ i. number_at (laid i) (sym (zero-add (m * result_size)) i + 8) 8)
        ∙ rows_back results 0 result_size (result_row b given) (result_size_lem b given) (head_at xs).members m l 8 8 (omega arith)
        ∙ row_back (result_fields (night_of b given m)) before_row (0 + m * result_size) refl room 1 (lit< tt))
