-- The records of a piece are its bytes: each whole one has 24, a short one at the end has what is left. And a short one is refused, as any is on a book that is not valid.
use mathlib.Core.Path.{◌≡◌, refl, sym, ap, ◌∙◌}
use mathlib.Core.Bool.{true, false}
use mathlib.Core.List.{List}
use Prim.Native.Nat.{ℕ, zero, suc, ◌+◌, ◌*◌, ◌/◌, ◌%◌, ◌<◌}
use native.Mathlib.Omega.{arith}
use borrow.Author.Tests.{ne_eqb}
use lib.ListN.{length, take, drop, length-take, length-drop}
use lib.Seq.{take-add, take_all}
use Rattle.numbers.specs.Fold.{fold_to}
use Rattle.folds.specs.Laid.{bytes_to}
use Rattle.validity.specs.Valid.{valid_book}
use Rattle.order.specs.Lens.{Posting, reads}
use Rattle.book.specs.declared.accounts.Account.{Account}
use Rattle.book.specs.Heads.{head_at}
use Rattle.book.specs.Views.{Count, view_at, sights}
use Rattle.std.specs.Prelude.{Option, None}
use Rattle.requests.specs.declared.records.Request.{Request}
use Rattle.requests.specs.Records.{request_of, places_for}
use Rattle.posting.specs.Postings.{posting_of}
use Rattle.posting.specs.Answers.{answer, after}
use Rattle.intake.specs.Intake.{record_size, records_in, record_bytes}

records_first : (xs : List ℕ) (n : ℕ) → bytes_to (record_bytes xs) n ≡ take (n * record_size) xs
unfolding fold_to record_bytes
records_first xs zero = refl
records_first xs (suc n) =
    let e : suc n * record_size ≡ n * record_size + record_size = omega arith in
    rw (records_first xs n, e) (sym (take-add (n * record_size) record_size xs))

-- one after the other: no byte is left out, and none is read twice
pub records_all : (xs : List ℕ) → bytes_to (record_bytes xs) (records_in (length xs)) ≡ xs
records_all xs = records_first xs (records_in (length xs)) ∙ take_all (records_in (length xs) * record_size) xs (omega arith)

pub whole_record : (xs : List ℕ) (i : ℕ) → i < length xs / record_size → length (record_bytes xs i) ≡ record_size
unfolding record_bytes
whole_record xs i h = omega (arith, length-take record_size (drop (i * record_size) xs), length-drop (i * record_size) xs)

pub short_record : (xs : List ℕ) → length (record_bytes xs (length xs / record_size)) ≡ length xs % record_size
unfolding record_bytes
short_record xs =
    let i = length xs / record_size in
    omega (arith, length-take record_size (drop (i * record_size) xs), length-drop (i * record_size) xs)

module _ (book r : List ℕ) where
  no_request : (length r ≡ record_size → ⊥) → request_of (head_at book) r ≡ None
  unfolding request_of
  no_request h = rw (ne_eqb (length r) record_size h)

  abbrev posting_for : Option Request → Posting Account ℕ Count
  posting_for q = posting_of q (reads view_at (head_at book) book (places_for q))

  pub short_refused : valid_book book ≡ true → (length r ≡ record_size → ⊥) → answer book r ≡ 1
  unfolding answer
  short_refused v h = rw v (ap (λ (q : Option Request). (posting_for q).says) (no_request h))

  pub short_changes_nothing : valid_book book ≡ true → (length r ≡ record_size → ⊥) → after book r ≡ book
  unfolding after
  short_changes_nothing v h =
      rw (v, no_request h)

  pub all_refused : valid_book book ≡ false → answer book r ≡ 10
  unfolding answer
  all_refused v = rw v

  pub nothing_changed : valid_book book ≡ false → after book r ≡ book
  unfolding after
  nothing_changed v = rw v
