-- A valid book as facts: its head, its rows and its sums; and that these facts are its validity.
use mathlib.Core.Path.{◌≡◌, refl, sym, ap, subst}
use mathlib.Core.Bool.{true}
use mathlib.Core.List.{List}
use Prim.Native.Nat.{ℕ, ◌≤◌, ◌<◌}
use native.Mathlib.Omega.{arith}
use lib.ListN.{length}
use Rattle.std.proofs.lemmas.Bool.{and_from}
use Rattle.book.specs.declared.heads.Head.{Head}
use Rattle.book.specs.Layout.{book_length}
use Rattle.book.specs.Heads.{head_at}
use Rattle.book.specs.Books.{book_by, book_at}
use Rattle.validity.specs.Valid.{head_ok, valid_rows, valid_book}
use Rattle.validity.proofs.Facts.{head_shaped, has_contract, valid_head, valid_rows_lem}
use Rattle.validity.proofs.AsFacts.{Rows, Balance, rows_of, balance_of, valid_of}

pub record Whole (h : Head) (xs : List ℕ) : Type 0 where
  pub head : head_at xs ≡ h
  pub sound : head_ok xs ≡ true
  pub rows : Rows h (book_by h xs)
  pub balance : Balance h (book_by h xs)

pub whole_of : (xs : List ℕ) → valid_book xs ≡ true → Whole (head_at xs) xs
whole_of xs e = record { head = refl; sound = valid_head xs e; rows = rows_of (book_at xs) (valid_rows_lem xs e); balance = balance_of (book_at xs) (valid_rows_lem xs e) }

pub of_whole : (h : Head) (xs : List ℕ) → Whole h xs → valid_book xs ≡ true
unfolding valid_book
of_whole h xs w =
    and_from (head_ok xs) (valid_rows (book_at xs)) w.sound
    (subst (λ (g : Head). valid_rows (book_by g xs) ≡ true) (sym w.head) (valid_of (book_by h xs) w.rows w.balance))

pub room : {h : Head} {xs : List ℕ} → Whole h xs → book_length h ≤ length xs
room {h} {xs} w = omega (arith, (head_shaped xs w.sound).enough, ap book_length w.head)

pub some_contract : {h : Head} {xs : List ℕ} → Whole h xs → 0 < h.contracts
some_contract {h} {xs} w = omega (arith, has_contract xs w.sound, ap (λ (g : Head). g.contracts) w.head)
