-- THEOREM: a record keeps a valid book valid, and a book that is not valid stays so. For any bytes.
use mathlib.Core.Path.{◌≡◌, refl, sym, ◌∙◌, subst}
use mathlib.Core.Logic.{◌≢◌, inl}
use mathlib.Core.Bool.{true}
use mathlib.Core.List.{List}
use Prim.Native.Nat.{ℕ, ◌≤◌}
use native.Mathlib.Decide.{ℕ_discrete}
use native.Mathlib.Omega.{arith}
use lib.ListN.{length}
use Rattle.std.proofs.lemmas.Bool.{cond_both}
use Rattle.order.specs.Lens as lens
use Rattle.book.specs.declared.heads.Head.{Head}
use Rattle.book.specs.declared.accounts.Place.{Place}
use Rattle.book.specs.declared.accounts.Account.{Account}
use Rattle.book.specs.Layout.{book_length}
use Rattle.book.specs.Heads.{head_at}
use Rattle.book.specs.Accounts.{place, account_at, put_account, Within}
use Rattle.book.specs.Books.{book_by}
use Rattle.book.proofs.LensLaws.{length_account, head_put}
use Rattle.validity.specs.Valid.{valid_book}
use Rattle.validity.proofs.Fits.{member_fits}
use Rattle.validity.proofs.SameHead.{head_kept}
use Rattle.validity.proofs.AsFacts.{Rows}
use Rattle.std.specs.Prelude.{Option}
use Rattle.requests.specs.declared.records.Request.{Request}
use Rattle.book.specs.Views.{sights}
use Rattle.posting.specs.Answers.{step, after}
use Rattle.requests.proofs.Requests.{Formed, formed}
use Rattle.promises.proofs.Sound.{Fine, sound_next, position_fits}
use Rattle.promises.proofs.Changes.{Cancels}
use Rattle.promises.proofs.Puts.{account_of, Put, bytes_put, sound_at, rows_put, balance_one, balance_two}
use Rattle.promises.proofs.Whole.{Whole, whole_of, of_whole, room}
use Rattle.promises.proofs.Made.{posting_at, step_of, step_puts, step_refused, Made, one, two, made}

put_of : (h : Head) (xs : List ℕ) (p : Place) (a : Account) → book_length h ≤ length xs → Rows h (book_by h xs) → Within h p → Fine (account_of (book_by h xs) p) a
    → Put h (book_by h xs) (book_by h (put_account h xs p a)) p a
put_of h xs p a l r w f = let s = sound_next (sound_at p r w) f in bytes_put h xs p a l w (member_fits a.member s.member) (position_fits s)

keeps_one : {h : Head} {xs : List ℕ} (p : Place) (a : Account) → Whole h xs → Within h p → Fine (account_at h xs p) a → a.position ≡ (account_at h xs p).position → Whole h (put_account h xs p a)
unfolding account_at
keeps_one {h} {xs} p a o w f same =
    let put = put_of h xs p a (room o) o.rows w f in
    record { head = head_put h xs p a ∙ o.head; sound = head_kept h xs p a ∙ o.sound; rows = rows_put put w o.rows f; balance = balance_one put w same o.balance }

keeps_two : {h : Head} {xs : List ℕ} (m m' j : ℕ) (a c : Account) → Whole h xs → Within h (place m j) → Within h (place m' j) → m' ≢ m
    → Fine (account_at h xs (place m j)) a → Fine (account_at h xs (place m' j)) c
    → Cancels (account_at h xs (place m j)).position a.position (account_at h xs (place m' j)).position c.position
    → Whole h (put_account h (put_account h xs (place m j) a) (place m' j) c)
unfolding account_at
keeps_two {h} {xs} m m' j a c o w w' ne f g n =
    let ys : List ℕ = put_account h xs (place m j) a in
    let put = put_of h xs (place m j) a (room o) o.rows w f in
    let r = rows_put put w o.rows f in
    let g' = as_it_was put in
    let put' = put_of h ys (place m' j) c (omega (arith, room o, length_account h xs (place m j) a)) r w' g' in
    record {
      head = head_put h ys (place m' j) c ∙ head_put h xs (place m j) a ∙ o.head;
      sound = head_kept h ys (place m' j) c ∙ head_kept h xs (place m j) a ∙ o.sound;
      rows = rows_put put' w' r g';
      balance = balance_two put put' w w' ne n o.balance;
    }
  where
    as_it_was : Put h (book_by h xs) (book_by h (put_account h xs (place m j) a)) (place m j) a → Fine (account_of (book_by h (put_account h xs (place m j) a)) (place m' j)) c
    as_it_was put = subst (λ (x : Account). Fine x c)
        (λ i. record { member = sym (put.members m' w'.member ne) i; position = sym (put.positions m' j w'.member w.contract (inl ne)) i }) g

keeps_made : {h : Head} {xs : List ℕ} {ps : List Place} {as' : List Account} → Whole h xs → Made h xs ps as' → Whole h (lens.puts sights h xs ps as')
keeps_made o (one {p = p} {a = a} w s f same) = keeps_one p a o w f same
keeps_made o (two {m} {m'} {j} {a} {c} w w' ne s s' f g n) = keeps_two m m' j a c o w w' (λ e. ne (sym e)) f g n

step_whole : {h : Head} {xs : List ℕ} {q : Option Request} → Whole h xs → Formed h q → Whole h (step_of h xs q)
step_whole {h} {xs} {q} o f = elim (ℕ_discrete (posting_at h xs q).says 0) [
  | yes e ↦ subst (Whole h) (sym (step_puts h xs q)) (keeps_made o (made o f e))
  | no n ↦ subst (Whole h) (sym (step_refused h xs q n)) o
]

pub kept_step : (book r : List ℕ) → valid_book book ≡ true → valid_book (step book r) ≡ true
kept_step book r e = of_whole (head_at book) (step book r) (step_whole (whole_of book e) (formed (head_at book) r))

-- any record, any bytes
pub kept : (book r : List ℕ) → valid_book (after book r) ≡ valid_book book
unfolding after
kept book r = cond_both (valid_book book) (step book r) book (λ ys. valid_book ys ≡ valid_book book) (λ e. kept_step book r e ∙ sym e) (λ e. refl)
