-- 01, Day records: a posting at the bytes. Its accounts are read from their places, and put back where the number is 0.
use Rattle.std.specs.Prelude.{ℕ, List, ◌≡◌, true, Option}
use Rattle.order.specs.Lens as lens
use Rattle.book.specs.declared.heads.Head.{Head}
use Rattle.book.specs.declared.accounts.Place.{Place}
use Rattle.book.specs.Heads.{head_at}
use Rattle.book.specs.Accounts.{account_at, put_account}
use Rattle.book.specs.Views.{view_at, sights}
use Rattle.validity.specs.Valid.{valid_book}
use Rattle.requests.specs.declared.records.Request.{Request}
use Rattle.requests.specs.declared.records.Request.TheVariants.{Trading, PairingUp, Depositing, Withdrawing, Pledging}
use Rattle.requests.specs.Records.{places_for}
use Rattle.folds.specs.First.{on_zero}
use Rattle.posting.specs.Postings.{posting_of}
use Rattle.posting.specs.declared.accounts.Entry.{Entry}
use Rattle.posting.specs.Entries.{entry_answer, entered, lower}
use Rattle.requests.specs.Ranges.{TradeIn, PairingIn, PaymentIn, PledgeIn}

-- the bytes are a valid book, and h is its head
pub record IsBookOf (h : Head) (xs : List ℕ) : Type 0 where
  pub valid : valid_book xs ≡ true
  pub head : h ≡ head_at xs

-- one account at its place, posted and put back
abbrev pub one_answer : Head → List ℕ → Place → Entry → ℕ
one_answer h xs p e = entry_answer e (account_at h xs p)

abbrev pub one_after : Head → List ℕ → Place → Entry → List ℕ
one_after h xs p e = on_zero (one_answer h xs p e) (put_account h xs p (entered e (account_at h xs p))) xs

-- two accounts: the first refusal of either, or both put back
abbrev pub two_answer : Head → List ℕ → Place → Entry → Place → Entry → ℕ
two_answer h xs p e q f = lower (entry_answer e (account_at h xs p)) (entry_answer f (account_at h xs q))

abbrev pub two_after : Head → List ℕ → Place → Entry → Place → Entry → List ℕ
two_after h xs p e q f =
    on_zero (two_answer h xs p e q f) (put_account h (put_account h xs p (entered e (account_at h xs p))) q (entered f (account_at h xs q))) xs

-- a request at the bytes of a valid book with the head h
unfoldable pub says_to : Head → List ℕ → Option Request → ℕ
says_to h xs q = (posting_of q (lens.reads view_at h xs (places_for q))).says

unfoldable pub step_to : Head → List ℕ → Option Request → List ℕ
step_to h xs q =
    let p = posting_of q (lens.reads view_at h xs (places_for q)) in
    lens.add_all sights h (lens.puts sights h xs (places_for q) p.become) p.adds

-- what is known of a request that was read
abbrev pub RequestIn : Head → Request → Type 0
RequestIn h (Trading t) = TradeIn h t
RequestIn h (PairingUp p) = PairingIn h p
RequestIn h (Depositing p) = PaymentIn h p
RequestIn h (Withdrawing p) = PaymentIn h p
RequestIn h (Pledging p) = PledgeIn h p
