-- A request that was read is in range, and so is each account of a valid book.
use mathlib.Core.Path.{◌≡◌, sym, ap, subst}
use mathlib.Core.Bool.{true}
use mathlib.Core.List.{List}
use Prim.{Unit, tt}
use Rattle.std.specs.Prelude.{Option, Some, None}
use Prim.Native.Nat.{ℕ, ◌<◌}
use native.Mathlib.Omega.{arith}
use lib.Dec.{lit≤}
use Rattle.numbers.proofs.Ranges.{in_weaken}
use Rattle.book.specs.declared.heads.Head.{Head}
use Rattle.book.specs.declared.accounts.Place.{Place}
use Rattle.book.specs.Heads.{head_at}
use Rattle.book.specs.Books.{Book, book_at}
use Rattle.book.specs.Accounts.{account_at, Shaped, Within}
use Rattle.validity.specs.Valid.{valid_book}
use Rattle.validity.specs.Totals.{Ranged}
use Rattle.validity.proofs.Facts.{has_contract, traded_most, position_in, valid_head, valid_shaped, valid_ranged}
use Rattle.validity.proofs.RowTests.{member_in}
use Rattle.requests.specs.declared.records.Request.{Request}
use Rattle.requests.specs.Records.{request_of}
use Rattle.requests.proofs.Requests.{Formed, trading, pairing, depositing, withdrawing, pledging, nothing, formed}
use Rattle.posting.specs.Ranges.{AccountIn}
use Rattle.ledger.specs.Puts.{IsBookOf, RequestIn}

-- ---- requests

-- what is known of what a record asks for, where it asks for something
abbrev pub AskedIn : Head → Option Request → Type 0
AskedIn h (Some q) = RequestIn h q
AskedIn h None = Unit {0}

by_form : (h : Head) (q : Option Request) → Formed h q → AskedIn h q
by_form h q (trading s price) = record { contract = s.contract; buyer = s.buyer; seller = s.seller; differ = s.differ; price = price; lots = s.few }
by_form h q (pairing s) = record { contract = s.contract; buyer = s.buyer; seller = s.seller; differ = s.differ; lots = s.few }
by_form h q (depositing member amount) = record { member = member; amount = amount.within }
by_form h q (withdrawing member amount) = record { member = member; amount = amount.within }
by_form h q (pledging member market discount) = record { member = member; market = market.within; discount = discount }
by_form h q nothing = tt

pub request_in : (h : Head) (r : List ℕ) → AskedIn h (request_of h r)
request_in h r = by_form h (request_of h r) (formed h r)

-- ---- accounts

module _ (xs : List ℕ) (e : valid_book xs ≡ true) (p : Place) (w : Within (head_at xs) p) where
  abbrev b : Book
  b = book_at xs

  ranged : Ranged b
  ranged = valid_ranged xs e

  pub account_in : AccountIn (account_at (head_at xs) xs p)
  unfolding account_at
  account_in =
      let r = member_in b ranged p.member w.member in
      let q = position_in b ranged p.member p.contract w.member w.contract in
      record {
        accepted = r.accepted;
        figures = record { reserve_in = in_weaken (lit≤ tt) r.reserve; margin_in = r.margin.within; usable_in = r.usable.within };
        deposits = in_weaken (omega (arith, r.accepted)) r.deposits.within;
        withdrawals = in_weaken (omega (arith, r.accepted)) r.withdrawals.within;
        position = record { long = q.long; short = q.short; cash = q.cash; traded = traded_most b ranged p.member p.contract w.member w.contract };
      }

-- by a head that is the book's
pub shaped_by : {h : Head} {xs : List ℕ} → IsBookOf h xs → Shaped xs h
shaped_by {h} {xs} k = subst (λ (g : Head). Shaped xs g) (sym k.head) (valid_shaped xs k.valid)

pub account_by : {h : Head} {xs : List ℕ} {p : Place} → IsBookOf h xs → Within h p → AccountIn (account_at h xs p)
account_by {h} {xs} {p} k w = subst (λ (g : Head). AccountIn (account_at g xs p)) (sym k.head) (account_in xs k.valid p (subst (λ (g : Head). Within g p) k.head w))

-- the first contract is there
pub some_contract : {h : Head} {xs : List ℕ} → IsBookOf h xs → 0 < h.contracts
some_contract {h} {xs} k = omega (arith, has_contract xs (valid_head xs k.valid), ap (λ (g : Head). g.contracts) k.head)
