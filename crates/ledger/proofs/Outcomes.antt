-- What a request of one account, and of two, says and makes at the bytes.
use mathlib.Core.Path.{◌≡◌, refl, ap}
use mathlib.Core.List.{List, [], ◌∷◌}
use Prim.Native.Nat.{ℕ, zero, suc}
use Rattle.folds.specs.First.{on_zero}
use Rattle.order.specs.Lens as lens
use Rattle.book.specs.declared.heads.Head.{Head}
use Rattle.book.specs.declared.accounts.Place.{Place}
use Rattle.book.specs.declared.accounts.Account.{Account}
use Rattle.book.specs.Accounts.{place, account_at, put_account}
use Rattle.book.specs.Views.{sights}
use Rattle.requests.specs.declared.records.Trade.{Trade}
use Rattle.requests.specs.declared.records.Pairing.{Pairing}
use Rattle.requests.specs.declared.records.Payment.{Payment}
use Rattle.requests.specs.declared.records.Pledge.{Pledge}
use Rattle.requests.specs.declared.records.Request.{Request}
use Rattle.requests.specs.declared.records.Request.TheVariants.{Trading, PairingUp, Depositing, Withdrawing, Pledging}
use Rattle.posting.specs.Postings.{trade_answer, pairing_answer, deposit_answer, withdrawal_answer, pledge_answer}
use Rattle.posting.specs.declared.accounts.Entry.TheVariants.{Buys, Sells, Receives, Delivers, PaysIn, TakesOut, Pledges}
use Rattle.posting.specs.declared.accounts.Entry.{Entry}
use Rattle.posting.specs.Entries.{entered}
use Rattle.std.specs.Prelude.{Option, Some}
use Rattle.posting.proofs.Outcomes.{trade_lower, pairing_lower}
use Rattle.ledger.specs.Puts.{one_answer, one_after, two_answer, two_after, says_to, step_to}

-- ---- requests

module _ (h : Head) (xs : List ℕ) where
  one_put : (p : Place) (a : Account) (n : ℕ) → lens.puts sights h xs (p ∷ []) (on_zero n (a ∷ []) []) ≡ on_zero n (put_account h xs p a) xs
  one_put p a zero = refl
  one_put p a (suc n) = refl

  two_put : (p q : Place) (a b : Account) (n m : ℕ) → n ≡ m → lens.puts sights h xs (p ∷ q ∷ []) (on_zero n (a ∷ b ∷ []) []) ≡ on_zero m (put_account h (put_account h xs p a) q b) xs
  two_put p q a b n zero e = ap (λ (k : ℕ). lens.puts sights h xs (p ∷ q ∷ []) (on_zero k (a ∷ b ∷ []) [])) e
  two_put p q a b n (suc m) e = ap (λ (k : ℕ). lens.puts sights h xs (p ∷ q ∷ []) (on_zero k (a ∷ b ∷ []) [])) e

  -- a request of one account
  abbrev pub OneIs : Option Request → ℕ → Entry → Type 0
  OneIs q m e = (says_to h xs q ≡ one_answer h xs (place m 0) e) × (step_to h xs q ≡ one_after h xs (place m 0) e)

  -- and of two
  abbrev pub TwoIs : Option Request → ℕ → Entry → ℕ → Entry → ℕ → Type 0
  TwoIs r m e m' f j =
      (says_to h xs r ≡ two_answer h xs (place m j) e (place m' j) f) × (step_to h xs r ≡ two_after h xs (place m j) e (place m' j) f)

  pub deposit_is : (r : Payment) → OneIs (Some (Depositing r)) r.member (PaysIn r)
  unfolding says_to step_to
  deposit_is r = let p = place r.member 0 in let a = account_at h xs p in (refl, one_put p (entered (PaysIn r) a) (deposit_answer r a))

  pub withdrawal_is : (r : Payment) → OneIs (Some (Withdrawing r)) r.member (TakesOut r)
  unfolding says_to step_to
  withdrawal_is r = let p = place r.member 0 in let a = account_at h xs p in (refl, one_put p (entered (TakesOut r) a) (withdrawal_answer r a))

  pub pledge_is : (r : Pledge) → OneIs (Some (Pledging r)) r.member (Pledges r)
  unfolding says_to step_to
  pledge_is r = let p = place r.member 0 in let a = account_at h xs p in (refl, one_put p (entered (Pledges r) a) (pledge_answer r a))

  pub trade_is : (t : Trade) → TwoIs (Some (Trading t)) t.buyer (Buys t) t.seller (Sells t) t.contract
  unfolding says_to step_to
  trade_is t =
      let p = place t.buyer t.contract in
      let q = place t.seller t.contract in
      let a = account_at h xs p in
      let b = account_at h xs q in
      let e = trade_lower t a b in
      (e, two_put p q (entered (Buys t) a) (entered (Sells t) b) (trade_answer t a b) (two_answer h xs p (Buys t) q (Sells t)) e)

  pub pairing_is : (r : Pairing) → TwoIs (Some (PairingUp r)) r.buyer (Receives r) r.seller (Delivers r) r.contract
  unfolding says_to step_to
  pairing_is r =
      let p = place r.buyer r.contract in
      let q = place r.seller r.contract in
      let a = account_at h xs p in
      let b = account_at h xs q in
      let e = pairing_lower r a b in
      (e, two_put p q (entered (Receives r) a) (entered (Delivers r) b) (pairing_answer r a b) (two_answer h xs p (Receives r) q (Delivers r)) e)
