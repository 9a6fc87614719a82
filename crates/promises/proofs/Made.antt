-- What a record of a valid book puts back: one account with its position as it was, two accounts whose changes cancel, or nothing.
use mathlib.Core.Path.{◌≡◌, refl, ap, ◌∙◌}
use mathlib.Core.Logic.{◌≢◌}
use mathlib.Core.List.{List, [], ◌∷◌}
use Prim.Native.Nat.{ℕ, ◌<◌}
use native.Mathlib.Omega.{arith}
use Rattle.folds.specs.First.{on_zero}
use Rattle.folds.proofs.First.{on_refusal}
use Rattle.order.specs.Lens as lens
use Rattle.book.specs.declared.heads.Head.{Head}
use Rattle.book.specs.declared.accounts.Place.{Place}
use Rattle.book.specs.declared.accounts.Account.{Account}
use Rattle.book.specs.Accounts.{place, account_at, Within}
use Rattle.book.specs.Views.{View, Count, view_at, sights}
use Rattle.std.specs.Prelude.{Option, Some, None}
use Rattle.requests.specs.declared.records.Request.{Request}
use Rattle.requests.specs.declared.records.Request.TheVariants.{Trading, PairingUp, Depositing, Withdrawing, Pledging}
use Rattle.posting.specs.declared.fills.Way.TheVariants.{Long, Short}
use Rattle.posting.specs.declared.fills.Party.TheVariants.{Buyer, Seller}
use Rattle.requests.specs.Records.{places_for}
use Rattle.posting.specs.Postings.{trade_answer, pairing_answer, deposit_answer, withdrawal_answer, pledge_answer, posting_of}
use Rattle.requests.proofs.Requests.{Formed, trading, pairing, depositing, withdrawing, pledging, nothing}
use Rattle.promises.proofs.Sound.{Sound, Fine}
use Rattle.promises.proofs.Changes.{Cancels, traded_fine, paired_fine, deposited_fine, withdrawn_fine, pledged_fine, trade_cancels, pairing_cancels, trade_done, pairing_done, deposit_done, withdrawal_done, pledge_done}
use Rattle.promises.proofs.Puts.{sound_at}
use Rattle.promises.proofs.Whole.{Whole, some_contract}

-- ---- the posting of a request, and the book after it

abbrev pub posting_at : Head → List ℕ → Option Request → lens.Posting Account ℕ Count
posting_at h xs q = posting_of q (lens.reads view_at h xs (places_for q))

abbrev pub step_of : Head → List ℕ → Option Request → List ℕ
step_of h xs q = lens.add_all sights h (lens.puts sights h xs (places_for q) (posting_at h xs q).become) (posting_at h xs q).adds

-- no request adds to a counter
no_adds : (q : Option Request) (l : List View) → (posting_of q l).adds ≡ []
no_adds (Some (Trading t)) [] = refl
no_adds (Some (Trading t)) (a ∷ []) = refl
no_adds (Some (Trading t)) (a ∷ b ∷ l) = refl
no_adds (Some (PairingUp p)) [] = refl
no_adds (Some (PairingUp p)) (a ∷ []) = refl
no_adds (Some (PairingUp p)) (a ∷ b ∷ l) = refl
no_adds (Some (Depositing p)) [] = refl
no_adds (Some (Depositing p)) (a ∷ l) = refl
no_adds (Some (Withdrawing p)) [] = refl
no_adds (Some (Withdrawing p)) (a ∷ l) = refl
no_adds (Some (Pledging p)) [] = refl
no_adds (Some (Pledging p)) (a ∷ l) = refl
no_adds None l = refl

-- and a refused one makes nothing of the accounts
none_made : (q : Option Request) (l : List View) → ((posting_of q l).says ≡ 0 → ⊥) → (posting_of q l).become ≡ []
none_made (Some (Trading t)) [] n = refl
none_made (Some (Trading t)) (a ∷ []) n = refl
none_made (Some (Trading t)) (a ∷ b ∷ l) n = on_refusal (trade_answer t a.account b.account) _ [] n
none_made (Some (PairingUp p)) [] n = refl
none_made (Some (PairingUp p)) (a ∷ []) n = refl
none_made (Some (PairingUp p)) (a ∷ b ∷ l) n = on_refusal (pairing_answer p a.account b.account) _ [] n
none_made (Some (Depositing p)) [] n = refl
none_made (Some (Depositing p)) (a ∷ l) n = on_refusal (deposit_answer p a.account) _ [] n
none_made (Some (Withdrawing p)) [] n = refl
none_made (Some (Withdrawing p)) (a ∷ l) n = on_refusal (withdrawal_answer p a.account) _ [] n
none_made (Some (Pledging p)) [] n = refl
none_made (Some (Pledging p)) (a ∷ l) n = on_refusal (pledge_answer p a.account) _ [] n
none_made None l n = refl

puts_none : (h : Head) (xs : List ℕ) (ps : List Place) → lens.puts sights h xs ps [] ≡ xs
puts_none h xs [] = refl
puts_none h xs (p ∷ ps) = refl

pub step_puts : (h : Head) (xs : List ℕ) (q : Option Request) → step_of h xs q ≡ lens.puts sights h xs (places_for q) (posting_at h xs q).become
step_puts h xs q = ap (lens.add_all sights h (lens.puts sights h xs (places_for q) (posting_at h xs q).become)) (no_adds q (lens.reads view_at h xs (places_for q)))

pub step_refused : (h : Head) (xs : List ℕ) (q : Option Request) → ((posting_at h xs q).says ≡ 0 → ⊥) → step_of h xs q ≡ xs
step_refused h xs q n =
    step_puts h xs q ∙ ap (lens.puts sights h xs (places_for q)) (none_made q (lens.reads view_at h xs (places_for q)) n) ∙ puts_none h xs (places_for q)

-- ---- what an accepted one makes

pub data Made (h : Head) (xs : List ℕ) : List Place → List Account → Type 0 where
  one : {p : Place} {a : Account} → Within h p → Sound (account_at h xs p) → Fine (account_at h xs p) a → a.position ≡ (account_at h xs p).position → Made h xs (p ∷ []) (a ∷ [])
  two : {m m' j : ℕ} {a c : Account} → Within h (place m j) → Within h (place m' j) → m ≢ m'
      → Sound (account_at h xs (place m j)) → Sound (account_at h xs (place m' j))
      → Fine (account_at h xs (place m j)) a → Fine (account_at h xs (place m' j)) c
      → Cancels (account_at h xs (place m j)).position a.position (account_at h xs (place m' j)).position c.position
      → Made h xs (place m j ∷ place m' j ∷ []) (a ∷ c ∷ [])

sound_account : {h : Head} {xs : List ℕ} (p : Place) → Whole h xs → Within h p → Sound (account_at h xs p)
unfolding account_at
sound_account p o w = sound_at p o.rows w

module _ {h : Head} {xs : List ℕ} (o : Whole h xs) where
  -- of one account, and of two: the answer 0 taken for what it is
  one_made : {m n : ℕ} {a : Account} → n ≡ 0 → m < h.members → (Sound (account_at h xs (place m 0)) → Fine (account_at h xs (place m 0)) a) → a.position ≡ (account_at h xs (place m 0)).position → Made h xs (place m 0 ∷ []) (on_zero n (a ∷ []) [])
  one_made {m} e l fine same =
      let w : Within h (place m 0) = record { member = l; contract = some_contract o } in
      let i = sound_account (place m 0) o w in
      rw e (one w i (fine i) same)

  two_made : {m m' j n : ℕ} {a c : Account} → n ≡ 0 → j < h.contracts → m < h.members → m' < h.members → m ≢ m'
      → (let a₀ = account_at h xs (place m j) in let c₀ = account_at h xs (place m' j) in Sound a₀ → Sound c₀ → Fine a₀ a × Fine c₀ c × Cancels a₀.position a.position c₀.position c.position)
      → Made h xs (place m j ∷ place m' j ∷ []) (on_zero n (a ∷ c ∷ []) [])
  two_made {m} {m'} {j} e k l l' ne all =
      let w : Within h (place m j) = record { member = l; contract = k } in
      let w' : Within h (place m' j) = record { member = l'; contract = k } in
      let i = sound_account (place m j) o w in
      let i' = sound_account (place m' j) o w' in
      let fine = all i i' in
      rw e (two w w' ne i i' fine.0 fine.1 fine.2)

  pub made : {q : Option Request} → Formed h q → (posting_at h xs q).says ≡ 0 → Made h xs (places_for q) (posting_at h xs q).become
  made (trading {t} s price) e =
      let d = trade_done t _ _ e in
      two_made e s.contract s.buyer s.seller s.differ (λ i i'. (
        traded_fine Buyer t.buying t _ i price s.few d.buyer,
        traded_fine Seller t.selling t _ i' price s.few d.seller,
        trade_cancels t _ _ i i' d.buyer d.seller,
      ))
  made (pairing {p} s) e =
      let d = pairing_done p _ _ e in
      two_made e s.contract s.buyer s.seller s.differ (λ i i'. (paired_fine Long p _ i d.buyer, paired_fine Short p _ i' d.seller, pairing_cancels p (account_at h xs (place p.buyer p.contract)) (account_at h xs (place p.seller p.contract))))
  made (depositing {p} l sum) e = one_made e l (λ i. deposited_fine p _ i sum (deposit_done p _ e)) refl
  made (withdrawing {p} l sum) e = one_made e l (λ i. withdrawn_fine p _ i sum (withdrawal_done p _ e)) refl
  made (pledging {p} l market discount) e = one_made e l (λ i. pledged_fine p _ i market discount (pledge_done p _ e)) refl
  made nothing e = absurd (omega arith)
