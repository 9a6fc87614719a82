-- What an accepted record makes of its accounts, by the request that it was read as.
use mathlib.Core.Path.{◌≡◌, sym, ◌∙◌, subst}
use mathlib.Core.List.{List, [], ◌∷◌}
use Prim.Native.Nat.{ℕ}
use Rattle.folds.specs.First.{on_zero}
use Rattle.order.specs.Lens as lens
use Rattle.book.specs.declared.accounts.Account.{Account}
use Rattle.book.specs.Heads.{head_at}
use Rattle.book.specs.Accounts.{account_at}
use Rattle.std.specs.Prelude.{Option}
use Rattle.requests.specs.declared.records.Request.{Request}
use Rattle.requests.specs.Records.{request_of, places_for}
use Rattle.posting.specs.Answers.{answer, after}
use Rattle.promises.proofs.Made.{posting_at}
use Rattle.promises.proofs.Answering.{valid_answer, accepted_valid}
use Rattle.promises.proofs.OnlyNamed.{accepted_makes}

-- the accounts made where the answer n is 0
pub sole : {a a' : Account} {n : ℕ} → n ≡ 0 → a ∷ [] ≡ on_zero n (a' ∷ []) [] → a ≡ a'
sole z e = let k = rw z at e in cc

pub both : {a c a' c' : Account} {n : ℕ} → n ≡ 0 → a ∷ c ∷ [] ≡ on_zero n (a' ∷ c' ∷ []) [] → (a ≡ a') × (c ≡ c')
both z e = let k = rw z at e in ((cc), (cc))

module _ (book r : List ℕ) (a : answer book r ≡ 0) {q : Option Request} (e : request_of (head_at book) r ≡ q) where
  pub makes : lens.reads account_at (head_at book) (after book r) (places_for q) ≡ (posting_at (head_at book) book q).become
  makes = subst (λ (x : Option Request). lens.reads account_at (head_at book) (after book r) (places_for x) ≡ (posting_at (head_at book) book x).become) e (accepted_makes book r a)

  pub accepted : (posting_at (head_at book) book q).says ≡ 0
  accepted = subst (λ (x : Option Request). (posting_at (head_at book) book x).says ≡ 0) e (sym (valid_answer book r (accepted_valid book r a)) ∙ a)
