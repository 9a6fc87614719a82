-- A run of records moves a member's row in a contract by the fills of the records accepted, each allowed by the row that it met.
use mathlib.Core.Path.{◌≡◌, refl, sym, ap, ◌∙◌, subst}
use mathlib.Core.Logic.{◌≢◌}
use mathlib.Core.Bool.{true, cond}
use mathlib.Core.List.Memᴰ
use mathlib.Core.List.{List, [], ◌∷◌, Memᴰ}
use Prim.Native.Nat.{ℕ, zero, suc, ◌<◌}
use native.Mathlib.Decide.{ℕ_discrete}
use native.Mathlib.Omega.{arith}
use borrow.Author.Tests.{eqb-true, eqb-false}
use lib.Dec.{eqb}
use Rattle.std.proofs.lemmas.Bool.{cond_both}
use Rattle.folds.specs.First.{on_zero}
use Rattle.order.specs.Order.{final, answers}
use Rattle.book.specs.declared.heads.Head.{Head}
use Rattle.book.specs.declared.positions.Position.{Position}
use Rattle.book.specs.declared.accounts.Account.{Account}
use Rattle.book.specs.Heads.{head_at}
use Rattle.book.specs.Accounts.{account_at}
use Rattle.validity.specs.Valid.{valid_book}
use Rattle.std.specs.Prelude.{Option}
use Rattle.requests.specs.declared.records.Request.{Request}
use Rattle.posting.specs.declared.fills.Way.TheVariants.{Long, Short}
use Rattle.posting.specs.declared.fills.Party.TheVariants.{Buyer, Seller}
use Rattle.requests.specs.Records.{request_of, names_of, contract_of}
use Rattle.posting.specs.Answers.{answer, after}
use Rattle.promises.specs.Dealings.{Fill, dealing, delivering, share, fills_of, accepted_of, fills_in, dealings, row_at}
use Rattle.requests.proofs.Requests.{Formed, trading, pairing, depositing, withdrawing, pledging, nothing, formed}
use Rattle.promises.proofs.Changes.{trade_done}
use Rattle.promises.proofs.Kept.{kept}
use Rattle.promises.proofs.AcceptedMakes.{sole, both, makes, accepted}
use Rattle.promises.proofs.OnlyNamed.{counts_stay, position_stays, elsewhere_stays, refused_stays}
use Rattle.promises.proofs.Grown.{Moves, none, next, join}

still : {a b : Position} → b ≡ a → Moves a [] b
still {a} {b} e = subst (λ (x : Position). Moves a [] x) (sym e) none

-- one member's share of a record's two sides, where all other rows stay
shared : (row row' : ℕ → ℕ → Position) (c x y : ℕ) (f g : Fill) (m j : ℕ)
    → Moves (row x c) (f ∷ []) (row' x c) → Moves (row y c) (g ∷ []) (row' y c)
    → (j ≢ c → row' m j ≡ row m j) → (m ≢ x → m ≢ y → row' m j ≡ row m j)
    → Moves (row m j) (share c x y f g m j) (row' m j)
shared row row' c x y f g m j first second off out =
    let To : List Fill → Type 0 = λ fs. Moves (row m j) fs (row' m j) in
    cond_both (eqb c j) (cond (eqb x m) (f ∷ []) (cond (eqb y m) (g ∷ []) [])) [] To
    (λ p. cond_both (eqb x m) (f ∷ []) (cond (eqb y m) (g ∷ []) []) To (λ q. at x (eqb-true c j p) (eqb-true x m q) first)
    (λ q. cond_both (eqb y m) (g ∷ []) [] To (λ r. at y (eqb-true c j p) (eqb-true y m r) second) (λ r. still (out (λ e. eqb-false x m q (sym e)) (λ e. eqb-false y m r (sym e))))))
    (λ p. still (off (λ e. eqb-false c j p (sym e))))
  where
    at : (z : ℕ) {h : Fill} → c ≡ j → z ≡ m → Moves (row z c) (h ∷ []) (row' z c) → Moves (row m j) (h ∷ []) (row' m j)
    at z {h} e e' w = subst (λ (i : ℕ). Moves (row m i) (h ∷ []) (row' m i)) e (subst (λ (i : ℕ). Moves (row i c) (h ∷ []) (row' i c)) e' w)

neither : {m x y : ℕ} → m ≢ x → m ≢ y → ¬ Memᴰ m (x ∷ y ∷ [])
neither n n' (Memᴰ.head e) = n e
neither n n' (Memᴰ.tail i) = n' (Memᴰ.eq_of_singleton i)

module _ (book r : List ℕ) (a : answer book r ≡ 0) (m j : ℕ) (lj : j < (head_at book).contracts) where
  abbrev h : Head
  h = head_at book

  -- the request by another name
  module _ {q : Option Request} (e : request_of h r ≡ q) where
    off : j ≢ contract_of q → row_at h (after book r) m j ≡ row_at h book m j
    off ne = elsewhere_stays book r m j lj (λ z. ne (z ∙ ap contract_of e))

    out : ¬ Memᴰ m (names_of q) → row_at h (after book r) m j ≡ row_at h book m j
    out un = position_stays book r m j lj (λ i. un (subst (Memᴰ m) (ap names_of e) i))

    -- a request that names one member and leaves its position
    lone : (x : ℕ) → names_of q ≡ x ∷ [] → contract_of q ≡ 0 → row_at h (after book r) x 0 ≡ row_at h book x 0 → row_at h (after book r) m j ≡ row_at h book m j
    lone x names c same = elim (ℕ_discrete j 0) [
      | yes z ↦ elim (ℕ_discrete m x) [
        | yes y ↦ subst (λ (i : ℕ). row_at h (after book r) m i ≡ row_at h book m i) (sym z) (subst (λ (i : ℕ). row_at h (after book r) i 0 ≡ row_at h book i 0) (sym y) same)
        | no ne ↦ out (λ i. ne (Memᴰ.eq_of_singleton (subst (Memᴰ m) names i)))
      ]
      | no ne ↦ off (λ z. ne (z ∙ c))
    ]

  -- an accepted record moves the row by its own fills
  by_request : {q : Option Request} → Formed h q → request_of h r ≡ q → Moves (row_at h book m j) (fills_of q m j) (row_at h (after book r) m j)
  unfolding account_at
  by_request (trading {t} s price) e =
      let d = trade_done t _ _ (accepted book r a e) in
      let made = both (accepted book r a e) (makes book r a e) in
      shared (row_at h book) (row_at h (after book r)) t.contract t.buyer t.seller
      (dealing Buyer t.buying t.price t.lots) (dealing Seller t.selling t.price t.lots) m j
      (next d.buyer.enough (still (ap (λ (z : Account). z.position) made.0)))
      (next d.seller.enough (still (ap (λ (z : Account). z.position) made.1)))
      (off e) (λ n n'. out e (neither n n'))
  by_request (pairing {p} s) e =
      let made = both (accepted book r a e) (makes book r a e) in
      shared (row_at h book) (row_at h (after book r)) p.contract p.buyer p.seller (delivering Long p.lots) (delivering Short p.lots) m j
      (next refl (still (ap (λ (z : Account). z.position) made.0)))
      (next refl (still (ap (λ (z : Account). z.position) made.1)))
      (off e) (λ n n'. out e (neither n n'))
  by_request (depositing {p} l sum) e =
      still (lone e p.member refl refl (ap (λ (z : Account). z.position) (sole (accepted book r a e) (makes book r a e))))
  by_request (withdrawing {p} l sum) e =
      still (lone e p.member refl refl (ap (λ (z : Account). z.position) (sole (accepted book r a e) (makes book r a e))))
  by_request (pledging {p} l market discount) e =
      still (lone e p.member refl refl (ap (λ (z : Account). z.position) (sole (accepted book r a e) (makes book r a e))))
  by_request nothing e = absurd (omega (arith, accepted book r a e))

pub record_moves : (book r : List ℕ) → answer book r ≡ 0 → (m j : ℕ) → j < (head_at book).contracts
    → Moves (row_at (head_at book) book m j) (fills_of (request_of (head_at book) r) m j) (row_at (head_at book) (after book r) m j)
record_moves book r a m j lj = by_request book r a m j lj (formed (head_at book) r) refl

module _ (h : Head) (m j : ℕ) (lj : j < h.contracts) where
  -- a refused record is not among the accepted, and leaves the row
  first_moves : (book r : List ℕ) (l : List (List ℕ)) (b : Position) → head_at book ≡ h → valid_book book ≡ true → (n : ℕ) → answer book r ≡ n
      → Moves (row_at h (after book r) m j) (fills_in h l m j) b → Moves (row_at h book m j) (fills_in h (on_zero n (r ∷ l) l) m j) b
  first_moves book r l b e v zero a rest =
      join (subst (λ (g : Head). j < g.contracts → Moves (row_at g book m j) (fills_of (request_of g r) m j) (row_at g (after book r) m j)) e (record_moves book r a m j) lj) rest
  first_moves book r l b e v (suc n) a rest =
      subst (λ (ys : List ℕ). Moves (row_at h ys m j) (fills_in h l m j) b) (refused_stays book r (λ z. absurd (omega (arith, a, z)))) rest

  by_head : (book : List ℕ) (rs : List (List ℕ)) → head_at book ≡ h → valid_book book ≡ true
      → Moves (row_at h book m j) (fills_in h (accepted_of (answers after answer book rs) rs) m j) (row_at h (final after book rs) m j)
  by_head book [] e v = none
  by_head book (r ∷ rs) e v =
      first_moves book r (accepted_of (answers after answer (after book r) rs) rs) (row_at h (final after (after book r) rs) m j) e v (answer book r) refl
      (by_head (after book r) rs (counts_stay book r ∙ e) (kept book r ∙ v))

-- the run
pub run_moves : (book : List ℕ) (rs : List (List ℕ)) (m j : ℕ) → valid_book book ≡ true → j < (head_at book).contracts
    → Moves (row_at (head_at book) book m j) (dealings book rs m j) (row_at (head_at book) (final after book rs) m j)
run_moves book rs m j v lj = by_head (head_at book) m j lj book rs refl v
