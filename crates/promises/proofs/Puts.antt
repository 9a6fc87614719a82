-- One account of a book put back: what it changes, and what that does to the book's rows and sums.
use mathlib.Core.Path.{◌≡◌, sym, ap, ap₂, ◌∙◌, subst}
use mathlib.Core.Logic.{◌≢◌, ◌⊎◌, inl, inr}
use mathlib.Core.Bool.{true}
use mathlib.Core.List.{List}
use Prim.Native.Nat.{ℕ, ◌+◌, ◌*◌, ◌≤◌, ◌<◌}
use native.Mathlib.Omega.{arith}
use native.Mathlib.Decide.{ℕ_discrete}
use borrow.Author.Differences.{ints}
use lib.IntN.{ℤ, pos, ◌+ℤ◌}
use lib.ListN.{length}
use Rattle.numbers.specs.Sum.{sum_to}
use Rattle.numbers.proofs.Sums.{sum_ext, sum_has, total_ext}
use Rattle.folds.specs.Tests.{all_of, between}
use Rattle.folds.proofs.Changed.{sum_one, total_one}
use Rattle.rules.specs.declared.units.Sides.{Sides}
use Rattle.book.specs.declared.heads.Head.{Head}
use Rattle.book.specs.declared.contracts.Contract.{Contract}
use Rattle.book.specs.declared.members.Member.{Member}
use Rattle.book.specs.declared.positions.Position.{Position}
use Rattle.book.specs.declared.accounts.Place.{Place}
use Rattle.book.specs.declared.accounts.Account.{Account}
use Rattle.book.specs.Layout.{book_length}
use Rattle.book.specs.Members.{kind_number}
use Rattle.book.specs.Positions.{opening_of, held_sides, paired_of}
use Rattle.book.specs.Accounts.{place, account_at, put_account, Within}
use Rattle.book.specs.Books.{Book, book_by}
use Rattle.book.proofs.Rows.{MemberFits, PositionFits, kind_known}
use Rattle.book.proofs.LensLaws.{contract_kept, member_kept, kind_kept, position_kept, account_back, account_kind}
use Rattle.validity.specs.Valid.{contract_tests, longs_to, shorts_to, cash_to}
use Rattle.validity.specs.InRange.{MemberIn, PositionIs}
use Rattle.validity.proofs.AsFacts.{Rows, Level, Balance}
use Rattle.promises.proofs.Sound.{Sound, Fine}
use Rattle.promises.proofs.Changes.{Even, Cancels}

-- the account at p
abbrev pub account_of : Book → Place → Account
account_of b p = record { member = b.member p.member; position = b.position p.member p.contract }

-- b' is b with the account a at p
pub record Put (h : Head) (b b' : Book) (p : Place) (a : Account) : Type 0 where
  pub contracts : (j : ℕ) → j < h.contracts → b'.contract j ≡ b.contract j
  pub kind : b'.kind_number p.member ≡ kind_number a.member.kind
  pub kinds : (m : ℕ) → m < h.members → m ≢ p.member → b'.kind_number m ≡ b.kind_number m
  pub member : b'.member p.member ≡ a.member
  pub members : (m : ℕ) → m < h.members → m ≢ p.member → b'.member m ≡ b.member m
  pub position : b'.position p.member p.contract ≡ a.position
  pub positions : (m j : ℕ) → m < h.members → j < h.contracts → (m ≢ p.member) ⊎ (j ≢ p.contract) → b'.position m j ≡ b.position m j

pub bytes_put : (h : Head) (xs : List ℕ) (p : Place) (a : Account) → book_length h ≤ length xs → Within h p → MemberFits a.member → PositionFits a.position
    → Put h (book_by h xs) (book_by h (put_account h xs p a)) p a
unfolding account_at
bytes_put h xs p a room w f g = record {
  contracts = contract_kept h xs p a;
  kind = account_kind h xs p a room w;
  kinds = kind_kept h xs p a;
  member = ap (λ (x : Account). x.member) (account_back h xs p a room w f g);
  members = member_kept h xs p a;
  position = ap (λ (x : Account). x.position) (account_back h xs p a room w f g);
  positions = λ m j lm lj ne. position_kept h xs p a m j w lj ne;
}

pub sound_at : {h : Head} {b : Book} (p : Place) → Rows h b → Within h p → Sound (account_of b p)
sound_at {h} {b} p r w = record {
  member = r.members p.member w.member;
  position = r.positions p.member p.contract w.member w.contract;
  traded = omega (arith, sum_has (λ (j : ℕ). (b.position p.member j).traded.0) h.contracts p.contract w.contract, r.traded p.member w.member);
}

-- ---- one account put back

module _ {h : Head} {b b' : Book} {p : Place} {a : Account} (put : Put h b b' p a) (w : Within h p) where
  pub rows_put : Rows h b → Fine (account_of b p) a → Rows h b'
  rows_put r f = record {
    contracts = λ j l. subst (λ (x : Contract). all_of (contract_tests x) ≡ true) (sym (put.contracts j l)) (r.contracts j l);
    kinds = kinds;
    members = members;
    positions = positions;
    traded = traded;
  }
    where
      kinds : (m : ℕ) → m < h.members → between 1 2 (b'.kind_number m) ≡ true
      kinds m l = elim (ℕ_discrete m p.member) [
        | yes e ↦ ap (λ (x : ℕ). between 1 2 x) (ap b'.kind_number e ∙ put.kind) ∙ kind_known a.member.kind
        | no ne ↦ ap (λ (x : ℕ). between 1 2 x) (put.kinds m l ne) ∙ r.kinds m l
      ]

      members : (m : ℕ) → m < h.members → MemberIn (b'.member m)
      members m l = elim (ℕ_discrete m p.member) [
        | yes e ↦ subst MemberIn (sym (ap b'.member e ∙ put.member)) f.member
        | no ne ↦ subst MemberIn (sym (put.members m l ne)) (r.members m l)
      ]

      old : (m j : ℕ) → m < h.members → j < h.contracts → (m ≢ p.member) ⊎ (j ≢ p.contract) → PositionIs (b'.position m j)
      old m j l k ne = subst PositionIs (sym (put.positions m j l k ne)) (r.positions m j l k)

      positions : (m j : ℕ) → m < h.members → j < h.contracts → PositionIs (b'.position m j)
      positions m j l k = elim (ℕ_discrete m p.member) [
        | yes e ↦ elim (ℕ_discrete j p.contract) [
          | yes e' ↦ subst PositionIs (sym (ap₂ b'.position e e' ∙ put.position)) f.position
          | no ne ↦ old m j l k (inr ne)
        ]
        | no ne ↦ old m j l k (inl ne)
      ]

      own : sum_to (λ (j : ℕ). (b'.position p.member j).traded.0) h.contracts ≤ 10_000 * (b'.member p.member).accepted
      own =
          let s = sum_one (λ (j : ℕ). (b.position p.member j).traded.0) (λ (j : ℕ). (b'.position p.member j).traded.0) h.contracts p.contract w.contract
          (λ j l ne. ap (λ (x : Position). x.traded.0) (sym (put.positions p.member j w.member l (inr ne)))) in
          let t = ap (λ (x : Position). x.traded.0) put.position in
          let c = ap (λ (x : Member). x.accepted) put.member in
          omega (arith, s, t, c, f.traded, r.traded p.member w.member)

      traded : (m : ℕ) → m < h.members → sum_to (λ (j : ℕ). (b'.position m j).traded.0) h.contracts ≤ 10_000 * (b'.member m).accepted
      traded m l = elim (ℕ_discrete m p.member) [
        | yes e ↦ subst (λ (x : ℕ). sum_to (λ (j : ℕ). (b'.position x j).traded.0) h.contracts ≤ 10_000 * (b'.member x).accepted) (sym e) own
        | no ne ↦ omega (
          arith,
          r.traded m l,
          ap (λ (x : Member). x.accepted) (put.members m l ne),
          sum_ext (λ (j : ℕ). (b'.position m j).traded.0) (λ (j : ℕ). (b.position m j).traded.0) h.contracts (λ j k. ap (λ (x : Position). x.traded.0) (put.positions m j l k (inl ne))),
        )
      ]

  -- a contract's sum of any number of a position: at p's contract the old number goes and the new one comes, elsewhere it stays
  sum_at : (f : Position → ℕ) → sum_to (λ (m : ℕ). f (b'.position m p.contract)) h.members + f (b.position p.member p.contract) ≡ sum_to (λ (m : ℕ). f (b.position m p.contract)) h.members + f a.position
  sum_at f =
      sum_one (λ (m : ℕ). f (b.position m p.contract)) (λ (m : ℕ). f (b'.position m p.contract)) h.members p.member w.member (λ m l ne. ap f (sym (put.positions m p.contract l w.contract (inl ne))))
      ∙ ap (λ (x : Position). sum_to (λ (m : ℕ). f (b.position m p.contract)) h.members + f x) put.position

  sum_off : (f : Position → ℕ) (j : ℕ) → j < h.contracts → j ≢ p.contract → sum_to (λ (m : ℕ). f (b'.position m j)) h.members ≡ sum_to (λ (m : ℕ). f (b.position m j)) h.members
  sum_off f j k ne = sum_ext _ _ h.members (λ m l. ap f (put.positions m j l k (inr ne)))

  cash_at_lem : cash_to b' p.contract h.members +ℤ (b.position p.member p.contract).cash.0 ≡ cash_to b p.contract h.members +ℤ a.position.cash.0
  cash_at_lem =
      total_one (λ (m : ℕ). (b.position m p.contract).cash.0) (λ (m : ℕ). (b'.position m p.contract).cash.0) h.members p.member w.member (λ m l ne. ap (λ (x : Position). x.cash.0) (sym (put.positions m p.contract l w.contract (inl ne))))
      ∙ ap (λ (x : Position). cash_to b p.contract h.members +ℤ x.cash.0) put.position

  cash_off : (j : ℕ) → j < h.contracts → j ≢ p.contract → cash_to b' j h.members ≡ cash_to b j h.members
  cash_off j k ne = total_ext _ _ h.members (λ m l. ap (λ (x : Position). x.cash.0) (put.positions m j l k (inr ne)))

  -- a posting that leaves the position as it was
  pub balance_one : a.position ≡ b.position p.member p.contract → Balance h b → Balance h b'
  balance_one same e = record {
    opening = level opening_of e.opening;
    held = level held_sides e.held;
    paired = level paired_of e.paired;
    cash = λ j k. total_ext _ _ h.members (λ m l. ap (λ (x : Position). x.cash.0) (still m j l k)) ∙ e.cash j k;
  }
    where
      still : (m j : ℕ) → m < h.members → j < h.contracts → b'.position m j ≡ b.position m j
      still m j l k = elim (ℕ_discrete m p.member) [
        | yes e₁ ↦ elim (ℕ_discrete j p.contract) [
          | yes e₂ ↦ ap₂ b'.position e₁ e₂ ∙ put.position ∙ same ∙ sym (ap₂ b.position e₁ e₂)
          | no ne ↦ put.positions m j l k (inr ne)
        ]
        | no ne ↦ put.positions m j l k (inl ne)
      ]

      level : (count : Position → Sides) → Level count h b → Level count h b'
      level count q j k =
          sum_ext _ _ h.members (λ m l. ap (λ (x : Position). (count x).long.0) (still m j l k))
          ∙ q j k
          ∙ sum_ext _ _ h.members (λ m l. ap (λ (x : Position). (count x).short.0) (sym (still m j l k)))

-- ---- two accounts of one contract

module _ {h : Head} {b b₁ b₂ : Book} {m m' j : ℕ} {a c : Account}
    (put : Put h b b₁ (place m j) a) (put' : Put h b₁ b₂ (place m' j) c)
    (w : Within h (place m j)) (w' : Within h (place m' j)) (differ : m' ≢ m) where
  there : b₁.position m' j ≡ b.position m' j
  there = put.positions m' j w'.member w.contract (inl differ)

  level_two : (count : Position → Sides) → Even count (b.position m j) a.position (b.position m' j) c.position → Level count h b → Level count h b₂
  level_two count n e i k = elim (ℕ_discrete i j) [
    | yes q ↦ subst (λ (x : ℕ). longs_to count b₂ x h.members ≡ shorts_to count b₂ x h.members) (sym q)
        (omega (
          arith,
          e j w.contract,
          n,
          sum_at put w (λ (x : Position). (count x).long.0),
          sum_at put w (λ (x : Position). (count x).short.0),
          sum_at put' w' (λ (x : Position). (count x).long.0),
          sum_at put' w' (λ (x : Position). (count x).short.0),
          ap (λ (x : Position). (count x).long.0) there,
          ap (λ (x : Position). (count x).short.0) there,
        ))
    | no ne ↦
        sum_off put' w' (λ (x : Position). (count x).long.0) i k ne ∙ sum_off put w (λ (x : Position). (count x).long.0) i k ne
        ∙ e i k
        ∙ sym (sum_off put' w' (λ (x : Position). (count x).short.0) i k ne ∙ sum_off put w (λ (x : Position). (count x).short.0) i k ne)
  ]

  pub balance_two : Cancels (b.position m j) a.position (b.position m' j) c.position → Balance h b → Balance h b₂
  balance_two n e = record {
    opening = level_two opening_of n.opening e.opening;
    held = level_two held_sides n.held e.held;
    paired = level_two paired_of n.paired e.paired;
    cash = cash;
  }
    where
      total : Book → ℤ
      total d = cash_to d j h.members

      both : total b₂ ≡ total b
      both = omega (arith, ints, cash_at_lem put w, cash_at_lem put' w', ap (λ (x : Position). x.cash.0) there, n.cash)

      cash : (i : ℕ) → i < h.contracts → cash_to b₂ i h.members ≡ pos 0
      cash i k = elim (ℕ_discrete i j) [
        | yes q ↦ subst (λ (x : ℕ). cash_to b₂ x h.members ≡ pos 0) (sym q) (both ∙ e.cash j w.contract)
        | no ne ↦ cash_off put' w' i k ne ∙ cash_off put w i k ne ∙ e.cash i k
      ]
