-- No record changes the number of a member's kind: it is put back as the kind says it, and in a valid book that is what stood there.
use mathlib.Core.Path.{◌≡◌, sym, ap, ◌∙◌}
use mathlib.Core.List.{List}
use Prim.Native.Nat.{ℕ, ◌≤◌, ◌<◌}
use native.Mathlib.Decide.{ℕ_discrete}
use native.Mathlib.Omega.{arith}
use lib.ListN.{length}
use Rattle.order.specs.Lens as lens
use Rattle.book.specs.declared.heads.Head.{Head}
use Rattle.book.specs.declared.accounts.Place.{Place}
use Rattle.book.specs.declared.accounts.Account.{Account}
use Rattle.book.specs.Layout.{member_off, book_length}
use Rattle.book.specs.Heads.{head_at}
use Rattle.book.specs.Members.{kind_number, kind_number_at, member_at}
use Rattle.book.specs.Accounts.{place, account_at, put_account, Within}
use Rattle.book.specs.Views.{sights}
use Rattle.book.proofs.Rows.{kind_is}
use Rattle.book.proofs.LensLaws.{length_account, kind_kept, account_kind}
use Rattle.requests.specs.Records.{request_of}
use Rattle.posting.specs.Answers.{answer, after}
use Rattle.requests.proofs.Requests.{formed}
use Rattle.promises.proofs.Sound.{Fine}
use Rattle.promises.proofs.Whole.{Whole, whole_of, room}
use Rattle.promises.proofs.Made.{step_puts, Made, one, two, made}
use Rattle.promises.proofs.Answering.{valid_answer, valid_after, accepted_valid}
use Rattle.promises.proofs.OnlyNamed.{refused_stays}

kind_at : {h : Head} {xs : List ℕ} (p : Place) (a : Account) → Whole h xs → Within h p → Fine (account_at h xs p) a → kind_number a.member.kind ≡ kind_number_at xs (member_off h p.member)
unfolding account_at member_at
kind_at {h} {xs} p a o w f = ap kind_number f.kind ∙ kind_is (kind_number_at xs (member_off h p.member)) (o.rows.kinds p.member w.member)

kind_put : (h : Head) (xs : List ℕ) (p : Place) (a : Account) → book_length h ≤ length xs → Within h p → kind_number a.member.kind ≡ kind_number_at xs (member_off h p.member)
    → (m : ℕ) → m < h.members → kind_number_at (put_account h xs p a) (member_off h m) ≡ kind_number_at xs (member_off h m)
kind_put h xs p a l w same m k = elim (ℕ_discrete m p.member) [
  | yes e ↦
      ap (λ (x : ℕ). kind_number_at (put_account h xs p a) (member_off h x)) e
      ∙ account_kind h xs p a l w
      ∙ same
      ∙ ap (λ (x : ℕ). kind_number_at xs (member_off h x)) (sym e)
  | no ne ↦ kind_kept h xs p a m k ne
]

made_kinds : {h : Head} {xs : List ℕ} {ps : List Place} {as' : List Account} → Whole h xs → Made h xs ps as' → (m : ℕ) → m < h.members
    → kind_number_at (lens.puts sights h xs ps as') (member_off h m) ≡ kind_number_at xs (member_off h m)
made_kinds {h} {xs} o (one {p = p} {a = a} w s f same) m k = kind_put h xs p a (room o) w (kind_at p a o w f) m k
made_kinds {h} {xs} o (two {m = m₁} {m' = m₂} {j = j} {a = a} {c = c} w w' ne s s' f g n) m k =
    let ys : List ℕ = put_account h xs (place m₁ j) a in
    kind_put h ys (place m₂ j) c (omega (arith, room o, length_account h xs (place m₁ j) a)) w'
    (kind_at (place m₂ j) c o w' g ∙ sym (kind_kept h xs (place m₁ j) a m₂ w'.member (λ e. ne (sym e)))) m k
    ∙ kind_put h xs (place m₁ j) a (room o) w (kind_at (place m₁ j) a o w f) m k

-- the kind of every member, named or not
pub kind_stays : (book r : List ℕ) (m : ℕ) → m < (head_at book).members → kind_number_at (after book r) (member_off (head_at book) m) ≡ kind_number_at book (member_off (head_at book) m)
kind_stays book r m l = elim (ℕ_discrete (answer book r) 0) [
  | yes a ↦
      let e = accepted_valid book r a in
      let o = whole_of book e in
      ap (λ (ys : List ℕ). kind_number_at ys (member_off (head_at book) m)) (valid_after book r e ∙ step_puts (head_at book) book (request_of (head_at book) r))
      ∙ made_kinds o (made o (formed (head_at book) r) (sym (valid_answer book r e) ∙ a)) m l
  | no n ↦ ap (λ (ys : List ℕ). kind_number_at ys (member_off (head_at book) m)) (refused_stays book r n)
]
