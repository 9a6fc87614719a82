-- The lens laws: an account put back reads back, all else stays, and accounts of different members may be put back in either order.
use mathlib.Core.Path.{◌≡◌, sym, ap, ◌∙◌}
use mathlib.Core.Logic.{◌≢◌, ◌⊎◌, inl}
use mathlib.Core.List.{List}
use Prim.Native.Nat.{ℕ, ◌+◌, ◌≤◌, ◌<◌}
use native.Mathlib.Omega.{arith}
use lib.ListN.{length}
use Rattle.wire.specs.LittleEndian.{Apart}
use Rattle.wire.proofs.Places.{apart_sym}
use Rattle.book.specs.Layout.{Head, head_size, contract_size, member_size, position_size, contract_off, member_off, position_off, book_length, kind_at}
use Rattle.book.specs.Heads.{head_at}
use Rattle.book.specs.ContractRows.{contract_at}
use Rattle.book.specs.Members.{member_at, put_member, kind_number, kind_number_at}
use Rattle.book.specs.Positions.{position_at, put_position}
use Rattle.book.specs.Accounts.{Place, Account, account_at, put_account, Within, Far}
use Rattle.book.proofs.Contents.{same_head}
use Rattle.book.proofs.Places.{member_within, position_within, head_member, head_position, contract_member, contract_position, members_apart, member_position, rows_apart, positions_apart}
use Rattle.book.proofs.Rows.{Same, MemberFits, PositionFits, member_back, kind_number_back, position_back, same_contract, same_member, same_position, put_member_stays, put_position_stays, length_member, length_position, member_member, position_position, position_member}

pub length_account : (h : Head) (xs : List ℕ) (p : Place) (a : Account) → length (put_account h xs p a) ≡ length xs
unfolding put_account
length_account h xs p a =
    length_position (put_member xs (member_off h p.member) a.member) (position_off h p.member p.contract) a.position
    ∙ length_member xs (member_off h p.member) a.member

-- what is apart from both rows
pub account_stays : (h : Head) (xs : List ℕ) (p : Place) (a : Account) (o size : ℕ)
    → Apart o size (member_off h p.member) member_size → Apart o size (position_off h p.member p.contract) position_size → Same (put_account h xs p a) xs o size
unfolding put_account
account_stays h xs p a o size u v at w l =
    put_position_stays (put_member xs (member_off h p.member) a.member) (position_off h p.member p.contract) a.position o size v at w l
    ∙ put_member_stays xs (member_off h p.member) a.member o size u at w l

-- the head, the table of contents and the contracts
pub head_stays : (h : Head) (xs : List ℕ) (p : Place) (a : Account) → Same (put_account h xs p a) xs 0 head_size
head_stays h xs p a = account_stays h xs p a 0 head_size (head_member h p.member) (head_position h p.member p.contract)

pub head_put : (h : Head) (xs : List ℕ) (p : Place) (a : Account) → head_at (put_account h xs p a) ≡ head_at xs
head_put h xs p a = same_head (put_account h xs p a) xs (head_stays h xs p a)

pub contract_kept : (h : Head) (xs : List ℕ) (p : Place) (a : Account) (j : ℕ) → j < h.contracts → contract_at (put_account h xs p a) (contract_off j) ≡ contract_at xs (contract_off j)
contract_kept h xs p a j l =
    same_contract _ _ (contract_off j) (account_stays h xs p a (contract_off j) contract_size (contract_member h j p.member l) (contract_position h j p.member p.contract l))

-- other members, and other contracts of the same member
member_stays : (h : Head) (xs : List ℕ) (p : Place) (a : Account) (m : ℕ) → m < h.members → m ≢ p.member → Same (put_account h xs p a) xs (member_off h m) member_size
member_stays h xs p a m l ne =
    account_stays h xs p a (member_off h m) member_size (members_apart h m p.member ne) (member_position h m p.member p.contract l)

pub member_kept : (h : Head) (xs : List ℕ) (p : Place) (a : Account) (m : ℕ) → m < h.members → m ≢ p.member → member_at (put_account h xs p a) (member_off h m) ≡ member_at xs (member_off h m)
member_kept h xs p a m l ne = same_member _ _ (member_off h m) (member_stays h xs p a m l ne)

pub kind_kept : (h : Head) (xs : List ℕ) (p : Place) (a : Account) (m : ℕ) → m < h.members → m ≢ p.member → kind_number_at (put_account h xs p a) (member_off h m) ≡ kind_number_at xs (member_off h m)
kind_kept h xs p a m l ne = member_stays h xs p a m l ne kind_at 4 (omega arith)

pub position_kept : (h : Head) (xs : List ℕ) (p : Place) (a : Account) (m j : ℕ) → Within h p → j < h.contracts → (m ≢ p.member) ⊎ (j ≢ p.contract)
    → position_at (put_account h xs p a) (position_off h m j) ≡ position_at xs (position_off h m j)
position_kept h xs p a m j w l ne =
    same_position _ _ (position_off h m j)
    (account_stays h xs p a (position_off h m j) position_size (apart_sym (member_position h p.member m j w.member)) (positions_apart h m j p.member p.contract l w.contract ne))

pub get_put : (h : Head) (xs : List ℕ) (p q : Place) (a : Account) → Far h p q → account_at h (put_account h xs p a) q ≡ account_at h xs q
unfolding account_at
get_put h xs p q a f i = record {
  member = member_kept h xs p a q.member f.other.member (λ e. f.differ (sym e)) i;
  position = position_kept h xs p a q.member q.contract f.one f.other.contract (inl (λ e. f.differ (sym e))) i;
}

-- an account put back reads back, with the number of its member's kind
module _ (h : Head) (xs : List ℕ) (p : Place) (a : Account) (room : book_length h ≤ length xs) (w : Within h p) where
  fits : member_off h p.member + member_size ≤ length xs
  fits = omega (arith, room, member_within h p.member w.member)

  -- the position's row is laid down after the member's, and apart from it
  stays : Same (put_account h xs p a) (put_member xs (member_off h p.member) a.member) (member_off h p.member) member_size
  unfolding put_account
  stays =
      put_position_stays (put_member xs (member_off h p.member) a.member) (position_off h p.member p.contract) a.position (member_off h p.member) member_size
      (member_position h p.member p.member p.contract w.member)

  pub account_back : MemberFits a.member → PositionFits a.position → account_at h (put_account h xs p a) p ≡ a
  unfolding account_at put_account
  account_back f g i = record {
    member = (same_member _ _ (member_off h p.member) stays ∙ member_back xs (member_off h p.member) a.member fits f) i;
    position = position_back (put_member xs (member_off h p.member) a.member) (position_off h p.member p.contract) a.position
        (omega (arith, room, position_within h p.member p.contract w.member w.contract, length_member xs (member_off h p.member) a.member)) g i;
  }

  pub account_kind : kind_number_at (put_account h xs p a) (member_off h p.member) ≡ kind_number a.member.kind
  account_kind = stays kind_at 4 (omega arith) ∙ kind_number_back xs (member_off h p.member) a.member fits

pub put_put : (h : Head) (xs : List ℕ) (p q : Place) (a b : Account) → Far h p q → put_account h (put_account h xs p a) q b ≡ put_account h (put_account h xs q b) p a
unfolding put_account
put_put h xs p q a b f =
    ap (λ (t : List ℕ). put_position t qp b.position) (position_member (put_member xs pm a.member) pp qm a.position b.member (apart_sym (member_position h q.member p.member p.contract f.other.member)))
    ∙ position_position (put_member (put_member xs pm a.member) qm b.member) pp qp a.position b.position (rows_apart h p.member p.contract q.member q.contract f.one.contract f.other.contract f.differ)
    ∙ ap (λ (t : List ℕ). put_position (put_position t qp b.position) pp a.position) (member_member xs pm qm a.member b.member (members_apart h p.member q.member f.differ))
    ∙ ap (λ (t : List ℕ). put_position t pp a.position) (sym (position_member (put_member xs qm b.member) qp pm b.position a.member (apart_sym (member_position h p.member q.member q.contract f.one.member))))
  where
    pm : ℕ
    pm = member_off h p.member

    pp : ℕ
    pp = position_off h p.member p.contract

    qm : ℕ
    qm = member_off h q.member

    qp : ℕ
    qp = position_off h q.member q.contract
