-- THEOREM: a record changes the accounts that it names and nothing else, and those to what its rules make of them; a refused record changes nothing.
use mathlib.Core.Path.{◌≡◌, refl, sym, ap, ◌∙◌, subst}
use mathlib.Core.Logic.{◌≢◌, ◌⊎◌, inl, inr}
use mathlib.Core.List.Memᴰ
use mathlib.Core.List.{List, [], ◌∷◌, Memᴰ}
use Prim.Native.Nat.{ℕ, ◌<◌}
use native.Mathlib.Omega.{arith}
use lib.ListN.{length}
use Rattle.std.proofs.lemmas.Bool.{cond_both}
use Rattle.wire.specs.LittleEndian.{number_at, Apart}
use Rattle.wire.proofs.Places.{apart_sym}
use Rattle.order.specs.Lens as lens
use Rattle.order.specs.Lens.{Placed, none, also}
use Rattle.order.proofs.Makes.{makes}
use Rattle.book.specs.declared.heads.Head.{Head}
use Rattle.book.specs.declared.accounts.Place.{Place}
use Rattle.book.specs.declared.accounts.Account.{Account}
use Rattle.book.specs.Layout.{head_size, contract_size, member_size, position_size, contract_off, member_off, position_off}
use Rattle.book.specs.Heads.{head_at}
use Rattle.book.specs.ContractRows.{contract_at}
use Rattle.book.specs.Positions.{position_at}
use Rattle.book.specs.Accounts.{place, account_at, put_account, Within, Far}
use Rattle.book.specs.Views.{view_at, sights}
use Rattle.book.proofs.Places.{head_member, head_position, contract_member, contract_position, members_apart, member_position, positions_apart}
use Rattle.book.proofs.Rows.{Same, same_contract, same_position}
use Rattle.book.proofs.Contents.{same_head}
use Rattle.book.proofs.LensLaws.{length_account, account_stays}
use Rattle.book.proofs.Seeing.{Room, Fits, laws, stores}
use Rattle.validity.specs.Valid.{valid_book}
use Rattle.validity.proofs.Fits.{member_fits}
use Rattle.requests.specs.Records.{request_of}
use Rattle.posting.specs.Answers.{places_of, posting, step, answer, after}
use Rattle.promises.specs.Naming.{named, contract_named}
use Rattle.promises.specs.Promises.{SameBytes, Untouched}
use Rattle.requests.proofs.Requests.{formed, standing, places_within}
use Rattle.promises.proofs.Sound.{Sound, sound_next, position_fits}
use Rattle.promises.proofs.Whole.{whole_of, room}
use Rattle.promises.proofs.Made.{posting_at, step_puts, step_refused, Made, one, two, made}
use Rattle.promises.proofs.Answering.{valid_answer, valid_after, accepted_valid}

-- ---- what stays

puts_stay : (h : Head) (xs : List ℕ) (ps : List Place) (as' : List Account) (o size : ℕ)
    → ((p : Place) → Memᴰ p ps → Apart o size (member_off h p.member) member_size × Apart o size (position_off h p.member p.contract) position_size)
    → Same (lens.puts sights h xs ps as') xs o size
puts_stay h xs [] as' o size f at w l = refl
puts_stay h xs (p ∷ ps) [] o size f at w l = refl
puts_stay h xs (p ∷ ps) (a ∷ as') o size f at w l =
    let g = f p (Memᴰ.head refl) in
    puts_stay h (put_account h xs p a) ps as' o size (λ q k. f q (Memᴰ.tail k)) at w l ∙ account_stays h xs p a o size g.0 g.1 at w l

length_puts : (h : Head) (xs : List ℕ) (ps : List Place) (as' : List Account) → length (lens.puts sights h xs ps as') ≡ length xs
length_puts h xs [] as' = refl
length_puts h xs (p ∷ ps) [] = refl
length_puts h xs (p ∷ ps) (a ∷ as') = length_puts h (put_account h xs p a) ps as' ∙ length_account h xs p a

-- numbers of one byte
same_bytes : (ys xs : List ℕ) (off size : ℕ) → Same ys xs off size → SameBytes ys xs off size
unfolding number_at
same_bytes ys xs off size s i l = omega (arith, s i 1 (omega arith))

module _ (book r : List ℕ) where
  abbrev h : Head
  h = head_at book

  -- after a record the book is as it was, or it has accounts put back at the record's places
  either : (P : List ℕ → Type 0) → P book → ((as' : List Account) → P (lens.puts sights h book (places_of h r) as')) → P (after book r)
  unfolding after
  either P same other =
      cond_both (valid_book book) (step book r) book P (λ e. subst P (sym (step_puts h book (request_of h r))) (other (posting_at h book (request_of h r)).become)) (λ e. same)

  -- any bytes apart from the rows of the accounts that are named
  pub bytes_stay : (o size : ℕ)
      → ((p : Place) → Memᴰ p (places_of h r) → Apart o size (member_off h p.member) member_size × Apart o size (position_off h p.member p.contract) position_size)
      → Same (after book r) book o size
  bytes_stay o size f = either (λ ys. Same ys book o size) (λ at w l. refl) (λ as'. puts_stay h book (places_of h r) as' o size f)

  pub length_stays : length (after book r) ≡ length book
  length_stays = either (λ ys. length ys ≡ length book) refl (length_puts h book (places_of h r))

  -- the head with its table of contents
  pub head_stays : Same (after book r) book 0 head_size
  head_stays = bytes_stay 0 head_size (λ p k. (head_member h p.member, head_position h p.member p.contract))

  pub counts_stay : head_at (after book r) ≡ head_at book
  counts_stay = same_head (after book r) book head_stays

  -- every contract's row
  contract_same : (j : ℕ) → j < h.contracts → Same (after book r) book (contract_off j) contract_size
  contract_same j l = bytes_stay (contract_off j) contract_size (λ p k. (contract_member h j p.member l, contract_position h j p.member p.contract l))

  pub contract_stays : (j : ℕ) → j < h.contracts → contract_at (after book r) (contract_off j) ≡ contract_at book (contract_off j)
  contract_stays j l = same_contract _ _ (contract_off j) (contract_same j l)

  -- the row of a member that the record does not name
  member_same : (m : ℕ) → m < h.members → ¬ Memᴰ m (named book r) → Same (after book r) book (member_off h m) member_size
  member_same m l un =
      bytes_stay (member_off h m) member_size
      (λ p k. (members_apart h m p.member (λ e. un (Memᴰ.cast e (standing (request_of h r) p k).member)), member_position h m p.member p.contract l))

  other_row : (m j : ℕ) → j < h.contracts → ((p : Place) → Memᴰ p (places_of h r) → (m ≢ p.member) ⊎ (j ≢ p.contract)) → Same (after book r) book (position_off h m j) position_size
  other_row m j l f =
      bytes_stay (position_off h m j) position_size
      (λ p k. let w = places_within (omega arith) (formed h r) p k in
      (apart_sym (member_position h p.member m j w.member), positions_apart h m j p.member p.contract l w.contract (f p k)))

  -- its row in any contract
  unnamed_row : (m j : ℕ) → j < h.contracts → ¬ Memᴰ m (named book r) → Same (after book r) book (position_off h m j) position_size
  unnamed_row m j l un = other_row m j l (λ p k. inl (λ e. un (Memᴰ.cast e (standing (request_of h r) p k).member)))

  pub position_stays : (m j : ℕ) → j < h.contracts → ¬ Memᴰ m (named book r) → position_at (after book r) (position_off h m j) ≡ position_at book (position_off h m j)
  position_stays m j l un = same_position _ _ (position_off h m j) (unnamed_row m j l un)

  -- and any member's row in another contract than the record's
  row_elsewhere : (m j : ℕ) → j < h.contracts → j ≢ contract_named book r → Same (after book r) book (position_off h m j) position_size
  row_elsewhere m j l ne = other_row m j l (λ p k. inr (λ e. ne (e ∙ (standing (request_of h r) p k).contract)))

  pub elsewhere_stays : (m j : ℕ) → j < h.contracts → j ≢ contract_named book r → position_at (after book r) (position_off h m j) ≡ position_at book (position_off h m j)
  elsewhere_stays m j l ne = same_position _ _ (position_off h m j) (row_elsewhere m j l ne)

  -- byte for byte
  pub untouched : Untouched book r
  untouched = record {
    whole = length_stays;
    head = same_bytes _ _ 0 head_size head_stays;
    contract = λ j l. same_bytes _ _ (contract_off j) contract_size (contract_same j l);
    member = λ m l un. same_bytes _ _ (member_off h m) member_size (member_same m l un);
    position = λ m j l un. same_bytes _ _ (position_off h m j) position_size (unnamed_row m j l un);
    elsewhere = λ m j l ne. same_bytes _ _ (position_off h m j) position_size (row_elsewhere m j l ne);
  }

-- ---- a refused record

pub refused_stays : (book r : List ℕ) → (answer book r ≡ 0 → ⊥) → after book r ≡ book
unfolding after
refused_stays book r n =
    cond_both (valid_book book) (step book r) book (λ ys. ys ≡ book) (λ e. step_refused (head_at book) book (request_of (head_at book) r) (λ z. n (valid_answer book r e ∙ z))) (λ e. refl)

-- ---- an accepted record

sound_fits : {a : Account} → Sound a → Fits a
sound_fits {a} s = record { member = member_fits a.member s.member; position = position_fits s }

placed : {h : Head} {xs : List ℕ} {ps : List Place} {as' : List Account} → Made h xs ps as' → Placed h Within Far Fits ps as'
placed {h} (one w s f same) = also w (sound_fits (sound_next s f)) (λ q k. elim k [ ]) none
placed {h} (two {m} {m'} {j} w w' ne s s' f g n) =
    also w (sound_fits (sound_next s f)) (λ q k. subst (λ (x : Place). Far h x (place m j)) (sym (Memᴰ.eq_of_singleton k)) (record { one = w'; other = w; differ = λ e. ne (sym e) }))
    (also w' (sound_fits (sound_next s' g)) (λ q k. elim k [ ]) none)

-- the accounts at its places are those that its rules make of what stood there
pub accepted_makes : (book r : List ℕ) → answer book r ≡ 0
    → let h = head_at book in lens.reads account_at h (after book r) (places_of h r) ≡ (posting h r (lens.reads view_at h book (places_of h r))).become
accepted_makes book r a =
    let h : Head = head_at book in
    let e = accepted_valid book r a in
    let o = whole_of book e in
    ap (λ (ys : List ℕ). lens.reads account_at h ys (places_of h r)) (valid_after book r e ∙ step_puts h book (request_of h r))
    ∙ makes sights account_at Room Within Far Fits laws stores h book [] (room o) (placed (made o (formed h r) (sym (valid_answer book r e) ∙ a)))
