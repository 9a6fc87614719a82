-- Next morning: what settlement writes is an opening book.
use mathlib.Core.Path.{◌≡◌, refl, sym, ap, ◌∙◌, subst}
use mathlib.Core.Bool.{true, ◌&&◌}
use mathlib.Core.List.{List, [], ◌∷◌}
use Prim.{tt}
use Prim.Native.Nat.{ℕ, ◌^◌, ◌≤◌, ◌<◌, zero-le}
use native.Mathlib.Omega.{arith}
use borrow.Author.Differences.{ints}
use borrow.Author.Tests.{le-leb, eq-eqb}
use lib.IntN.{pos}
use lib.ListN.{length, take}
use lib.Seq.{take_at}
use Rattle.std.proofs.lemmas.Bool.{and_from}
use Rattle.numbers.specs.Sum.{sum_to}
use Rattle.numbers.proofs.Ranges.{in_eq, in_lit}
use Rattle.numbers.proofs.Sums.{sum_ext, sum_most, in_total}
use Rattle.folds.specs.Tests.{all_to, all_of, between}
use Rattle.folds.proofs.Tests.{all_at, all_of_lem, each}
use Rattle.book.specs.declared.heads.Head.{Head}
use Rattle.book.specs.declared.heads.Entry.{Entry}
use Rattle.book.specs.declared.contracts.Contract.{Contract}
use Rattle.book.specs.declared.positions.Position.{Position}
use Rattle.book.specs.Layout.{head_size, book_length, longest_book}
use Rattle.book.specs.Heads.{head_at, total_of, contracts_entry, members_entry, positions_entry}
use Rattle.book.specs.Positions.{held_of, opening_of, held_sides, paired_of}
use Rattle.book.specs.Books.{Book, book_by, book_at}
use Rattle.book.proofs.Places.{head_within, book_most}
use Rattle.book.proofs.Rows.{kind_known}
use Rattle.validity.specs.Valid.{head_tests, head_ok, counts_ok, contents_ok, same_entry, contract_tests, traded_of, longs_to, shorts_to, cash_to, about_zero, valid_rows, valid_book}
use Rattle.validity.specs.Opening.{fresh_member, fresh_position, fresh_rows, opening_book}
use Rattle.validity.specs.InRange.{MemberIn, PositionIs}
use Rattle.validity.proofs.Facts.{valid_head, valid_rows_lem}
use Rattle.validity.proofs.Facts as facts
use Rattle.validity.proofs.RowTests as tests
use Rattle.validity.proofs.Fits.{contract_fits, member_fits, position_fits}
use Rattle.validity.proofs.AsFacts.{Rows, valid_of}
use Rattle.tonight.specs.Given.{Given}
use Rattle.tonight.specs.Night.{night_of, reserves_ok}
use Rattle.tonight.specs.Evening.{Evening}
use Rattle.settlement.specs.Next.{next_contract, next_member, next_position, next_bytes}
use Rattle.settlement.specs.Settle.{settle_answer, next_after}
use Rattle.settlement.proofs.Parts.{next_length}
use Rattle.settlement.proofs.Answers.{next_by}
use Rattle.morning.proofs.Settled.{was_valid, passed, evening}
use Rattle.morning.proofs.Back.{next_contract_lem, next_member_lem, next_kind, next_position_lem, next_head, next_total, next_contracts_entry, next_members_entry, next_positions_entry}
use Rattle.morning.proofs.Fine.{position_fine, contract_fine, member_fine}
use Rattle.morning.proofs.Balances.{long_left, short_left, remaining_even}

entry_itself : (e : Entry) → same_entry e e ≡ true
entry_itself e i = all_of (eq-eqb e.section e.section refl i ∷ eq-eqb e.size e.size refl i ∷ eq-eqb e.start e.start refl i ∷ [])

-- of an evening that is answered 0, `lent` being the room for the next book
module _ (xs : List ℕ) (given : Given) (lent results : List ℕ) (e : settle_answer xs given (length lent) (length results) ≡ 0) where
  abbrev h : Head
  h = head_at xs

  abbrev b : Book
  b = book_at xs

  abbrev ys : List ℕ
  ys = next_bytes b given

  -- the next book, by the old head
  abbrev next : Book
  next = book_by h ys

  valid : valid_book xs ≡ true
  valid = was_valid xs given lent results e

  known : Evening xs given h
  known = evening xs given lent results e

  -- ---- its head

  contents : contents_ok h ys ≡ true
  unfolding contents_ok
  contents =
      let few = known.shaped.members in
      let some = known.shaped.contracts in
      rw (next_contracts_entry b given few some, next_members_entry b given few some, next_positions_entry b given few some)
      (λ i. all_of (entry_itself contracts_entry i ∷ entry_itself (members_entry h) i ∷ entry_itself (positions_entry h) i ∷ []))

  head_is : head_at ys ≡ h
  head_is = next_head b given known.shaped.members known.shaped.contracts

  counts : counts_ok h ≡ true
  unfolding head_ok
  counts = each (head_tests xs) (valid_head xs valid) 1

  head_fine : head_ok ys ≡ true
  unfolding head_ok
  head_fine =
      let total = next_total b given known.shaped.members known.shaped.contracts in
      let exact = next_length b given in
      let room = le-leb head_size (length ys) (omega (arith, exact, head_within h)) in
      let same = eq-eqb (total_of ys) (book_length (head_at ys)) (total ∙ ap book_length (sym head_is)) in
      let most = le-leb (total_of ys) longest_book (omega (arith, total, book_most h known.shaped.members known.shaped.contracts)) in
      let full = eq-eqb (length ys) (total_of ys) (exact ∙ sym total) in
      λ i. all_of (room i ∷ (ap counts_ok head_is ∙ counts) i ∷ same i ∷ most i ∷ full i ∷ (ap (λ (x : Head). contents_ok x ys) head_is ∙ contents) i ∷ [])

  -- ---- its rows

  reserve_ok : (m : ℕ) → m < h.members → about_zero (10 ^ 15) (night_of b given m).figures.reserve ≡ true
  unfolding reserves_ok
  reserve_ok = all_at (λ (m : ℕ). about_zero (10 ^ 15) (night_of b given m).figures.reserve) h.members (passed xs given lent results e).reserves

  contract_in_lem : (j : ℕ) → j < h.contracts → all_of (contract_tests (next_contract b given j)) ≡ true
  contract_in_lem j l = contract_fine b given known.ranged (passed xs given lent results e).prices j l

  member_in : (m : ℕ) → m < h.members → MemberIn (next_member b given m)
  member_in m l = member_fine xs given h known m l (reserve_ok m l)

  position_in : (m j : ℕ) → m < h.members → j < h.contracts → PositionIs (next_position b m j)
  position_in m j l q = position_fine (b.position m j) (facts.position_in b known.ranged m j l q)

  contract_is : (j : ℕ) → j < h.contracts → next.contract j ≡ next_contract b given j
  contract_is j l = next_contract_lem b given j l (contract_fits (next_contract b given j) (tests.contract_is (next_contract b given j) (contract_in_lem j l)))

  member_is : (m : ℕ) → m < h.members → next.member m ≡ next_member b given m
  member_is m l = next_member_lem b given m l (member_fits (next_member b given m) (member_in m l))

  position_is : (m j : ℕ) → m < h.members → j < h.contracts → next.position m j ≡ next_position b m j
  position_is m j l q = next_position_lem b given m l j q (position_fits (next_position b m j) (position_in m j l q) zero-le)

  -- nobody has traded
  traded_none : (m : ℕ) → m < h.members → traded_of next m ≤ 0
  traded_none m l =
      omega (arith, sum_most 0 (λ (j : ℕ). (next.position m j).traded.0) h.contracts (λ j q. omega (arith, ap (λ (r : Position). r.traded.0) (position_is m j l q))))

  rows_fine : Rows h next
  rows_fine = record {
    contracts = λ j l. ap (λ (c : Contract). all_of (contract_tests c)) (contract_is j l) ∙ contract_in_lem j l;
    kinds = λ m l. ap (between 1 2) (next_kind b given m l) ∙ kind_known (b.member m).kind;
    members = λ m l. subst MemberIn (sym (member_is m l)) (member_in m l);
    positions = λ m j l q. subst PositionIs (sym (position_is m j l q)) (position_in m j l q);
    traded = λ m l. omega (arith, traded_none m l);
  }

  module _ (j : ℕ) (q : j < h.contracts) where
    -- a count of the next book's rows, over all members
    count_is : (f : Position → ℕ) (g : ℕ → ℕ) → ((m : ℕ) → f (next_position b m j) ≡ g m) → sum_to (λ (m : ℕ). f (next.position m j)) h.members ≡ sum_to g h.members
    count_is f g e = sum_ext (λ (m : ℕ). f (next.position m j)) g h.members (λ m l. ap f (position_is m j l q) ∙ e m)

    even : sum_to (long_left b (valid_rows_lem xs valid) known.ranged j q) h.members ≡ sum_to (short_left b (valid_rows_lem xs valid) known.ranged j q) h.members
    even = remaining_even b (valid_rows_lem xs valid) known.ranged j q

    abbrev left : ℕ → ℕ
    left = long_left b (valid_rows_lem xs valid) known.ranged j q

    abbrev right : ℕ → ℕ
    right = short_left b (valid_rows_lem xs valid) known.ranged j q

    opening_even : longs_to opening_of next j h.members ≡ shorts_to opening_of next j h.members
    opening_even = count_is (λ r. r.long.opening.0) left (λ m. refl) ∙ even ∙ sym (count_is (λ r. r.short.opening.0) right (λ m. refl))

    held_even : longs_to held_sides next j h.members ≡ shorts_to held_sides next j h.members
    held_even = count_is (λ r. held_of r.long) left (λ m. omega arith) ∙ even ∙ sym (count_is (λ r. held_of r.short) right (λ m. omega arith))

    paired_even : longs_to paired_of next j h.members ≡ shorts_to paired_of next j h.members
    paired_even = count_is (λ r. r.long.paired.0) (λ m. 0) (λ m. refl) ∙ sym (count_is (λ r. r.short.paired.0) (λ m. 0) (λ m. refl))

    cash_none : cash_to next j h.members ≡ pos 0
    cash_none =
        omega (arith, ints, (in_total {B = 0} (λ (m : ℕ). (next.position m j).cash.0) h.members (λ m l. in_eq (ap (λ (r : Position). r.cash.0) (position_is m j l q)) (in_lit tt))).within)

  next_valid : valid_rows next ≡ true
  next_valid = valid_of next rows_fine (record { opening = opening_even; held = held_even; paired = paired_even; cash = cash_none })

  next_fresh : fresh_rows next ≡ true
  unfolding fresh_rows
  next_fresh =
      and_from (all_to (λ (m : ℕ). fresh_member (next.member m)) h.members) (all_to (λ (m : ℕ). all_to (λ (j : ℕ). fresh_position (next.position m j)) h.contracts) h.members)
      (all_of_lem (λ (m : ℕ). fresh_member (next.member m)) h.members (λ m l. ap fresh_member (member_is m l)))
      (all_of_lem (λ (m : ℕ). all_to (λ (j : ℕ). fresh_position (next.position m j)) h.contracts) h.members
      (λ m l. all_of_lem (λ (j : ℕ). fresh_position (next.position m j)) h.contracts (λ j q. ap fresh_position (position_is m j l q))))

  pub next_opens : opening_book ys ≡ true
  unfolding opening_book valid_book
  next_opens =
      and_from (head_ok ys && valid_rows (book_at ys)) (fresh_rows (book_at ys))
      (and_from (head_ok ys) (valid_rows (book_at ys)) head_fine (ap (λ (x : Head). valid_rows (book_by x ys)) head_is ∙ next_valid))
      (ap (λ (x : Head). fresh_rows (book_by x ys)) head_is ∙ next_fresh)

-- an evening that is answered 0 leaves an opening book in the room that was lent for it
pub next_morning : (xs : List ℕ) (given : Given) (next results : List ℕ) → settle_answer xs given (length next) (length results) ≡ 0 → opening_book (take (book_length (head_at xs)) (next_after xs given next results)) ≡ true
next_morning xs given next results e =
    ap (λ (l : List ℕ). opening_book (take (book_length (head_at xs)) l)) (next_by xs given next results 0 e)
    ∙ ap opening_book (take_at (next_bytes (book_at xs) given) _ (book_length (head_at xs)) (next_length (book_at xs) given))
    ∙ next_opens xs given next results e
