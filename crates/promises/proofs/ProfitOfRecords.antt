-- THEOREM: at the end of a run from an opening book, a member's row in a contract keeps the sums of the accepted records' lots; so the profit on it is article 31's, whichever lots the closings are paired with.
use mathlib.Core.Path.{◌≡◌, sym, ap, ◌∙◌, subst}
use mathlib.Core.Bool.{Bool, true}
use mathlib.Core.List.{List, [], ◌∷◌}
use Prim.Native.Nat.{ℕ, ◌≤◌, ◌<◌}
use native.Mathlib.Omega.{arith}
use borrow.Author.Differences.{ints}
use borrow.Author.Tests.{eqb-true}
use lib.Dec.{eqb}
use lib.IntN.{ℤ, pos, nat_abs, ◌+ℤ◌, +ℤ_idl}
use lib.ListN.{length}
use Rattle.std.proofs.lemmas.Bool.{and_parts}
use Rattle.numbers.specs.Sum.{total_to}
use Rattle.numbers.proofs.Sums.{total_ext}
use Rattle.folds.specs.Tests.{all_to}
use Rattle.folds.proofs.Tests.{all_at, each}
use Rattle.order.specs.Order.{final}
use Rattle.rules.specs.declared.units.Lots.{Lots}
use Rattle.rules.specs.declared.units.Fen.{Fen}
use Rattle.rules.specs.declared.units.Price.{Price}
use Rattle.rules.specs.declared.units.Prices.{Prices}
use Rattle.rules.specs.Units.{fen}
use Rattle.rules.specs.Profit.{profit_of}
use Rattle.profit.specs.Day as days
use Rattle.profit.specs.Article31.{Pairings, day_profit}
use Rattle.profit.proofs.BookFormula.{profit_is, there_is_one}
use Rattle.book.specs.declared.heads.Head.{Head}
use Rattle.book.specs.declared.contracts.Contract.{Contract}
use Rattle.book.specs.declared.positions.Side.{Side}
use Rattle.book.specs.declared.positions.Position.{Position}
use Rattle.book.specs.Heads.{head_at}
use Rattle.book.specs.Positions.{held_of, opening_of, held_sides, paired_of}
use Rattle.book.specs.Books.{Book, book_at}
use Rattle.validity.specs.Valid.{valid_book}
use Rattle.validity.specs.InRange.{PositionIs}
use Rattle.validity.specs.Opening.{nothing, fresh_member, fresh_side, fresh_position, fresh_rows, opening_book}
use Rattle.posting.specs.Answers.{after}
use Rattle.promises.specs.Dealings.{dealings, row_at, day_of, Stored}
use Rattle.promises.specs.ByArticle.{prices_by, contract_in, ByArticle, row_profit, profit_on}
use Rattle.promises.proofs.Whole.{whole_of}
use Rattle.promises.proofs.Runs.{run_kept, run_counts, run_contract}
use Rattle.promises.proofs.Grown.{Grew, grown}
use Rattle.promises.proofs.DayOfRun.{run_moves}

-- ---- a row of an opening book

record Fresh (s : Side) : Type 0 where
  closed : s.closed.0 ≡ 0
  new : s.new.0 ≡ 0
  paired : s.paired.0 ≡ 0

record FreshRow (p : Position) : Type 0 where
  long : Fresh p.long
  short : Fresh p.short
  cash : p.cash.0 ≡ pos 0
  traded : p.traded.0 ≡ 0

fresh_side_lem : (s : Side) → fresh_side s ≡ true → Fresh s
fresh_side_lem s e =
    let t = each (eqb s.closed.0 0 ∷ eqb s.new.0 0 ∷ eqb s.paired.0 0 ∷ []) e in
    record { closed = eqb-true s.closed.0 0 (t 0); new = eqb-true s.new.0 0 (t 1); paired = eqb-true s.paired.0 0 (t 2) }

fresh_row : (p : Position) → fresh_position p ≡ true → FreshRow p
fresh_row p e =
    let t = each (fresh_side p.long ∷ fresh_side p.short ∷ nothing p.cash ∷ eqb p.traded.0 0 ∷ []) e in
    record {
      long = fresh_side_lem p.long (t 0);
      short = fresh_side_lem p.short (t 1);
      cash = omega (arith, ints, eqb-true (nat_abs p.cash.0) 0 (t 2));
      traded = eqb-true p.traded.0 0 (t 3);
    }

module _ (book : List ℕ) (opening : opening_book book ≡ true) where
  valid : valid_book book ≡ true
  unfolding opening_book
  valid = (and_parts (valid_book book) (fresh_rows (book_at book)) opening).0

  fresh_at : (m j : ℕ) → m < (head_at book).members → j < (head_at book).contracts → FreshRow (row_at (head_at book) book m j)
  unfolding opening_book fresh_rows
  fresh_at m j l k =
      let b : Book = book_at book in
      let rows : ℕ → Bool = λ x. all_to (λ (i : ℕ). fresh_position (b.position x i)) (head_at book).contracts in
      let t = (and_parts (all_to (λ (x : ℕ). fresh_member (b.member x)) (head_at book).members) (all_to rows (head_at book).members) (and_parts (valid_book book) (fresh_rows b) opening).1).1 in
      fresh_row (b.position m j) (all_at (λ (i : ℕ). fresh_position (b.position m i)) (head_at book).contracts (all_at rows (head_at book).members t m l) j k)

-- ---- the row at the end

module _ (book : List ℕ) (rs : List (List ℕ)) (opening : opening_book book ≡ true) (m j : ℕ) (l : m < (head_at book).members) (k : j < (head_at book).contracts) where
  -- the row is in range, as all rows of a valid book
  ranged : PositionIs (row_at (head_at book) (final after book rs) m j)
  ranged =
      let e = run_counts book rs in
      let o = whole_of (final after book rs) (run_kept book rs ∙ valid book opening) in
      subst (λ (h : Head). m < h.members → j < h.contracts → PositionIs (row_at h (final after book rs) m j)) e (o.rows.positions m j) l k

  -- the sums that the book keeps are those of the lots that its accepted records list
  pub stored : Stored (day_of book rs m j) (dealings book rs m j) (row_at (head_at book) (final after book rs) m j)
  stored =
      let g = grown (run_moves book rs m j (valid book opening) k) in
      let f = fresh_at book opening m j l k in
      record {
        held = λ i. record { long = record { 0 = held f.long g.long i }; short = record { 0 = held f.short g.short i } };
        opening = λ i. record { long = g.long.opening i; short = g.short.opening i };
        paired = λ i. record { long = record { 0 = paired f.long g.long i }; short = record { 0 = paired f.short g.short i } };
        cash = λ i. record { 0 = (g.cash ∙ ap (λ (z : ℤ). z +ℤ (days.cash_of (day_of book rs m j)).0) f.cash ∙ +ℤ_idl (days.cash_of (day_of book rs m j)).0) i };
        traded = omega (arith, g.traded, f.traded);
        covered = record { long = covered f.long g.long ranged.long.closed; short = covered f.short g.short ranged.short.closed };
        longs = fewer f.long g.long;
        shorts = fewer f.short g.short;
      }
    where
      held : {d : days.SideDay} {s t : Side} → Fresh s → Grew d s t → held_of t ≡ (days.held_on d).0
      held {d} {s} {t} f g = omega (arith, f.closed, f.new, ap (λ (x : Lots). x.0) g.opening, g.closed, g.new)

      paired : {d : days.SideDay} {s t : Side} → Fresh s → Grew d s t → t.paired.0 ≡ d.paired.0
      paired f g = omega (arith, f.paired, g.paired)

      covered : {d : days.SideDay} {s t : Side} → Fresh s → Grew d s t → t.closed.0 ≤ t.opening.0 → length d.closed_old ≤ d.opening.0
      covered f g c = omega (arith, f.closed, g.closed, ap (λ (x : Lots). x.0) g.opening)

      fewer : {d : days.SideDay} {s t : Side} → Fresh s → Grew d s t → length d.closed_today ≤ length d.opened
      fewer f g = omega (arith, f.new, g.new)

  -- article 31 by any pairing is the book's formula on the row at the end
  pub profit_of_records : (multiplier : ℕ) (prices : Prices) (pairings : Pairings (day_of book rs m j))
      → let p = row_at (head_at book) (final after book rs) m j in day_profit multiplier prices (day_of book rs m j) pairings ≡ profit_of multiplier p.cash (held_sides p) (opening_of p) (paired_of p) prices
  profit_of_records multiplier prices pairings =
      profit_is multiplier prices (day_of book rs m j) stored.covered pairings
      ∙ (λ i. profit_of multiplier (sym stored.cash i) (sym stored.held i) (sym stored.opening i) (sym stored.paired i) prices)

  -- and there is a pairing
  pub pairing_of_records : Pairings (day_of book rs m j)
  pairing_of_records = there_is_one (day_of book rs m j) stored.longs stored.shorts

-- ---- over all contracts

module _ (book : List ℕ) (rs : List (List ℕ)) (opening : opening_book book ≡ true) (tonight delivery : ℕ → Price) (m : ℕ) (l : m < (head_at book).members) where
  -- by the row and the contract at the end
  abbrev at_end : Head → ℕ → ℤ
  at_end h j = (row_profit (contract_in (final after book rs) j) (row_at h (final after book rs) m j) (tonight j) (delivery j)).0

  -- contracts are as they were in the morning
  in_contract_lem : (j : ℕ) (k : j < (head_at book).contracts) (pairings : Pairings (day_of book rs m j))
      → day_profit (contract_in book j).terms.multiplier (prices_by (contract_in book j) (tonight j) (delivery j)) (day_of book rs m j) pairings
      ≡ row_profit (contract_in (final after book rs) j) (row_at (head_at book) (final after book rs) m j) (tonight j) (delivery j)
  in_contract_lem j k pairings =
      profit_of_records book rs opening m j l k (contract_in book j).terms.multiplier (prices_by (contract_in book j) (tonight j) (delivery j)) pairings
      ∙ ap (λ (c : Contract). row_profit c (row_at (head_at book) (final after book rs) m j) (tonight j) (delivery j)) (sym (run_contract book rs j k))

  -- whatever the article comes to is what the book at the end says
  pub the_profit : {profit : Fen} → ByArticle book rs tonight delivery m profit → profit ≡ profit_on (final after book rs) tonight delivery m
  the_profit {profit} a =
      a.sum
      ∙ ap fen (total_ext a.in_contract (λ (j : ℕ). at_end (head_at book) j) (head_at book).contracts (λ j k. a.article j k ∙ ap (λ (x : Fen). x.0) (in_contract_lem j k (a.pairings j k))))
      ∙ ap (λ (h : Head). fen (total_to (λ (j : ℕ). at_end h j) h.contracts)) (sym (run_counts book rs))

  -- and it comes to something
  pub a_profit : ByArticle book rs tonight delivery m (profit_on (final after book rs) tonight delivery m)
  a_profit = record {
    in_contract = at_end (head_at book);
    pairings = λ j k. pairing_of_records book rs opening m j l k;
    article = λ j k. ap (λ (x : Fen). x.0) (sym (in_contract_lem j k (pairing_of_records book rs opening m j l k)));
    sum = ap (λ (h : Head). fen (total_to (λ (j : ℕ). at_end h j) h.contracts)) (run_counts book rs);
  }
