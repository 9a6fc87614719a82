-- 01, The book: an opening book has zero in all day fields.
use Rattle.std.specs.Prelude.{ℕ, Bool, ◌&&◌, List, [], ◌∷◌, eqb, nat_abs}
use Rattle.folds.specs.Tests.{all_to, all_of}
use Rattle.rules.specs.declared.units.Fen.{Fen}
use Rattle.book.specs.declared.members.Member.{Member}
use Rattle.book.specs.declared.positions.Side.{Side}
use Rattle.book.specs.declared.positions.Position.{Position}
use Rattle.book.specs.Books.{Book, book_at}
use Rattle.validity.specs.Valid.{valid_book}

abbrev pub nothing : Fen → Bool
nothing amount = eqb (nat_abs amount.0) 0

-- accepted records, deposits, withdrawals
abbrev pub fresh_member : Member → Bool
fresh_member r = all_of (eqb r.accepted 0 ∷ nothing r.day.deposits ∷ nothing r.day.withdrawals ∷ [])

-- all of section 3 but opening lots
abbrev pub fresh_side : Side → Bool
fresh_side s = all_of (eqb s.closed.0 0 ∷ eqb s.new.0 0 ∷ eqb s.paired.0 0 ∷ [])

abbrev pub fresh_position : Position → Bool
fresh_position p = all_of (fresh_side p.long ∷ fresh_side p.short ∷ nothing p.cash ∷ eqb p.traded.0 0 ∷ [])

unfoldable pub fresh_rows : Book → Bool
fresh_rows b =
    all_to (λ (m : ℕ). fresh_member (b.member m)) b.head.members
    && all_to (λ (m : ℕ). all_to (λ (j : ℕ). fresh_position (b.position m j)) b.head.contracts) b.head.members

-- a valid book with all day fields zero
unfoldable pub opening_book : List ℕ → Bool
opening_book xs = valid_book xs && fresh_rows (book_at xs)
