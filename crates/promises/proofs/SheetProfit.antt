-- The profit of a member's night is the one that article 31 is stated of.
use Prim.Native.Nat.{ℕ}
use mathlib.Core.Path.{◌≡◌, refl}
use mathlib.Core.List.{List}
use Rattle.book.specs.Books.{book_at}
use Rattle.tonight.specs.Given.{Given}
use Rattle.tonight.specs.Prices.{tonight_at, delivery_at}
use Rattle.tonight.specs.Night.{tally_in, tally_to, night_of}
use Rattle.promises.specs.ByArticle.{profit_on}

-- settlement's definition, on any book
pub sheet_profit : (book : List ℕ) (given : Given) (m : ℕ) → (night_of (book_at book) given m).profit ≡ profit_on book (tonight_at given.prices) (delivery_at given.prices) m
unfolding night_of tally_to tally_in
sheet_profit book given m = refl
