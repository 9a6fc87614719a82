-- 01, Refusal numbers: the evening's prices, k pairs of u32, settlement price then delivery price.
use Rattle.std.specs.Prelude.{ℕ, ◌+◌, ◌*◌, Bool, ◌&&◌, ◌||◌, List, [], ◌∷◌, leb, eqb, length}
use Rattle.wire.specs.LittleEndian.{number_at}
use Rattle.folds.specs.Tests.{all_to, all_of, between}
use Rattle.folds.specs.Rows.{Field, field}
use Rattle.rules.specs.declared.units.Price.{Price}
use Rattle.rules.specs.declared.units.Prices.{Prices}
use Rattle.rules.specs.Units.{price}
use Rattle.book.specs.declared.positions.Position.{Position}
use Rattle.book.specs.Books.{Book}

-- the bytes of a pair, and where its delivery price stands
abbrev pub pair_size : ℕ
pair_size = 8

abbrev pub delivery_off : ℕ
delivery_off = 4

-- contract j's settlement price and delivery price
abbrev pub tonight_at : List ℕ → ℕ → Price
tonight_at ps j = price (number_at ps (j * pair_size) 4)

abbrev pub delivery_at : List ℕ → ℕ → Price
delivery_at ps j = price (number_at ps (j * pair_size + delivery_off) 4)

-- a pair as it is written
abbrev pub pair_fields : (tonight delivery : Price) → List Field
pair_fields tonight delivery = field 0 4 tonight.0 ∷ field delivery_off 4 delivery.0 ∷ []

-- contract j's prices in the evening, with the last settlement price
abbrev pub prices_by : Price → List ℕ → ℕ → Prices
prices_by last ps j = record { last = last; tonight = tonight_at ps j; delivery = delivery_at ps j }

-- no member has lots paired in contract j
abbrev pub unpaired : Position → Bool
unpaired p = eqb p.long.paired.0 0 && eqb p.short.paired.0 0

unfoldable pub none_paired : Book → ℕ → Bool
none_paired b j = all_to (λ (m : ℕ). unpaired (b.position m j)) b.head.members

-- settlement price 1..10,000,000; delivery price at most 10,000,000, and not 0 where lots are paired
abbrev pub pair_tests : Price → Price → Bool → List Bool
pair_tests tonight delivery none = between 1 10_000_000 tonight.0 ∷ leb delivery.0 10_000_000 ∷ (leb 1 delivery.0 || none) ∷ []

abbrev pub pair_ok : Book → List ℕ → ℕ → Bool
pair_ok b ps j = all_of (pair_tests (tonight_at ps j) (delivery_at ps j) (none_paired b j))

-- exactly k pairs, each in its range: 01, refusal 8
unfoldable pub prices_ok : Book → List ℕ → Bool
prices_ok b ps = eqb (length ps) (b.head.contracts * pair_size) && all_to (pair_ok b ps) b.head.contracts
