-- Of a valid book: what settlement is handed is enough to refuse what has to be refused, and the sheet has all members.
use mathlib.Core.Path.{◌≡◌}
use mathlib.Core.Bool.{true}
use mathlib.Core.List.{List}
use Prim.Native.Nat.{ℕ, ◌*◌}
use native.Mathlib.Omega.{arith}
use lib.ListN.{length, length-take}
use lib.Seq.{take_all}
use Rattle.book.specs.Heads.{head_at}
use Rattle.validity.specs.Valid.{valid_book}
use Rattle.validity.proofs.Facts.{valid_shaped}
use Rattle.intake.specs.Intake.{pair_size, most_prices, prices_of}
use Rattle.intake.specs.Posted.{members_on}

-- exactly k pairs are handed on as they stand
pub pairs_handed : (book rest : List ℕ) → valid_book book ≡ true → length rest ≡ (head_at book).contracts * pair_size → prices_of rest ≡ rest
pairs_handed book rest v e = take_all most_prices rest (omega (arith, (valid_shaped book v).contracts))

-- where not exactly k pairs are there, what is handed on is not k pairs either: no surplus byte is dropped
pub others_handed : (book rest : List ℕ) → valid_book book ≡ true → (length rest ≡ (head_at book).contracts * pair_size → ⊥) → length (prices_of rest) ≡ (head_at book).contracts * pair_size → ⊥
others_handed book rest v n e = n (omega (arith, length-take most_prices rest, (valid_shaped book v).contracts))

pub all_members : (book : List ℕ) → valid_book book ≡ true → members_on book ≡ (head_at book).members
all_members book v = omega (arith, (valid_shaped book v).members)
