-- 01, demand 3: a small desk, to show that what the theorem asks for can be met: accounts that hold a sum each, and one counter of all that was moved.
use Rattle.std.specs.Prelude.{cond, ℕ, ◌+◌, ◌-◌, leb, get_or, set}
use mathlib.Core.List.{List, [], ◌∷◌, Memᴰ}
use Rattle.order.specs.Lens.{Posting, Lens}

pub record Desk : Type 0 where
  pub accounts : List ℕ
  pub moved : ℕ

pub data Slip : Type 0 where
  deposit : (member amount : ℕ) → Slip
  transfer : (giver taker amount : ℕ) → Slip

abbrev pub names : ℕ → Slip → List ℕ
names h (deposit member amount) = member ∷ []
names h (transfer giver taker amount) = giver ∷ taker ∷ []

abbrev pub Done : ℕ → List ℕ → ℕ → Posting ℕ ℕ ℕ
Done says become amount = record { says = says; become = become; adds = amount ∷ [] }

abbrev pub Refused : ℕ → Posting ℕ ℕ ℕ
Refused says = record { says = says; become = []; adds = [] }

-- a transfer is refused 6 where the giver has less than the amount
abbrev pub rules : ℕ → Slip → List ℕ → Posting ℕ ℕ ℕ
rules h (deposit member amount) [] = Refused 1
rules h (deposit member amount) (x ∷ xs) = Done 0 ((x + amount) ∷ []) amount
rules h (transfer giver taker amount) [] = Refused 1
rules h (transfer giver taker amount) (x ∷ []) = Refused 1
rules h (transfer giver taker amount) (x ∷ y ∷ xs) = cond (leb amount x) (Done 0 ((x - amount) ∷ (y + amount) ∷ []) amount) (Refused 6)

-- a desk has nothing that says where its accounts stand: its head is 0
abbrev pub desk : Lens ℕ Desk ℕ ℕ ℕ ℕ
desk = record {
  head = λ s. 0;
  see = λ h s m. get_or s.accounts m 0;
  put = λ h s m x. record { accounts = set s.accounts m x; moved = s.moved };
  add = λ h s amount. record { accounts = s.accounts; moved = s.moved + amount };
}

-- two slips name a common member
abbrev pub Common : Slip → Slip → Type 0
Common r r' = (m : ℕ) × Memᴰ m (names 0 r) × Memᴰ m (names 0 r')
