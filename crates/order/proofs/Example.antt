-- The order theorem of the small desk, and two lists of slips, one slip standing twice, to which it applies.
use mathlib.Core.Path.{◌≡◌, refl, sym}
use mathlib.Core.Logic.{◌≢◌}
use mathlib.Core.List.Memᴰ
use mathlib.Core.List.{List, [], ◌∷◌, Memᴰ}
use Prim.Native.Nat.{ℕ, ◌+◌}
use native.Mathlib.Omega.{arith}
use lib.Seq.{get_or-set_other, set_comm}
use Rattle.order.specs.Order.{final, answers, Arranged, Commutes, SameOutcome}
use Rattle.order.specs.Lens.{Laws, after, answer}
use Rattle.order.specs.Desk.{Desk, Slip, deposit, transfer, names, rules, desk, Common}
use Rattle.order.proofs.Theorem.{order}
use Rattle.order.proofs.Swapped.{swap, first_two}
use Rattle.order.proofs.Locality.{commute}

abbrev Always : ℕ → Desk → Type 0
Always h s = s ≡ s

abbrev Anywhere : ℕ → ℕ → Type 0
Anywhere h m = m ≡ m

abbrev Other : ℕ → ℕ → ℕ → Type 0
Other h m m' = m' ≢ m

laws : Laws desk Always Anywhere Other
laws = record {
  head_put = λ h s m x. refl;
  head_add = λ h s n. refl;
  sound_put = λ h s m x v. refl;
  sound_add = λ h s n v. refl;
  see_put = λ h s m m' x f. get_or-set_other s.accounts m m' x 0 f;
  put_put = λ h s m m' x x' f i. record { accounts = set_comm s.accounts m m' x x' (λ e. f (sym e)) i; moved = s.moved };
  see_add = λ h s n m w. refl;
  put_add = λ h s n m x w. refl;
  add_add = λ h s n n' v i. record { accounts = s.accounts; moved = swapped s.moved n n' i };
}
  where
    swapped : (a b c : ℕ) → a + b + c ≡ a + c + b
    swapped a b c = omega arith

apart : (r r' : Slip) → ¬ Common r r' → Commutes (λ (s : Desk). (◌≡◌ {A = ℕ} 0 0) × (s ≡ s)) (after desk names rules) (answer desk names rules) r r'
apart r r' c =
    commute desk names rules Always Anywhere Other laws 0 (λ a m k. refl) r r'
    (λ m m' k k' e. c (m, k, Memᴰ.cast (sym e) k')) (λ m' m k' k e. c (m, k, Memᴰ.cast e k'))

-- any lists of slips, arranged so that slips with a common member keep their order
pub desk_order : (s : Desk) (xs ys : List Slip) (to : ℕ → ℕ) → Arranged Common (deposit 0 0) xs ys to → SameOutcome (after desk names rules) (answer desk names rules) 0 s xs ys to
desk_order s xs ys to h =
    order (λ (t : Desk). (◌≡◌ {A = ℕ} 0 0) × (t ≡ t)) Common (after desk names rules) (answer desk names rules) (λ t r v. (refl, refl)) apart (deposit 0 0) 0 s xs ys to (refl, refl) h

-- member 0 gives member 1 four; member 2 deposits six, twice
abbrev xs : List Slip
xs = transfer 0 1 4 ∷ deposit 2 6 ∷ deposit 2 6 ∷ []

abbrev ys : List Slip
ys = deposit 2 6 ∷ transfer 0 1 4 ∷ deposit 2 6 ∷ []

not_two : (m : ℕ) → Memᴰ m (0 ∷ 1 ∷ []) → m ≢ 2
not_two m (Memᴰ.head e) e' = omega arith
not_two m (Memᴰ.tail k) e' = let e = Memᴰ.eq_of_singleton k in omega arith

pub arranged : Arranged Common (deposit 0 0) xs ys swap
arranged = first_two Common (deposit 0 0) (transfer 0 1 4) (deposit 2 6) (deposit 2 6 ∷ []) (λ c. not_two c.0 c.1 (Memᴰ.eq_of_singleton c.2))

-- the theorem at this pair, and both lists computed: nothing is said of nothing
abbrev morning : Desk
morning = record { accounts = 5 ∷ 7 ∷ 1 ∷ []; moved = 0 }

pub by_theorem : SameOutcome (after desk names rules) (answer desk names rules) 0 morning xs ys swap
by_theorem = desk_order morning xs ys swap arranged

pub evening : final (after desk names rules) morning xs ≡ record { accounts = 1 ∷ 11 ∷ 13 ∷ []; moved = 16 }
evening = refl

pub the_answers : answers (after desk names rules) (answer desk names rules) morning (transfer 0 1 4 ∷ transfer 0 1 4 ∷ []) ≡ 0 ∷ 6 ∷ []
the_answers = refl
