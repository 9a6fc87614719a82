-- Two accounts have the same rules, in rising order; the rules of both are theirs in turn, number by number. The first of both is then the lower of each one's first.
use mathlib.Core.Path.{◌≡◌, refl, sym}
use mathlib.Core.Logic.{◌⊎◌, inl, inr}
use mathlib.Core.Bool.{Bool, true, false, cond, ◌&&◌}
use mathlib.Core.List.{List, [], ◌∷◌}
use Prim.Native.Nat.{ℕ, zero, suc, ◌<◌}
use native.Mathlib.Omega.{arith}
use borrow.Author.Tests.{ltb-true, le-leb, lt-leb}
use lib.Dec.{ltb}
use Rattle.folds.specs.First.{Rule, ◌gives◌, first_of}
use Rattle.std.proofs.lemmas.Bool.{and_parts}
use Rattle.posting.specs.Entries.{lower}

-- a number of the table, with each account's test of it
pub record Level : Type 0 where
  pub one : Bool
  pub other : Bool
  pub number : ℕ

abbrev pub rules_by : (Level → Bool) → List Level → List Rule
rules_by test [] = []
rules_by test (l ∷ ls) = (test l gives l.number) ∷ rules_by test ls

abbrev pub ones : List Level → List Rule
ones = rules_by (λ l. l.one)

abbrev pub others : List Level → List Rule
others = rules_by (λ l. l.other)

abbrev pub in_turn : List Level → List Rule
in_turn [] = []
in_turn (l ∷ ls) = (l.one gives l.number) ∷ (l.other gives l.number) ∷ in_turn ls

-- each number is above n and above those before it
abbrev pub rising : ℕ → List Level → Bool
rising n [] = true
rising n (l ∷ ls) = ltb n l.number && rising l.number ls

-- no refusal, or one above n
abbrev Above : ℕ → ℕ → Type 0
Above n p = (p ≡ 0) ⊎ (n < p)

above_next : {n m : ℕ} (p : ℕ) → n < m → Above m p → Above n p
above_next p l (inl e) = inl e
above_next p l (inr k) = inr (omega arith)

first_above : (test : Level → Bool) (n : ℕ) (ls : List Level) → rising n ls ≡ true → Above n (first_of (rules_by test ls))
first_above test n [] e = inl refl
first_above test n (l ∷ ls) e =
    let p = and_parts (ltb n l.number) (rising l.number ls) e in
    let k = ltb-true n l.number p.0 in
    chosen (test l) (first_of (rules_by test ls)) k (above_next (first_of (rules_by test ls)) k (first_above test l.number ls p.1))
  where
    chosen : (b : Bool) (p : ℕ) {m : ℕ} → n < m → Above n p → Above n (cond b m p)
    chosen true p k a = inr k
    chosen false p k a = a

lower_same : (n : ℕ) → lower n n ≡ n
lower_same zero = refl
lower_same (suc n) = rw (le-leb (suc n) (suc n) (omega arith)) refl

lower_one : (n p : ℕ) → 0 < n → Above n p → lower n p ≡ n
lower_one zero p k a = absurd (omega arith)
lower_one (suc n) zero k a = refl
lower_one (suc n) (suc p) k (inl e) = absurd (omega arith)
lower_one (suc n) (suc p) k (inr l) = rw (le-leb (suc n) (suc p) (omega arith)) refl

lower_other : (n p : ℕ) → 0 < n → Above n p → lower p n ≡ n
lower_other zero p k a = absurd (omega arith)
lower_other (suc n) zero k a = refl
lower_other (suc n) (suc p) k (inl e) = absurd (omega arith)
lower_other (suc n) (suc p) k (inr l) = rw (lt-leb (suc p) (suc n) (omega arith)) refl

pub first_in_turn : (n : ℕ) (ls : List Level) → rising n ls ≡ true → first_of (in_turn ls) ≡ lower (first_of (ones ls)) (first_of (others ls))
first_in_turn n [] e = refl
first_in_turn n (l ∷ ls) e =
    let p = and_parts (ltb n l.number) (rising l.number ls) e in
    let k = ltb-true n l.number p.0 in
    chosen l.one l.other (first_of (in_turn ls)) (first_of (ones ls)) (first_of (others ls)) (omega (arith, k))
    (first_above (λ l. l.one) l.number ls p.1) (first_above (λ l. l.other) l.number ls p.1) (first_in_turn l.number ls p.1)
  where
    chosen : (a b : Bool) (t p q : ℕ) {m : ℕ} → 0 < m → Above m p → Above m q → t ≡ lower p q → cond a m (cond b m t) ≡ lower (cond a m p) (cond b m q)
    chosen true true t p q {m} z x y h = sym (lower_same m)
    chosen true false t p q {m} z x y h = sym (lower_one m q z y)
    chosen false true t p q {m} z x y h = sym (lower_other m p z x)
    chosen false false t p q z x y h = h
