-- A total of amounts, each from 0 up, is from 0 up: for sums over contracts.
use Prim.Native.Nat.{ℕ, zero, suc, ◌*◌, ◌≤◌, ◌<◌}
use native.Mathlib.Omega.{arith}
use borrow.Author.Differences.{ints}
use lib.IntN.{ℤ, pos}
use lib.Signed.{◌≤ℤ◌, ≤ℤ_refl}
use Rattle.numbers.specs.Fold.{fold_to}
use Rattle.numbers.specs.Sum.{total_to}
use Rattle.numbers.proofs.Sums.{in_total_most}
use Rattle.rules.specs.Units.{fen}
use Rattle.rules.specs.Ranges.{Amount}

low : (f : ℕ → ℤ) (n : ℕ) → ((i : ℕ) → i < n → pos 0 ≤ℤ f i) → pos 0 ≤ℤ total_to f n
unfolding fold_to
low f zero h = ≤ℤ_refl (pos 0)
low f (suc n) h = omega (arith, ints, low f n (λ i l. h i (omega arith)), h n (omega arith))

-- n of at most `count` terms
pub total_in : {most : ℕ} (count : ℕ) (f : ℕ → ℤ) (n : ℕ) → n ≤ count → ((i : ℕ) → i < n → Amount most (fen (f i))) → Amount (count * most) (fen (total_to f n))
total_in count f n l h = record { within = in_total_most count f n l (λ i j. (h i j).within); low = low f n (λ i j. (h i j).low) }
