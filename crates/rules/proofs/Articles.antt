-- The rules are the articles: the sums have the same terms, and of the two amounts of article 37 the larger is the one that its case takes.
use mathlib.Core.Path.{◌≡◌, ap}
use mathlib.Core.Bool.{cond}
use Prim.Native.Nat.{ℕ, ◌+◌, ◌*◌, ◌/◌}
use native.Mathlib.Omega.{arith}
use borrow.Author.Differences.{ints}
use lib.IntN.{ℤ, pos, negsuc, nat_abs, ◌+ℤ◌, ◌-ℤ◌}
use lib.Signed.{◌≤ℤ◌, le_z}
use Rattle.std.proofs.lemmas.Bool.{cond_both}
use Rattle.std.proofs.lemmas.Int.{int_max_is}
use Rattle.numbers.specs.Choice.{larger_of}
use Rattle.numbers.proofs.Choices.{max_is_larger}
use Rattle.rules.specs.Units.{Fen, fen, Lots, Price, Figures, Movements}
use Rattle.rules.specs.Members.{MemberKind, minimum_of}
use Rattle.rules.specs.Money.{quarter_of, room_of}
use Rattle.rules.specs.Securities.{discounted_of}
use Rattle.rules.specs.Margin.{margin_of}
use Rattle.rules.specs.Night.{figures_tonight_of}
use Rattle.rules.specs.Articles.{article33, article37, Up, Down}

pub article_33 : (morning : Figures) (moved : Movements) (discounted margin : Fen) →
    let tonight = figures_tonight_of morning moved discounted margin in tonight.reserve ≡ article33 morning tonight moved
article_33 morning moved discounted margin =
    ap fen (omega (arith, ints))

-- ---- article 37

-- reserve r, margin m and n of usable securities
module _ (r m minimum : ℤ) (n : ℕ) (low : pos 0 ≤ℤ m) where
  abbrev quarter : ℤ
  quarter = pos ((n + 3) / 4)

  abbrev bare : ℤ
  bare = m -ℤ pos n

  abbrev in_margin : ℤ
  in_margin = larger_of (pos 0) bare

  abbrev money : ℤ
  money = r +ℤ m -ℤ pos n

  both_cases : money -ℤ larger_of bare quarter -ℤ minimum ≡ cond (le_z quarter in_margin) (r -ℤ minimum) (money -ℤ in_margin -ℤ (quarter -ℤ in_margin) -ℤ minimum)
  both_cases =
      let kept = max_is_larger bare quarter in
      let reckoned = max_is_larger (pos 0) bare in
      let kept_is = int_max_is bare quarter in
      let reckoned_is = int_max_is (pos 0) bare in
      cond_both (le_z quarter in_margin) (r -ℤ minimum) (money -ℤ in_margin -ℤ (quarter -ℤ in_margin) -ℤ minimum)
      (λ (z : ℤ). money -ℤ larger_of bare quarter -ℤ minimum ≡ z) (λ e. omega (arith, ints)) (λ e. omega (arith, ints))

pub article_37 : (kind : MemberKind) (figures : Figures) → pos 0 ≤ℤ figures.margin.0 → pos 0 ≤ℤ figures.usable.0 → room_of kind figures ≡ article37 kind figures
article_37 kind figures m u = of figures.usable.0 u
  where
    with : ℤ → Figures
    with z = record { reserve = figures.reserve; margin = figures.margin; usable = fen z }

    of : (z : ℤ) → pos 0 ≤ℤ z → room_of kind (with z) ≡ article37 kind (with z)
    of (pos n) l = ap fen (both_cases figures.reserve.0 figures.margin.0 (minimum_of kind).0 n m)
    of (negsuc n) l = absurd l.le

-- ---- the three roundings

pub quarter_up : (n : ℕ) → Up n 4 (nat_abs (quarter_of (fen (pos n))).0)
quarter_up n = record { enough = omega arith; least = omega arith }

pub margin_up : (charged : Lots) (price : Price) (multiplier rate : ℕ) → Up (charged.0 * price.0 * multiplier * rate) 10_000 (nat_abs (margin_of charged price multiplier rate).0)
margin_up charged price multiplier rate = record { enough = omega arith; least = omega arith }

pub discounted_down : (n discount : ℕ) → Down (n * discount) 10_000 (nat_abs (discounted_of (fen (pos n)) discount).0)
discounted_down n discount = record { within = omega arith; most = omega arith }
