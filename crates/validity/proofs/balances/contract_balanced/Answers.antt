use Rattle.std.proofs.Common.{Bool, ap, ◌&&◌, ◌≡◌, ◌∙◌, nat_eq, rules, SFits, of_z, arith}
use Rattle.std.specs.Prelude.{ℤ, pos, negsuc, nat_abs}
use Rattle.std.specs.Int.{w64}
use Rattle.std.proofs.Math.Bool.{and_assoc}
use Rattle.std.proofs.Math.Dec.{eqb-suc-zero}
use borrow.Author.Tests.{ne_eqb}
use Prim.Native.Nat.{◌-◌, ◌^◌, suc}
use mathlib.Core.Path.{refl, sym}
use Rattle.validity.specs.Totals.{totals_to}
use Rattle.validity.proofs.balances.contract_balanced.Goals as goal

-- a sum is zero where its bits are
zero : (z : ℤ) → SFits w64 z → nat_eq (of_z w64 z) 0 ≡ nat_eq (nat_abs z) 0
zero (pos n) h = refl
zero (negsuc n) h = ne_eqb (2 ^ 64 - suc n) 0 (λ e. omega (arith, e, h.sfits)) ∙ sym (eqb-suc-zero n)

-- the sums are the definition's
pub returns : goal.returns
unfolding totals_to
returns c = ap (λ (b : Bool). c.eq.result && b) (zero c.contract_totals-t.result.cash (search rules)) ∙ rw (c.eq.ensures, c.contract_totals-t.ensures) (simp and_assoc)
