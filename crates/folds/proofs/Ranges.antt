-- `all` over the numbers below n, as the definitions say it.
use Prim.{Unit, tt}
use Rattle.std.specs.Prelude.{map}
use Rattle.std.specs.List.{list_all, range_with_len, FoldsTo}
use Rattle.std.specs.declared.ops.Range.{Range}
use Rattle.std.specs.Fn.{Mut, Called}
use Rattle.std.specs.Iterator.{YieldsThen}
use Rattle.std.proofs.Common.{ℕ, zero, suc, ◌+◌, Bool, true, false, ◌≡◌, refl, sym, ap, ◌∙◌, List, [], ◌∷◌, Option, MatchOption, arith}
use mathlib.Core.Path.{ap₂}
use mathlib.Core.Bool.{◌&&◌, and-true}
use Rattle.std.proofs.iter.Yields.{nat_range_steps}
use Rattle.std.proofs.lemmas.Iterator.{YieldsList-from_range}
use Rattle.std.proofs.lemmas.Iterator.Search.{all_from_yields_List}
use Rattle.std.proofs.lemmas.List.Folds.{list_all-append, list_all-map}
use Rattle.std.proofs.lemmas.List.FromFn.{map-range_with_len_more}
use Rattle.folds.specs.Tests.{all_to}
use Rattle.folds.proofs.Tests.{all_none, all_next}

list_all-range : (f : ℕ → Bool) (n : ℕ) → list_all f (range_with_len 0 n) ≡ all_to f n
list_all-range f zero = sym (all_none f)
list_all-range f (suc n) =
    let held : (xs : List ℕ) → list_all (λ b. b) (map f xs) ≡ list_all f xs = λ xs. list_all-map (λ b. b) f xs in
    let next : suc n ≡ n + 1 = omega arith in
    ap (λ (k : ℕ). list_all f (range_with_len 0 k)) next
    ∙ sym (held (range_with_len 0 (n + 1)))
    ∙ ap (list_all (λ b. b)) (map-range_with_len_more f 0 n n (omega arith))
    ∙ list_all-append (λ b. b) (map f (range_with_len 0 n)) (f n ∷ [])
    ∙ ap₂ (λ (x y : Bool). x && y) (held (range_with_len 0 n) ∙ list_all-range f n) (and-true (f n))
    ∙ sym (all_next f n)
    ∙ ap (all_to f) (sym next)

-- what `(0..n).all(f)` answers, where each call of f answers the test
pub all_in_range : {F : Type 0} {g : Mut F (ℕ × Unit {0}) Bool} (test : ℕ → Bool) (n : ℕ) (u : Range ℕ) (f : F) (r : Bool)
    → (xs : List ℕ) × (o : Option ℕ) × (j : F) × YieldsThen nat_range_steps (record { start = 0; end = n }) xs o u × FoldsTo (λ p x q. Called g p (x, tt) true q) f xs j × MatchOption o (r ≡ true) (λ x. (r ≡ false) × ((h : F) × Called g j (x, tt) false h))
    → ((x : ℕ) (b : Bool) (q : F) → Called g f (x, tt) b q → (q ≡ f) × (b ≡ test x)) → r ≡ all_to test n
all_in_range test n u f r d k = all_from_yields_List test u f r d (YieldsList-from_range 0 n n refl (omega arith)) k ∙ list_all-range test n
