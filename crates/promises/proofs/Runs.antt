-- A run of records: it is enough to check the book once, before the first.
use mathlib.Core.Path.{◌≡◌, refl, sym, ap, ap₂, ◌∙◌, subst}
use mathlib.Core.Bool.{true, false}
use mathlib.Core.List.{List, [], ◌∷◌, map}
use Prim.Native.Nat.{ℕ, ◌<◌}
use Rattle.order.specs.Order.{final, answers}
use Rattle.book.specs.declared.heads.Head.{Head}
use Rattle.book.specs.Layout.{contract_off}
use Rattle.book.specs.Heads.{head_at}
use Rattle.book.specs.ContractRows.{contract_at}
use Rattle.validity.specs.Valid.{valid_book}
use Rattle.posting.specs.Answers.{says, step, answer, after}
use Rattle.promises.proofs.OnlyNamed.{counts_stay, contract_stays}
use Rattle.promises.proofs.Kept.{kept, kept_step}
use Rattle.promises.proofs.Answering.{valid_answer, valid_after, invalid_answer, invalid_after}

-- validity is that of the book at the start
pub run_kept : (book : List ℕ) (rs : List (List ℕ)) → valid_book (final after book rs) ≡ valid_book book
run_kept book [] = refl
run_kept book (r ∷ rs) = run_kept (after book r) rs ∙ kept book r

pub run_counts : (book : List ℕ) (rs : List (List ℕ)) → head_at (final after book rs) ≡ head_at book
run_counts book [] = refl
run_counts book (r ∷ rs) = run_counts (after book r) rs ∙ counts_stay book r

-- every contract's row stays
pub run_contract : (book : List ℕ) (rs : List (List ℕ)) (j : ℕ) → j < (head_at book).contracts → contract_at (final after book rs) (contract_off j) ≡ contract_at book (contract_off j)
run_contract book [] j l = refl
run_contract book (r ∷ rs) j l = run_contract (after book r) rs j (subst (λ (h : Head). j < h.contracts) (sym (counts_stay book r)) l) ∙ contract_stays book r j l

-- a valid book
pub run_final : (book : List ℕ) (rs : List (List ℕ)) → valid_book book ≡ true → final after book rs ≡ final step book rs
run_final book [] e = refl
run_final book (r ∷ rs) e = ap (λ (t : List ℕ). final after t rs) (valid_after book r e) ∙ run_final (step book r) rs (kept_step book r e)

pub run_answers : (book : List ℕ) (rs : List (List ℕ)) → valid_book book ≡ true → answers after answer book rs ≡ answers step says book rs
run_answers book [] e = refl
run_answers book (r ∷ rs) e =
    ap₂ {C = List ℕ} (λ a l. a ∷ l) (valid_answer book r e)
    (ap (λ (t : List ℕ). answers after answer t rs) (valid_after book r e) ∙ run_answers (step book r) rs (kept_step book r e))

-- a book that is not valid
pub run_stays : (book : List ℕ) (rs : List (List ℕ)) → valid_book book ≡ false → final after book rs ≡ book
run_stays book [] e = refl
run_stays book (r ∷ rs) e = ap (λ (t : List ℕ). final after t rs) (invalid_after book r e) ∙ run_stays book rs e

pub run_tens : (book : List ℕ) (rs : List (List ℕ)) → valid_book book ≡ false → answers after answer book rs ≡ map (λ (r : List ℕ). 10) rs
run_tens book [] e = refl
run_tens book (r ∷ rs) e =
    ap₂ {C = List ℕ} (λ a l. a ∷ l) (invalid_answer book r e) (ap (λ (t : List ℕ). answers after answer t rs) (invalid_after book r e) ∙ run_tens book rs e)
