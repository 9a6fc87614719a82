use Rattle.std.proofs.Common.{◌≡◌, refl, sym, ap, ◌∙◌}
use Rattle.book.specs.Books.{book_at}
use Rattle.book.specs.Rows.{book_of}
use Rattle.validity.specs.Valid.{balanced}
use Rattle.validity.proofs.Facts.{valid_head, valid_ranged, valid_balanced}
use Rattle.validity.proofs.Whole.{same_book, valid_by_parts}
use Rattle.validity.proofs.checked.Goals as goal

pub returns-in_err-rows-clause-valid : goal.returns-in_err-rows-clause-valid
returns-in_err-rows-clause-valid c = rw c.from_residual.ensures (λ e. cc, λ v. c.in_err-rows.ensures.right.1 (valid_head c.args.s.now v))

pub returns-in_err-ranged-clause-valid : goal.returns-in_err-ranged-clause-valid
returns-in_err-ranged-clause-valid c =
    let book = same_book c.in_ok-rows.rows c.args.s.now c.in_ok-rows.ensures.rows in
    rw c.from_residual-in_err-ranged.ensures (λ e. cc, λ v. c.in_err-ranged.ensures.ranged.1 (rw book (valid_ranged c.args.s.now v)))

pub returns-then-balanced-clause-valid : goal.returns-then-balanced-clause-valid
returns-then-balanced-clause-valid c =
    let ranged = c.in_ok-ranged.ranged in
    let book : book_of ranged.rows ≡ book_at c.args.s.now = ap book_of c.in_ok-ranged.ensures.same ∙ same_book c.in_ok-rows.rows c.args.s.now c.in_ok-rows.ensures.rows in
    (λ e. valid_by_parts c.args.s.now (c.in_ok-rows.ensures.right.0 e) (rw book at ranged.ranged) (sym (ap balanced book) ∙ sym c.balanced.ensures ∙ c.if-balanced.true), λ v. refl)

pub returns-else-balanced-clause-valid : goal.returns-else-balanced-clause-valid
returns-else-balanced-clause-valid c =
    let book : book_of c.in_ok-ranged.ranged.rows ≡ book_at c.args.s.now = ap book_of c.in_ok-ranged.ensures.same ∙ same_book c.in_ok-rows.rows c.args.s.now c.in_ok-rows.ensures.rows in
    (λ e. cc, λ v. sym c.if-balanced.false ∙ c.balanced.ensures ∙ ap balanced book ∙ valid_balanced c.args.s.now v)
