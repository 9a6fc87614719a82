-- A test that fails refuses the whole; past the two early ones the rest is the code's chain.
use Rattle.std.proofs.Common.{length, sym, ap, ◌∙◌}
use borrow.Author.Tests.{le-leb, lt-leb}
use Rattle.folds.proofs.Tests.{one_fails}
use Rattle.book.specs.Layout.{head_size}
use Rattle.validity.specs.Valid.{counts_ok, head_tests, head_ok}
use Rattle.validity.proofs.heads.head_ok.Goals as goal

pub returns-then-s-lt-HEAD : goal.returns-then-s-lt-HEAD
unfolding head_ok
returns-then-s-lt-HEAD c = sym (one_fails (head_tests c.args.s.now) 0 (lt-leb head_size (length c.args.s.now) c.if-s-lt-HEAD.true))

pub returns-then-not-counts_ok : goal.returns-then-not-counts_ok
unfolding head_ok
returns-then-not-counts_ok c =
    sym (one_fails (head_tests c.args.s.now) 1 (ap counts_ok (sym c.head_at-h.ensures) ∙ sym c.counts_ok.ensures ∙ c.if-not-counts_ok.true))

pub returns : goal.returns
unfolding head_ok
returns c =
    let xs = c.args.s.now in
    let sound = ap counts_ok (sym c.head_at-h.ensures) ∙ sym c.counts_ok.ensures ∙ c.if-not-counts_ok.false in
    rw (le-leb head_size (length xs) c.if-s-lt-HEAD.false, sound) (cc)
