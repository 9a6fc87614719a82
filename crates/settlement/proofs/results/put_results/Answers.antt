-- Member by member.
use Rattle.std.proofs.Common.{◌*◌, refl}
use native.Mathlib.Nat.{zero-add}
use Rattle.numbers.specs.Fold.{fold_to}
use Rattle.folds.proofs.Laid.{sets_step}
use Rattle.book.specs.Rows.{book_of}
use Rattle.tonight.specs.GivenOf.{given_of}
use Rattle.settlement.specs.Next.{result_size, result_row}
use Rattle.settlement.proofs.Sizes.{result_size_lem}
use Rattle.settlement.proofs.results.put_results.Goals as goal

pub loop-m-init : goal.loop-m-init
unfolding fold_to
loop-m-init c = refl

pub loop-m-preserved : goal.loop-m-preserved
loop-m-preserved c =
    let e = c.args.evening.now in
    let m = c.loop-m.m in
    let b = book_of e.rows in
    cc (zero-add (m * result_size), sets_step c.args.results.now 0 result_size (result_row b (given_of e)) (result_size_lem b (given_of e)) m)
