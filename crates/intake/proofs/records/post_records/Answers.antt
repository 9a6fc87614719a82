use Rattle.std.proofs.Common.{arith, refl}
use Rattle.folds.proofs.Puts.{put_none, put_next}
use Rattle.intake.specs.Posted.{book_after, answer_to}
use Rattle.intake.proofs.Lines.{book_next}
use Rattle.intake.proofs.records.post_records.Goals as goal

pub loop-i-init : goal.loop-i-init
unfolding book_after
loop-i-init c = (omega arith, refl, put_none _ _ _)

pub loop-i-preserved : goal.loop-i-preserved
unfolding answer_to
loop-i-preserved c =
    let i = c.loop-i.i in
    let put = c.put_answer-at.ensures in
    let b = c.loop-i.invariant.1 in (
      omega (arith, put.upper_bound),
      cc (book_next c.args.book.now c.args.records.now i),
      put_next _ i c.loop-i.invariant.2 (rw (c.post_one-posted.ensures.value, b) at put.put),
    )
