use Rattle.std.proofs.Common.{arith, ◌≡◌, ap}
use Rattle.folds.specs.Laid.{bytes_to}
use Rattle.folds.proofs.Puts.{put_same, put_then, put_none, put_next}
use Rattle.sheet.specs.Sheet.{line_of, sheet_text}
use Rattle.intake.proofs.outcome.put_sheet.Goals as goal

pub loop-m-init : goal.loop-m-init
loop-m-init c = (omega arith, put_none _ _ _)

pub loop-m-preserved : goal.loop-m-preserved
loop-m-preserved c =
    (omega (arith, c.put_line-at.ensures.upper_bound), put_next _ c.loop-m.m c.loop-m.invariant.1 c.put_line-at.ensures.put)

pub returns-clause-put : goal.returns-clause-put
unfolding sheet_text
returns-clause-put c =
    let e : c.loop-m.m ≡ c.args.members = omega arith in
    put_then c.put_header-at.ensures.put (put_same (ap (bytes_to (line_of c.args.results.now)) e) c.loop-m.invariant.1)
