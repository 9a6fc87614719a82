-- From the record's start to its end is record i.
use Rattle.intake.proofs.Lines.{record_part}
use Rattle.intake.proofs.records.post_one.Goals as goal

pub returns-clause-value : goal.returns-clause-value
returns-clause-value c = cc (record_part c.args.records.now c.args.i c.record_end-end.result c.record_end-end.ensures c.requires)

pub returns-clause-book_after : goal.returns-clause-book_after
returns-clause-book_after c = cc (record_part c.args.records.now c.args.i c.record_end-end.result c.record_end-end.ensures c.requires)
