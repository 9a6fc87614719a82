use Rattle.folds.proofs.Puts.{put_byte}
use Rattle.sheet.proofs.lines.put_ended.Goals as goal

pub returns : goal.returns
returns g c = put_byte c.put_number-last.ensures c.args.end
