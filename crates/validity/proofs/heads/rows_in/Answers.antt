use Rattle.std.proofs.Common.{sym, ◌∙◌}
use Rattle.validity.proofs.Facts.{head_shaped, head_room}
use Rattle.validity.proofs.heads.rows_in.Goals as goal

pub head_at-requires : goal.head_at-requires
head_at-requires c = head_room c.args.s.now (sym c.head_ok.ensures ∙ c.if-head_ok.true)

pub invariant_of-result : goal.invariant_of-result
invariant_of-result c = record { shaped = rw c.head_at.ensures (head_shaped c.args.s.now (sym c.head_ok.ensures ∙ c.if-head_ok.true)) }
