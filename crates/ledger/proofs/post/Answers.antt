-- 10 where the check fails; else the step.
use Rattle.std.proofs.Common.{sym, ◌∙◌}
use Rattle.posting.specs.Answers.{answer, after}
use Rattle.ledger.proofs.post.Goals as goal

pub returns-then-not-valid-clause-value : goal.returns-then-not-valid-clause-value
unfolding answer
returns-then-not-valid-clause-value c = rw (sym c.valid.ensures ∙ c.if-not-valid.true)

pub returns-then-not-valid-clause-s_after : goal.returns-then-not-valid-clause-s_after
unfolding after
returns-then-not-valid-clause-s_after c = rw (sym c.valid.ensures ∙ c.if-not-valid.true)

pub returns-clause-value : goal.returns-clause-value
unfolding answer
returns-clause-value c = rw (sym c.valid.ensures ∙ c.if-not-valid.false) c.post_valid.ensures.value

pub returns-clause-s_after : goal.returns-clause-s_after
unfolding after
returns-clause-s_after c = rw (sym c.valid.ensures ∙ c.if-not-valid.false) c.post_valid.ensures.s_after
