-- No piece goes past the count.
use Rattle.std.proofs.Common.{◌-◌, ◌≤◌}
use Rattle.evening.proofs.post_all.Given as goal

abbrev pub invariant-loop-place : goal.invariant-loop-place
invariant-loop-place g l = l.place ≤ l.count

abbrev pub decreases-loop-place : goal.decreases-loop-place
decreases-loop-place g l = l.count - l.place
