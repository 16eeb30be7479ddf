-- `sixteenth_at`: the sum that is kept at b is not beyond the tick.
use Rattle.std.proofs.Common.{◌≤◌, get_or}
use Rattle.runner.proofs.ticks.sixteenth_at.Given as goal

abbrev pub invariant-loop-b : goal.invariant-loop-b
invariant-loop-b l = get_or l.sums l.b 0 ≤ l.tick
