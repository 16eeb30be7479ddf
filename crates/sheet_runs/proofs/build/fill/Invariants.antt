-- Each turn leaves one waypoint less.
use Rattle.std.proofs.Common.{◌-◌}
use Rattle.sheet_runs.proofs.build.fill.Given as goal

abbrev pub decreases-loop-i : goal.decreases-loop-i
decreases-loop-i l = l.n - l.i
