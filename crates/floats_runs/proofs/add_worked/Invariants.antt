-- Each sheet leaves less of the text.
use Rattle.std.proofs.Common.{length}
use Rattle.floats_runs.proofs.add_worked.Given as goal

abbrev pub decreases-loop-rest : goal.decreases-loop-rest
decreases-loop-rest l = length l.rest
