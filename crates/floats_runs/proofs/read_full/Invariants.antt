-- What is read lies in the buffer, and each read that gives something leaves less of it.
use Rattle.std.proofs.Common.{length, ◌-◌, ◌≤◌}
use Rattle.floats_runs.proofs.read_full.Given as goal

abbrev pub invariant-loop-done : goal.invariant-loop-done
invariant-loop-done g l = l.done ≤ length l.buffer

abbrev pub decreases-loop-done : goal.decreases-loop-done
decreases-loop-done g l = length l.initial.buffer - l.done
