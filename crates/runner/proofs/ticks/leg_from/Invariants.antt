-- `leg_from`: the carried sum is that of the legs before leg i, and the tick is not before it.
use Rattle.std.proofs.Common.{◌≡◌, ◌≤◌}
use Rattle.sheet.specs.Bytes.{sum_below}
use Rattle.sheet.specs.Fields.{leg}
use Rattle.runner.proofs.ticks.leg_from.Given as goal

abbrev pub invariant-loop-i : goal.invariant-loop-i
invariant-loop-i l = record { is_sum : l.start ≡ sum_below (leg l.sheet.bytes.now) l.i; from : l.start ≤ l.tick }
