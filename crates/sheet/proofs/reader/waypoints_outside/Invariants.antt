-- `waypoints_outside`: none of the first b sixteens is outside.
use Rattle.std.proofs.Common.{◌≡◌, ◌+◌, ◌*◌, false}
use Rattle.sheet.specs.Bytes.{any_below}
use Rattle.sheet.specs.Carried.{stride}
use Rattle.sheet.proofs.Reach.{at_byte}
use Rattle.sheet.proofs.reader.waypoints_outside.Given as goal

abbrev pub invariant-loop-b : goal.invariant-loop-b
invariant-loop-b l = any_below (λ i. at_byte l.s (l.from + 12 * i)) (stride * l.b) ≡ false
