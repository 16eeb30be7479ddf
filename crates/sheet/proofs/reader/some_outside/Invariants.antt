-- `some_outside`: the flag is that of the waypoints so far.
use Rattle.std.proofs.Common.{◌≡◌, ◌+◌, ◌*◌}
use Rattle.sheet.specs.Bytes.{any_below}
use Rattle.sheet.proofs.Reach.{at_byte}
use Rattle.sheet.proofs.reader.some_outside.Given as goal

abbrev pub invariant-loop-k : goal.invariant-loop-k
invariant-loop-k l = l.outside ≡ any_below (λ k. at_byte l.s (l.from + 12 * k)) l.k
