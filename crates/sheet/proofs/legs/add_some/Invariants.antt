-- `add_some`: sum and flag are those of the legs so far, and the sum is small enough to fit.
use Rattle.std.proofs.Common.{◌≡◌, ◌+◌, ◌*◌, ◌≤◌}
use Rattle.sheet.specs.Bytes.{any_below, sum_below}
use Rattle.sheet.specs.Fields.{leg}
use Rattle.sheet.specs.Reading.{leg_outside}
use Rattle.sheet.proofs.legs.add_some.Given as goal

abbrev pub invariant-loop-i : goal.invariant-loop-i
invariant-loop-i l = record {
  small : l.ticks ≤ 65535 * l.i;
  sum : l.ticks ≡ sum_below (λ k. leg l.s (l.from + k)) l.i;
  flag : l.outside ≡ any_below (λ k. leg_outside (leg l.s (l.from + k))) l.i;
}
