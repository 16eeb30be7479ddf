-- What theorems would say of worked courses (Examples), computed before they are proved: a false one fails here, by its numbers. Nothing rests on this file;
-- Waypoints names it so that it is checked first, by `pub use`: an import that nothing uses is tidied away.
use mathlib.Core.Path.{refl}
use Prim.Native.Nat.{◌≤◌}
use lib.Dec.{lit≤}
use lib.IntN.{pos, nat_abs}
use Rattle.integers.proofs.Tried.{Tried, tried}
use Rattle.rounding.specs.Rounded.{rounded}
use Rattle.systems.specs.Passes.{at, target, renewed, turn, sweep, pass, passes}
use Rattle.systems.proofs.Below.{below}
use Rattle.spline.specs.Spline.{InBounds, legs, next, prev, step_after, step_before, value_at, second_at, bend6, inner_row, free_row, along, row_of, rows_by, bends}
use Rattle.spline.specs.Position.{numerator, position, Near}
use Rattle.spline.specs.Theorems.{RowsFollow}
use Rattle.spline.proofs.Examples.{A, curve_a, worked_a, flat, flat_curve}

bounds_a : InBounds A
unfolding legs
bounds_a = record {
  enough = lit≤ tt;
  leg = below 2 (λ i. (1 ≤ A.leg i) × (A.leg i ≤ 256)) ((tt, (lit≤ tt, lit≤ tt)), (lit≤ tt, lit≤ tt));
  reach = below 3 (λ i. nat_abs (A.value i) ≤ 1_000_000) (((tt, lit≤ tt), lit≤ tt), lit≤ tt);
  slope = λ held. (lit≤ tt, lit≤ tt);
}

-- the row of A's middle waypoint: 32 × -12 = 6 × 2 × -32
row_tried : Tried
unfolding legs next prev step_after step_before second_at bend6 inner_row free_row along row_of rows_by
row_tried = tried (λ (follow : RowsFollow). follow A bounds_a curve_a worked_a.exact 1 (lit≤ tt)) refl

-- at tick 67 of the flat course the place is 1, and the exact spline at 0.38: near, but not within half a millimetre
near_tried : Near 33_554_432 (value_at (flat_curve.cubic 0) 67) (position 256 67 (pos 0) (pos 1) (at (bends flat) 0) (at (bends flat) 1))
unfolding Near value_at next prev step_after step_before inner_row free_row along row_of rows_by numerator position rounded target renewed turn sweep pass passes
near_tried = lit≤ tt
