-- What is known of a sheet while an axis is laid out: it is accepted, so its fields have their bounds, and so has its course.
use mathlib.Core.Path.{◌≡◌}
use mathlib.Core.List.{List}
use Prim.Native.Nat.{ℕ, ◌≤◌, ◌<◌}
use native.Mathlib.Omega.{arith}
use Rattle.integers.proofs.Order.{le_or_lt}
use Rattle.ends.specs.Ends.{leg_count}
use Rattle.sheet.specs.Fields.{kind, legs}
use Rattle.sheet.specs.Theorems.{Bounds}
use Rattle.sheet.proofs.ByKind.{least_two}
use Rattle.spline.specs.Spline as spline
use Rattle.spline.proofs.Waypoints.{prev_lt}
use Rattle.layout.specs.Course.{course}
use Rattle.layout.specs.Inside.{along, AtEnd}
use Rattle.layout.specs.declared.axis.Axis.{Axis}

-- the bounds of a sheet are those of its course on each axis
pub bounds_course : (s : List ℕ) (axis : ℕ) → axis < 3 → Bounds s → spline.InBounds (course s axis)
unfolding course spline.legs
bounds_course s axis a b = record {
  enough = b.enough;
  leg = λ i l. (b.leg_low i l, b.leg_high i l);
  reach = λ i l. b.reach axis i a l;
  slope = λ held. (b.slope axis 0 a (omega arith) held, b.slope axis 1 a (omega arith) held);
}

module _ (x : Axis) where
  pub course_points : x.sheet.points ≡ (along x).points
  unfolding course
  course_points = x.sheet.is_points

  pub same_legs : leg_count x.sheet.kind x.sheet.points ≡ legs x.sheet.bytes.now
  same_legs = λ i. leg_count (x.sheet.is_kind i) (x.sheet.is_points i)

  pub two_points : 2 ≤ x.sheet.points
  two_points = omega (arith, x.sheet.is_points, x.bounds.enough, least_two (kind x.sheet.bytes.now))

  pub end_fits : (i : ℕ) → AtEnd x.sheet.points i → i < x.sheet.points
  end_fits i a = le_or_lt 1 i (i < x.sheet.points) (λ h. omega (arith, a h)) (λ h. omega (arith, two_points))

  pub in_bounds : spline.InBounds (along x)
  in_bounds = bounds_course x.sheet.bytes.now x.axis x.axis_fits x.bounds

  pub prev_fits : (i : ℕ) → i < x.sheet.points → spline.prev (along x) i < x.sheet.points
  unfolding course
  prev_fits i h = rw x.sheet.is_points (prev_lt (along x) i (omega (arith, x.sheet.is_points)))
