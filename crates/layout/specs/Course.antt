-- The course that a sheet's bytes describe on an axis: 0 is north, 1 east, 2 up. Everything from laying out on speaks of the sheet through it.
use Rattle.std.specs.Prelude.{List, ℕ}
use Rattle.sheet.specs.Fields.{kind, points, leg, waypoint, slope}
use Rattle.spline.specs.Spline.{Course}

unfoldable pub course : List ℕ → ℕ → Course
course s axis = record {
  ends = kind s;
  points = points s;
  leg = leg s;
  value = waypoint s axis;
  start_slope = slope s axis 0;
  end_slope = slope s axis 1;
}
