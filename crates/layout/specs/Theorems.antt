-- What is proved of laying out beside the promise of `lay_out`. Demand 3 rests on it.
use Rattle.std.specs.Prelude.{List, ℕ, ◌<◌}
use Rattle.sheet.specs.Fields.{points}
use Rattle.sheet.specs.Reading.{Accepted}
use Rattle.spline.specs.Spline.{InBounds, Curve, Exact, bends}
use Rattle.spline.specs.Theorems.{Eighths}
use Rattle.systems.specs.Passes.{at}
use Rattle.layout.specs.Course.{course}

-- an accepted sheet's course is within the bounds that the spline's theorems ask for, on every axis
abbrev pub CourseInBounds : Type 0
CourseInBounds = (s : List ℕ) → Accepted s → (axis : ℕ) → axis < 3 → InBounds (course s axis)

-- L6
abbrev pub LaidOutNear : Type 0
LaidOutNear = (s : List ℕ) → Accepted s → (axis : ℕ) → axis < 3 → (f : Curve) → Exact (course s axis) f
    → (i : ℕ) → i < points s → Eighths 9 (course s axis) f i (at (bends (course s axis)) i)
