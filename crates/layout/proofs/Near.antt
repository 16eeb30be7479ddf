-- The theorems of specs/Theorems: an accepted sheet's course is in bounds on every axis, so its bend numbers are within nine eighths of every exact spline.
use Rattle.sheet.proofs.Laws.{accepted_bounds}
use Rattle.spline.proofs.Bends.{bends_near}
use Rattle.layout.specs.Course.{course}
use Rattle.layout.specs.Theorems.{CourseInBounds, LaidOutNear}
use Rattle.layout.proofs.Given.{bounds_course}

pub course_in_bounds : CourseInBounds
course_in_bounds s a axis h = bounds_course s axis h (accepted_bounds s a)

pub laid_out_near : LaidOutNear
unfolding course
laid_out_near s a axis h f exact i l = bends_near (course s axis) (course_in_bounds s a axis h) f exact i l
