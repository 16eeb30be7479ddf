-- `after`: the sheet's next waypoint is the course's.
use Rattle.std.proofs.Common.{◌∙◌}
use Rattle.layout.specs.Inside.{along}
use Rattle.layout.proofs.Given.{course_points}
use Rattle.layout.proofs.Neighbours.{next_is}
use Rattle.layout.proofs.axis.Axis.after.Goals as goal

pub returns : goal.returns
returns c =
    let a = c.args.self.now in
    (c.end_of.ensures.1, c.end_of.ensures.0 ∙ next_is (along a) a.sheet.points c.args.i (course_points a))
