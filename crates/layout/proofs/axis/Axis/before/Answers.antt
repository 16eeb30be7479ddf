-- `before`: its two ways are the two lines of `prev`.
use Rattle.std.proofs.Common.{arith}
use Rattle.layout.specs.Inside.{along}
use Rattle.layout.proofs.Given.{course_points}
use Rattle.layout.proofs.Neighbours.{prev_first, prev_later}
use Rattle.layout.proofs.axis.Axis.before.Goals as goal

pub returns-then-i-eq0 : goal.returns-then-i-eq0
returns-then-i-eq0 c =
    let a = c.args.self.now in let k = along a in
    (omega arith, omega (arith, course_points a, prev_first k c.args.i c.if-i-eq0.true))

pub returns-else-i-eq0 : goal.returns-else-i-eq0
returns-else-i-eq0 c =
    let a = c.args.self.now in let k = along a in
    (omega arith, prev_later k c.args.i (omega arith))
