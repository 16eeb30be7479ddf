-- `strays_on`: the two runs of ticks are all of them but the two ends, which are on the stroke.
use Rattle.std.proofs.Common.{◌/◌, ◌∙◌, sym, arith}
use Rattle.stretch.specs.Asked.{tabled}
use Rattle.stretch.proofs.Tests.{in_second, in_first}
use Rattle.stretch.proofs.piece.Stretch.strays_on.Goals as goal

pub returns-then-off_between : goal.returns-then-off_between
returns-then-off_between c =
    let a = c.args in let s = a.self.now in
    c.if-off_between.true
    ∙ in_second s.leg.now.tolerance (tabled s.leg.now.places.now a.axis) s.start s.ticks (s.ticks / 2) (omega (arith, c.requires.1)) (omega arith)
    (sym c.off_between.ensures ∙ c.if-off_between.true)

pub returns-else-off_between : goal.returns-else-off_between
returns-else-off_between c =
    let a = c.args in let s = a.self.now in
    c.off_between-else-off_between.ensures
    ∙ in_first s.leg.now.tolerance (tabled s.leg.now.places.now a.axis) s.start s.ticks (s.ticks / 2) (omega (arith, c.requires.1)) (omega arith)
    (sym c.off_between.ensures ∙ c.if-off_between.false)
