-- `pass`: how far the pass has come, and that the left neighbour is the number that stands there.
use Rattle.std.proofs.Common.{◌≡◌}
use Rattle.systems.specs.Passes.{at}
use Rattle.spline.specs.Spline.{prev}
use Rattle.layout.specs.Inside.{along, AllSmall}
use Rattle.layout.proofs.Sweep.{Through}
use Rattle.layout.proofs.axis.Axis.pass.Given as goal

abbrev pub invariant-loop-i : goal.invariant-loop-i
invariant-loop-i l = record {
  come : Through l.self l.fn.z l.z l.changed l.i;
  small : AllSmall l.self.sheet.points l.z;
  left : l.left ≡ at l.z (prev (along l.self) l.i);
}
