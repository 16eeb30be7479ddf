-- `lay`: after each turn the numbers are those of as many passes from zeros.
use Rattle.std.proofs.Common.{◌≡◌}
use Rattle.layout.specs.Inside.{after_passes}
use Rattle.layout.proofs.axis.Axis.lay.Given as goal

abbrev pub invariant-loop : goal.invariant-loop
invariant-loop l = l.z ≡ after_passes l.self.sheet.bytes.now l.self.axis l.counter
