-- `bits_outside`: it asks the span that the definition has for the axis, by one comparison.
use Rattle.std.proofs.Common.{◌∙◌, arith}
use Rattle.sheet.specs.Bytes.{signed32}
use Rattle.sheet.proofs.Numbers.{outside_moved, on_up, in_plan}
use Rattle.sheet.proofs.limits.bits_outside.Goals as goal

pub returns-then-axis-eq2 : goal.returns-then-axis-eq2
returns-then-axis-eq2 c =
    outside_moved 50_000 120_000 c.args.x c.requires (omega arith) (omega arith) ∙ on_up c.args.axis (signed32 c.args.x) c.if-axis-eq2.true

pub returns : goal.returns
returns c =
    outside_moved 1_000_000 1_000_000 c.args.x c.requires (omega arith) (omega arith) ∙ in_plan c.args.axis (signed32 c.args.x) c.if-axis-eq2.false
