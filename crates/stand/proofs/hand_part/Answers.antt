-- A part of the output ends where the output does or before, and that is few enough bytes to count.
use Rattle.std.proofs.Common.{arith}
use Rattle.output.proofs.Short.{output_short}
use Rattle.stand.proofs.hand_part.Goals as goal

pub overflow_add-result : goal.overflow_add-result
overflow_add-result g c = record { fits = omega (arith, c.requires.inside, output_short c.args.input.now) }
