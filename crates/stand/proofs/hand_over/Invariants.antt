-- Each turn hands over the piece that waits and makes the next one, until none has bytes.
use Rattle.std.proofs.Common.{length, ◌-◌}
use Rattle.output.specs.Output.{output}
use Rattle.stand.proofs.Turns.{Going}
use Rattle.stand.proofs.hand_over.Given as goal

abbrev pub invariant-loop-piece : goal.invariant-loop-piece
invariant-loop-piece g l = Going l.input l.list l.out l.piece.bytes l.piece.next l.piece.end l.sent

abbrev pub decreases-loop-piece : goal.decreases-loop-piece
decreases-loop-piece g l = length (output l.input) - l.sent
