-- What a turn hands over is a part of the output, what it leaves is the next piece, and where no piece waits all is handed over.
use Rattle.std.proofs.Common.{arith, rules}
use Rattle.stand.proofs.Turns.{part, going_on, all_handed}
use Rattle.stand.proofs.hand_over.Goals as goal

pub hand_part-requires : goal.hand_part-requires
hand_part-requires g c = part c.loop-piece.invariant

pub loop-piece-preserved : goal.loop-piece-preserved
loop-piece-preserved g c =
    going_on c.loop-piece.invariant c.in_ok-sent.sent c.in_ok-sent.ensures
    c.put_lines-piece.new.out c.put_lines-piece.result.bytes c.put_lines-piece.result.next c.put_lines-piece.result.end
    (search rules) c.put_lines-piece.ensures.piece_of c.put_lines-piece.ensures.ends c.put_lines-piece.ensures.full

pub returns-clause-whole : goal.returns-clause-whole
returns-clause-whole g c = all_handed c.loop-piece.invariant (omega arith)
