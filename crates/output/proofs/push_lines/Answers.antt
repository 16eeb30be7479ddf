-- A turn moves one line from those to come to those put.
use Rattle.std.proofs.Common.{◌∙◌, take, arith}
use Rattle.output.proofs.Lines.{line_moved, line_answered, ended}
use Rattle.output.proofs.push_lines.Goals as goal

pub loop-tick-preserved : goal.loop-tick-preserved
loop-tick-preserved c =
    let s = c.args.s.now in let list = c.args.list.now in let tick = c.loop-tick.tick in let before = c.loop-tick.text in let g = c.put_line.ensures.grown in
    record {
      piece = record {
        room = omega (arith, c.put_line.new.out.within);
        in_order = omega arith;
        text = line_moved s list tick c.args.end (take before.len before.bytes.now) _ (omega arith) c.loop-tick.invariant.piece.text g.text
            (line_answered s list tick c.in-Ok.place c.in-Ok.is c.place_at_tick.ensures);
      };
      same = g.same ∙ c.loop-tick.invariant.same;
    }

pub returns-clause-piece_of : goal.returns-clause-piece_of
returns-clause-piece_of c = ended (omega arith) c.loop-tick.invariant.piece
