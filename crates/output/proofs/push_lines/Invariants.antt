-- What the buffer holds, and then the lines of the ticks not yet passed, is what it held and all the lines asked for; it is the buffer that was lent.
use Rattle.std.proofs.Common.{◌≡◌, ◌++◌, ◌-◌, take}
use Rattle.output.specs.Output.{lines_from}
use Rattle.output.specs.Pieces.{PieceOf}
use Rattle.output.proofs.push_lines.Given as goal

abbrev pub invariant-loop-tick : goal.invariant-loop-tick
invariant-loop-tick l = record {
  piece : PieceOf l.s l.list l.text.bytes.now l.text.len l.tick l.end (take l.fn.text.len l.fn.text.bytes.now ++ lines_from l.s l.list l.from (l.end - l.from));
  same : l.text.bytes.ghost_name ≡ l.fn.text.bytes.ghost_name;
}
