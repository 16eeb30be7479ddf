-- `course_ends`: the ends of the legs so far are stored and counted.
use Rattle.std.proofs.Common.{◌≡◌, length}
use Rattle.std.proofs.lemmas.List.Edits.{sets}
use Rattle.sheet.specs.Bytes.{sum_below}
use Rattle.sheet.specs.Fields.{leg}
use Rattle.strokes.specs.Strokes.{ends_below}
use Rattle.strokes.proofs.drawing.Drawing.course_ends.Given as goal

abbrev pub invariant-loop-i : goal.invariant-loop-i
invariant-loop-i l = record {
  starts : l.from ≡ sum_below (leg l.self.laid.sheet.bytes.now) l.i;
  counted : l.n ≡ length (ends_below l.self.laid.sheet.bytes.now l.self.laid.list.now l.self.tolerance l.i);
  stored : l.ends ≡ sets l.fn.ends 0 (ends_below l.self.laid.sheet.bytes.now l.self.laid.list.now l.self.tolerance l.i);
}
