-- `draw`: where there is room, the ends fit the list.
use Rattle.std.proofs.Common.{◌≤◌, ◌∙◌, sym, length}
use borrow.Author.Tests.{leb-true}
use Rattle.strokes.specs.Strokes.{stroke_ends}
use Rattle.strokes.proofs.Answer.{ends_left}
use Rattle.strokes.proofs.drawing.Drawing.draw.Goals as goal

pub returns-clause-ends : goal.returns-clause-ends
returns-clause-ends c =
    let d = c.args.self.now in let s = d.laid.sheet.bytes.now in let list = d.laid.list.now in let out = c.args.ends.now in
    let ends = stroke_ends s list d.tolerance in
    let fits : length ends ≤ length out = leb-true (length ends) (length out) (sym c.has_room.ensures ∙ c.if-not-has_room.false) in
    c.course_ends.ensures.ends ∙ ends_left s list d.tolerance out fits
