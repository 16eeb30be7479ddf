-- `has_room`: with more places than ticks there is room for the most ends that there can be.
use Rattle.std.proofs.Common.{sym, length, arith}
use Rattle.sheet.specs.Fields.{legs as legs_of}
use Rattle.strokes.specs.Strokes.{stroke_ends}
use Rattle.strokes.proofs.LegByLeg.{few_below}
use borrow.Author.Tests.{le-leb}
use Rattle.strokes.proofs.drawing.Drawing.has_room.Goals as goal

pub returns-then-self-room : goal.returns-then-self-room
returns-then-self-room c =
    let d = c.args.self.now in let o = d.laid.sheet in let s = o.bytes.now in
    sym (le-leb (length (stroke_ends s d.laid.list.now d.tolerance)) c.args.room
    (omega (arith, d.is_ticks, few_below s o.accepted d.laid.list.now d.tolerance (legs_of s) (omega arith))))
