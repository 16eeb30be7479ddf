-- `write`: the slice is written only where the tests pass.
use Rattle.std.proofs.Common.{◌∙◌, arith}
use Rattle.lists.specs.Lists.{lists}
use Rattle.writer.proofs.Left.{left_refused, is_writable, is_size, has_room, left_written}
use Rattle.writer.proofs.write.Goals as goal

pub put_sheet-requires : goal.put_sheet-requires
put_sheet-requires c =
    let a = c.args in let l = lists a.kind a.legs.now a.waypoints.now a.slopes.now in let o = a.sheet.now in let n = c.in_ok-size.size in
    let e = c.in_ok-size.ensures in (is_writable l o n e, is_size l o n e, omega (arith, is_size l o n e, has_room l o n e))

pub returns-clause-sheet : goal.returns-clause-sheet
returns-clause-sheet c =
    let a = c.args in
    c.put_sheet.ensures ∙ left_written (lists a.kind a.legs.now a.waypoints.now a.slopes.now) a.sheet.now c.in_ok-size.size c.in_ok-size.ensures

pub returns-in_err-size-clause-sheet : goal.returns-in_err-size-clause-sheet
returns-in_err-size-clause-sheet c =
    let a = c.args in left_refused (lists a.kind a.legs.now a.waypoints.now a.slopes.now) a.sheet.now c.in_err-size.field-0.0 c.in_err-size.ensures
