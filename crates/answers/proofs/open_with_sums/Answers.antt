-- `open_with_sums`: what reading answers tells all that is known of the sheet.
use Rattle.std.proofs.Common.{arith}
use Rattle.sheet.proofs.Laws.{course_read}
use Rattle.answers.proofs.open_with_sums.Goals as goal

pub invariant_of-sheet : goal.invariant_of-sheet
invariant_of-sheet c =
    let a = course_read c.args.limit c.args.s.now c.read_with_sums.result _ _ _ c.read_with_sums.ensures.answer c.in_ok-course.was in
    record { accepted = a.0; is_kind = a.1; is_points = a.2 }

pub invariant_of-result : goal.invariant_of-result
invariant_of-result c =
    let a = course_read c.args.limit c.args.s.now c.read_with_sums.result _ _ _ c.read_with_sums.ensures.answer c.in_ok-course.was in
    record { is_ticks = omega (arith, a.3) }
