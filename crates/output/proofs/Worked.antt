-- The two worked outputs, by computing the definitions.
use mathlib.Core.Path.{refl}
use Rattle.rounding.specs.Rounded.{rounded}
use Rattle.systems.specs.Passes.{target, renewed, turn, sweep, pass, passes}
use Rattle.sheet.specs.Bytes.{be16, be32, signed32, any_below, sum_below}
use Rattle.sheet.specs.Reading.{read_by}
use Rattle.spline.specs.Spline.{next, prev, step_after, step_before, inner_row, free_row, held_start_row, held_end_row, along, row_of, rows_by}
use Rattle.spline.specs.Position.{numerator, position}
use Rattle.layout.specs.Course.{course}
use Rattle.layout.specs.Layout.{all_bends, lay_out_by, laid_out_by}
use Rattle.runner.specs.Ticks.{walk, spot_at}
use Rattle.place.specs.Places.{bend_outside, place_on, place_at_tick_by}
use Rattle.lines.specs.Lines.{decimal, signed, line}
use Rattle.output.specs.Output.{line_at, lines_from, output}
use Rattle.output.specs.Theorems.{CourseA, LegRefused}

pub course_a : CourseA
unfolding rounded target renewed turn sweep pass passes be16 be32 signed32 any_below sum_below read_by next prev step_after step_before inner_row free_row held_start_row held_end_row along row_of rows_by numerator position course all_bends lay_out_by laid_out_by walk spot_at bend_outside place_on place_at_tick_by decimal signed line line_at lines_from output
course_a = refl

pub leg_refused : LegRefused
unfolding be16 be32 signed32 any_below sum_below read_by output
leg_refused = refl
