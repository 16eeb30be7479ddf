-- The worked strokes (W19), by computing the definitions.
use mathlib.Core.Path.{refl}
use Rattle.rounding.specs.Rounded.{rounded}
use Rattle.sheet.specs.Bytes.{be16, be32, signed32, any_below, sum_below}
use Rattle.sheet.specs.Reading.{read_by}
use Rattle.systems.specs.Passes.{target, renewed, turn, sweep, pass, passes}
use Rattle.spline.specs.Spline.{next, prev, step_after, step_before, inner_row, free_row, held_start_row, held_end_row, along, row_of, rows_by}
use Rattle.spline.specs.Position.{numerator, position}
use Rattle.layout.specs.Course.{course}
use Rattle.layout.specs.Layout.{all_bends, lay_out_by, laid_out_by}
use Rattle.place.specs.Places.{bend_outside, place_on}
use Rattle.stretch.specs.Stretches.{strays_on, strays, ends_by}
use Rattle.strokes.specs.Strokes.{ends_below, any_bend, strokes_answer, drawn_into}
use Rattle.drawn.specs.Worked.{StrokesTried}

pub strokes_tried : StrokesTried
unfolding rounded be16 be32 signed32 any_below sum_below read_by target renewed turn sweep pass passes next prev step_after step_before inner_row free_row held_start_row held_end_row along row_of rows_by numerator position course all_bends lay_out_by laid_out_by bend_outside place_on strays_on strays ends_by ends_below any_bend strokes_answer drawn_into
strokes_tried = record {
  a_one = refl;
  a_two = refl;
  a_count = refl;
  held_one = refl;
  held_two = refl;
  arch_own = refl;
  arch_20 = refl;
  arch_100 = refl;
  arch_1000 = refl;
  ink = refl;
  ink_kept = refl;
  grain_low = refl;
  grain_high = refl;
  bend = refl;
  bend_kept = refl;
  shelf = refl;
  torn = refl;
}
