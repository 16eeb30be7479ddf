-- W1 to W9 come out right, by computing the definitions.
use mathlib.Core.Path.{refl}
use Rattle.rounding.specs.Rounded.{rounded}
use Rattle.systems.specs.Passes.{target, renewed, turn, sweep, pass, passes}
use Rattle.sheet.specs.Bytes.{be16, be32, signed32, any_below, sum_below}
use Rattle.sheet.specs.Reading.{read_by}
use Rattle.spline.specs.Spline.{next, prev, step_after, step_before, inner_row, free_row, held_start_row, held_end_row, along, row_of, rows_by}
use Rattle.spline.specs.Position.{numerator, position}
use Rattle.layout.specs.Course.{course}
use Rattle.layout.specs.Layout.{all_bends, lay_out_by, laid_out_by}
use Rattle.runner.specs.Ticks.{walk, spot_at, tick_of}
use Rattle.place.specs.Places.{bend_outside, place_on, place_at_tick_by}
use Rattle.courses.specs.Starred.{StarredRight}

pub starred_right : StarredRight
unfolding rounded target renewed turn sweep pass passes be16 be32 signed32 any_below sum_below read_by next prev step_after step_before inner_row free_row held_start_row held_end_row along row_of rows_by numerator position course all_bends lay_out_by laid_out_by walk spot_at tick_of bend_outside place_on place_at_tick_by
starred_right = (
  (refl, refl, ((refl, refl, refl, (refl, tt)), tt)),
  (
    (refl, refl, ((refl, refl, refl, (refl, tt)), tt)),
    (
      (refl, refl, tt),
      (
        (refl, refl, ((refl, refl, refl, tt), tt)),
        (
          (refl, refl, ((refl, refl, refl, tt), ((refl, refl, refl, tt), tt))),
          (
            (refl, refl, ((refl, refl, refl, tt), tt)),
            (
              (refl, refl, ((refl, refl, refl, tt), ((refl, refl, refl, tt), tt))),
              (
                (refl, refl, tt),
                tt,
              ),
            ),
          ),
        ),
      ),
    ),
  ),
)
