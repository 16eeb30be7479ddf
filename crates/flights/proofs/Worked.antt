-- The worked rounds (W18), by computing the definitions.
use mathlib.Core.Path.{refl}
use Rattle.rounding.specs.Rounded.{rounded}
use Rattle.sheet.specs.Bytes.{be16, be32, signed32, any_below, sum_below}
use Rattle.sheet.specs.Reading.{read_by}
use Rattle.systems.specs.Passes.{target, renewed, turn, sweep, pass, passes}
use Rattle.spline.specs.Spline.{next, prev, step_after, step_before, inner_row, free_row, along, row_of, rows_by}
use Rattle.spline.specs.Position.{numerator, position}
use Rattle.layout.specs.Course.{course}
use Rattle.layout.specs.Layout.{all_bends, lay_out_by, laid_out_by}
use Rattle.runner.specs.Steps.{off_legs, adrift, moved}
use Rattle.place.specs.Places.{bend_outside, place_on}
use Rattle.seat.specs.Serving.{flown, served, turn_after, seat_after}
use Rattle.fleet.specs.Round.{fleet_after}
use Rattle.flights.specs.Worked.{RoundsTried}

pub rounds_tried : RoundsTried
unfolding rounded be16 be32 signed32 any_below sum_below read_by target renewed turn sweep pass passes next prev step_after step_before inner_row free_row along row_of rows_by numerator position course all_bends lay_out_by laid_out_by off_legs adrift moved bend_outside place_on flown served turn_after seat_after fleet_after
rounds_tried = record {
  on_leg = refl;
  on_leg_turn = refl;
  on_leg_fleet = refl;
  to_end = refl;
  to_end_fleet = refl;
  landed = refl;
  landed_turn = refl;
  adrift = refl;
  adrift_turn = refl;
  refused_fleet = refl;
  bend = refl;
  bend_turn = refl;
  bend_fleet = refl;
  not_yet = refl;
  landed_first = refl;
  round = refl;
  round_fleet = refl;
  lap = refl;
  lap_fleet = refl;
  turn = refl;
  no_seats = refl;
  most_seats = refl;
  more_seats = refl;
  shelf = refl;
  torn = refl;
  no_turn = refl;
}
