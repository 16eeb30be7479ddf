-- The one proof of all claims: it names each theorem.
use Rattle.sheet.proofs.Laws.{read_or_refused, read_accepted, never_at_station, read_alike, accepted_bounds, heights_kept}
use Rattle.lists.proofs.Worked.{answers_tried}
use Rattle.writer.proofs.Worked.{sheet_tried}
use Rattle.written.proofs.Accepted.{written_accepted}
use Rattle.written.proofs.Again.{written_again}
use Rattle.written.proofs.Worked.{reach_tried}
use Rattle.join.proofs.Worked.{joins_tried}
use Rattle.joined.proofs.Answers.{joined_where_few, crowded_where_more}
use Rattle.joined.proofs.Worked.{ticks_tried, most_tried}
use Rattle.joined.proofs.Fields.{joined_accepted}
use Rattle.joined.proofs.Flown.{joined_met, joined_near}
use Rattle.rounding.proofs.Laws.{rounded_nearest, rounded_mirrored}
use Rattle.systems.proofs.Size.{unique, solution_bounded}
use Rattle.systems.proofs.Existence.{solvable}
use Rattle.systems.proofs.Distance.{passes_near, forty_passes_near, passes_bounded}
use Rattle.systems.proofs.Lists.{early_end}
use Rattle.spline.proofs.RowKinds.{row_gap, free_pair_zeros}
use Rattle.spline.proofs.RowsFollow.{rows_follow}
use Rattle.spline.proofs.Existence.{spline_exists}
use Rattle.spline.proofs.OneCurve.{one_curve}
use Rattle.spline.proofs.Bends.{bends_near, bends_bounded, position_near}
use Rattle.spline.proofs.Distance.{position_sharp}
use Rattle.layout.proofs.Near.{course_in_bounds, laid_out_near}
use Rattle.runner.proofs.Standing.{tick_stands, leg_by_sums, flown_parts, one_runner}
use Rattle.runner.proofs.Onward.{closed_steps, closed_steps_on, open_steps, step_before}
use Rattle.runner.proofs.Backward.{back_behind, back_tick, back_ticks}
use Rattle.runner.proofs.Restored.{back_after_step, back_after_kept, step_after_back, backs_after_steps, steps_after_backs}
use Rattle.runner.proofs.Worked.{moves_tried, laps_tried, search_tried}
use Rattle.flights.proofs.Worked.{rounds_tried}
use Rattle.flights.proofs.Once.{every_seat_once}
use Rattle.flights.proofs.Apart.{others_kept, seats_apart}
use Rattle.flights.proofs.Flown.{turns_move, served_near, flying_served}
use Rattle.stretch.proofs.Theorems.{kept_or_cut, eight_cuts}
use Rattle.drawn.proofs.PlacesGiven.{places_given}
use Rattle.drawn.proofs.Drawn.{strokes_drawn, room_for_all}
use Rattle.drawn.proofs.Near.{own_drawn, strokes_near}
use Rattle.drawn.proofs.Worked.{strokes_tried}
use Rattle.place.proofs.Waypoints.{tick_is_runner, leg_ends_met, waypoint_met_at_tick, waypoint_met_by_runner}
use Rattle.station.proofs.Claim.{claim, claim_by}
use Rattle.station.proofs.Alike.{within_both}
use Rattle.board.proofs.Theorems.{board_refuses, board_alike, board_claim, board_room}
use Rattle.board.proofs.Worked.{board_tried}
use Rattle.station.proofs.Own.{own_laid}
use Rattle.courses.proofs.Longest.{longest}
use Rattle.courses.proofs.Starred.{starred_right}
use Rattle.courses.proofs.Theorems.{chord_not_near, free_pair_unbent}
use Rattle.mirror.proofs.Worked.{mirror_tried}
use Rattle.mirror.proofs.Passes.{passes_mirrored}
use Rattle.mirror.proofs.Courses.{bends_mirrored, position_mirrored}
use Rattle.mirror.proofs.Sheets.{sheet_mirrored}
use Rattle.lines.proofs.Worked.{line_one, line_minus}
use Rattle.lines.proofs.Room.{line_short}
use Rattle.output.proofs.Answered.{accepted_output, every_tick}
use Rattle.output.proofs.Worked.{course_a, leg_refused}
use Rattle.claims.specs.Claims.{Claims}
use Rattle.claims.proofs.Refused.{refusal_passed_on, refused_keeps_list, refused_keeps_record, refused_keeps_fleet, refused_keeps_ends, refused_keeps_slice}

pub claims : Claims
claims = record {
  demand1 = record {
    read_or_refused = read_or_refused;
    read_accepted = read_accepted;
    board_refuses = board_refuses;
    never_at_station = never_at_station;
    refusal_passed_on = refusal_passed_on;
    refused_keeps_list = refused_keeps_list;
    refused_keeps_record = refused_keeps_record;
    refused_keeps_fleet = refused_keeps_fleet;
    refused_keeps_ends = refused_keeps_ends;
    refused_keeps_slice = refused_keeps_slice;
  };
  demand2 = record {
    accepted_bounds = accepted_bounds;
    heights_kept = heights_kept;
    longest = longest;
    step_before = step_before;
    back_behind = back_behind;
    crowded_where_more = crowded_where_more;
    room_for_all = room_for_all;
    tick_is_runner = tick_is_runner;
    joined_where_few = joined_where_few;
    row_gap = row_gap;
    rounded_nearest = rounded_nearest;
    rounded_mirrored = rounded_mirrored;
    laid_out_near = laid_out_near;
    passes_mirrored = passes_mirrored;
    bends_mirrored = bends_mirrored;
    position_mirrored = position_mirrored;
    sheet_mirrored = sheet_mirrored;
    tick_stands = tick_stands;
    leg_by_sums = leg_by_sums;
    leg_ends_met = leg_ends_met;
    waypoint_met_at_tick = waypoint_met_at_tick;
    waypoint_met_by_runner = waypoint_met_by_runner;
    flown_parts = flown_parts;
    one_runner = one_runner;
    closed_steps = closed_steps;
    closed_steps_on = closed_steps_on;
    open_steps = open_steps;
    back_tick = back_tick;
    back_ticks = back_ticks;
    back_after_step = back_after_step;
    back_after_kept = back_after_kept;
    step_after_back = step_after_back;
    backs_after_steps = backs_after_steps;
    steps_after_backs = steps_after_backs;
    written_accepted = written_accepted;
    written_again = written_again;
    joined_accepted = joined_accepted;
    joined_met = joined_met;
    others_kept = others_kept;
    seats_apart = seats_apart;
    every_seat_once = every_seat_once;
    turns_move = turns_move;
    places_given = places_given;
    kept_or_cut = kept_or_cut;
    eight_cuts = eight_cuts;
    strokes_drawn = strokes_drawn;
    read_alike = read_alike;
    within_both = within_both;
    board_alike = board_alike;
    board_room = board_room;
    accepted_output = accepted_output;
    every_tick = every_tick;
    line_one = line_one;
    line_minus = line_minus;
    line_short = line_short;
    leg_refused = leg_refused;
    course_a = course_a;
    starred_right = starred_right;
    free_pair_unbent = free_pair_unbent;
    answers_tried = answers_tried;
    sheet_tried = sheet_tried;
    moves_tried = moves_tried;
    reach_tried = reach_tried;
    joins_tried = joins_tried;
    ticks_tried = ticks_tried;
    most_tried = most_tried;
    mirror_tried = mirror_tried;
    search_tried = search_tried;
    rounds_tried = rounds_tried;
    strokes_tried = strokes_tried;
    laps_tried = laps_tried;
    board_tried = board_tried;
    chord_not_near = chord_not_near;
  };
  demand3 = claim;
  own_laid = own_laid;
  claim_by = claim_by;
  board_claim = board_claim;
  joined_near = joined_near;
  served_near = served_near;
  flying_served = flying_served;
  own_drawn = own_drawn;
  strokes_near = strokes_near;
  theory = record {
    solvable = solvable;
    unique = unique;
    solution_bounded = solution_bounded;
    passes_near = passes_near;
    forty_passes_near = forty_passes_near;
    passes_bounded = passes_bounded;
    early_end = early_end;
    rows_follow = rows_follow;
    spline_exists = spline_exists;
    one_curve = one_curve;
    course_in_bounds = course_in_bounds;
    bends_near = bends_near;
    free_pair_zeros = free_pair_zeros;
    bends_bounded = bends_bounded;
    position_sharp = position_sharp;
    position_near = position_near;
  };
}
