-- Every theorem that docs/CLAIMS.md claims: a field for each, its type the statement, in the order of docs/REQUIREMENTS.md. The three demands are
-- three records; demand 3 is `Claim`. The one proof is proofs/Claims.antt, so that a statement that loses its proof breaks the gate.
use Rattle.sheet.specs.Theorems.{ReadOrRefused, ReadAccepted, NeverAtStation, ReadAlike, AcceptedBounds, HeightsKept}
use Rattle.lists.specs.Worked.{AnswersTried}
use Rattle.writer.specs.Worked.{SheetTried}
use Rattle.written.specs.Theorems.{WrittenAccepted, WrittenAgain}
use Rattle.written.specs.Worked.{ReachTried}
use Rattle.join.specs.Worked.{JoinsTried}
use Rattle.joined.specs.Theorems.{JoinedWhereFew, CrowdedWhereMore, JoinedAccepted, JoinedMet, JoinedNear}
use Rattle.joined.specs.Worked.{TicksTried, MostTried}
use Rattle.rounding.specs.Theorems.{RoundedNearest, RoundedMirrored}
use Rattle.systems.specs.Theorems.{Solvable, Unique, SolutionBounded, PassesNear, FortyPassesNear, PassesBounded, EarlyEnd}
use Rattle.spline.specs.Theorems.{RowGap, RowsFollow, SplineExists, OneCurve, BendsNear, FreePairZeros, BendsBounded, PositionSharp, PositionNear}
use Rattle.layout.specs.Theorems.{CourseInBounds, LaidOutNear}
use Rattle.runner.specs.Theorems.{FlownParts, TickStands, LegBySums, OneRunner, ClosedSteps, ClosedStepsOn, OpenSteps, StepBefore}
use Rattle.runner.specs.Restored.{BackBehind, BackTick, BackTicks, BackAfterStep, BackAfterKept, StepAfterBack, BacksAfterSteps, StepsAfterBacks}
use Rattle.runner.specs.Worked.{MovesTried, LapsTried, SearchTried}
use Rattle.flights.specs.Theorems.{EverySeatOnce, OthersKept, SeatsApart, TurnsMove, ServedNear, FlyingServed}
use Rattle.flights.specs.Worked.{RoundsTried}
use Rattle.stretch.specs.Theorems.{KeptOrCut, EightCuts}
use Rattle.drawn.specs.Theorems.{PlacesGiven, StrokesDrawn, RoomForAll, OwnDrawn, StrokesNear}
use Rattle.drawn.specs.Worked.{StrokesTried}
use Rattle.place.specs.Theorems.{LegEndsMet, WaypointMetAtTick, WaypointMetByRunner, TickIsRunner}
use Rattle.station.specs.Claim.{Claim, ClaimBy, OwnLaid}
use Rattle.station.specs.Alike.{WithinBoth}
use Rattle.board.specs.Theorems.{BoardRefuses, BoardAlike, BoardClaim, BoardRoom}
use Rattle.board.specs.Worked.{BoardTried}
use Rattle.courses.specs.Starred.{StarredRight}
use Rattle.courses.specs.Theorems.{ChordNotNear, FreePairUnbent, Longest}
use Rattle.mirror.specs.Theorems.{PassesMirrored, BendsMirrored, PositionMirrored, SheetMirrored}
use Rattle.mirror.specs.Worked.{MirrorTried}
use Rattle.lines.specs.Theorems.{LineOne, LineMinus, LineShort}
use Rattle.output.specs.Theorems.{EveryTick, AcceptedOutput, CourseA, LegRefused}
use Rattle.claims.specs.Refused.{RefusalPassedOn, RefusedKeepsList, RefusedKeepsRecord, RefusedKeepsFleet, RefusedKeepsEnds, RefusedKeepsSlice}

-- D1: a bad input gets its number, and a refused call changes nothing. (That calls end and are safe is proved of every function, by the checker itself.)
pub record Demand1 : Type 0 where
  -- A1, A2, A16: by a reader of whatever limit a sheet is read, or refused by the first number that applies
  pub read_or_refused : ReadOrRefused
  -- A2, A10: what is read is accepted, and the answer is its fields
  pub read_accepted : ReadAccepted
  -- N23: the sheets that the board refuses with it; the station none
  pub board_refuses : BoardRefuses
  pub never_at_station : NeverAtStation
  -- A8
  pub refusal_passed_on : RefusalPassedOn
  -- A9
  pub refused_keeps_list : RefusedKeepsList
  pub refused_keeps_record : RefusedKeepsRecord
  pub refused_keeps_fleet : RefusedKeepsFleet
  pub refused_keeps_ends : RefusedKeepsEnds
  pub refused_keeps_slice : RefusedKeepsSlice

-- D2: rules to the last digit, waypoints met, runners where the count says
pub record Demand2 : Type 0 where
  -- S9, N4 to N8: the bounds of an accepted sheet
  pub accepted_bounds : AcceptedBounds
  -- N7: the permit's heights
  pub heights_kept : HeightsKept
  pub longest : Longest
  -- N13, K7: landed is said at the last tick alone
  pub step_before : StepBefore
  -- N15: start is said at the first tick alone
  pub back_behind : BackBehind
  -- N18: more than 513 waypoints of two sheets that meet are crowded
  pub crowded_where_more : CrowdedWhereMore
  -- N22, H5: a list of P + 1 places has room for all ends
  pub room_for_all : RoomForAll
  -- A4, A5: the place by tick is the place of the tick's runner
  pub tick_is_runner : TickIsRunner
  -- A13: two sheets that meet, of no more than 513 waypoints, are joined where there is room
  pub joined_where_few : JoinedWhereFew
  -- R6
  pub row_gap : RowGap
  -- L4: nearest, a half away from zero; and of the negated numerator
  pub rounded_nearest : RoundedNearest
  pub rounded_mirrored : RoundedMirrored
  -- L6
  pub laid_out_near : LaidOutNear
  -- L7, P6: mirrored sheets, and the steps to them
  pub passes_mirrored : PassesMirrored
  pub bends_mirrored : BendsMirrored
  pub position_mirrored : PositionMirrored
  pub sheet_mirrored : SheetMirrored
  -- P3, P4, M10
  pub tick_stands : TickStands
  -- P7
  pub leg_by_sums : LegBySums
  -- P5
  pub leg_ends_met : LegEndsMet
  pub waypoint_met_at_tick : WaypointMetAtTick
  pub waypoint_met_by_runner : WaypointMetByRunner
  -- M11: the ticks flown tell tick and laps, and no two runners have flown the same
  pub flown_parts : FlownParts
  pub one_runner : OneRunner
  -- M4
  pub closed_steps : ClosedSteps
  pub closed_steps_on : ClosedStepsOn
  -- M5
  pub open_steps : OpenSteps
  -- M7
  pub back_tick : BackTick
  pub back_ticks : BackTicks
  -- M8
  pub back_after_step : BackAfterStep
  pub back_after_kept : BackAfterKept
  pub step_after_back : StepAfterBack
  -- M9
  pub backs_after_steps : BacksAfterSteps
  pub steps_after_backs : StepsAfterBacks
  -- G5
  pub written_accepted : WrittenAccepted
  -- G6
  pub written_again : WrittenAgain
  -- J1 to J3
  pub joined_accepted : JoinedAccepted
  -- J4
  pub joined_met : JoinedMet
  -- Q4
  pub others_kept : OthersKept
  pub seats_apart : SeatsApart
  -- Q5
  pub every_seat_once : EverySeatOnce
  -- Q6
  pub turns_move : TurnsMove
  -- H1
  pub places_given : PlacesGiven
  -- H3, H6
  pub kept_or_cut : KeptOrCut
  pub eight_cuts : EightCuts
  -- H4 to H6
  pub strokes_drawn : StrokesDrawn
  -- B3: within the limit as the station; and by any two limits
  pub read_alike : ReadAlike
  pub within_both : WithinBoth
  pub board_alike : BoardAlike
  -- B5
  pub board_room : BoardRoom
  -- T2: the output of an accepted sheet, with a line for every tick
  pub accepted_output : AcceptedOutput
  pub every_tick : EveryTick
  -- T3
  pub line_one : LineOne
  pub line_minus : LineMinus
  pub line_short : LineShort
  -- T4
  pub leg_refused : LegRefused
  -- T5
  pub course_a : CourseA
  -- W1 to W8, and W9 at one pair of values
  pub starred_right : StarredRight
  -- W9 for all values
  pub free_pair_unbent : FreePairUnbent
  -- W12
  pub answers_tried : AnswersTried
  pub sheet_tried : SheetTried
  -- W13
  pub moves_tried : MovesTried
  -- W14
  pub reach_tried : ReachTried
  -- W15
  pub joins_tried : JoinsTried
  pub ticks_tried : TicksTried
  pub most_tried : MostTried
  -- W16
  pub mirror_tried : MirrorTried
  -- W17
  pub search_tried : SearchTried
  -- W18
  pub rounds_tried : RoundsTried
  -- W19
  pub strokes_tried : StrokesTried
  -- W20
  pub laps_tried : LapsTried
  -- W21
  pub board_tried : BoardTried
  -- K4, K8: zeros in place of bend numbers fail on tenfold A
  pub chord_not_near : ChordNotNear

-- What demand 3 rests on, step by step (docs/THEORY.md)
pub record Theory : Type 0 where
  -- rows
  pub solvable : Solvable
  pub unique : Unique
  pub solution_bounded : SolutionBounded
  pub passes_near : PassesNear
  pub forty_passes_near : FortyPassesNear
  pub passes_bounded : PassesBounded
  pub early_end : EarlyEnd
  -- E5
  pub rows_follow : RowsFollow
  pub spline_exists : SplineExists
  pub one_curve : OneCurve
  pub course_in_bounds : CourseInBounds
  pub bends_near : BendsNear
  pub free_pair_zeros : FreePairZeros
  pub bends_bounded : BendsBounded
  pub position_sharp : PositionSharp
  pub position_near : PositionNear

pub record Claims : Type 0 where
  pub demand1 : Demand1
  pub demand2 : Demand2
  -- D3: C2 to C9
  pub demand3 : Claim
  -- C1: own bend numbers are there after a laying out
  pub own_laid : OwnLaid
  -- B4: by a reader of whatever limit, and so on the board
  pub claim_by : ClaimBy
  pub board_claim : BoardClaim
  -- J5: of joined sheets
  pub joined_near : JoinedNear
  -- Q7: of a fleet's places
  pub served_near : ServedNear
  pub flying_served : FlyingServed
  -- H7: of strokes
  pub own_drawn : OwnDrawn
  pub strokes_near : StrokesNear
  pub theory : Theory
