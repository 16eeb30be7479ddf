-- Worked rounds (W18): a fleet on course A and one on the closed course W7, with own bend numbers, and the refusals in their order.
use Rattle.std.specs.Prelude.{◌≡◌, List, [], ◌∷◌, ℕ, ℤ, pos, negsuc, replicate}
use Rattle.ends.specs.declared.EndKind.TheVariants.{Free, Closed}
use Rattle.sheet.specs.Answers.{Told, refused}
use Rattle.sheet.specs.declared.Refusal.TheVariants.{Torn, Shelf, Adrift, Bend, Landed, Seats, Turn}
use Rattle.runner.specs.Ticks.{runner, at_lap}
use Rattle.runner.specs.declared.Runner.{Runner}
use Rattle.courses.specs.Sheets.{sheet, northward}
use Rattle.courses.specs.Starred.{laid}
use Rattle.fleet.specs.Round.{round_answer, turn_given, fleet_after}

abbrev pub course_a : List ℕ
course_a = sheet Free (2 ∷ 2 ∷ []) (pos 0 ∷ pos 10 ∷ pos 20 ∷ pos 8 ∷ pos 10 ∷ pos 22 ∷ pos 0 ∷ pos 10 ∷ pos 24 ∷ []) []

abbrev pub course7 : List ℕ
course7 = sheet Closed (2 ∷ 2 ∷ 2 ∷ 2 ∷ []) (northward (pos 0 ∷ pos 6 ∷ pos 0 ∷ negsuc 5 ∷ [])) []

abbrev pub place_at : ℤ → ℤ → ℤ → Told
place_at north east up = record { number = 0; values = north ∷ east ∷ up ∷ [] }

-- at the first waypoint, one tick before the end, at the end, and on no leg
abbrev pub four : List Runner
four = runner 0 0 ∷ runner 1 1 ∷ runner 1 2 ∷ runner 0 2 ∷ []

-- one over 2^37 at the last waypoint
abbrev pub bent : List ℤ
bent = pos 0 ∷ negsuc 65_535 ∷ pos 137_438_953_473 ∷ replicate 6 (pos 0)

pub record RoundsTried : Type 0 where
  -- the place is the one after the step, and the turn is the next seat's
  pub on_leg : round_answer course_a (laid course_a) four 0 ≡ place_at (pos 6) (pos 10) (pos 21)
  pub on_leg_turn : turn_given course_a (laid course_a) four 0 ≡ 1 ∷ []
  pub on_leg_fleet : fleet_after course_a (laid course_a) four 0 ≡ runner 0 1 ∷ runner 1 1 ∷ runner 1 2 ∷ runner 0 2 ∷ []
  -- to the end
  pub to_end : round_answer course_a (laid course_a) four 1 ≡ place_at (pos 0) (pos 10) (pos 24)
  pub to_end_fleet : fleet_after course_a (laid course_a) four 1 ≡ runner 0 0 ∷ runner 1 2 ∷ runner 1 2 ∷ runner 0 2 ∷ []
  -- a seat's own refusals: the turn goes on, from the last seat to the first, and the records stay
  pub landed : round_answer course_a (laid course_a) four 2 ≡ refused Landed
  pub landed_turn : turn_given course_a (laid course_a) four 2 ≡ 3 ∷ []
  pub adrift : round_answer course_a (laid course_a) four 3 ≡ refused Adrift
  pub adrift_turn : turn_given course_a (laid course_a) four 3 ≡ 0 ∷ []
  pub refused_fleet : fleet_after course_a (laid course_a) four 3 ≡ four
  -- 12 is asked of the leg that is stepped onto, and behind 13
  pub bend : round_answer course_a bent (runner 0 1 ∷ []) 0 ≡ refused Bend
  pub bend_turn : turn_given course_a bent (runner 0 1 ∷ []) 0 ≡ 0 ∷ []
  pub bend_fleet : fleet_after course_a bent (runner 0 1 ∷ []) 0 ≡ runner 0 1 ∷ []
  pub not_yet : round_answer course_a bent (runner 0 0 ∷ []) 0 ≡ place_at (pos 6) (pos 10) (pos 21)
  pub landed_first : round_answer course_a bent (runner 1 2 ∷ []) 0 ≡ refused Landed
  -- round the closed course, a lap more
  pub round : round_answer course7 (laid course7) (runner 3 1 ∷ runner 0 0 ∷ []) 0 ≡ place_at (pos 0) (pos 0) (pos 0)
  pub round_fleet : fleet_after course7 (laid course7) (runner 3 1 ∷ runner 0 0 ∷ []) 0 ≡ at_lap 1 (runner 0 0) ∷ runner 0 0 ∷ []
  -- a lap on an open one is adrift
  pub lap : round_answer course_a (laid course_a) (at_lap 1 (runner 0 0) ∷ []) 0 ≡ refused Adrift
  pub lap_fleet : fleet_after course_a (laid course_a) (at_lap 1 (runner 0 0) ∷ []) 0 ≡ at_lap 1 (runner 0 0) ∷ []
  -- no seat is looked at: 20; 19 before 20, of none and of 33; 9 before 19; 1 before 9; and no turn is given
  pub turn : round_answer course_a (laid course_a) four 4 ≡ refused Turn
  pub no_seats : round_answer course_a (laid course_a) [] 0 ≡ refused Seats
  pub most_seats : round_answer course_a (laid course_a) (replicate 32 (runner 0 0)) 32 ≡ refused Turn
  pub more_seats : round_answer course_a (laid course_a) (replicate 33 (runner 0 0)) 33 ≡ refused Seats
  pub shelf : round_answer course_a [] [] 0 ≡ refused Shelf
  pub torn : round_answer [] [] [] 0 ≡ refused Torn
  pub no_turn : turn_given course_a (laid course_a) four 4 ≡ []
