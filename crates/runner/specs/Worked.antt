-- Worked moves (W13): back, and the step beside it, on the legs of course A and of W7; laps on the same legs (W20); and ticks about a sixteenth leg (W17). No
-- waypoint matters to a runner.
use Rattle.std.specs.Prelude.{◌≡◌, List, [], ◌∷◌, ℕ, ◌-◌, ◌*◌, replicate}
use Rattle.sheet.specs.Answers.{refused}
use Rattle.sheet.specs.Bytes.{sum_below}
use Rattle.sheet.specs.Carried.{stride}
use Rattle.sheet.specs.Fields.{leg}
use Rattle.sheet.specs.declared.Refusal.TheVariants.{Torn, Past, Adrift, Start}
use Rattle.runner.specs.Ticks.{runner, at_lap, found, runner_at_tick}
use Rattle.runner.specs.Steps.{most_laps, stepped, onward}
use Rattle.runner.specs.Backs.{backed, backward}
use Rattle.runner.specs.Theorems.{Enclosed}
use Rattle.runner.specs.Restored.{KeepsLap}

-- free, legs 2, 2; and closed, legs 2, 2, 2, 2
abbrev pub sheet_a : List ℕ
sheet_a = 0 ∷ 0 ∷ 0 ∷ 48 ∷ 1 ∷ 0 ∷ 0 ∷ 3 ∷ 0 ∷ 2 ∷ 0 ∷ 2 ∷ replicate 36 0

abbrev pub sheet7 : List ℕ
sheet7 = 0 ∷ 0 ∷ 0 ∷ 64 ∷ 1 ∷ 2 ∷ 0 ∷ 4 ∷ 0 ∷ 2 ∷ 0 ∷ 2 ∷ 0 ∷ 2 ∷ 0 ∷ 2 ∷ replicate 48 0

pub record MovesTried : Type 0 where
  -- on a leg, from the end of an open course, over a waypoint, and round to the closing leg
  pub on_leg : backed sheet_a (runner 0 1) ≡ found (runner 0 0)
  pub from_end : backed sheet_a (runner 1 2) ≡ found (runner 1 1)
  pub over_waypoint : backed sheet_a (runner 1 0) ≡ found (runner 0 1)
  pub round : backed sheet7 (at_lap 1 (runner 0 0)) ≡ found (runner 3 1)
  -- refused, the record as it was
  pub start : backed sheet_a (runner 0 0) ≡ refused Start
  pub start_kept : backward sheet_a (runner 0 0) ≡ runner 0 0
  pub start_round : backed sheet7 (runner 0 0) ≡ refused Start
  pub start_round_kept : backward sheet7 (runner 0 0) ≡ runner 0 0
  pub adrift : backed sheet_a (runner 0 2) ≡ refused Adrift
  pub adrift_round : backed sheet7 (runner 4 0) ≡ refused Adrift
  -- the sheet's own number goes first
  pub torn : backed [] (runner 0 0) ≡ refused Torn
  -- the step: one that moves, and one that has landed
  pub stepped_on : onward sheet_a (runner 0 1) ≡ runner 1 0
  pub landed_kept : onward sheet_a (runner 1 2) ≡ runner 1 2

pub record LapsTried : Type 0 where
  -- the laps of a tick: before a lap is whole, when it is, and at the largest tick
  pub first_lap : runner_at_tick sheet7 7 ≡ found (runner 3 1)
  pub one_lap : runner_at_tick sheet7 8 ≡ found (at_lap 1 (runner 0 0))
  pub largest_tick : runner_at_tick sheet7 18_446_744_073_709_551_615 ≡ found (at_lap 2_305_843_009_213_693_951 (runner 3 1))
  -- a step counts a lap on reaching the first waypoint, and on no other tick
  pub reached : stepped sheet7 (runner 3 1) ≡ found (at_lap 1 (runner 0 0))
  pub left : stepped sheet7 (at_lap 1 (runner 0 0)) ≡ found (at_lap 1 (runner 0 1))
  pub over_waypoint : stepped sheet7 (at_lap 1 (runner 0 1)) ≡ found (at_lap 1 (runner 1 0))
  -- the largest count: reached, kept, and taken off again, so that this back does not undo this step (M8)
  pub to_largest : onward sheet7 (at_lap (most_laps - 1) (runner 3 1)) ≡ at_lap most_laps (runner 0 0)
  pub keeps : KeepsLap sheet7 (at_lap most_laps (runner 3 1))
  pub kept : onward sheet7 (at_lap most_laps (runner 3 1)) ≡ at_lap most_laps (runner 0 0)
  pub taken_off : backward sheet7 (at_lap most_laps (runner 0 0)) ≡ at_lap (most_laps - 1) (runner 3 1)
  pub not_undone : ¬ (backward sheet7 (onward sheet7 (at_lap most_laps (runner 3 1))) ≡ at_lap most_laps (runner 3 1))
  -- on an open course a lap is adrift
  pub open_step : stepped sheet_a (at_lap 1 (runner 0 0)) ≡ refused Adrift
  pub open_back : backed sheet_a (at_lap 1 (runner 0 1)) ≡ refused Adrift

-- free, legs 1, 2, .., 18; and closed, legs 1, 2, .., 19
abbrev pub sheet18 : List ℕ
sheet18 =
    0 ∷ 0 ∷ 1 ∷ 16 ∷ 1 ∷ 0 ∷ 0 ∷ 19 ∷ 0 ∷ 1 ∷ 0 ∷ 2 ∷ 0 ∷ 3 ∷ 0 ∷ 4 ∷ 0 ∷ 5 ∷ 0 ∷ 6 ∷ 0 ∷ 7 ∷ 0 ∷ 8 ∷ 0 ∷ 9 ∷ 0 ∷ 10 ∷ 0 ∷ 11 ∷ 0 ∷ 12 ∷ 0 ∷ 13 ∷ 0 ∷ 14 ∷ 0 ∷ 15 ∷ 0 ∷ 16 ∷ 0 ∷ 17 ∷ 0 ∷ 18
    ∷ replicate 228 0

abbrev pub sheet19 : List ℕ
sheet19 =
    0 ∷ 0 ∷ 1 ∷ 18 ∷ 1 ∷ 2 ∷ 0 ∷ 19 ∷ 0 ∷ 1 ∷ 0 ∷ 2 ∷ 0 ∷ 3 ∷ 0 ∷ 4 ∷ 0 ∷ 5 ∷ 0 ∷ 6 ∷ 0 ∷ 7 ∷ 0 ∷ 8 ∷ 0 ∷ 9 ∷ 0 ∷ 10 ∷ 0 ∷ 11 ∷ 0 ∷ 12 ∷ 0 ∷ 13 ∷ 0 ∷ 14 ∷ 0 ∷ 15 ∷ 0 ∷ 16 ∷ 0 ∷ 17 ∷ 0 ∷ 18 ∷ 0 ∷ 19
    ∷ replicate 228 0

pub record SearchTried : Type 0 where
  -- the sum that is kept after sixteen legs; the tick before it, the tick itself, and the ticks about the next waypoint
  pub kept : sum_below (leg sheet18) (stride * 1) ≡ 136
  pub before_it : runner_at_tick sheet18 135 ≡ found (runner 15 15)
  pub at_it : runner_at_tick sheet18 136 ≡ found (runner 16 0)
  pub leg_ends : runner_at_tick sheet18 152 ≡ found (runner 16 16)
  pub next_starts : runner_at_tick sheet18 153 ≡ found (runner 17 0)
  -- the last tick, and one too many
  pub last : runner_at_tick sheet18 171 ≡ found (runner 17 18)
  pub past : runner_at_tick sheet18 172 ≡ refused Past
  -- the sums enclose the tick 136 on leg 16, and not on the leg that ends there
  pub enclosed : Enclosed sheet18 136 16
  pub not_enclosed : Enclosed sheet18 136 15 → ⊥
  -- round: one lap, and one lap with the sixteen legs
  pub round : runner_at_tick sheet19 190 ≡ found (at_lap 1 (runner 0 0))
  pub round_at_it : runner_at_tick sheet19 326 ≡ found (at_lap 1 (runner 16 0))
