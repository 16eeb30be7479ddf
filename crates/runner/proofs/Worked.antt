-- The worked moves, laps and ticks (W13, W17, W20), by computing the definitions.
use mathlib.Core.Path.{◌≡◌, refl, ap}
use mathlib.Core.Logic.{inl, ⊎_elim}
use Prim.Native.Nat.{ℕ, ◌<◌}
use native.Mathlib.Omega.{arith}
use lib.Dec.{lit<, lit≤}
use Rattle.sheet.specs.Bytes.{be16, be32, signed32, any_below, sum_below}
use Rattle.sheet.specs.Reading.{read_by}
use Rattle.runner.specs.Ticks.{walk, spot_at, tick_of, runner_at_tick_by}
use Rattle.runner.specs.Steps.{off_legs, adrift, moved, stepped_by, onward_by}
use Rattle.runner.specs.Backs.{moved_back, backed, backward}
use Rattle.runner.specs.Worked.{MovesTried, LapsTried, SearchTried}
use Rattle.runner.specs.declared.Runner.{Runner}

pub moves_tried : MovesTried
unfolding be16 be32 signed32 any_below sum_below read_by off_legs adrift moved stepped_by onward_by moved_back backed backward
moves_tried = record {
  on_leg = refl;
  from_end = refl;
  over_waypoint = refl;
  round = refl;
  start = refl;
  start_kept = refl;
  start_round = refl;
  start_round_kept = refl;
  adrift = refl;
  adrift_round = refl;
  torn = refl;
  stepped_on = refl;
  landed_kept = refl;
}

pub laps_tried : LapsTried
unfolding be16 be32 signed32 any_below sum_below read_by walk spot_at tick_of runner_at_tick_by off_legs adrift moved stepped_by onward_by moved_back backed backward
laps_tried = record {
  first_lap = refl;
  one_lap = refl;
  largest_tick = refl;
  reached = refl;
  left = refl;
  over_waypoint = refl;
  to_largest = refl;
  keeps = (refl, refl, lit≤ tt);
  kept = refl;
  taken_off = refl;
  not_undone = λ e. let p : ◌≡◌ {A = ℕ} 18_446_744_073_709_551_614 18_446_744_073_709_551_615 = ap (λ (r : Runner). r.laps) e in omega arith;
  open_step = refl;
  open_back = refl;
}

pub search_tried : SearchTried
unfolding be16 be32 signed32 any_below sum_below read_by walk spot_at runner_at_tick_by
search_tried = record {
  kept = refl;
  before_it = refl;
  at_it = refl;
  leg_ends = refl;
  next_starts = refl;
  last = refl;
  past = refl;
  enclosed = record { is_leg = lit< tt; from = lit≤ tt; till = inl (lit< tt) };
  not_enclosed = λ e. ⊎_elim (λ h. let p : 136 < 136 = h in omega arith) (λ h. let p : ◌≡◌ {A = ℕ} 16 18 = h in omega arith) e.till;
  round = refl;
  round_at_it = refl;
}
