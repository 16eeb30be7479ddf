-- Lists that nothing refuses, as the writer's functions ask for them. Not cited by an entry point's promise.
use Rattle.std.specs.Prelude.{◌≡◌, false, ℕ, ◌*◌, ◌≤◌, ◌<◌, pos, length, get_or}
use Rattle.ends.specs.Ends.{leg_count, least_points}
use Rattle.sheet.specs.Reading.{leg_outside, reach_outside, slope_outside, most_points}
use Rattle.lists.specs.Lists.{Lists, kind_in, points_in, number_on, slope_count}

-- none of 3 to 8 applies to the lists
pub record Writable (c : Lists) : Type 0 where
  pub kind_few : c.kind ≤ 2
  pub enough : least_points (kind_in c) ≤ points_in c.waypoints
  pub few : points_in c.waypoints ≤ most_points
  pub three : length c.waypoints ≡ 3 * points_in c.waypoints
  pub all_legs : length c.legs ≡ leg_count (kind_in c) (points_in c.waypoints)
  pub all_slopes : length c.slopes ≡ slope_count (kind_in c)
  pub leg_in : (i : ℕ) → i < length c.legs → leg_outside (get_or c.legs i 0) ≡ false
  pub reach_in : (axis i : ℕ) → axis < 3 → i < points_in c.waypoints → reach_outside axis (number_on c.waypoints axis i) ≡ false
  pub slope_in : (i : ℕ) → i < length c.slopes → slope_outside (get_or c.slopes i (pos 0)) ≡ false
