-- The ticks of A and the course that goes on from it, as one, and two courses at the most waypoints (W15).
use Rattle.std.specs.Prelude.{◌≡◌, List, ℕ, ◌≤◌, Ok}
use Rattle.sheet.specs.Answers.{refused}
use Rattle.sheet.specs.Fields.{points, ticks}
use Rattle.sheet.specs.declared.Refusal.TheVariants.{Crowded}
use Rattle.answers.specs.Answers.{told_count}
use Rattle.writer.specs.Worked.{sheet_a}
use Rattle.join.specs.Joining.{join_sheets}
use Rattle.join.specs.Worked.{onward, sheet_joined}
use Rattle.place.specs.Theorems.{tick_of_waypoint}
use Rattle.joined.specs.Theorems.{Meeting, later_tick}

-- the shared waypoint at tick 4, the last one at tick 7
pub record TicksTried : Type 0 where
  pub shared : later_tick sheet_a onward 0 ≡ 4
  pub last : later_tick sheet_a onward 1 ≡ 7
  pub shared_joined : tick_of_waypoint sheet_joined 2 ≡ 4
  pub last_joined : tick_of_waypoint sheet_joined 3 ≡ 7
  pub all : ticks sheet_joined ≡ 7

-- 300 and 213 waypoints are joined, 300 and 214 are crowded, whatever the courses
pub record MostTried : Type 0 where
  pub most : (s t : List ℕ) → Meeting s t → points s ≡ 300 → points t ≡ 213 → (room : ℕ) → 7_174 ≤ room → join_sheets s t room ≡ told_count (Ok 7_174)
  pub one_more : (s t : List ℕ) → Meeting s t → points s ≡ 300 → points t ≡ 214 → (room : ℕ) → join_sheets s t room ≡ refused Crowded
