-- What is proved of sheets: an accepted one has the bounds that all later arithmetic rests on, and a sheet is accepted or has exactly one refusal.
use Rattle.std.specs.Prelude.{◌≡◌, true, false, List, ◌⊎◌, ℕ, ◌≤◌, ◌<◌, pos, neg_ℤ, nat_abs, length, ◌≤ℤ◌, Err}
use Rattle.ends.specs.Ends.{least_points}
use Rattle.ends.specs.declared.EndKind.{EndKind}
use Rattle.ends.specs.declared.EndKind.TheVariants.{Held}
use Rattle.sheet.specs.Fields.{kind, points, legs, leg, ticks, waypoint, slope, sheet_length}
use Rattle.sheet.specs.Reading.{Accepted, applies, order, most_points, longest_sheet, read_by}
use Rattle.sheet.specs.declared.Refusal.{Refusal}
use Rattle.sheet.specs.declared.Refusal.TheVariants.{Board}
use Rattle.sheet.specs.Answers.{read_course}

-- A1, A16: the answer is the refusal r, which applies to the sheet, and none that is tested before it does
pub record Lowest (limit : ℕ) (s : List ℕ) (r : Refusal) : Type 0 where
  pub answer : read_by limit s ≡ Err r
  pub applying : applies limit s r ≡ true
  pub lower : (q : Refusal) → order q < order r → applies limit s q ≡ false

-- A1, A10, N23: by a reader of whatever limit a sheet is accepted, within the limit and read, or has exactly one refusal
abbrev pub ReadOrRefused : Type 0
ReadOrRefused = (limit : ℕ) (s : List ℕ) → (Accepted s × (read_by limit s ≡ read_course (kind s) (points s) (ticks s)) × (points s ≤ limit)) ⊎ ((r : Refusal) × Lowest limit s r)

-- A2: a sheet that is read is accepted and within the limit, and what reading answers is its fields
abbrev pub ReadAccepted : Type 0
ReadAccepted = (limit : ℕ) (s : List ℕ) (k : EndKind) (n p : ℕ) → read_by limit s ≡ read_course k n p → Accepted s × (k ≡ kind s) × (n ≡ points s) × (p ≡ ticks s) × (points s ≤ limit)

-- N23: at the station it applies to no sheet
abbrev pub NeverAtStation : Type 0
NeverAtStation = (s : List ℕ) → applies most_points s Board ≡ false

-- B3, of reading: within the limit a reader answers as the station does
abbrev pub ReadAlike : Type 0
ReadAlike = (limit : ℕ) (s : List ℕ) → points s ≤ limit → read_by limit s ≡ read_by most_points s

-- the bounds of an accepted sheet (N4 to N8), and those of P and of the length that follow. Of reach it is the wide span, which serves all axes.
pub record Bounds (s : List ℕ) : Type 0 where
  pub enough : least_points (kind s) ≤ points s
  pub few : points s ≤ most_points
  pub size : length s ≡ sheet_length (kind s) (points s)
  pub leg_low : (i : ℕ) → i < legs s → 1 ≤ leg s i
  pub leg_high : (i : ℕ) → i < legs s → leg s i ≤ 256
  pub reach : (axis i : ℕ) → axis < 3 → i < points s → nat_abs (waypoint s axis i) ≤ 1_000_000
  pub slope : (axis side : ℕ) → axis < 3 → side < 2 → kind s ≡ Held → nat_abs (slope s axis side) ≤ 5_000
  pub longest : length s ≤ longest_sheet
  pub some_ticks : 1 ≤ ticks s
  pub few_ticks : ticks s ≤ 131_072

abbrev pub AcceptedBounds : Type 0
AcceptedBounds = (s : List ℕ) → Accepted s → Bounds s

-- N7: the waypoints of an accepted sheet lie between the permit's floor and its ceiling
abbrev pub HeightsKept : Type 0
HeightsKept = (s : List ℕ) → Accepted s → (i : ℕ) → i < points s → (neg_ℤ (pos 50_000) ≤ℤ waypoint s 2 i) × (waypoint s 2 i ≤ℤ pos 120_000)
