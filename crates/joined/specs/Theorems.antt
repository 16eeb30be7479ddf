-- What is proved of joined sheets: which two are joined (A13), that the joined sheet is accepted and holds both courses in turn (J1 to J3), that it meets every
-- waypoint of both at its tick (J4), and that demand 3 holds of it (J5).
use Rattle.std.specs.Prelude.{◌≡◌, List, ◌++◌, ℕ, ◌+◌, ◌-◌, ◌≤◌, ◌<◌, ltb, ℤ, length, drop, Ok}
use Rattle.ends.specs.declared.EndKind.TheVariants.{Free}
use Rattle.sheet.specs.Answers.{refused}
use Rattle.sheet.specs.Fields.{kind, points, legs, leg, ticks, waypoint}
use Rattle.sheet.specs.Reading.{Accepted}
use Rattle.sheet.specs.declared.Refusal.TheVariants.{Page, Crowded}
use Rattle.answers.specs.Answers.{guard, told_count}
use Rattle.lists.specs.Lists.{lists_of}
use Rattle.join.specs.Joining.{joined_lists, joined_sheet, join_sheets, joined_into}
use Rattle.place.specs.Places.{place_at_tick}
use Rattle.place.specs.Theorems.{met, tick_of_waypoint}
use Rattle.station.specs.Claim.{Own, Demand3}

-- two accepted, free-ended sheets, the second from the first's last waypoint on
pub record Meeting (s t : List ℕ) : Type 0 where
  pub first : Accepted s
  pub second : Accepted t
  pub first_free : kind s ≡ Free
  pub second_free : kind t ≡ Free
  pub shared : (axis : ℕ) → axis < 3 → waypoint s axis (points s - 1) ≡ waypoint t axis 0

-- A13, J3: such sheets of at most 513 waypoints are joined where the slice has room, in 20 bytes fewer than both have: a head and a waypoint
abbrev pub JoinedWhereFew : Type 0
JoinedWhereFew = (s t : List ℕ) → Meeting s t → points s + points t ≤ 513 → (room : ℕ)
    → join_sheets s t room ≡ guard (ltb (room + 20) (length s + length t)) Page (told_count (Ok (length s + length t - 20)))

-- N18: with more they are crowded, whatever the room
abbrev pub CrowdedWhereMore : Type 0
CrowdedWhereMore = (s t : List ℕ) → Meeting s t → 513 < points s + points t → (room : ℕ) → join_sheets s t room ≡ refused Crowded

-- J2, J3: j has the legs and the waypoints of s and t in turn, the shared waypoint once, and free ends
pub record FieldsInTurn (j s t : List ℕ) : Type 0 where
  pub free : kind j ≡ Free
  pub all_points : points j + 1 ≡ points s + points t
  pub all_legs : legs j ≡ legs s + legs t
  pub first_leg : (i : ℕ) → i < legs s → leg j i ≡ leg s i
  pub second_leg : (i : ℕ) → i < legs t → leg j (legs s + i) ≡ leg t i
  pub first_waypoint : (axis i : ℕ) → axis < 3 → i < points s → waypoint j axis i ≡ waypoint s axis i
  pub second_waypoint : (axis i : ℕ) → axis < 3 → i < points t → waypoint j axis (points s - 1 + i) ≡ waypoint t axis i
  pub all_ticks : ticks j ≡ ticks s + ticks t

-- J1, J3: the answer is the joined sheet's length, the slice begins with that sheet and is behind it as it was, the sheet is accepted, and it has the fields
-- of both in turn, one by one and as a whole
pub record WellJoined (s t out : List ℕ) : Type 0 where
  pub meeting : Meeting s t
  pub answered : join_sheets s t (length out) ≡ told_count (Ok (length (joined_sheet s t)))
  pub slice : joined_into s t out ≡ joined_sheet s t ++ drop (length (joined_sheet s t)) out
  pub accepted : Accepted (joined_sheet s t)
  pub fields : FieldsInTurn (joined_sheet s t) s t
  pub whole : lists_of (joined_sheet s t) ≡ joined_lists s t

-- so it is where joining is not refused
abbrev pub JoinedAccepted : Type 0
JoinedAccepted = (s t out : List ℕ) → (join_sheets s t (length out)).number ≡ 0 → WellJoined s t out

-- J4: the tick of the second's waypoint i on the joined course
abbrev pub later_tick : List ℕ → List ℕ → ℕ → ℕ
later_tick s t i = ticks s + tick_of_waypoint t i

-- J4: with the joined sheet's own bend numbers the waypoints of the first are met at their own ticks, those of the second later by all ticks of the first
abbrev pub JoinedMet : Type 0
JoinedMet = (s t out : List ℕ) → (join_sheets s t (length out)).number ≡ 0 → (list : List ℤ) → Own (joined_sheet s t) list
    → ((i : ℕ) → i < points s → place_at_tick (joined_sheet s t) list (tick_of_waypoint s i) ≡ met s i)
    × ((i : ℕ) → i < points t → place_at_tick (joined_sheet s t) list (later_tick s t i) ≡ met t i)

-- J5: demand 3, of the joined sheet's own spline
abbrev pub JoinedNear : Type 0
JoinedNear = (s t out : List ℕ) → (join_sheets s t (length out)).number ≡ 0 → Demand3 (joined_sheet s t)
