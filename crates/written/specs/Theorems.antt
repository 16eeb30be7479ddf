-- What is proved of written sheets: they are accepted and hold the lists (G5), and an accepted sheet is written again alike (G6).
use Rattle.std.specs.Prelude.{◌≡◌, List, ◌++◌, ℕ, ◌+◌, ◌*◌, ◌≤◌, ◌<◌, length, get_or, drop, Ok}
use Rattle.sheet.specs.Bytes.{byte}
use Rattle.sheet.specs.Fields.{kind_field, points, legs, leg, waypoint, slope}
use Rattle.sheet.specs.Reading.{Accepted}
use Rattle.answers.specs.Answers.{told_count}
use Rattle.lists.specs.Lists.{Lists, points_in, number_on, lists_of}
use Rattle.writer.specs.Sheets.{written_sheet}
use Rattle.lists.specs.Answer.{write_sheet}
use Rattle.writer.specs.Writing.{written_into}

-- the fields of s are the lists, one by one
pub record FieldsAre (s : List ℕ) (c : Lists) : Type 0 where
  pub is_kind : kind_field s ≡ c.kind
  pub is_points : points s ≡ points_in c.waypoints
  pub is_legs : legs s ≡ length c.legs
  pub is_leg : (i : ℕ) → i < length c.legs → leg s i ≡ get_or c.legs i 0
  pub three : length c.waypoints ≡ 3 * points s
  pub is_waypoint : (axis i : ℕ) → axis < 3 → i < points s → waypoint s axis i ≡ number_on c.waypoints axis i
  pub is_slope : (axis side : ℕ) → axis < 3 → 3 * side + axis < length c.slopes → slope s axis side ≡ number_on c.slopes axis side

-- G1, G5: the answer is the sheet's length, the slice begins with the sheet and is behind it as it was, the sheet is accepted, and its fields are the
-- lists, one by one and as a whole
pub record WellWritten (c : Lists) (out : List ℕ) : Type 0 where
  pub answered : write_sheet c (length out) ≡ told_count (Ok (length (written_sheet c)))
  pub slice : written_into c out ≡ written_sheet c ++ drop (length (written_sheet c)) out
  pub accepted : Accepted (written_sheet c)
  pub fields : FieldsAre (written_sheet c) c
  pub whole : lists_of (written_sheet c) ≡ c

-- G5: so it is where writing is not refused
abbrev pub WrittenAccepted : Type 0
WrittenAccepted = (c : Lists) (out : List ℕ) → (write_sheet c (length out)).number ≡ 0 → WellWritten c out

-- G6: written from its fields s has the same bytes, and that is not refused where the slice has room for them
pub record WrittenAlike (s : List ℕ) : Type 0 where
  pub same : written_sheet (lists_of s) ≡ s
  pub answered : (room : ℕ) → length s ≤ room → write_sheet (lists_of s) room ≡ told_count (Ok (length s))

-- (a sheet here is a list of numbers, so that it is said that they are bytes)
abbrev pub WrittenAgain : Type 0
WrittenAgain = (s : List ℕ) → ((i : ℕ) → byte s i < 256) → Accepted s → WrittenAlike s
