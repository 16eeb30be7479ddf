-- Joining two sheets (A13, J1 to J3): the joined course, what the call answers, and what it leaves in the slice, after refused calls too.
-- For join, exports and crate joined.
use Rattle.std.specs.Prelude.{Bool, true, false, cond, ◌||◌, List, [], ◌++◌, ℕ, ◌-◌, ltb, eqb, ℤ, length, drop, Ok}
use Rattle.std.specs.Int.Signed.{lt_z}
use Rattle.ends.specs.declared.EndKind.{EndKind}
use Rattle.ends.specs.declared.EndKind.TheVariants.{Free, Held, Closed}
use Rattle.sheet.specs.Answers.{Told}
use Rattle.sheet.specs.Bytes.{any_below}
use Rattle.sheet.specs.Fields.{kind, points, waypoint}
use Rattle.sheet.specs.Reading.{most_points, read_sheet}
use Rattle.sheet.specs.declared.Refusal.TheVariants.{Page, Shut, Apart, Crowded}
use Rattle.answers.specs.Answers.{pass_on, guard, told_count}
use Rattle.lists.specs.Lists.{Lists, lists, points_in, size_of, lists_of}
use Rattle.writer.specs.Sheets.{written_sheet}

-- J2: free ends, the legs in turn, and of the second's waypoints all but the first
abbrev pub in_turn : Lists → Lists → Lists
in_turn a b = lists 0 (a.legs ++ b.legs) (a.waypoints ++ drop 3 b.waypoints) []

-- .. of the fields of two sheets
abbrev pub joined_lists : List ℕ → List ℕ → Lists
joined_lists s t = in_turn (lists_of s) (lists_of t)

-- J3: the sheet that these lists make
abbrev pub joined_sheet : List ℕ → List ℕ → List ℕ
joined_sheet s t = written_sheet (joined_lists s t)

-- N16: one of the two has no free ends
abbrev pub is_shut : EndKind → Bool
is_shut Free = false
is_shut Held = true
is_shut Closed = true

abbrev pub shut : List ℕ → List ℕ → Bool
shut s t = is_shut (kind s) || is_shut (kind t)

-- N17: on some axis the last waypoint of the first is below or above the first of the second
abbrev pub differ : ℤ → ℤ → Bool
differ x y = lt_z x y || lt_z y x

abbrev pub apart : List ℕ → List ℕ → Bool
apart s t = any_below (λ axis. differ (waypoint s axis (points s - 1)) (waypoint t axis 0)) 3

-- N18: too many waypoints together
abbrev pub crowded : List ℕ → List ℕ → Bool
crowded s t = ltb most_points (points_in (joined_lists s t).waypoints)

-- A13: behind 16 the tests 17, 18 and 14; then the joined sheet's length
abbrev pub join_free : List ℕ → List ℕ → ℕ → Told
join_free s t room =
    guard (apart s t) Apart
    (guard (crowded s t) Crowded (guard (ltb room (size_of (joined_lists s t))) Page (told_count (Ok (size_of (joined_lists s t))))))

-- A13: the answer; 1 to 8 of the first sheet, then of the second, go before all others
unfoldable pub join_sheets : List ℕ → List ℕ → ℕ → Told
join_sheets s t room = pass_on (read_sheet s) (pass_on (read_sheet t) (guard (shut s t) Shut (join_free s t room)))

-- J1, A9: the slice afterwards: the joined sheet, then what stood behind it; a refused call leaves it whole
unfoldable pub joined_into : List ℕ → List ℕ → List ℕ → List ℕ
joined_into s t out = cond (eqb (join_sheets s t (length out)).number 0) (joined_sheet s t ++ drop (size_of (joined_lists s t)) out) out
