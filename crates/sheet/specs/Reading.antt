-- What reading a sheet answers (N1 to N8, N23, A1, A2, A16), by a reader of up to so many waypoints, and which sheets are accepted (A10).
use Rattle.std.specs.Prelude.{◌≡◌, Bool, true, false, not, cond, ◌&&◌, ◌||◌, List, [], ◌∷◌, ℕ, suc, ◌≤◌, ltb, eqb, ℤ, pos, neg_ℤ, length, Err}
use Rattle.std.specs.Int.Signed.{lt_z}
use Rattle.ends.specs.Ends.{least_points}
use Rattle.ends.specs.declared.EndKind.{EndKind}
use Rattle.ends.specs.declared.EndKind.TheVariants.{Free, Held, Closed}
use Rattle.sheet.specs.Answers.{number_of, Reading, read_course}
use Rattle.sheet.specs.Bytes.{any_below}
use Rattle.sheet.specs.Fields.{length_field, version, kind_field, kind, points, legs, leg, ticks, waypoint, slope, sheet_length}
use Rattle.sheet.specs.declared.Refusal.{Refusal}
use Rattle.sheet.specs.declared.Refusal.TheVariants.{Torn, Edition, Ends, Points, Size, Leg, Reach, Slope, Shelf, Past, Adrift, Bend, Landed, Page, Start, Shut, Apart, Crowded, Seats, Turn, Grain, Ink, Board}

-- z is below -a or above b
abbrev pub outside : ℕ → ℕ → ℤ → Bool
outside a b z = lt_z z (neg_ℤ (pos a)) || lt_z (pos b) z

-- N6, of one leg
abbrev pub leg_outside : ℕ → Bool
leg_outside h = ltb h 1 || ltb 256 h

-- N7, of one number of a waypoint, by its axis: north (0) and east (1) have one span, up (2) has the permit's floor and ceiling
abbrev pub reach_outside : ℕ → ℤ → Bool
reach_outside axis z = cond (eqb axis 2) (outside 50_000 120_000 z) (outside 1_000_000 1_000_000 z)

-- N8, of one slope
abbrev pub slope_outside : ℤ → Bool
slope_outside z = outside 5_000 5_000 z

-- N8: slopes are a held course's alone (S8)
abbrev pub slopes_outside : EndKind → List ℕ → Bool
slopes_outside Free s = false
slopes_outside Held s = any_below (λ side. any_below (λ axis. slope_outside (slope s axis side)) 3) 2
slopes_outside Closed s = false

-- N4: the largest N
abbrev pub most_points : ℕ
most_points = 512

-- when each number applies to a sheet. `limit` is the largest N of the reader, which N23 alone asks for. N9 to N22 ask about more than the sheet, and reading does
-- not test them.
abbrev pub applies : ℕ → List ℕ → Refusal → Bool
-- N1: too short, or not as long as it states
applies limit s Torn = ltb (length s) 8 || not (eqb (length_field s) (length s))
-- N2: the version
applies limit s Edition = not (eqb (version s) 1)
-- N3: the kind
applies limit s Ends = ltb 2 (kind_field s)
-- N4: the waypoints' count
applies limit s Points = ltb (points s) (least_points (kind s)) || ltb most_points (points s)
-- N23: more of them than the reader has room for, and not 4
applies limit s Board = ltb limit (points s) && not (ltb most_points (points s))
-- N5: the bytes' count
applies limit s Size = not (eqb (length s) (sheet_length (kind s) (points s)))
-- N6: some leg
applies limit s Leg = any_below (λ i. leg_outside (leg s i)) (legs s)
-- N7: some number of some waypoint
applies limit s Reach = any_below (λ i. any_below (λ axis. reach_outside axis (waypoint s axis i)) 3) (points s)
-- N8: some slope
applies limit s Slope = slopes_outside (kind s) s
-- N9 to N22
applies limit s Shelf = false
applies limit s Past = false
applies limit s Adrift = false
applies limit s Bend = false
applies limit s Landed = false
applies limit s Page = false
applies limit s Start = false
applies limit s Shut = false
applies limit s Apart = false
applies limit s Crowded = false
applies limit s Seats = false
applies limit s Turn = false
applies limit s Grain = false
applies limit s Ink = false

abbrev pub refuse_if : Bool → Refusal → Reading → Reading
refuse_if true r answer = Err r
refuse_if false r answer = answer

-- A1: the first of the listed refusals that applies, or the course
abbrev pub lowest : ℕ → List ℕ → List Refusal → Reading
lowest limit s [] = read_course (kind s) (points s) (ticks s)
lowest limit s (r ∷ rs) = refuse_if (applies limit s r) r (lowest limit s rs)

-- A2, A16: what reading tests, the lowest number first, but for 23, which stands between 4 and 5
abbrev pub tested : List Refusal
tested = Torn ∷ Edition ∷ Ends ∷ Points ∷ Board ∷ Size ∷ Leg ∷ Reach ∷ Slope ∷ []

-- .. and the order of all numbers that comes of it
abbrev pub order_of : ℕ → ℕ
order_of n = cond (ltb n 5) n (cond (eqb n 23) 5 (suc n))

abbrev pub order : Refusal → ℕ
order r = order_of (number_of r)

-- A2: the answer of a reader whose largest N is the limit
unfoldable pub read_by : ℕ → List ℕ → Reading
read_by limit s = lowest limit s tested

-- S9: the bytes of a held sheet with the largest N
abbrev pub longest_sheet : ℕ
longest_sheet = sheet_length Held most_points

-- the station's reading
abbrev pub read_sheet : List ℕ → Reading
read_sheet s = read_by most_points s

-- A10: none of the numbers that reading tests applies
abbrev pub Accepted : List ℕ → Type 0
Accepted s = (r : Refusal) → number_of r ≤ 8 → applies most_points s r ≡ false
