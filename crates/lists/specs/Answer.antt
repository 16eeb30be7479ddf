-- What writing a sheet answers (A11, G2 to G4), refused calls too. For lists, writer, join and exports.
use Rattle.std.specs.Prelude.{Bool, not, ◌||◌, List, ℕ, ◌*◌, ltb, eqb, ℤ, pos, length, get_or, Ok}
use Rattle.ends.specs.Ends.{leg_count, least_points}
use Rattle.sheet.specs.Answers.{Told}
use Rattle.sheet.specs.Bytes.{any_below}
use Rattle.sheet.specs.Reading.{leg_outside, reach_outside, slope_outside, most_points}
use Rattle.sheet.specs.declared.Refusal.TheVariants.{Ends, Points, Size, Leg, Reach, Slope, Page}
use Rattle.answers.specs.Answers.{guard, told_count}
use Rattle.lists.specs.Lists.{Lists, kind_in, points_in, number_on, slope_count, size_of}

-- N3, of a kind's number of any size
abbrev pub kind_outside : Lists → Bool
kind_outside c = ltb 2 c.kind

-- N4
abbrev pub points_outside : Lists → Bool
points_outside c = ltb (points_in c.waypoints) (least_points (kind_in c)) || ltb most_points (points_in c.waypoints)

-- N5, of lists (G3): a waypoint number left over, not L legs, or not the kind's slopes
abbrev pub counts_differ : Lists → Bool
counts_differ c =
    not (eqb (length c.waypoints) (3 * points_in c.waypoints))
    || not (eqb (length c.legs) (leg_count (kind_in c) (points_in c.waypoints)))
    || not (eqb (length c.slopes) (slope_count (kind_in c)))

-- N6 to N8, each of its whole list: the reader's own tests of one number
abbrev pub some_leg_outside : List ℕ → Bool
some_leg_outside hs = any_below (λ i. leg_outside (get_or hs i 0)) (length hs)

abbrev pub some_reach_outside : List ℤ → Bool
some_reach_outside ws = any_below (λ i. any_below (λ axis. reach_outside axis (number_on ws axis i)) 3) (points_in ws)

abbrev pub some_slope_outside : List ℤ → Bool
some_slope_outside ps = any_below (λ i. slope_outside (get_or ps i (pos 0))) (length ps)

-- G3: 6 to 8 and then 14, of lists that make a sheet of `size` bytes and a slice of `room`
abbrev pub write_numbers : ℕ → List ℕ → List ℤ → List ℤ → ℕ → Told
write_numbers size hs ws ps room =
    guard (some_leg_outside hs) Leg (guard (some_reach_outside ws) Reach (guard (some_slope_outside ps) Slope (guard (ltb room size) Page (told_count (Ok size)))))

-- A11: the answer
unfoldable pub write_sheet : Lists → ℕ → Told
write_sheet c room =
    guard (kind_outside c) Ends (guard (points_outside c) Points (guard (counts_differ c) Size (write_numbers (size_of c) c.legs c.waypoints c.slopes room)))
