-- The place by tick and the place by runner (group P; A4, A5). Both entry points promise these.
use Rattle.std.specs.Prelude.{Bool, ◌||◌, List, [], ◌∷◌, ℕ, ◌+◌, ◌*◌, ◌^◌, ℤ, length, Result, Ok, Err}
use Rattle.sheet.specs.Answers.{Told, refused}
use Rattle.sheet.specs.Bytes.{any_below}
use Rattle.sheet.specs.Fields.{points, leg, waypoint}
use Rattle.sheet.specs.Reading.{outside, most_points, read_by}
use Rattle.sheet.specs.declared.Refusal.{Refusal}
use Rattle.sheet.specs.declared.Refusal.TheVariants.{Shelf, Past, Adrift, Bend}
use Rattle.answers.specs.Answers.{pass_on, guard}
use Rattle.systems.specs.Passes.{at}
use Rattle.spline.specs.Spline.{next}
use Rattle.spline.specs.Position.{position}
use Rattle.layout.specs.Course.{course}
use Rattle.layout.specs.Layout.{short}
use Rattle.runner.specs.Ticks.{past, spot_at}
use Rattle.runner.specs.Steps.{adrift}
use Rattle.runner.specs.declared.Runner.{Runner}
use Rattle.place.specs.declared.Place.{Place}

-- F8: number and values of each case, the values being north, east, up
abbrev pub told_placed : Result Place Refusal → Told
told_placed (Ok p) = record { number = 0; values = p.at }
told_placed (Err r) = refused r

-- the waypoint at a leg's end
abbrev pub end_of : List ℕ → ℕ → ℕ
end_of s i = next (course s 0) i

-- the bend number of the waypoint i on an axis, in a list laid out for the sheet
abbrev pub bend_of : List ℕ → List ℤ → ℕ → ℕ → ℤ
bend_of s list axis i = at list (axis * points s + i)

-- N12, of one bend number
abbrev pub beyond : ℤ → Bool
beyond z = outside (2 ^ 37) (2 ^ 37) z

-- N12, of a leg: of its two waypoints on three axes
unfoldable pub bend_outside : List ℕ → List ℤ → ℕ → Bool
bend_outside s list i = any_below (λ axis. beyond (bend_of s list axis i) || beyond (bend_of s list axis (end_of s i))) 3

-- P1, on one axis, at a leg and offset
unfoldable pub place_on : List ℕ → List ℤ → Runner → ℕ → ℤ
place_on s list r axis =
    position (leg s r.leg) r.offset
    (waypoint s axis r.leg) (waypoint s axis (end_of s r.leg))
    (bend_of s list axis r.leg) (bend_of s list axis (end_of s r.leg))

-- P2
abbrev pub placed : List ℕ → List ℤ → Runner → Told
placed s list r = record { number = 0; values = place_on s list r 0 ∷ place_on s list r 1 ∷ place_on s list r 2 ∷ [] }

-- where none of 1 to 11 applies: 12, or the place
abbrev pub bend_or_place : List ℕ → List ℤ → Runner → Told
bend_or_place s list r = guard (bend_outside s list r.leg) Bend (placed s list r)

-- A4: at the tick's leg and offset (P3), of a reader with a limit
unfoldable pub place_at_tick_by : ℕ → List ℕ → List ℤ → ℕ → Told
place_at_tick_by limit s list t = pass_on (read_by limit s) (guard (short s (length list)) Shelf (guard (past s t) Past (bend_or_place s list (spot_at s t))))

-- A5: at the runner's own leg and offset
unfoldable pub place_of_runner_by : ℕ → List ℕ → List ℤ → Runner → Told
place_of_runner_by limit s list r = pass_on (read_by limit s) (guard (short s (length list)) Shelf (guard (adrift s r) Adrift (bend_or_place s list r)))

-- the station's
abbrev pub place_at_tick : List ℕ → List ℤ → ℕ → Told
place_at_tick = place_at_tick_by most_points

abbrev pub place_of_runner : List ℕ → List ℤ → Runner → Told
place_of_runner = place_of_runner_by most_points
