-- What is proved of places beside the promises of the entry points: waypoints are met (P5), and the place by tick is the place by the tick's runner.
use Rattle.std.specs.Prelude.{◌≡◌, true, false, List, [], ◌∷◌, ℕ, ◌-◌, ◌<◌, ℤ, length}
use Rattle.sheet.specs.Answers.{Told}
use Rattle.sheet.specs.Bytes.{sum_below}
use Rattle.sheet.specs.Fields.{kind, points, legs, leg, ticks, waypoint}
use Rattle.sheet.specs.Reading.{Accepted}
use Rattle.layout.specs.Layout.{short}
use Rattle.runner.specs.Ticks.{runner, at_lap, is_open, reduced, past, spot_at}
use Rattle.runner.specs.Steps.{adrift}
use Rattle.place.specs.Places.{end_of, bend_outside, place_on, place_at_tick, place_of_runner}

-- P5, of a leg: at offset 0 its first waypoint, at full offset its second, on every axis and whatever the bend numbers
abbrev pub LegEndsMet : Type 0
LegEndsMet = (s : List ℕ) → Accepted s → (list : List ℤ) (i : ℕ) → i < legs s → (axis : ℕ)
    → (place_on s list (runner i 0) axis ≡ waypoint s axis i) × (place_on s list (runner i (leg s i)) axis ≡ waypoint s axis (end_of s i))

-- the waypoint i is met: no number, and exactly its north, east and up
abbrev pub met : List ℕ → ℕ → Told
met s i = record { number = 0; values = waypoint s 0 i ∷ waypoint s 1 i ∷ waypoint s 2 i ∷ [] }

-- the tick of the waypoint i: the sum of the legs before it; P for an open course's last
abbrev pub tick_of_waypoint : List ℕ → ℕ → ℕ
tick_of_waypoint s i = sum_below (leg s) i

-- P5, by tick (closed: modulo P), for any bend numbers within N12's limits at the tick's leg
abbrev pub WaypointMetAtTick : Type 0
WaypointMetAtTick = (s : List ℕ) → Accepted s → (list : List ℤ) → short s (length list) ≡ false
    → (i : ℕ) → i < points s → (t : ℕ) → reduced (kind s) (ticks s) t ≡ tick_of_waypoint s i
    → bend_outside s list (spot_at s t).leg ≡ false → place_at_tick s list t ≡ met s i

-- P5, by runner: at a leg's start, whatever laps it has that the course takes, and at the end of an open course
abbrev pub WaypointMetByRunner : Type 0
WaypointMetByRunner = (s : List ℕ) → Accepted s → (list : List ℤ) → short s (length list) ≡ false
    → ((i l : ℕ) → adrift s (at_lap l (runner i 0)) ≡ false → bend_outside s list i ≡ false → place_of_runner s list (at_lap l (runner i 0)) ≡ met s i)
    × (is_open (kind s) ≡ true → bend_outside s list (legs s - 1) ≡ false
    → place_of_runner s list (runner (legs s - 1) (leg s (legs s - 1))) ≡ met s (points s - 1))

-- the place by tick is the place by the tick's runner, refusals too, for every tick that is not past
abbrev pub TickIsRunner : Type 0
TickIsRunner = (s : List ℕ) (list : List ℤ) (t : ℕ) → past s t ≡ false → place_at_tick s list t ≡ place_of_runner s list (spot_at s t)
