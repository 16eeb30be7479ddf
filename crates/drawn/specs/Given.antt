-- Strokes between places as the place by tick gives them out. For the theorems of this crate.
use Rattle.std.specs.Prelude.{◌≡◌, List, ◌⊎◌, ℕ, ◌+◌, ◌-◌, ◌*◌, ◌/◌, ◌≤◌, ◌<◌, ℤ, pos, nat_abs, ◌+ℤ◌, ◌-ℤ◌, ◌*ℤ◌}
use Rattle.sheet.specs.Bytes.{sum_below}
use Rattle.sheet.specs.Fields.{legs, leg}
use Rattle.systems.specs.Passes.{at}
use Rattle.spline.specs.Spline.{Curve, Exact, value_at}
use Rattle.layout.specs.Course.{course}
use Rattle.runner.specs.Ticks.{spot_at}
use Rattle.place.specs.Places.{place_at_tick}
use Rattle.place.specs.Theorems.{tick_of_waypoint}
use Rattle.stretch.specs.Theorems.{Within, Outside}

-- the number on an axis of the place that a tick is answered (A4)
abbrev pub given : List ℕ → List ℤ → ℕ → ℕ → ℤ
given s list axis t = at (place_at_tick s list t).values axis

-- H5: a stroke from tick p to the later tick q. Each tick of it is answered, and at each the place is within the tolerance of the stroke on every axis
pub record Stroke (s : List ℕ) (list : List ℤ) (tolerance p q : ℕ) : Type 0 where
  pub rises : p < q
  pub answered : (t : ℕ) → p ≤ t → t ≤ q → (place_at_tick s list t).number ≡ 0
  pub near : (axis t : ℕ) → axis < 3 → p ≤ t → t ≤ q → Within tolerance (q - p) (t - p) (given s list axis p) (given s list axis t) (given s list axis q)

-- H6: the tick x is the middle, rounded down, of a stretch of a leg in which some place is farther from its one stroke than the tolerance
pub record Middle (s : List ℕ) (list : List ℤ) (tolerance x : ℕ) : Type 0 where
  pub index : ℕ
  pub start : ℕ
  pub ticks : ℕ
  pub leg_fits : index < legs s
  pub on_leg : start + ticks ≤ leg s index
  pub long : 2 ≤ ticks
  pub middle : x ≡ sum_below (leg s) index + (start + ticks / 2)
  pub outside : Outside tolerance (λ axis u. given s list axis (sum_below (leg s) index + u)) start ticks

-- H5, H6: what an end is
abbrev pub EndNeeded : List ℕ → List ℤ → ℕ → ℕ → Type 0
EndNeeded s list tolerance x = ((i : ℕ) × (i ≤ legs s) × (x ≡ tick_of_waypoint s i)) ⊎ Middle s list tolerance x

-- H7: the stroke of m ticks from `first` to `last` is, u ticks after its start, at most the tolerance and one and a half millimetres from the fraction E / D, all times 2 m D
abbrev pub StrokeNear : (tolerance m u D : ℕ) (E first last : ℤ) → Type 0
StrokeNear tolerance m u D E first last =
    2 * nat_abs (pos D *ℤ (pos m *ℤ first +ℤ pos u *ℤ (last -ℤ first)) -ℤ pos m *ℤ E) ≤ (2 * tolerance + 3) * (m * D)

-- H7: so is a stroke from tick p to tick q at each of its ticks, on every axis, of every exact spline there
abbrev pub NearSpline : List ℕ → List ℤ → (tolerance p q : ℕ) → Type 0
NearSpline s list tolerance p q = (axis t : ℕ) → axis < 3 → p ≤ t → t ≤ q → (f : Curve) → Exact (course s axis) f
    → StrokeNear tolerance (q - p) (t - p) f.denominator (value_at (f.cubic (spot_at s t).leg) (spot_at s t).offset) (given s list axis p) (given s list axis q)
