-- What is proved of mirror images, each theorem as a statement that can be read without its proof; proofs/ has it under the same name in lower case.
use Rattle.std.specs.Prelude.{◌≡◌, false, List, ℕ, ◌<◌, ℤ, neg_ℤ}
use Rattle.sheet.specs.Answers.{Told}
use Rattle.sheet.specs.Fields.{kind, points, ticks}
use Rattle.sheet.specs.Reading.{Accepted}
use Rattle.systems.specs.Rows.{Rows}
use Rattle.systems.specs.Passes.{at, passes}
use Rattle.spline.specs.Spline.{Course, InBounds, bends}
use Rattle.spline.specs.Position.{position}
use Rattle.runner.specs.Steps.{adrift}
use Rattle.runner.specs.declared.Runner.{Runner}
use Rattle.place.specs.Places.{bend_of, place_at_tick, place_of_runner}
use Rattle.station.specs.Claim.{Own, Answers}
use Rattle.mirror.specs.Images.{negated, MirrorRows, MirrorCourse, MirrorSheet}

-- passes over mirrored rows, from negated numbers, leave the negated numbers: of whatever rows, at every scale c, after every count m
abbrev pub PassesMirrored : Type 0
PassesMirrored = (R S : Rows) → MirrorRows R S → (c m : ℕ) (zs : List ℤ) → passes S c m (negated zs) ≡ negated (passes R c m zs)

-- L7, on one axis: the mirror image of a course has the negated bend numbers
abbrev pub BendsMirrored : Type 0
BendsMirrored = (c e : Course) → InBounds c → InBounds e → MirrorCourse c e → bends e ≡ negated (bends c)

-- P6, of one place: negated values and bend numbers give the negated position
abbrev pub PositionMirrored : Type 0
PositionMirrored = (h u : ℕ) (v w Z Y : ℤ) → position h u (neg_ℤ v) (neg_ℤ w) (neg_ℤ Z) (neg_ℤ Y) ≡ neg_ℤ (position h u v w Z Y)

-- P6, of two answers: both are places, and on the axis the second's number is the first's, negated
pub record PlaceNegated (axis : ℕ) (a b : Told) : Type 0 where
  pub answered : (a.number ≡ 0) × (b.number ≡ 0)
  pub number : at b.values axis ≡ neg_ℤ (at a.values axis)

-- L7: on the axis all bend numbers in the list ys of t are those in the list zs of s, negated
abbrev pub BendsNegated : (s t : List ℕ) → ℕ → (zs ys : List ℤ) → Type 0
BendsNegated s t axis zs ys = (i : ℕ) → i < points s → bend_of t ys axis i ≡ neg_ℤ (bend_of s zs axis i)

-- L7, P6: and so are the places on the axis, at each tick of the course and of each runner that is not adrift
pub record AxisNegated (s t : List ℕ) (axis : ℕ) (zs ys : List ℤ) : Type 0 where
  pub all_bends : BendsNegated s t axis zs ys
  pub by_tick : (tick : ℕ) → Answers (kind s) (ticks s) tick → PlaceNegated axis (place_at_tick s zs tick) (place_at_tick t ys tick)
  pub by_runner : (r : Runner) → adrift s r ≡ false → PlaceNegated axis (place_of_runner s zs r) (place_of_runner t ys r)

-- so it is of any two accepted sheets that mirror each other on an axis, each with the station's own bend numbers (C1)
abbrev pub SheetMirrored : Type 0
SheetMirrored = (s t : List ℕ) → Accepted s → Accepted t → (axis : ℕ) → axis < 3 → MirrorSheet s t axis
    → (zs ys : List ℤ) → Own s zs → Own t ys → AxisNegated s t axis zs ys
