-- What is proved of worked courses beside the list: a chord is not near (K4, K8), a free pair of waypoints is flown straight (W9), and how long a sheet can be (S9).
use Rattle.std.specs.Prelude.{◌≡◌, List, [], ◌∷◌, ℕ, ◌≤◌, ℤ, pos, length, replicate}
use Rattle.ends.specs.declared.EndKind.TheVariants.{Free}
use Rattle.sheet.specs.Answers.{Told}
use Rattle.sheet.specs.Fields.{kind, points}
use Rattle.sheet.specs.Reading.{Accepted}
use Rattle.spline.specs.Spline.{Curve, Exact, value_at}
use Rattle.spline.specs.Position.{Near}
use Rattle.layout.specs.Course.{course}
use Rattle.layout.specs.Layout.{all_bends}
use Rattle.runner.specs.Ticks.{spot_at}
use Rattle.place.specs.Places.{place_on, place_at_tick}
use Rattle.courses.specs.Sheets.{sheet}
use Rattle.courses.specs.Starred.{laid}

-- course A with tenfold north
abbrev pub tenfold : List ℕ
tenfold = sheet Free (2 ∷ 2 ∷ []) (pos 0 ∷ pos 10 ∷ pos 20 ∷ pos 80 ∷ pos 10 ∷ pos 22 ∷ pos 0 ∷ pos 10 ∷ pos 24 ∷ []) []

-- bend numbers left at 0
abbrev pub unbent : List ℤ
unbent = replicate 9 (pos 0)

abbrev pub given : ℤ → Told
given north = record { number = 0; values = north ∷ pos 10 ∷ pos 21 ∷ [] }

-- at tick 1 of this course
pub record ChordNotNear : Type 0 where
  -- the station's own bend numbers give 55 ..
  pub bent : place_at_tick tenfold (laid tenfold) 1 ≡ given (pos 55)
  -- .. and zeros the chord, 40, which is not refused ..
  pub chord : place_at_tick tenfold unbent 1 ≡ given (pos 40)
  -- .. but is near no exact spline
  pub far : (f : Curve) → Exact (course tenfold 0) f
      → let r = spot_at tenfold 1 in ¬ Near f.denominator (value_at (f.cubic r.leg) r.offset) (place_on tenfold unbent r 0)

-- W9: whatever the values, on each axis
abbrev pub FreePairUnbent : Type 0
FreePairUnbent = (s : List ℕ) → kind s ≡ Free → points s ≡ 2 → all_bends s ≡ replicate 6 (pos 0)

-- S9: no accepted sheet has more than 7,198 bytes, and one has as many
pub record Longest : Type 0 where
  pub most : (s : List ℕ) → Accepted s → length s ≤ 7_198
  pub reached : (s : List ℕ) × Accepted s × (length s ≡ 7_198)
