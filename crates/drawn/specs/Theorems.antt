-- What is proved of strokes beside the promise of the call: what the ends that it writes are (H4 to H6), and how near the strokes are to the exact spline (H7).
use Rattle.std.specs.Prelude.{◌≡◌, false, List, [], ◌∷◌, ◌++◌, ℕ, ◌+◌, ◌≤◌, ◌<◌, ℤ, pos, nat_abs, length, drop}
use Rattle.sheet.specs.Bytes.{sum_below}
use Rattle.sheet.specs.Fields.{legs, leg, ticks}
use Rattle.sheet.specs.Reading.{Accepted}
use Rattle.layout.specs.Layout.{short}
use Rattle.runner.specs.Ticks.{runner}
use Rattle.place.specs.Places.{bend_outside, placed, place_at_tick}
use Rattle.place.specs.Theorems.{tick_of_waypoint}
use Rattle.station.specs.Claim.{Own}
use Rattle.stretch.specs.Chains.{Chain, Among, Each}
use Rattle.strokes.specs.Strokes.{grain_outside, any_bend, strokes_answer, drawn_into}
use Rattle.drawn.specs.Given.{Stroke, EndNeeded, NearSpline}

-- H1: a leg's places are those that the place by tick gives out, the one at its full offset too
abbrev pub PlacesGiven : Type 0
PlacesGiven = (s : List ℕ) → Accepted s → (list : List ℤ) → short s (length list) ≡ false → ((j : ℕ) → j < legs s → bend_outside s list j ≡ false)
    → (i u : ℕ) → i < legs s → u ≤ leg s i → place_at_tick s list (sum_below (leg s) i + u) ≡ placed s list (runner i u)

-- what a call that is not refused has written: 0, then `rest`
pub record Drawn (s : List ℕ) (list : List ℤ) (tolerance : ℤ) (out : List ℕ) : Type 0 where
  pub rest : List ℕ
  -- H4: the answer is their count, and the list behind them is as it was
  pub counted : strokes_answer s list tolerance (length out) ≡ record { number = 0; values = pos (length (0 ∷ rest)) ∷ [] }
  pub written : drawn_into s list tolerance out ≡ (0 ∷ rest) ++ drop (length (0 ∷ rest)) out
  pub room : length (0 ∷ rest) ≤ length out
  -- H4, H5: they rise from 0 to P, and from each to the next there is a stroke
  pub strokes : Chain (Stroke s list (nat_abs tolerance)) 0 rest (ticks s)
  -- H5
  pub at_most : length (0 ∷ rest) ≤ ticks s + 1
  pub waypoints : (i : ℕ) → i ≤ legs s → Among (tick_of_waypoint s i) (0 ∷ rest)
  -- H6
  pub needed : Each (EndNeeded s list (nat_abs tolerance)) (0 ∷ rest)

-- H4 to H6, of every call that is not refused
abbrev pub StrokesDrawn : Type 0
StrokesDrawn = (s : List ℕ) (list : List ℤ) (tolerance : ℤ) (out : List ℕ) → (strokes_answer s list tolerance (length out)).number ≡ 0 → Drawn s list tolerance out

-- N22, H5: with one place more than the course has ticks a list is never too short
abbrev pub RoomForAll : Type 0
RoomForAll = (s : List ℕ) → Accepted s → (list : List ℤ) → short s (length list) ≡ false → (tolerance : ℤ) → grain_outside tolerance ≡ false
    → any_bend s list ≡ false → (room : ℕ) → ticks s < room → (strokes_answer s list tolerance room).number ≡ 0

-- H7: own bend numbers are refused by neither 9 nor 12, so that such a list is enough ..
abbrev pub OwnDrawn : Type 0
OwnDrawn = (s : List ℕ) → Accepted s → (list : List ℤ) → Own s list → (tolerance : ℤ) → grain_outside tolerance ≡ false
    → (room : ℕ) → ticks s < room → (strokes_answer s list tolerance room).number ≡ 0

-- .. and with them every stroke that is drawn is near the exact spline
abbrev pub StrokesNear : Type 0
StrokesNear = (s : List ℕ) (list : List ℤ) → Own s list → (tolerance : ℤ) (out : List ℕ) (d : Drawn s list tolerance out)
    → Chain (NearSpline s list (nat_abs tolerance)) 0 d.rest (ticks s)
