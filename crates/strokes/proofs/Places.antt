-- How large a place can be: its numerator over 65,536 at the least, rounded.
use mathlib.Core.Path.{◌≡◌, ap}
use mathlib.Core.Bool.{false}
use mathlib.Core.List.{List}
use Prim.Native.Nat.{ℕ, ◌*◌, ◌≤◌, ◌<◌}
use native.Mathlib.Nat.{mul-le-mul, le_refl}
use native.Mathlib.Omega.{arith}
use lib.IntN.{ℤ, nat_abs}
use Rattle.integers.proofs.Made.{times, minus}
use Rattle.rounding.proofs.Laws.{rounded_size}
use Rattle.sheet.specs.Fields.{points, legs, leg}
use Rattle.sheet.specs.Reading.{Accepted}
use Rattle.spline.specs.Position.{numerator, position}
use Rattle.place.specs.Asked.{OnLeg}
use Rattle.place.specs.Places.{bend_outside, end_of, place_on}
use Rattle.place.proofs.Fitting.{numbers_fit}
use Rattle.place.proofs.Numerator.{scale, ends, bend, numerator_is}
use Rattle.stretch.specs.Asked.{Small}
use Rattle.strokes.specs.Strokes.{places_on}

position_small : (h u : ℕ) (v w z y : ℤ) → OnLeg h u v w z y → Small (position h u v w z y)
unfolding position
position_small h u v w z y o =
    let n = numerator h u v w z y in
    let size = (minus (times scale (ends o) tt) (bend o) tt).size in
    let r = nat_abs (position h u v w z y) in
    let low : r * 65536 ≤ r * (65536 * h) = mul-le-mul (le_refl r) (omega arith) in
    omega (arith, ap nat_abs (numerator_is o), rounded_size n (65536 * h) (omega arith))

-- on a leg with bend numbers within 12's limits
pub place_small : (s : List ℕ) → Accepted s → (list : List ℤ) (i : ℕ) → i < legs s → bend_outside s list i ≡ false → end_of s i < points s
    → (axis u : ℕ) → axis < 3 → u ≤ leg s i → Small (places_on s list i axis u)
unfolding place_on
place_small s a list i h bends inside axis u fits on =
    let o = numbers_fit s a list i h bends axis fits inside in
    position_small _ u _ _ _ _ (record {
      leg_low = o.leg_low;
      leg_high = o.leg_high;
      offset = on;
      start = o.start;
      end = o.end;
      start_bend = o.start_bend;
      end_bend = o.end_bend;
    })
