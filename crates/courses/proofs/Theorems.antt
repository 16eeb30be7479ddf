-- A chord is not near: of course A with tenfold north an exact spline is written out, and any other is the same curve, so that at tick 1 all are at 55.
-- A free pair of waypoints is flown straight because neither has a row.
use mathlib.Core.Path.{◌≡◌, refl}
use mathlib.Core.List.{[], ◌∷◌, ◌++◌}
use Prim.Native.Nat.{ℕ, ◌*◌}
use native.Mathlib.Omega.{arith}
use lib.Dec.{lit≤}
use lib.IntN.{pos, negsuc, nat_abs, ◌-ℤ◌, ◌*ℤ◌}
use Rattle.integers.proofs.Ring.{◌⊕◌, ◌⊖◌, ◌⊗◌, ⊝◌, #◌}
use Rattle.integers.proofs.Linear.{◌≐◌, ◌⊢◌≗◌with◌, lin}
use Rattle.integers.proofs.Order.{abs_mul}
use Rattle.rounding.specs.Rounded.{rounded}
use Rattle.ends.specs.declared.EndKind.TheVariants.{Free}
use Rattle.sheet.specs.Bytes.{be16, be32, signed32, any_below, sum_below}
use Rattle.sheet.specs.Reading.{Accepted, read_by, most_points}
use Rattle.sheet.proofs.Laws.{read_accepted}
use Rattle.systems.specs.Passes.{target, renewed, turn, sweep, pass, passes}
use Rattle.spline.specs.Spline.{Cubic, Curve, Exact, SameCubic, SameCurve, value_at, first_at, second_at, legs, next, prev, step_after, step_before, inner_row, free_row, along, row_of, rows_by, bends}
use Rattle.spline.specs.Position.{numerator, position, Near}
use Rattle.spline.proofs.Examples.{cubic, curve, exact_by}
use Rattle.spline.proofs.OneCurve.{one_curve}
use Rattle.spline.proofs.RowKinds.{free_pair_zeros}
use Rattle.layout.specs.Course.{course}
use Rattle.layout.specs.Layout.{all_bends, lay_out_by, laid_out_by}
use Rattle.layout.proofs.Near.{course_in_bounds}
use Rattle.runner.specs.Ticks.{walk, spot_at}
use Rattle.place.specs.Places.{bend_outside, place_on, place_at_tick_by}
use Rattle.courses.specs.Theorems.{tenfold, ChordNotNear, FreePairUnbent}

accepted : Accepted tenfold
unfolding read_by be16 be32 signed32 any_below sum_below
accepted = (read_accepted most_points tenfold Free 3 4 refl).0

-- 60u - 5uuu, then 80 - 30uu + 5uuu
abbrev ten_curve : Curve
ten_curve = curve 1 (cubic (pos 0) (pos 60) (pos 0) (negsuc 4) ∷ cubic (pos 80) (pos 0) (negsuc 29) (pos 5) ∷ [])

exact : Exact (course tenfold 0) ten_curve
unfolding course be16 be32 signed32 value_at first_at second_at legs next prev
exact = exact_by (course tenfold 0) ten_curve (lit≤ tt)
    ((tt, (refl, refl, λ a. absurd (omega arith))), (refl, refl, λ a. (refl, refl))) (refl, refl)

-- a cubic that is the same as the first of them is 15 away from 40 at the offset 1
fifteen_off : (D : ℕ) (k : Cubic) → SameCubic D k 1 (ten_curve.cubic 0) → nat_abs (pos D *ℤ pos 40 -ℤ value_at k 1) ≡ D * 15
unfolding value_at
fifteen_off D k same = rw (lin 5
    (λ D c0 c1 c2 c3. # 1 ⊗ c0 ≐ D ⊗ # 0 ∷ # 1 ⊗ c1 ≐ D ⊗ # 60 ∷ # 1 ⊗ c2 ≐ D ⊗ # 0 ∷ # 1 ⊗ c3 ≐ D ⊗ ⊝ # 5 ∷ []
    ⊢ D ⊗ # 40 ⊖ (c0 ⊕ c1 ⊗ # 1 ⊕ c2 ⊗ # 1 ⊗ # 1 ⊕ c3 ⊗ # 1 ⊗ # 1 ⊗ # 1) ≗ D ⊗ ⊝ # 15 with ⊝ # 1 ∷ ⊝ # 1 ∷ ⊝ # 1 ∷ ⊝ # 1 ∷ []) tt
    (pos D) k.c0 k.c1 k.c2 k.c3 same.same0 same.same1 same.same2 same.same3) (abs_mul (pos D) (negsuc 14))

not_near : (f : Curve) → Exact (course tenfold 0) f → ¬ Near f.denominator (value_at (f.cubic 0) 1) (pos 40)
unfolding Near SameCurve course legs be16
not_near f e near = omega (
  arith,
  near,
  fifteen_off f.denominator (f.cubic 0)
      (one_curve (course tenfold 0) (course_in_bounds tenfold accepted 0 (lit≤ tt)) f ten_curve e exact 0 (lit≤ tt)),
  e.positive,
)

pub chord_not_near : ChordNotNear
unfolding rounded target renewed turn sweep pass passes be16 be32 signed32 any_below sum_below read_by next prev step_after step_before inner_row free_row along row_of rows_by numerator position course all_bends lay_out_by laid_out_by walk spot_at bend_outside place_on place_at_tick_by
chord_not_near = record { bent = refl; chord = refl; far = not_near }

pub free_pair_unbent : FreePairUnbent
unfolding all_bends course
free_pair_unbent s free two = λ i. zeros 0 i ++ zeros 1 i ++ zeros 2 i
  where
    zeros : (axis : ℕ) → bends (course s axis) ≡ pos 0 ∷ pos 0 ∷ []
    zeros axis = free_pair_zeros (course s axis) free two
