-- Worked courses (group W) on the north axis, by computing: for each an exact spline, written out, a solution of the rows, and the bend numbers. Tried, and
-- the courses crate, build on them.
use mathlib.Core.Path.{◌≡◌, refl, subst, ap}
use mathlib.Core.List.{List, [], ◌∷◌}
use Prim.Native.Nat.{ℕ, ◌-◌, ◌≤◌, ◌<◌}
use native.Mathlib.Omega.{arith}
use lib.Dec.{lit≤}
use lib.ListN.{get_or}
use lib.IntN.{ℤ, pos, negsuc, nat_abs, ◌-ℤ◌, ◌*ℤ◌}
use Rattle.integers.proofs.Ring.{◌⊖◌, #◌}
use Rattle.integers.proofs.Linear.{◌≐◌, ◌⊢◌≗◌with◌, lin}
use Rattle.ends.specs.declared.EndKind.{EndKind}
use Rattle.ends.specs.declared.EndKind.TheVariants.{Free, Held, Closed}
use Rattle.rounding.specs.Rounded.{rounded}
use Rattle.systems.specs.Rows.{row_sum, Solves}
use Rattle.systems.specs.Passes.{at, target, renewed, turn, sweep, pass, passes}
use Rattle.systems.proofs.Below.{Below, below}
use Rattle.spline.specs.Spline.{Course, legs, next, prev, leg_before, step_after, step_before, Cubic, Curve, value_at, first_at, second_at, Exact, inner_row, free_row, held_start_row, held_end_row, along, row_of, rows_by, rows, bends}
use Rattle.spline.specs.Position.{numerator, position}

-- ---- courses and curves, written out
abbrev pub course : EndKind → List ℕ → List ℤ → ℕ → Course
course e hs vs n = record { ends = e; points = n; leg = λ i. get_or hs i 0; value = at vs; start_slope = pos 0; end_slope = pos 0 }

abbrev pub cubic : ℤ → ℤ → ℤ → ℤ → Cubic
cubic a b c d = record { c0 = a; c1 = b; c2 = c; c3 = d }

abbrev pub curve : ℕ → List Cubic → Curve
curve D ks = record { denominator = D; cubic = λ i. get_or ks i (cubic (pos 0) (pos 0) (pos 0) (pos 0)) }

-- W1: A, free, legs 2, 2 through 0, 8, 0
abbrev pub A : Course
A = course Free (2 ∷ 2 ∷ []) (pos 0 ∷ pos 8 ∷ pos 0 ∷ []) 3

-- W5: held at slopes 0 and 0, a leg of 4 from 0 to 16
abbrev pub held_leg : Course
held_leg = course Held (4 ∷ []) (pos 0 ∷ pos 16 ∷ []) 2

-- ---- curves that lack one property of exact splines and have all others: without it, each would be a second exact spline of its course
-- (two numbers that are apart are not equal)
differ : (a b : ℤ) → 1 ≤ nat_abs (a -ℤ b) → ¬ (a ≡ b)
differ a b h e = omega (arith, ap nat_abs (lin 2 (λ a b. a ≐ b ∷ [] ⊢ a ⊖ b ≗ # 0 with # 1 ∷ []) tt a b e))

-- legs flown straight, 4u, then 8 - 4u: the slope turns from 4 to -4
straight_tried : ¬ Exact A (curve 1 (cubic (pos 0) (pos 4) (pos 0) (pos 0) ∷ cubic (pos 8) (negsuc 3) (pos 0) (pos 0) ∷ []))
unfolding first_at legs prev
straight_tried e = differ (pos 4) (negsuc 3) (lit≤ tt) (e.first_agrees 1 (lit≤ tt) (lit≤ tt))

-- (36u - uuu) / 8, then (64 + 24u - 42uu + 7uuu) / 8: the slope is 3 at their waypoint, the second derivative -12/8 and -84/8
jerked_tried : ¬ Exact A (curve 8 (cubic (pos 0) (pos 36) (pos 0) (negsuc 0) ∷ cubic (pos 64) (pos 24) (negsuc 41) (pos 7) ∷ []))
unfolding second_at legs prev
jerked_tried e = differ (negsuc 11) (negsuc 83) (lit≤ tt) (e.second_agrees 1 (lit≤ tt) (lit≤ tt))

-- one cubic all along, (16t - ttt) / 3: it ends with the second derivative -24/3
bent_tried : ¬ Exact A (curve 3 (cubic (pos 0) (pos 16) (pos 0) (negsuc 0) ∷ cubic (pos 24) (pos 4) (negsuc 5) (negsuc 0) ∷ []))
unfolding second_at legs
bent_tried e = differ (negsuc 23) (pos 0) (lit≤ tt) (e.free_end refl)

-- uu: it ends with the slope 8
steep_tried : ¬ Exact held_leg (curve 1 (cubic (pos 0) (pos 0) (pos 1) (pos 0) ∷ []))
unfolding first_at legs
steep_tried e = differ (pos 8) (pos 0) (lit≤ tt) (e.held_end refl)

-- ---- exact splines, by computing
-- what `Exact` asks on the leg i and at its start
abbrev pub OnLeg : Course → Curve → ℕ → Type 0
OnLeg c f i =
    (value_at (f.cubic i) 0 ≡ pos f.denominator *ℤ c.value i)
    × (value_at (f.cubic i) (c.leg i) ≡ pos f.denominator *ℤ c.value (next c i))
    × (prev c i < legs c
    → (first_at (f.cubic (prev c i)) (leg_before c i) ≡ first_at (f.cubic i) 0) × (second_at (f.cubic (prev c i)) (leg_before c i) ≡ second_at (f.cubic i) 0))

-- and at the ends
abbrev pub AtEnds : EndKind → Course → Curve → Type 0
AtEnds Free c f = (second_at (f.cubic 0) 0 ≡ pos 0) × (second_at (f.cubic (legs c - 1)) (c.leg (legs c - 1)) ≡ pos 0)
AtEnds Held c f =
    (first_at (f.cubic 0) 0 ≡ pos f.denominator *ℤ c.start_slope)
    × (first_at (f.cubic (legs c - 1)) (c.leg (legs c - 1)) ≡ pos f.denominator *ℤ c.end_slope)
AtEnds Closed c f = Unit {0}

pub exact_by : (c : Course) (f : Curve) → 1 ≤ f.denominator → Below (legs c) (OnLeg c f) → AtEnds c.ends c f → Exact c f
exact_by c f D1 on atEnds = record {
  positive = D1;
  meets_start = λ i l. (leg i l).0;
  meets_end = λ i l. (leg i l).1;
  first_agrees = λ i p q. ((leg i q).2 p).0;
  second_agrees = λ i p q. ((leg i q).2 p).1;
  free_start = λ q. (of_kind Free q).0;
  free_end = λ q. (of_kind Free q).1;
  held_start = λ q. (of_kind Held q).0;
  held_end = λ q. (of_kind Held q).1;
}
  where
    leg : (i : ℕ) → i < legs c → OnLeg c f i
    leg = below (legs c) (OnLeg c f) on

    of_kind : (e : EndKind) → c.ends ≡ e → AtEnds e c f
    of_kind e q = subst (λ k. AtEnds k c f) q atEnds

-- ---- a course is worked: f is its exact spline, the numbers xs over E solve its rows, and zs are its bend numbers
pub record Worked (c : Course) (f : Curve) (E : ℕ) (xs zs : List ℤ) : Type 0 where
  pub exact : Exact c f
  pub solves : Solves (rows c) E (at xs)
  pub numbers : bends c ≡ zs

abbrev RowHolds : Course → ℕ → (ℕ → ℤ) → ℕ → Type 0
RowHolds c E x i = row_sum ((rows c).row i) (x ((rows c).prev i)) (x i) (x ((rows c).next i)) ≡ pos E *ℤ ((rows c).row i).right

worked_by : {c : Course} {f : Curve} {E : ℕ} {xs zs : List ℤ} → 1 ≤ f.denominator → Below (legs c) (OnLeg c f) → AtEnds c.ends c f
    → Below (rows c).size (RowHolds c E (at xs)) → bends c ≡ zs → Worked c f E xs zs
worked_by {c} {f} {E} {xs} D1 on ends holds numbers = record {
  exact = exact_by c f D1 on ends;
  solves = below (rows c).size (RowHolds c E (at xs)) holds;
  numbers = numbers;
}

-- ---- W1: A
-- 6u - uuu / 2, then 8 - 3uu + uuu / 2
abbrev pub curve_a : Curve
curve_a = curve 2 (cubic (pos 0) (pos 12) (pos 0) (negsuc 0) ∷ cubic (pos 16) (pos 0) (negsuc 5) (pos 1) ∷ [])

pub worked_a : Worked A curve_a 1 (pos 0 ∷ negsuc 0 ∷ pos 0 ∷ []) (pos 0 ∷ negsuc 65_535 ∷ pos 0 ∷ [])
unfolding value_at first_at second_at legs next prev step_after step_before inner_row free_row along row_of rows_by rounded target renewed turn sweep pass passes
worked_a = worked_by (omega arith) ((tt, (refl, refl, λ a. absurd (omega arith))), (refl, refl, λ a. (refl, refl))) (refl, refl) (((tt, refl), refl), refl) refl

-- at tick 1: eleven halves, and the place 6
value_a : value_at (curve_a.cubic 0) 1 ≡ pos 11
unfolding value_at
value_a = refl

position_a : position 2 1 (pos 0) (pos 8) (pos 0) (negsuc 65_535) ≡ pos 6
unfolding numerator position rounded
position_a = refl

-- ---- W4: free, legs 1, 2 through 0, 0, 6
abbrev uneven : Course
uneven = course Free (1 ∷ 2 ∷ []) (pos 0 ∷ pos 0 ∷ pos 6 ∷ []) 3

-- (2uuu - 2u) / 4, then (4u + 6uu - uuu) / 4
abbrev uneven_curve : Curve
uneven_curve = curve 4 (cubic (pos 0) (negsuc 1) (pos 0) (pos 2) ∷ cubic (pos 0) (pos 4) (pos 6) (negsuc 0) ∷ [])

uneven_worked : Worked uneven uneven_curve 2 (pos 0 ∷ pos 1 ∷ pos 0 ∷ []) (pos 0 ∷ pos 32_768 ∷ pos 0 ∷ [])
unfolding value_at first_at second_at legs next prev step_after step_before inner_row free_row along row_of rows_by rounded target renewed turn sweep pass passes
uneven_worked = worked_by (omega arith) ((tt, (refl, refl, λ a. absurd (omega arith))), (refl, refl, λ a. (refl, refl))) (refl, refl) (((tt, refl), refl), refl) refl

-- ---- W5
-- 3uu - uuu / 2
abbrev pub held_curve : Curve
held_curve = curve 2 (cubic (pos 0) (pos 0) (pos 6) (negsuc 0) ∷ [])

held_worked : Worked held_leg held_curve 1 (pos 1 ∷ negsuc 0 ∷ []) (pos 65_536 ∷ negsuc 65_535 ∷ [])
unfolding value_at first_at second_at legs next prev step_after step_before inner_row held_start_row held_end_row along row_of rows_by rounded target renewed turn sweep pass passes
held_worked = worked_by (omega arith) (tt, (refl, refl, λ a. absurd (omega arith))) (refl, refl) ((tt, refl), refl) refl

-- ---- W7: closed, legs 2, 2, 2, 2 through 0, 6, 0, -6
abbrev closed_four : Course
closed_four = course Closed (2 ∷ 2 ∷ 2 ∷ 2 ∷ []) (pos 0 ∷ pos 6 ∷ pos 0 ∷ negsuc 5 ∷ []) 4

closed_legs : legs closed_four ≡ 4
unfolding legs
closed_legs = refl

-- (36u - 3uuu) / 8, (48 - 18uu + 3uuu) / 8, and these two negated
abbrev closed_curve : Curve
closed_curve = curve 8
    (cubic (pos 0) (pos 36) (pos 0) (negsuc 2) ∷ cubic (pos 48) (pos 0) (negsuc 17) (pos 3)
    ∷ cubic (pos 0) (negsuc 35) (pos 0) (pos 3) ∷ cubic (negsuc 47) (pos 0) (pos 18) (negsuc 2) ∷ [])

closed_worked : Worked closed_four closed_curve 4 (pos 0 ∷ negsuc 2 ∷ pos 0 ∷ pos 3 ∷ []) (pos 0 ∷ negsuc 49_151 ∷ pos 0 ∷ pos 49_152 ∷ [])
unfolding value_at first_at second_at legs next prev step_after step_before inner_row row_of rows_by rounded target renewed turn sweep pass passes
closed_worked = worked_by (omega arith)
    ((((tt, (refl, refl, λ a. (refl, refl))), (refl, refl, λ a. (refl, refl))), (refl, refl, λ a. (refl, refl))), (refl, refl, λ a. (refl, refl))) tt
    ((((tt, refl), refl), refl), refl) refl

-- ---- free, legs 256, 256 through 0, 1, 0: the middle bend number would be -1/2, and is rounded to -1
abbrev pub flat : Course
flat = course Free (256 ∷ 256 ∷ []) (pos 0 ∷ pos 1 ∷ pos 0 ∷ []) 3

-- (196,608 u - uuu) / 33,554,432, then 1 - (768 uu - uuu) / 33,554,432
abbrev pub flat_curve : Curve
flat_curve = curve 33_554_432 (cubic (pos 0) (pos 196_608) (pos 0) (negsuc 0) ∷ cubic (pos 33_554_432) (pos 0) (negsuc 767) (pos 1) ∷ [])

flat_worked : Worked flat flat_curve 131_072 (pos 0 ∷ negsuc 0 ∷ pos 0 ∷ []) (pos 0 ∷ negsuc 0 ∷ pos 0 ∷ [])
unfolding value_at first_at second_at legs next prev step_after step_before inner_row free_row along row_of rows_by rounded target renewed turn sweep pass passes
flat_worked = worked_by (omega arith) ((tt, (refl, refl, λ a. absurd (omega arith))), (refl, refl, λ a. (refl, refl))) (refl, refl) (((tt, refl), refl), refl) refl
