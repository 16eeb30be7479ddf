-- The exact spline exists (C4). The rows have a solution y over some E. With H, the product of all legs, the legs' cubics have whole coefficients over E × H,
-- and their second derivatives at the waypoints are 6 × H × y.
use mathlib.Core.Path.{◌≡◌, ◌∙◌, ap}
use mathlib.Core.List.{[], ◌∷◌}
use Prim.Native.Nat.{ℕ, ◌*◌, ◌/◌, ◌≤◌, ◌<◌}
use native.Mathlib.Omega.{arith}
use native.Mathlib.Nat.{mul-pos, mul-div_right}
use lib.IntN.{ℤ, pos, ◌+ℤ◌, ◌-ℤ◌, ◌*ℤ◌}
use Rattle.integers.proofs.Ring.{◌⊕◌, ◌⊖◌, ◌⊗◌, #◌, ◌≋◌, solve}
use Rattle.integers.proofs.Linear.{◌≐◌, ◌⊢◌≗◌with◌, lin}
use Rattle.integers.proofs.Products.{product, product_pos, divides_product}
use Rattle.systems.specs.Rows.{Rows, Solves, Solution}
use Rattle.systems.proofs.Existence.{solvable}
use Rattle.spline.specs.Spline.{legs, next, Cubic, Curve, value_at, second_at, rows}
use Rattle.spline.specs.Theorems.{SplineExists}
use Rattle.spline.proofs.Legs.{value_at_start, second_at_start, Leg, Legs}
use Rattle.spline.proofs.RowBounds.{rows_dominant}
use Rattle.spline.proofs.RowsFollow.{exact_of_rows}

-- the cubic of a leg of h ticks from v to w with the bends y and z over E, where h × m = H
cubic_by : (E H h m : ℕ) (v w y z : ℤ) → Cubic
cubic_by E H h m v w y z = record {
  c0 = pos E *ℤ pos H *ℤ v;
  c1 = pos E *ℤ pos m *ℤ (w -ℤ v) -ℤ pos H *ℤ pos h *ℤ (z +ℤ pos 2 *ℤ y);
  c2 = pos 3 *ℤ pos H *ℤ y;
  c3 = pos m *ℤ (z -ℤ y);
}

leg_by : (E H h m : ℕ) (v w y z : ℤ) → h * m ≡ H → Leg (E * H) h v w (pos 6 *ℤ pos H *ℤ y) (pos 6 *ℤ pos H *ℤ z) (cubic_by E H h m v w y z)
unfolding cubic_by value_at second_at
leg_by E H h m v w y z e = record {
  meets_start = value_at_start (cubic_by E H h m v w y z);
  meets_end = lin 8 (λ E H h m v w y z. h ⊗ m ≐ H ∷ []
      ⊢ E ⊗ H ⊗ v ⊕ (E ⊗ m ⊗ (w ⊖ v) ⊖ H ⊗ h ⊗ (z ⊕ # 2 ⊗ y)) ⊗ h ⊕ # 3 ⊗ H ⊗ y ⊗ h ⊗ h ⊕ m ⊗ (z ⊖ y) ⊗ h ⊗ h ⊗ h ≗ E ⊗ H ⊗ w
      with E ⊗ (w ⊖ v) ⊕ h ⊗ h ⊗ (z ⊖ y) ∷ []) tt (pos E) (pos H) (pos h) (pos m) v w y z (ap pos e);
  second_start = second_at_start (cubic_by E H h m v w y z) ∙ solve 2 (λ H y. # 2 ⊗ (# 3 ⊗ H ⊗ y) ≋ # 6 ⊗ H ⊗ y) tt (pos H) y;
  second_end = lin 5 (λ H h m y z. h ⊗ m ≐ H ∷ [] ⊢ # 2 ⊗ (# 3 ⊗ H ⊗ y) ⊕ # 6 ⊗ (m ⊗ (z ⊖ y)) ⊗ h ≗ # 6 ⊗ H ⊗ z with # 6 ⊗ (z ⊖ y) ∷ []) tt
      (pos H) (pos h) (pos m) y z (ap pos e);
}

-- a solution times 6 × H
scaled_solves : (R : Rows) (E H : ℕ) (y : ℕ → ℤ) → Solves R E y → Solves R (6 * (E * H)) (λ i. pos 6 *ℤ pos H *ℤ y i)
scaled_solves R E H y solves i l =
    lin 9 (λ b m a r E H x y z. b ⊗ x ⊕ m ⊗ y ⊕ a ⊗ z ≐ E ⊗ r ∷ []
    ⊢ b ⊗ (# 6 ⊗ H ⊗ x) ⊕ m ⊗ (# 6 ⊗ H ⊗ y) ⊕ a ⊗ (# 6 ⊗ H ⊗ z) ≗ # 6 ⊗ (E ⊗ H) ⊗ r with # 6 ⊗ H ∷ []) tt
    (pos (R.row i).before) (pos (R.row i).middle) (pos (R.row i).after) (R.row i).right (pos E) (pos H)
    (y (R.prev i)) (y i) (y (R.next i)) (solves i l)

-- the product of the first n, divided by one of them, times that one
whole_quotient : (f : ℕ → ℕ) (n i : ℕ) → 1 ≤ f i → i < n → f i * (product f n / f i) ≡ product f n
whole_quotient f n i f1 l = let (rest, e) = divides_product f n i l in rw (← e, mul-div_right rest f1)

pub spline_exists : SplineExists
spline_exists c bounds = record {
  curve = curve;
  exact = exact_of_rows bounds (mul-pos y.positive H1) all (scaled_solves (rows c) y.denominator H y.unknown y.solves);
}
  where
    y : Solution (rows c)
    y = solvable 2 (rows c) (rows_dominant bounds 2 1 (omega arith))

    H : ℕ
    H = product c.leg (legs c)

    H1 : 1 ≤ H
    H1 = product_pos c.leg (legs c) (λ i l. (bounds.leg i l).0)

    curve : Curve
    curve = record {
      denominator = y.denominator * H;
      cubic = λ i. cubic_by y.denominator H (c.leg i) (H / c.leg i) (c.value i) (c.value (next c i)) (y.unknown i) (y.unknown (next c i));
    }

    all : Legs c curve (λ i. pos 6 *ℤ pos H *ℤ y.unknown i)
    all = record {
      leg = λ i l. leg_by y.denominator H (c.leg i) (H / c.leg i) (c.value i) (c.value (next c i)) (y.unknown i) (y.unknown (next c i))
          (whole_quotient c.leg (legs c) i (bounds.leg i l).0 l);
    }
