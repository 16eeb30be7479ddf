-- A leg's cubic is given by its ends and by its second derivatives there: the four conditions fix the four coefficients.
use mathlib.Core.Path.{◌≡◌, refl, sym, ◌∙◌, subst}
use mathlib.Core.List.{[], ◌∷◌}
use Prim.Native.Nat.{ℕ, ◌≤◌, ◌<◌}
use native.Mathlib.Omega.{arith}
use lib.Dec.{ltb, ltb→lt, nltb→le}
use lib.IntN.{ℤ, pos, ◌+ℤ◌, ◌-ℤ◌, ◌*ℤ◌}
use Rattle.integers.proofs.Ring.{◌⊕◌, ◌⊖◌, ◌⊗◌, ⊝◌, #◌, ◌≋◌, solve}
use Rattle.integers.proofs.Linear.{◌≐◌, ◌⊢◌≗◌with◌, lin}
use Rattle.integers.proofs.Order.{by_test}
use Rattle.spline.specs.Spline.{Course, InBounds, legs, next, prev, leg_before, Cubic, Curve, value_at, first_at, second_at, Exact, bend6}
use Rattle.spline.proofs.Waypoints.{prev_next, next_prev, counts}

-- ---- at the offset 0
module _ (k : Cubic) where
  pub value_at_start : value_at k 0 ≡ k.c0
  unfolding value_at
  value_at_start = solve 4 (λ c0 c1 c2 c3. c0 ⊕ c1 ⊗ # 0 ⊕ c2 ⊗ # 0 ⊗ # 0 ⊕ c3 ⊗ # 0 ⊗ # 0 ⊗ # 0 ≋ c0) tt k.c0 k.c1 k.c2 k.c3

  first_at_start : first_at k 0 ≡ k.c1
  unfolding first_at
  first_at_start = solve 3 (λ c1 c2 c3. c1 ⊕ # 2 ⊗ c2 ⊗ # 0 ⊕ # 3 ⊗ c3 ⊗ # 0 ⊗ # 0 ≋ c1) tt k.c1 k.c2 k.c3

  pub second_at_start : second_at k 0 ≡ pos 2 *ℤ k.c2
  unfolding second_at
  second_at_start = solve 2 (λ c2 c3. # 2 ⊗ c2 ⊕ # 6 ⊗ c3 ⊗ # 0 ≋ # 2 ⊗ c2) tt k.c2 k.c3

-- ---- one leg of h ticks: the cubic k over D meets v and w at its ends, where its second derivative, times D, is x and y
pub record Leg (D h : ℕ) (v w x y : ℤ) (k : Cubic) : Type 0 where
  pub meets_start : value_at k 0 ≡ pos D *ℤ v
  pub meets_end : value_at k h ≡ pos D *ℤ w
  pub second_start : second_at k 0 ≡ x
  pub second_end : second_at k h ≡ y

-- the coefficients that follow
pub record Coefficients (D h : ℕ) (v w x y : ℤ) (k : Cubic) : Type 0 where
  pub zeroth : k.c0 ≡ pos D *ℤ v
  pub first : pos 6 *ℤ pos h *ℤ k.c1 ≡ pos 6 *ℤ pos D *ℤ (w -ℤ v) -ℤ pos h *ℤ pos h *ℤ (pos 2 *ℤ x +ℤ y)
  pub second : pos 2 *ℤ k.c2 ≡ x
  pub third : pos 6 *ℤ pos h *ℤ k.c3 ≡ y -ℤ x

module _ {D h : ℕ} {v w x y : ℤ} {k : Cubic} (leg : Leg D h v w x y k) where
  pub coefficients : Coefficients D h v w x y k
  unfolding value_at second_at
  coefficients = record {
    zeroth = c0_is;
    first = lin 10 (λ D h v w x y c0 c1 c2 c3.
        c0 ≐ D ⊗ v ∷ c0 ⊕ c1 ⊗ h ⊕ c2 ⊗ h ⊗ h ⊕ c3 ⊗ h ⊗ h ⊗ h ≐ D ⊗ w ∷ # 2 ⊗ c2 ≐ x ∷ # 2 ⊗ c2 ⊕ # 6 ⊗ c3 ⊗ h ≐ y ∷ []
        ⊢ # 6 ⊗ h ⊗ c1 ≗ # 6 ⊗ D ⊗ (w ⊖ v) ⊖ h ⊗ h ⊗ (# 2 ⊗ x ⊕ y) with ⊝ # 6 ∷ # 6 ∷ ⊝ (# 2 ⊗ h ⊗ h) ∷ ⊝ (h ⊗ h) ∷ []) tt
        (pos D) (pos h) v w x y k.c0 k.c1 k.c2 k.c3 c0_is leg.meets_end c2_is leg.second_end;
    second = c2_is;
    third = lin 5 (λ h x y c2 c3. # 2 ⊗ c2 ≐ x ∷ # 2 ⊗ c2 ⊕ # 6 ⊗ c3 ⊗ h ≐ y ∷ [] ⊢ # 6 ⊗ h ⊗ c3 ≗ y ⊖ x with ⊝ # 1 ∷ # 1 ∷ []) tt
        (pos h) x y k.c2 k.c3 c2_is leg.second_end;
  }
    where
      c0_is : k.c0 ≡ pos D *ℤ v
      c0_is = sym (value_at_start k) ∙ leg.meets_start

      c2_is : pos 2 *ℤ k.c2 ≡ x
      c2_is = sym (second_at_start k) ∙ leg.second_start

  -- the first derivative at the leg's start and end
  pub first_start : pos 6 *ℤ pos h *ℤ first_at k 0 ≡ pos 6 *ℤ pos D *ℤ (w -ℤ v) -ℤ pos h *ℤ pos h *ℤ (pos 2 *ℤ x +ℤ y)
  first_start = rw (first_at_start k) coefficients.first

  pub first_end : pos 6 *ℤ pos h *ℤ first_at k h ≡ pos 6 *ℤ pos D *ℤ (w -ℤ v) +ℤ pos h *ℤ pos h *ℤ (x +ℤ pos 2 *ℤ y)
  unfolding first_at
  first_end = lin 9 (λ D h v w x y c1 c2 c3. # 6 ⊗ h ⊗ c1 ≐ # 6 ⊗ D ⊗ (w ⊖ v) ⊖ h ⊗ h ⊗ (# 2 ⊗ x ⊕ y) ∷ # 2 ⊗ c2 ≐ x ∷ # 6 ⊗ h ⊗ c3 ≐ y ⊖ x ∷ []
      ⊢ # 6 ⊗ h ⊗ (c1 ⊕ # 2 ⊗ c2 ⊗ h ⊕ # 3 ⊗ c3 ⊗ h ⊗ h) ≗ # 6 ⊗ D ⊗ (w ⊖ v) ⊕ h ⊗ h ⊗ (x ⊕ # 2 ⊗ y) with # 1 ∷ # 6 ⊗ h ⊗ h ∷ # 3 ⊗ h ⊗ h ∷ []) tt
      (pos D) (pos h) v w x y k.c1 k.c2 k.c3 coefficients.first coefficients.second coefficients.third

-- ---- all legs of a course: the curve f meets all waypoints, and its second derivative at the waypoint i, times D, is x(i), on the leg that ends there and on
-- the leg that starts there
pub record Legs (c : Course) (f : Curve) (x : ℕ → ℤ) : Type 0 where
  pub leg : (i : ℕ) → i < legs c → Leg f.denominator (c.leg i) (c.value i) (c.value (next c i)) (x i) (x (next c i)) (f.cubic i)

-- the leg before the waypoint i
pub leg_before_lem : {c : Course} {f : Curve} {x : ℕ → ℤ} → Legs c f x → (i : ℕ) → i < c.points → prev c i < legs c
    → Leg f.denominator (leg_before c i) (c.value (prev c i)) (c.value i) (x (prev c i)) (x i) (f.cubic (prev c i))
leg_before_lem {c} {f} {x} all i n l =
    subst (λ (j : ℕ). Leg f.denominator (leg_before c i) (c.value (prev c i)) (c.value j) (x (prev c i)) (x j) (f.cubic (prev c i)))
    (next_prev c i n) (all.leg (prev c i) l)

-- ---- an exact spline's second derivatives at the waypoints are its bends
bend_cases : (c : Course) (f : Curve) (i : ℕ) (P : ℤ → Type 0)
    → (i < legs c → P (second_at (f.cubic i) 0)) → (legs c ≤ i → P (second_at (f.cubic (prev c i)) (leg_before c i))) → P (bend6 c f i)
unfolding bend6
bend_cases c f i P after before =
    by_test (ltb i (legs c)) (second_at (f.cubic i) 0) (second_at (f.cubic (prev c i)) (leg_before c i)) P
    (λ t. after (ltb→lt i (legs c) t)) (λ t. before (nltb→le i (legs c) t))

module _ {c : Course} {f : Curve} (exact : Exact c f) where
  second_after : (i : ℕ) → i < legs c → second_at (f.cubic i) 0 ≡ bend6 c f i
  second_after i l = bend_cases c f i (λ b. second_at (f.cubic i) 0 ≡ b) (λ a. refl) (λ a. absurd (omega arith))

  second_before : (i : ℕ) → prev c i < legs c → second_at (f.cubic (prev c i)) (leg_before c i) ≡ bend6 c f i
  second_before i l = bend_cases c f i (λ b. second_at (f.cubic (prev c i)) (leg_before c i) ≡ b) (exact.second_agrees i l) (λ a. refl)

  pub exact_legs : InBounds c → Legs c f (bend6 c f)
  exact_legs bounds = record {
    leg = λ i l. let back : prev c (next c i) ≡ i = prev_next c i (omega (arith, counts bounds)) in record {
      meets_start = exact.meets_start i l;
      meets_end = exact.meets_end i l;
      second_start = second_after i l;
      second_end = subst (λ (j : ℕ). second_at (f.cubic j) (c.leg j) ≡ bend6 c f (next c i)) back (second_before (next c i) (rw back l));
    };
  }
