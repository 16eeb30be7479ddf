-- Any two exact splines of a course are the same curve (C4): the bends of both solve the rows, which have one solution, and a leg's cubic is given by its
-- bends.
use mathlib.Core.Path.{◌≡◌}
use mathlib.Core.List.{[], ◌∷◌}
use Prim.Native.Nat.{ℕ, ◌*◌, ◌≤◌, ◌<◌}
use native.Mathlib.Omega.{arith}
use lib.IntN.{ℤ, pos, ◌*ℤ◌}
use Rattle.integers.proofs.Ring.{◌⊕◌, ◌⊖◌, ◌⊗◌, ⊝◌, #◌}
use Rattle.integers.proofs.Linear.{◌≐◌, ◌⊢◌times◌by◌, ◌⊢◌≗◌with◌, hyp, low, lin, cancel_eq}
use Rattle.integers.proofs.Order.{pos_lt}
use Rattle.systems.proofs.Size.{unique}
use Rattle.spline.specs.Spline.{Course, InBounds, next, Cubic, Curve, Exact, SameCubic, SameCurve, bend6, rows, rows_by}
use Rattle.spline.specs.Theorems.{OneCurve}
use Rattle.spline.proofs.Waypoints.{next_lt, counts}
use Rattle.spline.proofs.RowBounds.{rows_dominant}
use Rattle.spline.proofs.Legs.{Leg, Coefficients, coefficients, exact_legs}
use Rattle.spline.proofs.RowsFollow.{rows_follow}

-- two cubics of one leg that meet the same waypoints, and whose second derivatives at its ends agree as fractions
cubics_same : {D E h : ℕ} {v w x y x' y' : ℤ} {k l : Cubic} → Leg D h v w x y k → Leg E h v w x' y' l → 1 ≤ h
    → pos E *ℤ x ≡ pos D *ℤ x' → pos E *ℤ y ≡ pos D *ℤ y' → SameCubic D k E l
cubics_same {D} {E} {h} {v} {w} {x} {y} {x'} {y'} {k} {l} a b h1 p q = record {
  same0 = lin 5 (λ D E v k0 l0. k0 ≐ D ⊗ v ∷ l0 ≐ E ⊗ v ∷ [] ⊢ E ⊗ k0 ≗ D ⊗ l0 with E ∷ ⊝ D ∷ []) tt
      (pos D) (pos E) v k.c0 l.c0 ka.zeroth lb.zeroth;
  same1 = cancelled (6 * h) (omega arith) k.c1 l.c1
      (lin 11 (λ D E h v w x y x' y' k1 l1.
      # 6 ⊗ h ⊗ k1 ≐ # 6 ⊗ D ⊗ (w ⊖ v) ⊖ h ⊗ h ⊗ (# 2 ⊗ x ⊕ y)
      ∷ # 6 ⊗ h ⊗ l1 ≐ # 6 ⊗ E ⊗ (w ⊖ v) ⊖ h ⊗ h ⊗ (# 2 ⊗ x' ⊕ y') ∷ E ⊗ x ≐ D ⊗ x' ∷ E ⊗ y ≐ D ⊗ y' ∷ []
      ⊢ # 6 ⊗ h ⊗ (E ⊗ k1) ≗ # 6 ⊗ h ⊗ (D ⊗ l1) with E ∷ ⊝ D ∷ ⊝ (# 2 ⊗ h ⊗ h) ∷ ⊝ (h ⊗ h) ∷ []) tt
      (pos D) (pos E) (pos h) v w x y x' y' k.c1 l.c1 ka.first lb.first p q);
  same2 = cancelled 2 (omega arith) k.c2 l.c2
      (lin 6 (λ D E x x' k2 l2. # 2 ⊗ k2 ≐ x ∷ # 2 ⊗ l2 ≐ x' ∷ E ⊗ x ≐ D ⊗ x' ∷ [] ⊢ # 2 ⊗ (E ⊗ k2) ≗ # 2 ⊗ (D ⊗ l2) with E ∷ ⊝ D ∷ # 1 ∷ []) tt
      (pos D) (pos E) x x' k.c2 l.c2 ka.second lb.second p);
  same3 = cancelled (6 * h) (omega arith) k.c3 l.c3
      (lin 9 (λ D E h x y x' y' k3 l3. # 6 ⊗ h ⊗ k3 ≐ y ⊖ x ∷ # 6 ⊗ h ⊗ l3 ≐ y' ⊖ x' ∷ E ⊗ x ≐ D ⊗ x' ∷ E ⊗ y ≐ D ⊗ y' ∷ []
      ⊢ # 6 ⊗ h ⊗ (E ⊗ k3) ≗ # 6 ⊗ h ⊗ (D ⊗ l3) with E ∷ ⊝ D ∷ ⊝ # 1 ∷ # 1 ∷ []) tt
      (pos D) (pos E) (pos h) x y x' y' k.c3 l.c3 ka.third lb.third p q);
}
  where
    ka : Coefficients D h v w x y k
    ka = coefficients a

    lb : Coefficients E h v w x' y' l
    lb = coefficients b

    cancelled : (n : ℕ) → 1 ≤ n → (c c' : ℤ) → pos n *ℤ (pos E *ℤ c) ≡ pos n *ℤ (pos D *ℤ c') → pos E *ℤ c ≡ pos D *ℤ c'
    cancelled n n1 c c' = cancel_eq (pos n) (pos E *ℤ c) (pos D *ℤ c') (pos_lt n n1)

module _ {c : Course} (bounds : InBounds c) {a b : Curve} (p : Exact c a) (q : Exact c b) where
  bends_same : (i : ℕ) → i < c.points → pos b.denominator *ℤ bend6 c a i ≡ pos a.denominator *ℤ bend6 c b i
  unfolding rows_by
  bends_same i l =
      lin 4 (λ D E x y. # 6 ⊗ E ⊗ x ≐ # 6 ⊗ D ⊗ y ∷ [] ⊢ E ⊗ x ≐ D ⊗ y times 5 by hyp 0 ∷ low 0 ∷ []) tt
      (pos a.denominator) (pos b.denominator) (bend6 c a i) (bend6 c b i)
      (unique 2 (rows c) (rows_dominant bounds 2 1 (omega arith)) (6 * a.denominator) (6 * b.denominator) (bend6 c a) (bend6 c b)
      (rows_follow c bounds a p) (rows_follow c bounds b q) i l)

pub one_curve : OneCurve
unfolding SameCurve
one_curve c bounds a b p q i l =
    let n : i < c.points = omega (arith, counts bounds) in
    cubics_same ((exact_legs p bounds).leg i l) ((exact_legs q bounds).leg i l) (bounds.leg i l).0
    (bends_same bounds p q i n) (bends_same bounds p q (next c i) (next_lt c i n))
