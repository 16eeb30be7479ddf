-- A row is off by a factor times the jump of what the exact spline asks of its waypoint. So the rows follow from the properties (E5), and the properties
-- from the rows (Existence).
use mathlib.Core.Path.{◌≡◌, sym, ◌∙◌, subst}
use mathlib.Core.List.{[], ◌∷◌}
use Prim.Native.Nat.{ℕ, ◌*◌, ◌-◌, ◌≤◌, ◌<◌}
use native.Mathlib.Omega.{arith}
use native.Mathlib.Nat.{mul-pos}
use lib.IntN.{ℤ, pos, ◌+ℤ◌, ◌-ℤ◌, ◌*ℤ◌}
use Rattle.integers.proofs.Ring.{◌⊕◌, ◌⊖◌, ◌⊗◌, ⊝◌, #◌}
use Rattle.integers.proofs.Linear.{◌≐◌, ◌⊢◌≗◌with◌, lin, cancel_eq}
use Rattle.integers.proofs.Order.{pos_lt}
use Rattle.systems.specs.Rows.{Row, row_sum, Solves}
use Rattle.spline.specs.Spline.{Course, InBounds, legs, next, prev, leg_before, step_after, step_before, Cubic, Curve, first_at, second_at, Exact}
use Rattle.spline.specs.Spline.{inner_row, free_row, held_start_row, held_end_row, rows, rows_by}
use Rattle.spline.specs.Theorems.{RowsFollow}
use Rattle.spline.proofs.Waypoints.{counts}
use Rattle.spline.proofs.Seats.{last_point, Seat, seat, seat_row, shared, free_start, free_end, held_start, held_end}
use Rattle.spline.proofs.Legs.{Leg, Legs, leg_before_lem, exact_legs, first_start, first_end}

-- the two numbers that an exact spline asks to be equal at a waypoint
abbrev asked : {c : Course} (f : Curve) {i : ℕ} {r : Row} → Seat 2 1 c i r → ℤ × ℤ
asked {c} f (shared i p q) = (first_at (f.cubic (prev c i)) (leg_before c i), first_at (f.cubic i) 0)
asked {c} f (free_start q) = (second_at (f.cubic 0) 0, pos 0)
asked {c} f (free_end q) = (second_at (f.cubic (legs c - 1)) (c.leg (legs c - 1)), pos 0)
asked {c} f (held_start q) = (pos f.denominator *ℤ c.start_slope, first_at (f.cubic 0) 0)
asked {c} f (held_end q) = (first_at (f.cubic (legs c - 1)) (c.leg (legs c - 1)), pos f.denominator *ℤ c.end_slope)

-- the row r at x, y, z, its right side taken m times, is off by a positive factor times a - b
record Off (r : Row) (m : ℕ) (x y z a b : ℤ) : Type 0 where
  factor : ℕ
  positive : 1 ≤ factor
  off : row_sum r x y z ≡ pos m *ℤ r.right +ℤ pos factor *ℤ (a -ℤ b)

module _ {r : Row} {m : ℕ} {x y z a b : ℤ} (o : Off r m x y z a b) where
  holds : a ≡ b → row_sum r x y z ≡ pos m *ℤ r.right
  holds e = lin 5 (λ S R f a b. S ≐ R ⊕ f ⊗ (a ⊖ b) ∷ a ≐ b ∷ [] ⊢ S ≗ R with # 1 ∷ f ∷ []) tt
      (row_sum r x y z) (pos m *ℤ r.right) (pos o.factor) a b o.off e

  agrees : row_sum r x y z ≡ pos m *ℤ r.right → a ≡ b
  agrees e =
      cancel_eq (pos o.factor) a b (pos_lt o.factor o.positive)
      (lin 5 (λ S R f a b. S ≐ R ⊕ f ⊗ (a ⊖ b) ∷ S ≐ R ∷ [] ⊢ f ⊗ a ≗ f ⊗ b with ⊝ # 1 ∷ # 1 ∷ []) tt
      (row_sum r x y z) (pos m *ℤ r.right) (pos o.factor) a b o.off e)

-- ---- each row, by the first derivatives of its legs. The second derivatives, times D, are x, y and z at the waypoint before, here, and at the one after.
inner_off : {D g h : ℕ} {u v w x y z : ℤ} {k l : Cubic} → Leg D g u v x y k → Leg D h v w y z l → 1 ≤ g → 1 ≤ h
    → Off (inner_row 2 1 g h (w -ℤ v) (v -ℤ u)) (6 * D) x y z (first_at k g) (first_at l 0)
unfolding inner_row
inner_off {D} {g} {h} {u} {v} {w} {x} {y} {z} {k} {l} before after g1 h1 = record {
  factor = 6 * g * h;
  positive = omega (arith, mul-pos g1 h1);
  off = lin 10 (λ g h D d e x y z a b. # 6 ⊗ g ⊗ a ≐ # 6 ⊗ D ⊗ e ⊕ g ⊗ g ⊗ (x ⊕ # 2 ⊗ y) ∷ # 6 ⊗ h ⊗ b ≐ # 6 ⊗ D ⊗ d ⊖ h ⊗ h ⊗ (# 2 ⊗ y ⊕ z) ∷ []
      ⊢ g ⊗ g ⊗ h ⊗ x ⊕ # 2 ⊗ g ⊗ h ⊗ (g ⊕ h) ⊗ y ⊕ g ⊗ h ⊗ h ⊗ z ≗ # 6 ⊗ D ⊗ (# 1 ⊗ (g ⊗ d ⊖ h ⊗ e)) ⊕ # 6 ⊗ g ⊗ h ⊗ (a ⊖ b) with ⊝ h ∷ g ∷ []) tt
      (pos g) (pos h) (pos D) (w -ℤ v) (v -ℤ u) x y z (first_at k g) (first_at l 0) (first_end before) (first_start after);
}

held_start_off : {D h : ℕ} {v w y z : ℤ} {k : Cubic} → Leg D h v w y z k → 1 ≤ h → (x p : ℤ)
    → Off (held_start_row 2 1 h (w -ℤ v) p) (6 * D) x y z (pos D *ℤ p) (first_at k 0)
unfolding held_start_row
held_start_off {D} {h} {v} {w} {y} {z} {k} after h1 x p = record {
  factor = 6 * h;
  positive = omega arith;
  off = lin 8 (λ h D d p x y z b. # 6 ⊗ h ⊗ b ≐ # 6 ⊗ D ⊗ d ⊖ h ⊗ h ⊗ (# 2 ⊗ y ⊕ z) ∷ []
      ⊢ # 0 ⊗ x ⊕ # 2 ⊗ h ⊗ h ⊗ y ⊕ h ⊗ h ⊗ z ≗ # 6 ⊗ D ⊗ (# 1 ⊗ (d ⊖ h ⊗ p)) ⊕ # 6 ⊗ h ⊗ (D ⊗ p ⊖ b) with # 1 ∷ []) tt
      (pos h) (pos D) (w -ℤ v) p x y z (first_at k 0) (first_start after);
}

held_end_off : {D g : ℕ} {u v x y : ℤ} {k : Cubic} → Leg D g u v x y k → 1 ≤ g → (z p : ℤ)
    → Off (held_end_row 2 1 g (v -ℤ u) p) (6 * D) x y z (first_at k g) (pos D *ℤ p)
unfolding held_end_row
held_end_off {D} {g} {u} {v} {x} {y} {k} before g1 z p = record {
  factor = 6 * g;
  positive = omega arith;
  off = lin 8 (λ g D e p x y z a. # 6 ⊗ g ⊗ a ≐ # 6 ⊗ D ⊗ e ⊕ g ⊗ g ⊗ (x ⊕ # 2 ⊗ y) ∷ []
      ⊢ g ⊗ g ⊗ x ⊕ # 2 ⊗ g ⊗ g ⊗ y ⊕ # 0 ⊗ z ≗ # 6 ⊗ D ⊗ (# 1 ⊗ (g ⊗ p ⊖ e)) ⊕ # 6 ⊗ g ⊗ (a ⊖ D ⊗ p) with ⊝ # 1 ∷ []) tt
      (pos g) (pos D) (v -ℤ u) p x y z (first_at k g) (first_end before);
}

free_off : {a y : ℤ} → a ≡ y → (m : ℕ) (x z : ℤ) → Off free_row m x y z a (pos 0)
unfolding free_row
free_off {a} {y} e m x z = record {
  factor = 1;
  positive = omega arith;
  off = lin 5 (λ m x y z a. a ≐ y ∷ [] ⊢ # 0 ⊗ x ⊕ # 1 ⊗ y ⊕ # 0 ⊗ z ≗ m ⊗ # 0 ⊕ # 1 ⊗ (a ⊖ # 0) with ⊝ # 1 ∷ []) tt (pos m) x y z a e;
}

module _ {c : Course} (bounds : InBounds c) {f : Curve} {x : ℕ → ℤ} (all : Legs c f x) where
  first : 0 < legs c
  first = omega (arith, counts bounds)

  last : legs c - 1 < legs c
  last = omega (arith, counts bounds)

  row_off : {i : ℕ} {r : Row} → i < c.points → (t : Seat 2 1 c i r)
      → Off r (6 * f.denominator) (x (prev c i)) (x i) (x (next c i)) (asked f t).0 (asked f t).1
  unfolding step_before step_after prev
  row_off l (shared i p q) = inner_off (leg_before_lem all i l p) (all.leg i q) (bounds.leg (prev c i) p).0 (bounds.leg i q).0
  row_off l (free_start q) = free_off (all.leg 0 first).second_start _ _ _
  row_off l (free_end q) = free_off (leg_before_lem all (last_point c) l last).second_end _ _ _
  row_off l (held_start q) = held_start_off (all.leg 0 first) (bounds.leg 0 first).0 _ _
  row_off l (held_end q) = held_end_off (leg_before_lem all (last_point c) l last) (bounds.leg (legs c - 1) last).0 _ _

-- ---- both ways
exact_agrees : {c : Course} {f : Curve} → Exact c f → {i : ℕ} {r : Row} (t : Seat 2 1 c i r) → (asked f t).0 ≡ (asked f t).1
exact_agrees exact (shared i p q) = exact.first_agrees i p q
exact_agrees exact (free_start q) = exact.free_start q
exact_agrees exact (free_end q) = exact.free_end q
exact_agrees exact (held_start q) = sym (exact.held_start q)
exact_agrees exact (held_end q) = exact.held_end q

pub rows_follow : RowsFollow
unfolding rows_by
rows_follow c bounds f exact i l = let t = seat 2 1 bounds i l in holds (row_off bounds (exact_legs exact bounds) l t) (exact_agrees exact t)

-- a curve that meets all waypoints and whose second derivatives solve the rows is exact
pub exact_of_rows : {c : Course} → InBounds c → {f : Curve} {x : ℕ → ℤ} → 1 ≤ f.denominator → Legs c f x
    → Solves (rows c) (6 * f.denominator) x → Exact c f
unfolding rows_by
exact_of_rows {c} bounds {f} {x} D1 all solves = record {
  positive = D1;
  meets_start = λ i l. (all.leg i l).meets_start;
  meets_end = λ i l. (all.leg i l).meets_end;
  first_agrees = λ i p q. met (shared i p q);
  second_agrees = λ i p q. (leg_before_lem all i (omega (arith, counts bounds)) p).second_end ∙ sym (all.leg i q).second_start;
  free_start = λ q. met (free_start q);
  free_end = λ q. met (free_end q);
  held_start = λ q. sym (met (held_start q));
  held_end = λ q. met (held_end q);
}
  where
    met : {i : ℕ} {r : Row} (t : Seat 2 1 c i r) → (asked f t).0 ≡ (asked f t).1
    met {i} t =
        let (l, e) = seat_row 2 1 bounds t in
        agrees (row_off bounds all l t) (subst (λ r. row_sum r (x (prev c i)) (x i) (x (next c i)) ≡ pos (6 * f.denominator) *ℤ r.right) e (solves i l))
