-- How far a position is from the exact spline. With u of a leg's h ticks gone, what the two bend numbers are off weighs 3h × u(h - u) in all, over
-- 6 × 65,536 × h, and 4u(h - u) is at most h × h; the rounding adds a half.
use mathlib.Core.Path.{◌≡◌}
use mathlib.Core.List.{[], ◌∷◌}
use Prim.Native.Nat.{ℕ, ◌+◌, ◌*◌, ◌≤◌}
use native.Mathlib.Omega.{arith}
use native.Mathlib.Nat.{le_of_mul-le-mul_left}
use lib.IntN.{ℤ, pos, nat_abs, ◌+ℤ◌, ◌-ℤ◌, ◌*ℤ◌}
use lib.Signed.{◌≤ℤ◌}
use Rattle.integers.proofs.Ring.{◌⊕◌, ◌⊖◌, ◌⊗◌, ⊝◌, #◌}
use Rattle.integers.proofs.Order.{abs_mul, le_pos, pos_le, nonneg}
use Rattle.integers.proofs.Linear.{◌≐◌, ◌≼◌, ∣◌∣≼◌, ◌⊢◌by◌, ◌⊢◌≗◌with◌, hyp, low, sq, nat, ◌⊡◌, ◌⊞◌, ◌⊠◌, lin}
use Rattle.rounding.proofs.Laws.{rounded_near}
use Rattle.spline.specs.Spline.{Cubic, value_at}
use Rattle.spline.specs.Position.{numerator, position}
use Rattle.spline.specs.Theorems.{PositionSharp}
use Rattle.spline.proofs.Legs.{Leg, coefficients, exact_legs}

-- k × |z| ≤ n, said in ℤ
scaled : (k n : ℕ) (z : ℤ) → k * nat_abs z ≤ n → pos (nat_abs (pos k *ℤ z)) ≤ℤ pos n
scaled k n z a = pos_le (nat_abs (pos k *ℤ z)) n (rw (abs_mul (pos k) z) a)

-- of two numbers a and b, each at most B / 8 in size, the weighted sum; and u(h - u) times it
weighted : (h u a b B : ℤ) → pos 0 ≤ℤ u → u ≤ℤ h → pos (nat_abs (pos 8 *ℤ a)) ≤ℤ B → pos (nat_abs (pos 8 *ℤ b)) ≤ℤ B
    → pos (nat_abs (pos 8 *ℤ ((h +ℤ u) *ℤ b +ℤ (pos 2 *ℤ h -ℤ u) *ℤ a))) ≤ℤ (pos 3 *ℤ h *ℤ B)
weighted = lin 5 (λ h u a b B. # 0 ≼ u ∷ u ≼ h ∷ ∣ # 8 ⊗ a ∣≼ B ∷ ∣ # 8 ⊗ b ∣≼ B ∷ [] ⊢ ∣ # 8 ⊗ ((h ⊕ u) ⊗ b ⊕ (# 2 ⊗ h ⊖ u) ⊗ a) ∣≼ # 3 ⊗ h ⊗ B
    by (hyp 1 ⊞ nat 2 ⊠ hyp 0) ⊠ hyp 3 ⊞ (nat 2 ⊠ hyp 1 ⊞ hyp 0) ⊠ hyp 2
    ∷ (hyp 1 ⊞ nat 2 ⊠ hyp 0) ⊠ low 3 ⊞ (nat 2 ⊠ hyp 1 ⊞ hyp 0) ⊠ low 2 ∷ []) tt

inside_leg : (h u s B : ℤ) → pos 0 ≤ℤ u → u ≤ℤ h → pos 0 ≤ℤ B → pos (nat_abs (pos 8 *ℤ s)) ≤ℤ (pos 3 *ℤ h *ℤ B)
    → pos (nat_abs (pos 32 *ℤ (u *ℤ (h -ℤ u) *ℤ s))) ≤ℤ (pos 3 *ℤ h *ℤ h *ℤ h *ℤ B)
inside_leg = lin 4 (λ h u s B. # 0 ≼ u ∷ u ≼ h ∷ # 0 ≼ B ∷ ∣ # 8 ⊗ s ∣≼ # 3 ⊗ h ⊗ B ∷ [] ⊢ ∣ # 32 ⊗ (u ⊗ (h ⊖ u) ⊗ s) ∣≼ # 3 ⊗ h ⊗ h ⊗ h ⊗ B
    by sq (h ⊖ # 2 ⊗ u) ⊠ nat 3 ⊠ (hyp 0 ⊞ hyp 1) ⊠ hyp 2 ⊞ nat 4 ⊠ hyp 0 ⊠ hyp 1 ⊠ hyp 3
    ∷ sq (h ⊖ # 2 ⊗ u) ⊠ nat 3 ⊠ (hyp 0 ⊞ hyp 1) ⊠ hyp 2 ⊞ nat 4 ⊠ hyp 0 ⊠ hyp 1 ⊠ low 3 ∷ []) tt

-- A is D × position - value, r what the rounding is off, t the bends' part
with_rounding : (D h A r t B : ℤ) → pos 6 *ℤ pos 65536 *ℤ h *ℤ A ≡ pos 6 *ℤ D *ℤ r -ℤ t → pos (nat_abs (pos 2 *ℤ r)) ≤ℤ (pos 65536 *ℤ h)
    → pos (nat_abs (pos 32 *ℤ t)) ≤ℤ (pos 3 *ℤ h *ℤ h *ℤ h *ℤ B) → pos 0 ≤ℤ D
    → pos (nat_abs (pos 6 *ℤ h *ℤ (pos 2097152 *ℤ A))) ≤ℤ (pos 3 *ℤ h *ℤ (pos 2097152 *ℤ D +ℤ h *ℤ h *ℤ B))
with_rounding = lin 6 (λ D h A r t B.
    # 6 ⊗ # 65536 ⊗ h ⊗ A ≐ # 6 ⊗ D ⊗ r ⊖ t ∷ ∣ # 2 ⊗ r ∣≼ # 65536 ⊗ h ∷ ∣ # 32 ⊗ t ∣≼ # 3 ⊗ h ⊗ h ⊗ h ⊗ B ∷ # 0 ≼ D ∷ []
    ⊢ ∣ # 6 ⊗ h ⊗ (# 2097152 ⊗ A) ∣≼ # 3 ⊗ h ⊗ (# 2097152 ⊗ D ⊕ h ⊗ h ⊗ B)
    by nat 96 ⊠ hyp 3 ⊠ hyp 1 ⊞ low 2 ⊞ # 32 ⊡ 0 ∷ nat 96 ⊠ hyp 3 ⊠ low 1 ⊞ hyp 2 ⊞ ⊝ # 32 ⊡ 0 ∷ []) tt

module _ {D h : ℕ} {v w x y : ℤ} {k : Cubic} (leg : Leg D h v w x y k) (u : ℕ) where
  -- the value, by the ends and the second derivatives there
  value_by_bends : pos 6 *ℤ pos h *ℤ value_at k u
      ≡ pos 6 *ℤ pos D *ℤ ((pos h -ℤ pos u) *ℤ v +ℤ pos u *ℤ w) -ℤ pos u *ℤ (pos h -ℤ pos u) *ℤ ((pos h +ℤ pos u) *ℤ y +ℤ (pos 2 *ℤ pos h -ℤ pos u) *ℤ x)
  unfolding value_at
  value_by_bends =
      let f = coefficients leg in
      lin 11 (λ D h t v w x y c0 c1 c2 c3.
      c0 ≐ D ⊗ v ∷ # 6 ⊗ h ⊗ c1 ≐ # 6 ⊗ D ⊗ (w ⊖ v) ⊖ h ⊗ h ⊗ (# 2 ⊗ x ⊕ y) ∷ # 2 ⊗ c2 ≐ x ∷ # 6 ⊗ h ⊗ c3 ≐ y ⊖ x ∷ []
      ⊢ # 6 ⊗ h ⊗ (c0 ⊕ c1 ⊗ t ⊕ c2 ⊗ t ⊗ t ⊕ c3 ⊗ t ⊗ t ⊗ t) ≗ # 6 ⊗ D ⊗ ((h ⊖ t) ⊗ v ⊕ t ⊗ w) ⊖ t ⊗ (h ⊖ t) ⊗ ((h ⊕ t) ⊗ y ⊕ (# 2 ⊗ h ⊖ t) ⊗ x)
      with # 6 ⊗ h ∷ t ∷ # 3 ⊗ h ⊗ t ⊗ t ∷ t ⊗ t ⊗ t ∷ []) tt
      (pos D) (pos h) (pos u) v w x y k.c0 k.c1 k.c2 k.c3 f.zeroth f.first f.second f.third

  -- what the position X is off, by what the rounding and the bend numbers are off
  error_by_bends : (Z Y X : ℤ) → pos 6 *ℤ pos 65536 *ℤ pos h *ℤ (pos D *ℤ X -ℤ value_at k u)
      ≡ pos 6 *ℤ pos D *ℤ (pos 65536 *ℤ pos h *ℤ X -ℤ numerator h u v w Z Y)
      -ℤ pos u *ℤ (pos h -ℤ pos u)
      *ℤ ((pos h +ℤ pos u) *ℤ (pos (6 * D) *ℤ Y -ℤ pos 65536 *ℤ y) +ℤ (pos 2 *ℤ pos h -ℤ pos u) *ℤ (pos (6 * D) *ℤ Z -ℤ pos 65536 *ℤ x))
  unfolding numerator
  error_by_bends Z Y X =
      lin 11 (λ D h t v w x y Z Y X F.
      # 6 ⊗ h ⊗ F ≐ # 6 ⊗ D ⊗ ((h ⊖ t) ⊗ v ⊕ t ⊗ w) ⊖ t ⊗ (h ⊖ t) ⊗ ((h ⊕ t) ⊗ y ⊕ (# 2 ⊗ h ⊖ t) ⊗ x) ∷ []
      ⊢ # 6 ⊗ # 65536 ⊗ h ⊗ (D ⊗ X ⊖ F) ≗
      # 6 ⊗ D ⊗ (# 65536 ⊗ h ⊗ X ⊖ (# 65536 ⊗ (t ⊗ w ⊕ (h ⊖ t) ⊗ v) ⊖ t ⊗ (h ⊖ t) ⊗ ((h ⊕ t) ⊗ Y ⊕ (# 2 ⊗ h ⊖ t) ⊗ Z)))
      ⊖ t ⊗ (h ⊖ t) ⊗ ((h ⊕ t) ⊗ (# 6 ⊗ D ⊗ Y ⊖ # 65536 ⊗ y) ⊕ (# 2 ⊗ h ⊖ t) ⊗ (# 6 ⊗ D ⊗ Z ⊖ # 65536 ⊗ x))
      with ⊝ # 65536 ∷ []) tt (pos D) (pos h) (pos u) v w x y Z Y X (value_at k u) value_by_bends

  -- from bend numbers within b eighths of 65,536 times the exact bends x / 6D and y / 6D
  leg_near : 1 ≤ h → u ≤ h → (b : ℕ) (Z Y : ℤ)
      → 8 * nat_abs (pos (6 * D) *ℤ Z -ℤ pos 65536 *ℤ x) ≤ b * (6 * D) → 8 * nat_abs (pos (6 * D) *ℤ Y -ℤ pos 65536 *ℤ y) ≤ b * (6 * D)
      → 2_097_152 * nat_abs (pos D *ℤ position h u v w Z Y -ℤ value_at k u) ≤ D * (1_048_576 + 3 * b * (h * h))
  unfolding position
  leg_near h1 ul b Z Y ez ey =
      let n : ℤ = numerator h u v w Z Y in
      let A : ℤ = pos D *ℤ position h u v w Z Y -ℤ value_at k u in
      let B : ℕ = b * (6 * D) in
      let z : ℤ = pos (6 * D) *ℤ Z -ℤ pos 65536 *ℤ x in
      let q : ℤ = pos (6 * D) *ℤ Y -ℤ pos 65536 *ℤ y in
      let s : ℤ = (pos h +ℤ pos u) *ℤ q +ℤ (pos 2 *ℤ pos h -ℤ pos u) *ℤ z in
      let t : ℤ = pos u *ℤ (pos h -ℤ pos u) *ℤ s in
      let r : ℤ = pos (65536 * h) *ℤ position h u v w Z Y -ℤ n in
      let near : pos (nat_abs (pos 2 *ℤ r)) ≤ℤ pos (65536 * h) = scaled 2 (65536 * h) r (rounded_near n (65536 * h) (omega arith)) in
      let offs : pos (nat_abs (pos 32 *ℤ t)) ≤ℤ pos (3 * h * h * h * B) =
      inside_leg (pos h) (pos u) s (pos B) (nonneg u) (pos_le u h ul) (nonneg B)
      (weighted (pos h) (pos u) z q (pos B) (nonneg u) (pos_le u h ul) (scaled 8 B z ez) (scaled 8 B q ey)) in
      let all : nat_abs (pos (6 * h) *ℤ (pos 2097152 *ℤ A)) ≤ 3 * h * (2097152 * D + h * h * B) =
      le_pos (nat_abs (pos (6 * h) *ℤ (pos 2097152 *ℤ A))) (3 * h * (2097152 * D + h * h * B))
      (with_rounding (pos D) (pos h) A r t (pos B) (error_by_bends Z Y (position h u v w Z Y)) near offs (nonneg D)) in
      le_of_mul-le-mul_left {k = 6 * h} (omega (arith, rw (abs_mul (pos (6 * h)) (pos 2097152 *ℤ A), abs_mul (pos 2097152) A) at all)) (omega arith)

pub position_sharp : PositionSharp
position_sharp c bounds f exact i u l ul b Z Y = leg_near ((exact_legs exact bounds).leg i l) u (bounds.leg i l).0 ul b Z Y
