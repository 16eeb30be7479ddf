-- The numerator of a position as the code makes it (src/position.rt) is P1's, and every number on the way fits 64 bits.
-- The code takes h - u, h + u and 2h - u as natural numbers. The weights h + u and 2h - u add up to 3h, so that the bend part stays within 2^16 × 768 × 2^37.
use mathlib.Core.Path.{◌≡◌, refl, ap}
use mathlib.Core.List.{[], ◌∷◌}
use Prim.Native.Nat.{ℕ, ◌+◌, ◌-◌, ◌*◌, ◌^◌, ◌≤◌}
use native.Mathlib.Omega.{arith}
use lib.IntN.{ℤ, pos, nat_abs, ◌+ℤ◌, ◌-ℤ◌, ◌*ℤ◌}
use Rattle.integers.proofs.Ring.{◌⊕◌, ◌⊖◌, #◌}
use Rattle.integers.proofs.Order.{abs_add, abs_mul_le}
use Rattle.integers.proofs.Linear.{lin, ◌≐◌, ◌⊢◌≗◌with◌}
use Rattle.spline.specs.Position.{numerator}
use Rattle.integers.proofs.Made.{read, Made, given, times, plus}
use Rattle.place.specs.Asked.{OnLeg}

-- a difference of naturals that is none below 0
pos_sub : (a b : ℕ) → b ≤ a → pos (a - b) ≡ pos a -ℤ pos b
pos_sub a b h =
    let e : a - b + b ≡ a = omega arith in
    lin 3 (λ a b d. d ⊕ b ≐ a ∷ [] ⊢ d ≗ a ⊖ b with # 1 ∷ []) tt (pos a) (pos b) (pos (a - b)) (ap pos e)

-- the same leg at any offset on it
pub along : {h u : ℕ} {v w z y : ℤ} → OnLeg h 0 v w z y → u ≤ h → OnLeg h u v w z y
along o fits = record { leg_low = o.leg_low; leg_high = o.leg_high; offset = fits; start = o.start; end = o.end; start_bend = o.start_bend; end_bend = o.end_bend }

-- what the machine makes of two numbers
abbrev mul : ℤ → ℤ → ℤ
mul a b = read a *ℤ read b

abbrev add : ℤ → ℤ → ℤ
add a b = read a +ℤ read b

pub scale : Made (pos 65536) (pos 65536) 65536
scale = given refl (omega arith) tt

module _ {h u : ℕ} {v w z y : ℤ} (o : OnLeg h u v w z y) where
  -- the numbers given
  pub past : Made (pos u) (pos u) 256
  past = given refl (omega arith) tt

  pub left : Made (pos (h - u)) (pos (h - u)) 256
  left = given refl (omega arith) tt

  pub sum : Made (pos (h + u)) (pos (h + u)) 512
  sum = given refl (omega arith) tt

  pub rest : Made (pos (2 * h - u)) (pos (2 * h - u)) 512
  rest = given refl (omega arith) tt

  pub whole : Made (pos h) (pos h) 256
  whole = given refl (omega arith) tt

  pub start : Made v v 1_000_000
  start = given refl o.start tt

  pub end : Made w w 1_000_000
  end = given refl o.end tt

  pub start_bend : Made z z (2 ^ 37)
  start_bend = given refl o.start_bend tt

  pub end_bend : Made y y (2 ^ 37)
  end_bend = given refl o.end_bend tt

  -- u×w + (h - u)×v
  pub ends : Made (add (mul (pos u) w) (mul (pos (h - u)) v)) (pos u *ℤ w +ℤ pos (h - u) *ℤ v) 512_000_000
  ends = plus (times past end tt) (times left start tt) tt

  -- (h + u)×Y + (2h - u)×Z
  bends_size : nat_abs (pos (h + u) *ℤ y +ℤ pos (2 * h - u) *ℤ z) ≤ 768 * 2 ^ 37
  bends_size =
      let e : nat_abs (pos (h + u) *ℤ y) ≤ (h + u) * 2 ^ 37 = abs_mul_le (pos (h + u)) y (omega arith) o.end_bend in
      let s : nat_abs (pos (2 * h - u) *ℤ z) ≤ (2 * h - u) * 2 ^ 37 = abs_mul_le (pos (2 * h - u)) z (omega arith) o.start_bend in
      omega (arith, abs_add (pos (h + u) *ℤ y) (pos (2 * h - u) *ℤ z))

  pub bends : Made (add (mul (pos (h + u)) y) (mul (pos (2 * h - u)) z)) (pos (h + u) *ℤ y +ℤ pos (2 * h - u) *ℤ z) (768 * 2 ^ 37)
  bends = given (plus (times sum end_bend tt) (times rest start_bend tt) tt).same bends_size tt

  -- u×(h - u) times that
  pub bend : Made (mul (mul (pos u) (pos (h - u))) (add (mul (pos (h + u)) y) (mul (pos (2 * h - u)) z)))
      (pos u *ℤ pos (h - u) *ℤ (pos (h + u) *ℤ y +ℤ pos (2 * h - u) *ℤ z)) (65536 * (768 * 2 ^ 37))
  bend = times (times past left tt) bends tt

  pub numerator_is : pos 65536 *ℤ (pos u *ℤ w +ℤ pos (h - u) *ℤ v) -ℤ pos u *ℤ pos (h - u) *ℤ (pos (h + u) *ℤ y +ℤ pos (2 * h - u) *ℤ z) ≡ numerator h u v w z y
  unfolding numerator
  numerator_is =
      let p = pos_sub h u o.offset in let q = pos_sub (2 * h) u (omega arith) in
      λ i. pos 65536 *ℤ (pos u *ℤ w +ℤ p i *ℤ v) -ℤ pos u *ℤ p i *ℤ (pos (h + u) *ℤ y +ℤ q i *ℤ z)
