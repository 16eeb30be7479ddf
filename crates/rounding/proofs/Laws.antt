-- The laws of rounding that callers use. Above zero all follow from 2dz ≤ 2n + d < 2dz + 2d, which `nearest` fulfils and no second number does; below zero
-- from `rounded_mirrored`.
use mathlib.Core.Path.{◌≡◌, refl, sym, ap, ◌∙◌}
use mathlib.Core.List.{[], ◌∷◌}
use Prim.Native.Nat.{ℕ, zero, suc, ◌+◌, ◌-◌, ◌*◌, ◌≤◌, ◌<◌}
use native.Mathlib.Nat.{div-add-mod, mod-lt, mul_comm, mul_assoc, div-eq_of_lt, div-eq_of_lt-le}
use native.Mathlib.Omega.{arith}
use lib.Dec.{lit≤}
use lib.IntN.{ℤ, pos, negsuc, neg_ℤ, nat_abs, neg_ℤ-neg_ℤ, ◌-ℤ◌, ◌*ℤ◌}
use Rattle.integers.proofs.Laws.{mul_neg}
use Rattle.integers.proofs.Ring.{solve, ◌≋◌, ◌⊕◌, ◌⊖◌, ◌⊗◌, ⊝◌, #◌}
use Rattle.integers.proofs.Order.{le_pos, pos_le, nonneg, le_or_lt, abs_add, abs_mul, abs_neg}
use Rattle.integers.proofs.Linear.{lin, ◌≐◌, ◌≼◌, ∣◌∣≼◌, ◌⊢◌by◌, hyp, low, nat, ◌⊞◌, ◌⊠◌}
use Rattle.rounding.specs.Rounded.{nearest, rounded}
use Rattle.rounding.specs.Theorems.{NearestAway, RoundedNearest, RoundedMirrored}

-- ---- by computing
-- W1 and W2: 5.5 and -5.5 give 6 and -6
pub half_above : rounded (pos 11) 2 ≡ pos 6
unfolding rounded
half_above = refl

pub half_below : rounded (negsuc 10) 2 ≡ negsuc 5
unfolding rounded
half_below = refl

-- 2.5 and -2.5, whose quotient is even
pub half_above_even : rounded (pos 5) 2 ≡ pos 3
unfolding rounded
half_above_even = refl

pub half_below_even : rounded (negsuc 4) 2 ≡ negsuc 2
unfolding rounded
half_below_even = refl

-- W3's second bend number: from the fifth pass on -157,286 / 4, which is -39,321.5
pub half_bend : rounded (negsuc 157285) 4 ≡ negsuc 39321
unfolding rounded
half_bend = refl

-- -2.75 gives -3, where division that cuts toward zero gives -2
pub below_zero : rounded (negsuc 10) 4 ≡ negsuc 2
unfolding rounded
below_zero = refl

-- -6 is right for -5.5, by what L4 asks
minus_six : NearestAway (negsuc 10) 2 (negsuc 5)
minus_six = record { near = lit≤ tt; half = λ e. lit≤ tt }

-- ---- natural numbers: 2dz ≤ 2n + d < 2dz + 2d holds of the nearest number z, and of no other
module _ (n d : ℕ) (h : 1 ≤ d) where
  nearest_low : 2 * d * nearest n d ≤ 2 * n + d
  nearest_low = omega (arith, div-add-mod (2 * n + d) (2 * d))

  nearest_high : 2 * n + d < 2 * d * nearest n d + 2 * d
  nearest_high = omega (arith, div-add-mod (2 * n + d) (2 * d), mod-lt (2 * n + d) {m = 2 * d} (omega arith))

  pub nearest_is : (z : ℕ) → z * (2 * d) ≤ 2 * n + d → 2 * n + d < (z + 1) * (2 * d) → nearest n d ≡ z
  nearest_is z l g = div-eq_of_lt-le (2 * d) l g

-- ---- the mirror: of the negated number it is the negated number
nearest_zero : (d : ℕ) → nearest 0 d ≡ 0
nearest_zero zero = refl
nearest_zero (suc d) = div-eq_of_lt (omega arith)

pub rounded_mirrored : RoundedMirrored
unfolding rounded
rounded_mirrored (pos zero) d = rw (nearest_zero d)
rounded_mirrored (pos (suc n)) d = refl
rounded_mirrored (negsuc k) d = sym (neg_ℤ-neg_ℤ (pos (nearest (suc k) d)))

-- what holds above zero, and of the negated where it holds, holds everywhere
by_mirror : (d : ℕ) (P : ℤ → ℤ → Type 0) → ((a : ℕ) → P (pos a) (pos (nearest a d))) → ((n z : ℤ) → P n z → P (neg_ℤ n) (neg_ℤ z)) → (n : ℤ) → P n (rounded n d)
unfolding rounded
by_mirror d P f g (pos a) = f a
by_mirror d P f g (negsuc k) = g (pos (suc k)) (pos (nearest (suc k) d)) (f (suc k))

-- ---- rounding
module _ (n : ℤ) (d : ℕ) (h : 1 ≤ d) where
  -- twice the distance is at most the divisor
  pub rounded_near : 2 * nat_abs (pos d *ℤ rounded n d -ℤ n) ≤ d
  rounded_near = by_mirror d (λ n z. 2 * nat_abs (pos d *ℤ z -ℤ n) ≤ d)
      (λ a.
      rw (← abs_mul (pos 2) (pos d *ℤ pos (nearest a d) -ℤ pos a))
      (le_pos _ d
      (lin 3 (λ n z d. # 2 ⊗ d ⊗ z ≼ # 2 ⊗ n ⊕ d ∷ # 2 ⊗ n ⊕ d ≼ # 2 ⊗ d ⊗ z ⊕ # 2 ⊗ d ∷ [] ⊢ ∣ # 2 ⊗ (d ⊗ z ⊖ n) ∣≼ d by hyp 0 ∷ hyp 1 ∷ []) tt
      (pos a) (pos (nearest a d)) (pos d)
      (pos_le (2 * d * nearest a d) (2 * a + d) (nearest_low a d h))
      (pos_le (2 * a + d) (2 * d * nearest a d + 2 * d) (omega (arith, nearest_high a d h))))))
      (λ n z near.
      rw (solve 3 (λ d n z. d ⊗ ⊝ z ⊖ ⊝ n ≋ ⊝ (d ⊗ z ⊖ n)) tt (pos d) n z, abs_neg (pos d *ℤ z -ℤ n)) near)
      n

  -- a rounded quotient is at most half of one larger than the quotient
  pub rounded_size : 2 * (nat_abs (rounded n d) * d) ≤ 2 * nat_abs n + d
  rounded_size =
      let y = pos d *ℤ rounded n d in
      omega (
        arith,
        rounded_near,
        mul_comm (nat_abs (rounded n d)) d,
        abs_mul (pos d) (rounded n d),
        rw (solve 2 (λ y n. (y ⊖ n) ⊕ n ≋ y) tt y n) at (abs_add (y -ℤ n) n),
      )

-- where a is above d times z, it is less than half of d above it
half_above_zero : (a d : ℕ) → 1 ≤ d → 2 * nat_abs (pos (d * nearest a d) -ℤ pos a) ≡ d → a ≤ d * nearest a d
half_above_zero a d h e =
    let z = nearest a d in
    le_or_lt a (d * z) (a ≤ d * z) (λ l. l)
    (λ g.
    let m = a - d * z in
    let off : nat_abs (pos (d * z) -ℤ pos a) ≤ m = le_pos _ m
    (lin 3 (λ x a m. a ≐ x ⊕ m ∷ # 0 ≼ m ∷ [] ⊢ ∣ x ⊖ a ∣≼ m by low 0 ⊞ nat 2 ⊠ hyp 1 ∷ hyp 0 ∷ []) tt
    (pos (d * z)) (pos a) (pos m) (ap pos (omega arith)) (nonneg m)) in
    absurd (omega (arith, e, off, nearest_high a d h, mul_assoc 2 d z)))

pub rounded_nearest : RoundedNearest
rounded_nearest n d h = record {
  near = rounded_near n d h;
  half = by_mirror d (λ n z. 2 * nat_abs (pos d *ℤ z -ℤ n) ≡ d → nat_abs n ≤ d * nat_abs z)
      (λ a. half_above_zero a d h)
      (λ n z f e. rw (abs_neg n, abs_neg z) (f (rw (← abs_neg (pos d *ℤ z -ℤ n), ← solve 3 (λ d n z. d ⊗ ⊝ z ⊖ ⊝ n ≋ ⊝ (d ⊗ z ⊖ n)) tt (pos d) n z) e)))
      n;
}

-- a multiple comes back
exact_above : (q d : ℕ) → 1 ≤ d → rounded (pos (d * q)) d ≡ pos q
unfolding rounded
exact_above q d h = ap pos (nearest_is (d * q) d h q (omega (arith, times)) (omega (arith, times)))
  where
    times : q * (2 * d) ≡ 2 * (d * q)
    times = omega (arith, mul_comm q (2 * d), mul_assoc 2 d q)

pub rounded_exact : (q : ℤ) (d : ℕ) → 1 ≤ d → rounded (pos d *ℤ q) d ≡ q
rounded_exact (pos q) d h = exact_above q d h
rounded_exact (negsuc k) d h =
    ap (λ x. rounded x d) (mul_neg (pos d) (pos (suc k))) ∙ rounded_mirrored (pos (d * suc k)) d ∙ ap neg_ℤ (exact_above (suc k) d h)
