-- Why the code rounds: quotient q and remainder r of signed division have n = dq + r with r smaller than d and of the sign of n, so that n / d rounds to
-- q and what r / d rounds to, which is 1, 0 or -1 as the tests of r and -r say. Proved above zero; below it quotient, remainder and tests are the mirror.
use mathlib.Core.Path.{◌≡◌, refl, sym, ap, ◌∙◌}
use mathlib.Core.Bool.{cond}
use mathlib.Core.List.{[], ◌∷◌}
use Prim.Native.Nat.{ℕ, zero, suc, ◌+◌, ◌*◌, ◌/◌, ◌%◌, ◌≤◌, ◌<◌}
use native.Mathlib.Nat.{div-add-mod, mod-lt, mul_assoc, mul-add-div, div-le_self, lt_of_mul-lt-mul_right}
use native.Mathlib.Omega.{arith}
use lib.IntN.{ℤ, pos, negsuc, neg_ℤ, nat_abs, ◌+ℤ◌, ◌-ℤ◌, ◌*ℤ◌}
use lib.Dec.{ltb→lt}
use lib.Signed.{mag, lt_z, quot_z, rem_z, ◌≤ℤ◌, lt_z_no, clash_ℤ, nat_abs-le}
use mir.Syntax.{w64}
use mir.Val.{SFits}
use mir.ValLaws.{sfits_le}
use Rattle.integers.proofs.Ring.{solve, ◌≋◌, ◌⊕◌, ◌⊖◌, ◌⊗◌, ⊝◌, #◌}
use Rattle.integers.proofs.Order.{by_test, pos_le, le_pos, nonneg, abs_neg, abs_sub, le_or_lt}
use Rattle.integers.proofs.Linear.{lin, ◌≼◌, ◌≺◌, ◌⊢◌by◌, hyp, nat, ◌⊞◌, ◌⊠◌}
use Rattle.integers.proofs.Machine.{fits_abs, fits_back}
use Rattle.rounding.specs.Rounded.{nearest, rounded}
use Rattle.rounding.proofs.Laws.{nearest_is, rounded_mirrored, rounded_exact, rounded_size}

-- what the test of a remainder gives, and what the tests of r and of -r come to
abbrev pub up : ℤ → ℤ → ℤ
up r d = cond (lt_z (pos 2 *ℤ r) d) (pos 0) (pos 1)

abbrev pub step : ℤ → ℤ → ℤ
step r d = up r d -ℤ up (pos 0 -ℤ r) d

-- ---- signed division by k
rem_small : (n : ℤ) (k : ℕ) → 1 ≤ k → nat_abs (rem_z n (pos k)) < k
rem_small (pos a) k h = mod-lt a h
rem_small (negsuc a) k h = rw (abs_neg (pos (suc a % k))) (mod-lt (suc a) h)

-- the remainder is smaller than the divisor, so that it can be negated
fits_minus_by : (n : ℤ) (k : ℕ) → 1 ≤ k → SFits w64 (pos k) → SFits w64 (pos 0 -ℤ rem_z n (pos k))
fits_minus_by n k h f = fits_abs (pos 0 -ℤ rem_z n (pos k)) (omega (arith, f.sfits, abs_sub (pos 0) (rem_z n (pos k)), rem_small n k h))

quot_small : (n : ℤ) (k : ℕ) → mag (quot_z n (pos k)) ≤ mag n
quot_small (pos a) k = div-le_self a k
quot_small (negsuc a) k = go (suc a / k) (div-le_self (suc a) k)
  where
    go : (m : ℕ) → m ≤ suc a → mag (neg_ℤ (pos m)) ≤ a
    go zero h = omega arith
    go (suc m) h = omega arith

-- ---- rounding by quotient and remainder
module _ (k : ℕ) (h : 1 ≤ k) where
  -- above zero: a multiple of k beside the remainder ..
  nearest_add : (a : ℕ) → a / k + nearest (a % k) k ≡ nearest a k
  nearest_add a =
      sym (mul-add-div {m = 2 * k} (omega arith) (a / k) (2 * (a % k) + k))
      ∙ ap (λ (n : ℕ). n / (2 * k)) (omega (arith, div-add-mod a k, mul_assoc 2 k (a / k)))

  -- .. and the remainder alone
  up_above : (x : ℕ) → x < k → up (pos x) (pos k) ≡ pos (nearest x k)
  up_above x l = by_test (lt_z (pos (2 * x)) (pos k)) (pos 0) (pos 1) (λ u. u ≡ pos (nearest x k))
      (λ t. ap pos (sym (nearest_is x k h 0 (omega arith) (omega (arith, ltb→lt (2 * x) k t)))))
      (λ t. ap pos (sym (nearest_is x k h 1 (omega (arith, le_pos k (2 * x) (lt_z_no t))) (omega arith))))

  up_below : (x : ℕ) → up (pos 0 -ℤ pos x) (pos k) ≡ pos 0
  up_below x = by_test (lt_z (pos 2 *ℤ (pos 0 -ℤ pos x)) (pos k)) (pos 0) (pos 1) (λ u. u ≡ pos 0) (λ t. refl)
      (λ t. clash_ℤ (lin 2 (λ x k. # 0 ≼ x ∷ # 1 ≼ k ∷ [] ⊢ # 2 ⊗ (# 0 ⊖ x) ≺ k by nat 2 ⊠ hyp 0 ⊞ hyp 1 ∷ []) tt (pos x) (pos k) (nonneg x) (pos_le 1 k h)) (lt_z_no t))

  step_above : (x : ℕ) → x < k → step (pos x) (pos k) ≡ rounded (pos x) k
  unfolding rounded
  step_above x l = (λ i. up_above x l i -ℤ up_below x i) ∙ solve 1 (λ y. y ⊖ # 0 ≋ y) tt (pos (nearest x k))

  step_mirrored : (r : ℤ) → step (neg_ℤ r) (pos k) ≡ neg_ℤ (step r (pos k))
  step_mirrored r =
      (λ i. up (solve 1 (λ r. ⊝ r ≋ # 0 ⊖ r) tt r i) (pos k) -ℤ up (solve 1 (λ r. # 0 ⊖ ⊝ r ≋ r) tt r i) (pos k))
      ∙ solve 2 (λ a b. b ⊖ a ≋ ⊝ (a ⊖ b)) tt (up r (pos k)) (up (pos 0 -ℤ r) (pos k))

  -- signed: below zero all of it is the mirror of what it is above
  step_is : (n : ℤ) → step (rem_z n (pos k)) (pos k) ≡ rounded (rem_z n (pos k)) k
  step_is (pos a) = step_above (a % k) (mod-lt a h)
  step_is (negsuc a) =
      let r = pos (suc a % k) in
      step_mirrored r ∙ ap neg_ℤ (step_above (suc a % k) (mod-lt (suc a) h)) ∙ sym (rounded_mirrored r k)

  sum_is : (n : ℤ) → quot_z n (pos k) +ℤ rounded (rem_z n (pos k)) k ≡ rounded n k
  unfolding rounded
  sum_is (pos a) = ap pos (nearest_add a)
  sum_is (negsuc a) =
      let q = pos (suc a / k) in let r = pos (suc a % k) in
      ap (λ x. neg_ℤ q +ℤ x) (rounded_mirrored r k)
      ∙ solve 2 (λ a b. ⊝ a ⊕ ⊝ b ≋ ⊝ (a ⊕ b)) tt q (rounded r k)
      ∙ ap (λ (n : ℕ). neg_ℤ (pos n)) (nearest_add (suc a))

  -- a divisor of 1 leaves the numerator as it is, and from 2 on the size law bounds the rounded number
  fits_rounded : (n : ℤ) → SFits w64 n → SFits w64 (rounded n k)
  fits_rounded n f = le_or_lt 2 k (SFits w64 (rounded n k))
      (λ g. fits_abs (rounded n k) (lt_of_mul-lt-mul_right k (omega (arith, rounded_size n k h, nat_abs-le n f.sfits))))
      (λ g. let e : k ≡ 1 = omega arith in rw e (fits_back (ap (λ x. rounded x 1) (solve 1 (λ n. n ≋ # 1 ⊗ n) tt n) ∙ rounded_exact n 1 (omega arith)) f))

-- ---- for a divisor d above 0 of ℤ, as the code has it
positive : (d : ℤ) → pos 1 ≤ℤ d → (P : ℤ → Type 0) → ((k : ℕ) → 1 ≤ k → P (pos k)) → P d
positive (pos k) p P f = f k (le_pos 1 k p)
positive (negsuc k) p P f = absurd p.le

module _ (n d : ℤ) (p : pos 1 ≤ℤ d) where
  pub fits_quot : SFits w64 n → SFits w64 (quot_z n d)
  fits_quot f = positive d p (λ d. SFits w64 (quot_z n d)) (λ k h. sfits_le (quot_small n k) f)

  pub fits_minus : SFits w64 d → SFits w64 (pos 0 -ℤ rem_z n d)
  fits_minus = positive d p (λ d. SFits w64 d → SFits w64 (pos 0 -ℤ rem_z n d)) (λ k h. fits_minus_by n k h)

  pub step_rounds : step (rem_z n d) d ≡ rounded (rem_z n d) (nat_abs d)
  step_rounds = positive d p (λ d. step (rem_z n d) d ≡ rounded (rem_z n d) (nat_abs d)) (λ k h. step_is k h n)

  pub sum_rounds : quot_z n d +ℤ rounded (rem_z n d) (nat_abs d) ≡ rounded n (nat_abs d)
  sum_rounds = positive d p (λ d. quot_z n d +ℤ rounded (rem_z n d) (nat_abs d) ≡ rounded n (nat_abs d)) (λ k h. sum_is k h n)

  pub rounded_fits : SFits w64 n → SFits w64 (rounded n (nat_abs d))
  rounded_fits f = positive d p (λ d. SFits w64 (rounded n (nat_abs d))) (λ k h. fits_rounded k h n f)
