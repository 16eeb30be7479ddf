-- The product of n numbers, and that each of them divides it: a common multiple of a course's legs.
use mathlib.Core.Path.{◌≡◌}
use Prim.Native.Nat.{ℕ, zero, suc, ◌*◌, ◌≤◌, ◌<◌}
use native.Mathlib.Omega.{arith}
use native.Mathlib.Nat.{mul_assoc, mul_comm, mul-pos}
use Rattle.integers.proofs.Order.{le_or_lt}

unfoldable pub product : (ℕ → ℕ) → ℕ → ℕ
product f zero = 1
product f (suc n) = product f n * f n

module _ (f : ℕ → ℕ) where
  pub product_pos : (n : ℕ) → ((i : ℕ) → i < n → 1 ≤ f i) → 1 ≤ product f n
  unfolding product
  product_pos zero h = omega arith
  product_pos (suc n) h = mul-pos (product_pos n (λ i k. h i (omega arith))) (h n (omega arith))

  -- the product is f i times a rest
  pub divides_product : (n i : ℕ) → i < n → (rest : ℕ) × (f i * rest ≡ product f n)
  unfolding product
  divides_product zero i h = absurd (omega arith)
  divides_product (suc n) i h = le_or_lt n i ((rest : ℕ) × (f i * rest ≡ product f n * f n))
      (λ g. let e : i ≡ n = omega arith in (product f n, rw e (mul_comm (f n) (product f n))))
      (λ g. extend (divides_product n i g))
    where
      extend : (rest : ℕ) × (f i * rest ≡ product f n) → (rest : ℕ) × (f i * rest ≡ product f n * f n)
      extend (rest, e) = (rest * f n, rw (← mul_assoc (f i) rest (f n), e))
