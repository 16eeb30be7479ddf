-- The tools in use, kept small: each is a pattern to copy.
use mathlib.Core.Path.{◌≡◌}
use mathlib.Core.List.{[], ◌∷◌}
use Prim.Native.Nat.{ℕ, ◌+◌, ◌*◌, ◌≤◌}
use native.Mathlib.Omega.{arith}
use native.Mathlib.Nat.{mul-le-mul_left, mul-le-mul_right, le_of_mul-le-mul_left}
use lib.IntN.{ℤ, pos, nat_abs, ◌+ℤ◌, ◌-ℤ◌, ◌*ℤ◌}
use lib.Signed.{◌≤ℤ◌}
use Rattle.integers.proofs.Ring.{solve, ◌≋◌, ◌⊕◌, ◌⊖◌, ◌⊗◌, #◌}
use Rattle.integers.proofs.Linear.{lin, ◌≐◌, ◌≼◌, ∣◌∣≼◌, ◌⊢◌by◌, ◌⊢◌≗◌with◌, hyp, low, sq, ◌⊞◌, ◌⊠◌}
use Rattle.integers.proofs.Omega.{viaℕ, ◌⊩◌}

-- (a + b + c + d)^5, 56 monomials of degree 5, by the binomials of p = a + b and q = c + d
fifth_power : (a b c d : ℤ)
    → (a +ℤ b +ℤ c +ℤ d) *ℤ (a +ℤ b +ℤ c +ℤ d) *ℤ (a +ℤ b +ℤ c +ℤ d) *ℤ (a +ℤ b +ℤ c +ℤ d) *ℤ (a +ℤ b +ℤ c +ℤ d)
    ≡ (a +ℤ b) *ℤ (a +ℤ b) *ℤ (a +ℤ b) *ℤ (a +ℤ b) *ℤ (a +ℤ b)
    +ℤ pos 5 *ℤ (a +ℤ b) *ℤ (a +ℤ b) *ℤ (a +ℤ b) *ℤ (a +ℤ b) *ℤ (c +ℤ d)
    +ℤ pos 10 *ℤ (a +ℤ b) *ℤ (a +ℤ b) *ℤ (a +ℤ b) *ℤ (c +ℤ d) *ℤ (c +ℤ d)
    +ℤ pos 10 *ℤ (a +ℤ b) *ℤ (a +ℤ b) *ℤ (c +ℤ d) *ℤ (c +ℤ d) *ℤ (c +ℤ d)
    +ℤ pos 5 *ℤ (a +ℤ b) *ℤ (c +ℤ d) *ℤ (c +ℤ d) *ℤ (c +ℤ d) *ℤ (c +ℤ d)
    +ℤ (c +ℤ d) *ℤ (c +ℤ d) *ℤ (c +ℤ d) *ℤ (c +ℤ d) *ℤ (c +ℤ d)
fifth_power = solve 4 (λ a b c d. let s = a ⊕ b ⊕ c ⊕ d in let p = a ⊕ b in let q = c ⊕ d in
    s ⊗ s ⊗ s ⊗ s ⊗ s ≋ p ⊗ p ⊗ p ⊗ p ⊗ p ⊕ # 5 ⊗ p ⊗ p ⊗ p ⊗ p ⊗ q ⊕ # 10 ⊗ p ⊗ p ⊗ p ⊗ q ⊗ q ⊕ # 10 ⊗ p ⊗ p ⊗ q ⊗ q ⊗ q ⊕ # 5 ⊗ p ⊗ q ⊗ q ⊗ q ⊗ q ⊕ q ⊗ q ⊗ q ⊗ q ⊗ q) tt

-- one step of a pass (L2): a new value whose neighbours are off by at most B and whose rounding is off by half is off by at most (B + D) / 2
one_step : (b m a D B p q e s : ℕ) → 1 ≤ m → 2 * (b + a) ≤ m → m * e ≤ b * p + a * q + D * s → 2 * s ≤ m → p ≤ B → q ≤ B → 2 * e ≤ B + D
one_step b m a D B p q e s some dominant row rounding hp hq = le_of_mul-le-mul_left {k = m}
    (omega (arith, mul-le-mul_left b hp, mul-le-mul_left a hq, mul-le-mul_left D rounding, mul-le-mul_right B dominant)) some

-- products and absolute values, by a certificate: a weight of at most h at each of two sizes
two_weights : (h u a b B : ℤ) → pos 0 ≤ℤ u → u ≤ℤ h → pos (nat_abs a) ≤ℤ B → pos (nat_abs b) ≤ℤ B → pos (nat_abs (u *ℤ a +ℤ (h -ℤ u) *ℤ b)) ≤ℤ (h *ℤ B)
two_weights = lin 5 (λ h u a b B. # 0 ≼ u ∷ u ≼ h ∷ ∣ a ∣≼ B ∷ ∣ b ∣≼ B ∷ [] ⊢ ∣ u ⊗ a ⊕ (h ⊖ u) ⊗ b ∣≼ h ⊗ B
    by hyp 0 ⊠ hyp 2 ⊞ hyp 1 ⊠ hyp 3 ∷ hyp 0 ⊠ low 2 ⊞ hyp 1 ⊠ low 3 ∷ []) tt

-- four times a product is at most the square of the sum
product_below_square : (a b : ℤ) → (pos 4 *ℤ a *ℤ b) ≤ℤ ((a +ℤ b) *ℤ (a +ℤ b))
product_below_square = lin 2 (λ a b. [] ⊢ # 4 ⊗ a ⊗ b ≼ (a ⊕ b) ⊗ (a ⊕ b) by sq (a ⊖ b) ∷ []) tt

-- an equation from equations, each times a factor
eliminated : (a b c x y : ℤ) → a *ℤ x ≡ b → c *ℤ y ≡ x → a *ℤ c *ℤ y ≡ b
eliminated = lin 5 (λ a b c x y. a ⊗ x ≐ b ∷ c ⊗ y ≐ x ∷ [] ⊢ a ⊗ c ⊗ y ≗ b with # 1 ∷ a ∷ []) tt

-- a linear fact, with no certificate
between : (a b c : ℤ) → (pos 2 *ℤ a) ≤ℤ (b +ℤ c) → b ≤ℤ c → a ≤ℤ c
between = viaℕ 3 (λ a b c. # 2 ⊗ a ≼ b ⊕ c ∷ b ≼ c ∷ [] ⊩ a ≼ c) (omega arith)
