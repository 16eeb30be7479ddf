-- A fact at every number below n, from the fact at each of them: for worked examples and for the three axes.
use mathlib.Core.Path.{◌≡◌, subst}
use Prim.Native.Nat.{ℕ, zero, suc, ◌<◌}
use native.Mathlib.Omega.{arith}
use Rattle.integers.proofs.Order.{le_or_lt}

abbrev pub Below : ℕ → (ℕ → Type 0) → Type 0
Below zero P = Unit {0}
Below (suc n) P = Below n P × P n

pub below : (n : ℕ) (P : ℕ → Type 0) → Below n P → (i : ℕ) → i < n → P i
below zero P h i l = absurd (omega arith)
below (suc n) P h i l = le_or_lt n i (P i) (λ g. let e : n ≡ i = omega arith in subst P e h.1) (λ g. below n P h.0 i g)
