-- Two tables with the same places give the same strokes.
use mathlib.Core.Path.{◌≡◌, refl, ap}
use mathlib.Core.Bool.{Bool, not, cond, ◌||◌}
use mathlib.Core.List.{[], ◌∷◌, ◌++◌}
use Prim.Native.Nat.{ℕ, zero, suc, ◌+◌, ◌-◌, ◌/◌, ◌≤◌, ◌<◌}
use native.Mathlib.Omega.{arith}
use lib.Dec.{ltb}
use lib.IntN.{ℤ}
use Rattle.sheet.specs.Bytes.{any_below}
use Rattle.stretch.specs.Stretches.{off, strays_on, strays, kept, ends_by}

-- ---- the same answers at all numbers below n
any_same : (p q : ℕ → Bool) (n : ℕ) → ((i : ℕ) → i < n → p i ≡ q i) → any_below p n ≡ any_below q n
unfolding any_below
any_same p q zero h = refl
any_same p q (suc n) h = λ j. any_same p q n (λ i k. h i (omega arith)) j || h n (omega arith) j

module _ (t h : ℕ) (x y : ℕ → ℕ → ℤ) (same : (axis u : ℕ) → axis < 3 → u ≤ h → x axis u ≡ y axis u) where
  kept_same : (a m : ℕ) → a + m ≤ h → kept t x a m ≡ kept t y a m
  unfolding strays strays_on
  kept_same a m fits =
      ap (λ b. ltb m 2 || not b)
      (any_same _ _ 3 (λ axis k.
      any_same _ _ (suc m) (λ u on. λ j.
      off t m u (same axis a k (omega arith) j) (same axis (a + u) k (omega arith) j) (same axis (a + m) k fits j))))

  pub ends_same : (from d a m : ℕ) → a + m ≤ h → ends_by (kept t x) from d a m ≡ ends_by (kept t y) from d a m
  unfolding ends_by
  ends_same from zero a m fits = refl
  ends_same from (suc d) a m fits =
      λ j. cond (kept_same a m fits j) ((from + (a + m)) ∷ [])
      (ends_same from d a (m / 2) (omega arith) j ++ ends_same from d (a + m / 2) (m - m / 2) (omega arith) j)
