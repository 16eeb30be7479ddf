-- Whole rounds of p in a count: in the next count, and in a larger one. For laps (crates/runner).
use mathlib.Core.Path.{◌≡◌, ap, ◌∙◌}
use Prim.Native.Nat.{ℕ, suc, ◌+◌, ◌/◌, ◌%◌, ◌≤◌, ◌<◌}
use native.Mathlib.Nat.{mod-eq_of_lt, mod_self, suc-mod, div-eq_of_lt, div_self, div-add-mod, mul-add-div, div-mul-le_self, le-div_iff_mul-le}
use native.Mathlib.Omega.{arith}

module _ (n p : ℕ) (some : 1 ≤ p) where
  whole : suc n / p ≡ n / p + suc (n % p) / p
  whole = ap (λ x. x / p) (omega (arith, div-add-mod n p)) ∙ mul-add-div some (n / p) (suc (n % p))

  -- within a round, and where one is full
  pub same_round : suc (n % p) < p → (suc n % p ≡ suc (n % p)) × (suc n / p ≡ n / p)
  same_round h = (suc-mod n p ∙ mod-eq_of_lt h, whole ∙ ap (λ x. n / p + x) (div-eq_of_lt h) ∙ omega arith)

  pub next_round : suc (n % p) ≡ p → (suc n % p ≡ 0) × (suc n / p ≡ suc (n / p))
  next_round h = (suc-mod n p ∙ ap (λ x. x % p) h ∙ mod_self p, whole ∙ ap (λ x. n / p + x) (ap (λ x. x / p) h ∙ div_self some) ∙ omega arith)

pub rounds_monotone : (m n p : ℕ) → 1 ≤ p → m ≤ n → m / p ≤ n / p
rounds_monotone m n p some h = (le-div_iff_mul-le some).1 (omega (arith, div-mul-le_self m p))
