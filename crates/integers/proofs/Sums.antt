-- Finite sums over ℤ, `sum f n` for f 0 + .. + f (n − 1), and the pick: Kronecker's delta in a sum picks one term. For dense rows.
use mathlib.Core.Path.{◌≡◌, refl, sym, subst}
use mathlib.Core.Logic.{◌≢◌}
use mathlib.Core.Bool.{cond}
use Prim.Native.Nat.{ℕ, zero, suc, ◌≤◌, ◌<◌}
use native.Mathlib.Omega.{arith}
use lib.Dec.{T, eqb, eqb→eq, eqb_refl, T_not}
use lib.IntN.{ℤ, pos, ◌+ℤ◌, ◌-ℤ◌, ◌*ℤ◌, *ℤ-zero, zero-*ℤ}
use lib.Signed.{◌≤ℤ◌, ≤ℤ_refl}
use Rattle.integers.proofs.Laws.{distrib_l}
use Rattle.integers.proofs.Ring.{solve, ◌≋◌, ◌⊕◌, ◌⊖◌, ◌⊗◌, #◌, swap_middle}
use Rattle.integers.proofs.Order.{by_test}
use Rattle.integers.proofs.Linear.{add_mono}

unfoldable pub sum : (ℕ → ℤ) → ℕ → ℤ
sum f zero = pos 0
sum f (suc n) = sum f n +ℤ f n

module _ (f g : ℕ → ℤ) where
  pub sum_ext : (n : ℕ) → ((j : ℕ) → j < n → f j ≡ g j) → sum f n ≡ sum g n
  unfolding sum
  sum_ext zero h = refl
  sum_ext (suc n) h = cc (sum_ext n (λ j k. h j (omega arith)), h n (omega arith))

  pub sum_add : (n : ℕ) → sum (λ j. f j +ℤ g j) n ≡ sum f n +ℤ sum g n
  unfolding sum
  sum_add zero = refl
  sum_add (suc n) = cc (sum_add n, swap_middle (sum f n) (sum g n) (f n) (g n))

  pub sum_sub : (n : ℕ) → sum (λ j. f j -ℤ g j) n ≡ sum f n -ℤ sum g n
  unfolding sum
  sum_sub zero = refl
  sum_sub (suc n) = cc (sum_sub n, solve 4 (λ s t a b. (s ⊖ t) ⊕ (a ⊖ b) ≋ (s ⊕ a) ⊖ (t ⊕ b)) tt (sum f n) (sum g n) (f n) (g n))

  pub sum_le : (n : ℕ) → ((j : ℕ) → j < n → f j ≤ℤ g j) → sum f n ≤ℤ sum g n
  unfolding sum
  sum_le zero h = ≤ℤ_refl (pos 0)
  sum_le (suc n) h = add_mono (sum f n) (sum g n) (f n) (g n) (sum_le n (λ j k. h j (omega arith))) (h n (omega arith))

pub sum_mul : (f : ℕ → ℤ) (c : ℤ) (n : ℕ) → sum (λ j. c *ℤ f j) n ≡ c *ℤ sum f n
unfolding sum
sum_mul f c zero = sym (*ℤ-zero c)
sum_mul f c (suc n) = cc (sum_mul f c n, distrib_l c (sum f n) (f n))

pub sum_zero : (n : ℕ) → sum (λ j. pos 0) n ≡ pos 0
unfolding sum
sum_zero zero = refl
sum_zero (suc n) = cc (sum_zero n)

-- ---- Kronecker's delta: 1 where i is j, 0 elsewhere
unfoldable pub delta : ℕ → ℕ → ℤ
delta i j = cond (eqb i j) (pos 1) (pos 0)

pub delta_cases : (i j : ℕ) (P : ℤ → Type 0) → (i ≡ j → P (pos 1)) → (i ≢ j → P (pos 0)) → P (delta i j)
unfolding delta
delta_cases i j P f g =
    by_test (eqb i j) (pos 1) (pos 0) P (λ t. f (eqb→eq i j t)) (λ t. g (λ e. T_not (eqb i j) t (subst (λ (k : ℕ). T (eqb i k)) e (eqb_refl i))))

module _ (f : ℕ → ℤ) (i : ℕ) where
  pick_none : (n : ℕ) → n ≤ i → sum (λ j. delta i j *ℤ f j) n ≡ pos 0
  unfolding sum
  pick_none zero h = refl
  pick_none (suc n) h = delta_cases i n (λ z. sum (λ j. delta i j *ℤ f j) n +ℤ z *ℤ f n ≡ pos 0)
      (λ e. absurd (omega arith)) (λ e. cc (pick_none n (omega arith), zero-*ℤ (f n)))

  pub sum_pick : (n : ℕ) → i < n → sum (λ j. delta i j *ℤ f j) n ≡ f i
  unfolding sum
  sum_pick zero h = absurd (omega arith)
  sum_pick (suc n) h = delta_cases i n (λ z. sum (λ j. delta i j *ℤ f j) n +ℤ z *ℤ f n ≡ f i)
      (λ e. cc (pick_none n (omega arith), solve 1 (λ a. # 0 ⊕ # 1 ⊗ a ≋ a) tt (f n)))
      (λ e. cc (sum_pick n (omega arith), solve 2 (λ a b. a ⊕ # 0 ⊗ b ≋ a) tt (f i) (f n)))
