-- A dominant row system has a solution: it is a dense system (Elimination) whose matrix has the three factors at the three indices, added where indices
-- coincide. Sums of such picks are one lemma, so that nothing has to be said about which indices do.
use mathlib.Core.Path.{◌≡◌, refl, sym, ◌∙◌}
use mathlib.Core.Logic.{◌≢◌}
use mathlib.Core.List.{[], ◌∷◌}
use Prim.Native.Nat.{ℕ, ◌+◌, ◌≤◌, ◌<◌}
use native.Mathlib.Omega.{arith}
use native.Mathlib.Nat.{mul-le-mul_right}
use lib.IntN.{ℤ, pos, neg_ℤ, ◌+ℤ◌, ◌*ℤ◌}
use lib.Signed.{◌≤ℤ◌}
use Rattle.integers.proofs.Ring.{◌⊕◌, ◌⊗◌, ⊝◌, #◌, ◌≋◌, solve}
use Rattle.integers.proofs.Order.{nonneg, nonneg_mul, pos_le}
use Rattle.integers.proofs.Linear.{◌≐◌, ◌≼◌, ◌≺◌, ∣◌∣≼◌, ◌⊢◌by◌, hyp, nat, ◌⊡◌, ◌⊞◌, ◌⊠◌, lin}
use Rattle.integers.proofs.Sums.{sum, sum_ext, sum_add, sum_mul, sum_le, delta, delta_cases, sum_pick}
use Rattle.systems.specs.Rows.{row_sum, Rows, Dominant, Solution}
use Rattle.systems.specs.Theorems.{Solvable}
use Rattle.systems.proofs.Elimination.{weight, weight_cases, Strict, Dense, dense_solvable}

-- b at p, m at i, a at q, added where they coincide
abbrev picks : ℤ → ℤ → ℤ → ℕ → ℕ → ℕ → ℕ → ℤ
picks b m a p i q j = b *ℤ delta p j +ℤ m *ℤ delta i j +ℤ a *ℤ delta q j

sum_picks : (b m a : ℤ) (p i q n : ℕ) (x : ℕ → ℤ) → p < n → i < n → q < n → sum (λ j. picks b m a p i q j *ℤ x j) n ≡ b *ℤ x p +ℤ m *ℤ x i +ℤ a *ℤ x q
sum_picks b m a p i q n x hp hi hq =
    sum_ext (λ j. picks b m a p i q j *ℤ x j) (λ j. b *ℤ (delta p j *ℤ x j) +ℤ m *ℤ (delta i j *ℤ x j) +ℤ a *ℤ (delta q j *ℤ x j)) n
    (λ j h. solve 7 (λ b m a s t u x. (b ⊗ s ⊕ m ⊗ t ⊕ a ⊗ u) ⊗ x ≋ b ⊗ (s ⊗ x) ⊕ m ⊗ (t ⊗ x) ⊕ a ⊗ (u ⊗ x)) tt
    b m a (delta p j) (delta i j) (delta q j) (x j))
    ∙ sum_add (λ j. b *ℤ (delta p j *ℤ x j) +ℤ m *ℤ (delta i j *ℤ x j)) (λ j. a *ℤ (delta q j *ℤ x j)) n
    ∙ rw (
      sum_add (λ j. b *ℤ (delta p j *ℤ x j)) (λ j. m *ℤ (delta i j *ℤ x j)) n,
      sum_mul (λ j. delta p j *ℤ x j) b n,
      sum_mul (λ j. delta i j *ℤ x j) m n,
      sum_mul (λ j. delta q j *ℤ x j) a n,
      sum_pick x p n hp,
      sum_pick x i n hi,
      sum_pick x q n hq,
    )

-- a factor at one place is not negative
pick_nonneg : (a i j : ℕ) → pos 0 ≤ℤ (pos a *ℤ delta i j)
pick_nonneg a i j = nonneg_mul (pos a) (delta i j) (nonneg a) (delta_cases i j (λ z. pos 0 ≤ℤ z) (λ e. nonneg 1) (λ e. nonneg 0))

delta_zero : (i j : ℕ) → j ≢ i → delta i j ≡ pos 0
delta_zero i j d = delta_cases i j (λ z. z ≡ pos 0) (λ e. absurd (d (sym e))) (λ e. refl)

module _ (k : ℕ) (R : Rows) (d : Dominant k R) where
  matrix : ℕ → ℕ → ℤ
  matrix i j = picks (pos (R.row i).before) (pos (R.row i).middle) (pos (R.row i).after) (R.prev i) i (R.next i) j

  matrix_row : (x : ℕ → ℤ) (i : ℕ) → i < R.size → sum (λ j. matrix i j *ℤ x j) R.size ≡ row_sum (R.row i) (x (R.prev i)) (x i) (x (R.next i))
  unfolding matrix
  matrix_row x i h = sum_picks (pos (R.row i).before) (pos (R.row i).middle) (pos (R.row i).after) (R.prev i) i (R.next i) R.size x
      (d.prev_fits i h) h (d.next_fits i h)

  -- what bounds a row's weights: the same picks, the middle factor negative
  bound : ℕ → ℕ → ℤ
  bound i j = picks (pos (R.row i).before) (neg_ℤ (pos (R.row i).middle)) (pos (R.row i).after) (R.prev i) i (R.next i) j *ℤ pos 1

  weight_bound : (i j : ℕ) → weight matrix i j ≤ℤ bound i j
  unfolding matrix bound
  weight_bound i j = weight_cases matrix i j (λ z. z ≤ℤ bound i j)
      (λ e. lin 4 (λ s m t u. # 0 ≼ s ∷ # 0 ≼ u ∷ [] ⊢ ⊝ (s ⊕ m ⊗ t ⊕ u) ≼ (s ⊕ ⊝ m ⊗ t ⊕ u) ⊗ # 1 by nat 2 ⊠ hyp 0 ⊞ nat 2 ⊠ hyp 1 ∷ []) tt
      first (pos (R.row i).middle) (delta i j) third first_nonneg third_nonneg)
      (λ e. lin 4
      (λ s m t u. # 0 ≼ s ∷ # 0 ≼ u ∷ t ≐ # 0 ∷ [] ⊢ ∣ s ⊕ m ⊗ t ⊕ u ∣≼ (s ⊕ ⊝ m ⊗ t ⊕ u) ⊗ # 1 by (# 2 ⊗ m) ⊡ 2 ∷ nat 2 ⊠ hyp 0 ⊞ nat 2 ⊠ hyp 1 ∷ []) tt
      first (pos (R.row i).middle) (delta i j) third first_nonneg third_nonneg (delta_zero i j e))
    where
      first : ℤ
      first = pos (R.row i).before *ℤ delta (R.prev i) j

      third : ℤ
      third = pos (R.row i).after *ℤ delta (R.next i) j

      first_nonneg : pos 0 ≤ℤ first
      first_nonneg = pick_nonneg (R.row i).before (R.prev i) j

      third_nonneg : pos 0 ≤ℤ third
      third_nonneg = pick_nonneg (R.row i).after (R.next i) j

  outer_below : (i : ℕ) → i < R.size → (R.row i).before + (R.row i).after + 1 ≤ (R.row i).middle
  outer_below i h = omega (arith, d.outer i h, d.some i h, mul-le-mul_right ((R.row i).before + (R.row i).after) d.two)

  matrix_strict : Strict R.size matrix
  unfolding bound
  matrix_strict i h = lin 4 (λ w b m a. w ≼ b ⊗ # 1 ⊕ ⊝ m ⊗ # 1 ⊕ a ⊗ # 1 ∷ b ⊕ a ⊕ # 1 ≼ m ∷ [] ⊢ w ≺ # 0 by hyp 0 ⊞ hyp 1 ∷ []) tt
      (sum (weight matrix i) R.size) (pos (R.row i).before) (pos (R.row i).middle) (pos (R.row i).after)
      (rw (sum_picks (pos (R.row i).before) (neg_ℤ (pos (R.row i).middle)) (pos (R.row i).after) (R.prev i) i (R.next i) R.size (λ j. pos 1)
      (d.prev_fits i h) h (d.next_fits i h)) at
      (sum_le (weight matrix i) (bound i) R.size (λ j g. weight_bound i j)))
      (pos_le ((R.row i).before + (R.row i).after + 1) (R.row i).middle (outer_below i h))

pub solvable : Solvable
solvable k R d = of (dense_solvable R.size (matrix k R d) (λ i. (R.row i).right) (matrix_strict k R d))
  where
    of : Dense R.size (matrix k R d) (λ i. (R.row i).right) → Solution R
    of s = record {
      denominator = s.denominator;
      positive = s.positive;
      unknown = s.unknown;
      solves = λ i h. sym (matrix_row k R d s.unknown i h) ∙ s.solves i h;
    }
