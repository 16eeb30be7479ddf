-- Dense systems, for Existence: if in each row the diagonal is larger than the sizes of all other entries together, then whole numbers over a denominator
-- solve all rows. The last unknown is eliminated; what is left is dominant again, with one unknown less.
use mathlib.Core.Path.{◌≡◌, refl, sym, ◌∙◌}
use mathlib.Core.Logic.{◌≢◌}
use mathlib.Core.List.{[], ◌∷◌}
use mathlib.Core.Bool.{Bool, true, false, cond}
use Prim.Native.Nat.{ℕ, zero, suc, ◌*◌, ◌≤◌, ◌<◌}
use native.Mathlib.Omega.{arith}
use native.Mathlib.Nat.{mul-pos}
use lib.Dec.{eqb, ltb, eqb→eq, eqb_refl, T_not, ltb→lt, nltb→le}
use lib.IntN.{ℤ, pos, neg_ℤ, nat_abs, ◌+ℤ◌, ◌-ℤ◌, ◌*ℤ◌}
use lib.Signed.{◌≤ℤ◌, ◌<ℤ◌, ≤ℤ_refl}
use Rattle.integers.proofs.Ring.{◌⊕◌, ◌⊖◌, ◌⊗◌, ⊝◌, #◌, ◌≋◌, solve}
use Rattle.integers.proofs.Order.{by_test, le_or_lt, abs_mul, abs_upper, nonneg, nonneg_nat, le_pos}
use Rattle.integers.proofs.Linear.{◌≐◌, ◌≼◌, ◌≺◌, ∣◌∣≼◌, ◌⊢◌by◌, ◌⊢◌≗◌with◌, hyp, low, nat, ◌⊞◌, ◌⊠◌, lin}
use Rattle.integers.proofs.Sums.{sum, sum_ext, sum_add, sum_sub, sum_mul, sum_le, sum_zero}

-- an entry's weight in its row: turned in sign on the diagonal, its size elsewhere
unfoldable pub weight : (ℕ → ℕ → ℤ) → ℕ → ℕ → ℤ
weight A i j = cond (eqb j i) (neg_ℤ (A i j)) (pos (nat_abs (A i j)))

-- strictly diagonally dominant: each row's weights add up to less than 0
abbrev pub Strict : ℕ → (ℕ → ℕ → ℤ) → Type 0
Strict n A = (i : ℕ) → i < n → sum (weight A i) n <ℤ pos 0

module _ (A : ℕ → ℕ → ℤ) (i : ℕ) where
  pub weight_cases : (j : ℕ) (P : ℤ → Type 0) → (j ≡ i → P (neg_ℤ (A i j))) → (j ≢ i → P (pos (nat_abs (A i j)))) → P (weight A i j)
  unfolding weight
  weight_cases j P f g = by_test (eqb j i) (neg_ℤ (A i j)) (pos (nat_abs (A i j))) P (λ t. f (eqb→eq j i t)) (λ t. g (λ e. T_not (eqb j i) t (rw e (eqb_refl i))))

  weight_diagonal : weight A i i ≡ neg_ℤ (A i i)
  weight_diagonal = weight_cases i (λ z. z ≡ neg_ℤ (A i i)) (λ e. refl) (λ e. absurd (e refl))

  weight_other : (j : ℕ) → j ≢ i → weight A i j ≡ pos (nat_abs (A i j))
  weight_other j d = weight_cases j (λ z. z ≡ pos (nat_abs (A i j))) (λ e. absurd (d e)) (λ e. refl)

-- ---- one elimination: of the last unknown, n, by the last row
abbrev reduced : ℕ → (ℕ → ℕ → ℤ) → ℕ → ℕ → ℤ
reduced n A i j = A n n *ℤ A i j -ℤ A i n *ℤ A n j

abbrev reduced_right : ℕ → (ℕ → ℕ → ℤ) → (ℕ → ℤ) → ℕ → ℤ
reduced_right n A b i = A n n *ℤ b i -ℤ A i n *ℤ b n

-- what an elimination does to one weight, on the diagonal (`true`) and elsewhere
weight_reduced : (n : ℕ) (A : ℕ → ℕ → ℤ) (i j : ℕ) → pos 0 ≤ℤ A n n
    → weight (reduced n A) i j ≤ℤ (A n n *ℤ weight A i j +ℤ pos (nat_abs (A i n)) *ℤ pos (nat_abs (A n j)))
unfolding weight
weight_reduced n A i j h = go (eqb j i)
  where
    u : ℤ
    u = A i n *ℤ A n j

    w : ℤ
    w = pos (nat_abs (A i n) * nat_abs (A n j))

    size : nat_abs u ≡ nat_abs (A i n) * nat_abs (A n j)
    size = abs_mul (A i n) (A n j)

    go : (b : Bool) → cond b (neg_ℤ (A n n *ℤ A i j -ℤ u)) (pos (nat_abs (A n n *ℤ A i j -ℤ u))) ≤ℤ (A n n *ℤ cond b (neg_ℤ (A i j)) (pos (nat_abs (A i j))) +ℤ w)
    go true = lin 4 (λ p a u w. u ≼ w ∷ [] ⊢ ⊝ (p ⊗ a ⊖ u) ≼ p ⊗ ⊝ a ⊕ w by hyp 0 ∷ []) tt (A n n) (A i j) u w (rw size at (abs_upper u))
    go false = lin 5
        (λ p a u s w. # 0 ≼ p ∷ ∣ a ∣≼ s ∷ ∣ u ∣≼ w ∷ [] ⊢ ∣ p ⊗ a ⊖ u ∣≼ p ⊗ s ⊕ w by hyp 0 ⊠ hyp 1 ⊞ low 2 ∷ hyp 0 ⊠ low 1 ⊞ hyp 2 ∷ []) tt
        (A n n) (A i j) u (pos (nat_abs (A i j))) w h (≤ℤ_refl (pos (nat_abs (A i j)))) (rw size (≤ℤ_refl w))

module _ (n : ℕ) (A : ℕ → ℕ → ℤ) (strict : Strict (suc n) A) where
  -- the sizes of the last row's entries, but for its diagonal
  last : ℤ
  last = sum (λ j. pos (nat_abs (A n j))) n

  last_nonneg : pos 0 ≤ℤ last
  unfolding last
  last_nonneg = rw (← sum_zero n) (sum_le (λ j. pos 0) (λ j. pos (nat_abs (A n j))) n (λ j h. nonneg (nat_abs (A n j))))

  last_below : last <ℤ A n n
  unfolding sum last
  last_below = lin 2 (λ s p. s ⊕ ⊝ p ≺ # 0 ∷ [] ⊢ s ≺ p by hyp 0 ∷ []) tt last (A n n)
      (rw (sum_ext (weight A n) (λ j. pos (nat_abs (A n j))) n (λ j h. weight_other A n j (omega arith)), weight_diagonal A n) at (strict n (omega arith)))

  pivot_positive : pos 1 ≤ℤ A n n
  pivot_positive = lin 2 (λ s p. # 0 ≼ s ∷ s ≺ p ∷ [] ⊢ # 1 ≼ p by hyp 0 ⊞ hyp 1 ∷ []) tt last (A n n) last_nonneg last_below

  pivot_nonneg : pos 0 ≤ℤ A n n
  pivot_nonneg = lin 1 (λ p. # 1 ≼ p ∷ [] ⊢ # 0 ≼ p by hyp 0 ∷ []) tt (A n n) pivot_positive

  row_strict : (i : ℕ) → i < n → (sum (weight A i) n +ℤ pos (nat_abs (A i n))) <ℤ pos 0
  unfolding sum
  row_strict i h = rw (weight_other A i n (omega arith)) at (strict i (omega arith))

  -- and to a row's weights together
  row_reduced : (i : ℕ) → sum (weight (reduced n A) i) n ≤ℤ (A n n *ℤ sum (weight A i) n +ℤ pos (nat_abs (A i n)) *ℤ last)
  unfolding last
  row_reduced i =
      rw (
        ← sum_mul (weight A i) (A n n) n,
        ← sum_mul (λ j. pos (nat_abs (A n j))) (pos (nat_abs (A i n))) n,
        ← sum_add (λ j. A n n *ℤ weight A i j) (λ j. pos (nat_abs (A i n)) *ℤ pos (nat_abs (A n j))) n,
      )
      (sum_le (weight (reduced n A) i) (λ j. A n n *ℤ weight A i j +ℤ pos (nat_abs (A i n)) *ℤ pos (nat_abs (A n j))) n
      (λ j h. weight_reduced n A i j pivot_nonneg))

  reduced_strict : Strict n (reduced n A)
  reduced_strict i h = lin 5
      (λ p s u l x. s ⊕ u ≺ # 0 ∷ l ≺ p ∷ # 0 ≼ u ∷ # 0 ≼ l ∷ x ≼ p ⊗ s ⊕ u ⊗ l ∷ []
      ⊢ x ≺ # 0 by hyp 4 ⊞ (hyp 1 ⊞ hyp 3 ⊞ nat 1) ⊠ hyp 0 ⊞ hyp 2 ⊠ hyp 1 ⊞ hyp 1 ⊞ hyp 3 ⊞ hyp 2 ∷ []) tt
      (A n n) (sum (weight A i) n) (pos (nat_abs (A i n))) last (sum (weight (reduced n A) i) n)
      (row_strict i h) last_below (nonneg (nat_abs (A i n))) last_nonneg (row_reduced i)

-- ---- a solution of a dense system
pub record Dense (n : ℕ) (A : ℕ → ℕ → ℤ) (b : ℕ → ℤ) : Type 0 where
  pub denominator : ℕ
  pub positive : 1 ≤ denominator
  pub unknown : ℕ → ℤ
  pub solves : (i : ℕ) → i < n → sum (λ j. A i j *ℤ unknown j) n ≡ pos denominator *ℤ b i

-- a solution x over D of what is left, taken q times (q is the pivot), together with what the last row says of the last unknown, solves all over q × D
module _ (n : ℕ) (A : ℕ → ℕ → ℤ) (b x : ℕ → ℤ) (D q : ℕ) (pivot : A n n ≡ pos q)
    (solves : (i : ℕ) → i < n → sum (λ j. reduced n A i j *ℤ x j) n ≡ pos D *ℤ reduced_right n A b i) where
  partial : ℕ → ℤ
  partial i = sum (λ j. A i j *ℤ x j) n

  extended : ℕ → ℤ
  extended j = cond (ltb j n) (A n n *ℤ x j) (pos D *ℤ b n -ℤ partial n)

  extended_below : (j : ℕ) → j < n → extended j ≡ A n n *ℤ x j
  unfolding extended
  extended_below j h =
      by_test (ltb j n) (A n n *ℤ x j) (pos D *ℤ b n -ℤ partial n) (λ z. z ≡ A n n *ℤ x j) (λ t. refl) (λ t. absurd (omega (arith, nltb→le j n t)))

  extended_last : extended n ≡ pos D *ℤ b n -ℤ partial n
  unfolding extended
  extended_last =
      by_test (ltb n n) (A n n *ℤ x n) (pos D *ℤ b n -ℤ partial n) (λ z. z ≡ pos D *ℤ b n -ℤ partial n) (λ t. absurd (omega (arith, ltb→lt n n t))) (λ t. refl)

  -- a row of the whole matrix
  row_sum : (i : ℕ) → sum (λ j. A i j *ℤ extended j) (suc n) ≡ A n n *ℤ partial i +ℤ A i n *ℤ (pos D *ℤ b n -ℤ partial n)
  unfolding sum partial
  row_sum i = rw (
    extended_last,
    sum_ext (λ j. A i j *ℤ extended j) (λ j. A n n *ℤ (A i j *ℤ x j)) n
        (λ j h. rw (extended_below j h) (solve 3 (λ a p x. a ⊗ (p ⊗ x) ≋ p ⊗ (a ⊗ x)) tt (A i j) (A n n) (x j))),
    sum_mul (λ j. A i j *ℤ x j) (A n n) n,
  )

  -- a row of the reduced one
  row_sum_reduced : (i : ℕ) → sum (λ j. reduced n A i j *ℤ x j) n ≡ A n n *ℤ partial i -ℤ A i n *ℤ partial n
  unfolding partial
  row_sum_reduced i =
      sum_ext (λ j. reduced n A i j *ℤ x j) (λ j. A n n *ℤ (A i j *ℤ x j) -ℤ A i n *ℤ (A n j *ℤ x j)) n
      (λ j h. solve 5 (λ p a u v x. (p ⊗ a ⊖ u ⊗ v) ⊗ x ≋ p ⊗ (a ⊗ x) ⊖ u ⊗ (v ⊗ x)) tt (A n n) (A i j) (A i n) (A n j) (x j))
      ∙ sum_sub (λ j. A n n *ℤ (A i j *ℤ x j)) (λ j. A i n *ℤ (A n j *ℤ x j)) n
      ∙ rw (sum_mul (λ j. A i j *ℤ x j) (A n n) n, sum_mul (λ j. A n j *ℤ x j) (A i n) n)

  row_below : (i : ℕ) → i < n → sum (λ j. A i j *ℤ extended j) (suc n) ≡ pos (q * D) *ℤ b i
  row_below i h =
      row_sum i
      ∙ lin 9
      (λ p q s u l D bi bn r. p ≐ q ∷ r ≐ p ⊗ s ⊖ u ⊗ l ∷ r ≐ D ⊗ (p ⊗ bi ⊖ u ⊗ bn) ∷ []
      ⊢ p ⊗ s ⊕ u ⊗ (D ⊗ bn ⊖ l) ≗ q ⊗ D ⊗ bi with D ⊗ bi ∷ ⊝ # 1 ∷ # 1 ∷ []) tt
      (A n n) (pos q) (partial i) (A i n) (partial n) (pos D) (b i) (b n) (sum (λ j. reduced n A i j *ℤ x j) n) pivot (row_sum_reduced i) (solves i h)

  row_last : sum (λ j. A n j *ℤ extended j) (suc n) ≡ pos (q * D) *ℤ b n
  row_last =
      row_sum n
      ∙ lin 5 (λ p q l D bn. p ≐ q ∷ [] ⊢ p ⊗ l ⊕ p ⊗ (D ⊗ bn ⊖ l) ≗ q ⊗ D ⊗ bn with D ⊗ bn ∷ []) tt (A n n) (pos q) (partial n) (pos D) (b n) pivot

  extended_solution : 1 ≤ q → 1 ≤ D → Dense (suc n) A b
  extended_solution hq hD = record {
    denominator = q * D;
    positive = mul-pos hq hD;
    unknown = extended;
    solves = λ i h. le_or_lt n i (sum (λ j. A i j *ℤ extended j) (suc n) ≡ pos (q * D) *ℤ b i)
        (λ g. let e : i ≡ n = omega arith in rw e row_last) (row_below i);
  }

pub dense_solvable : (n : ℕ) (A : ℕ → ℕ → ℤ) (b : ℕ → ℤ) → Strict n A → Dense n A b
dense_solvable zero A b strict = record { denominator = 1; positive = omega arith; unknown = λ j. pos 0; solves = λ i h. absurd (omega arith) }
dense_solvable (suc n) A b strict = extend (dense_solvable n (reduced n A) (reduced_right n A b) (reduced_strict n A strict))
  where
    pivot : pos (nat_abs (A n n)) ≡ A n n
    pivot = nonneg_nat (A n n) (pivot_nonneg n A strict)

    extend : Dense n (reduced n A) (reduced_right n A b) → Dense (suc n) A b
    extend s = extended_solution n A b s.unknown s.denominator (nat_abs (A n n)) (sym pivot) s.solves
        (le_pos 1 (nat_abs (A n n)) (rw pivot (pivot_positive n A strict))) s.positive
