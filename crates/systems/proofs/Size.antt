-- The size lemma: in dominant rows the right sides bound the unknowns, because the row of the largest unknown does. From it: the bound on a solution, and
-- that two solutions are the same but for their denominators.
use mathlib.Core.Path.{◌≡◌, refl, ap}
use mathlib.Core.List.{[], ◌∷◌}
use Prim.Native.Nat.{ℕ, zero, suc, ◌+◌, ◌*◌, ◌-◌, ◌≤◌, ◌<◌}
use native.Mathlib.Omega.{arith}
use native.Mathlib.Nat.{mul-le-mul_left, mul-le-mul_right, mul-pos, le_of_mul-le-mul_left}
use lib.IntN.{ℤ, pos, nat_abs, ◌+ℤ◌, ◌-ℤ◌, ◌*ℤ◌}
use Rattle.integers.proofs.Ring.{◌⊕◌, ◌⊖◌, ◌⊗◌, ⊝◌, #◌, eq_of_sub}
use Rattle.integers.proofs.Linear.{◌≐◌, ◌⊢◌≗◌with◌, lin}
use Rattle.integers.proofs.Order.{abs_add, abs_sub, abs_mul, abs_zero}
use Rattle.integers.proofs.Extremes.{Extreme, largest}
use Rattle.systems.specs.Rows.{Row, row_sum, Rows, Dominant, Solves}
use Rattle.systems.specs.Theorems.{SolutionBounded, Unique}
pub use Rattle.systems.proofs.Example as example

-- a row in sizes: the unknown's part is at most the neighbours' parts and the right side together
pub row_sizes : (w : Row) (p x q s : ℤ) → row_sum w p x q ≡ s → w.middle * nat_abs x ≤ w.before * nat_abs p + w.after * nat_abs q + nat_abs s
row_sizes w p x q s e =
    omega (
      arith,
      ap nat_abs
          (lin 4 (λ x p q s. p ⊕ x ⊕ q ≐ s ∷ [] ⊢ x ≗ s ⊖ (p ⊕ q) with # 1 ∷ []) tt
          (pos w.middle *ℤ x) (pos w.before *ℤ p) (pos w.after *ℤ q) s e),
      abs_mul (pos w.middle) x,
      abs_sub s (pos w.before *ℤ p +ℤ pos w.after *ℤ q),
      abs_add (pos w.before *ℤ p) (pos w.after *ℤ q),
      abs_mul (pos w.before) p,
      abs_mul (pos w.after) q,
    )

-- two sequences in the same row, the first u times and the second v times: their difference in sizes
pub difference_sizes : (w : Row) (u v p x q p' x' q' r r' s : ℤ) → row_sum w p x q ≡ r → row_sum w p' x' q' ≡ r' → u *ℤ r -ℤ v *ℤ r' ≡ s
    → w.middle * nat_abs (u *ℤ x -ℤ v *ℤ x') ≤ w.before * nat_abs (u *ℤ p -ℤ v *ℤ p') + w.after * nat_abs (u *ℤ q -ℤ v *ℤ q') + nat_abs s
difference_sizes w u v p x q p' x' q' r r' s e f g = row_sizes w (u *ℤ p -ℤ v *ℤ p') (u *ℤ x -ℤ v *ℤ x') (u *ℤ q -ℤ v *ℤ q') s
    (lin 14
    (λ b m a u v p x q p' x' q' r r' s. b ⊗ p ⊕ m ⊗ x ⊕ a ⊗ q ≐ r ∷ b ⊗ p' ⊕ m ⊗ x' ⊕ a ⊗ q' ≐ r' ∷ u ⊗ r ⊖ v ⊗ r' ≐ s ∷ []
    ⊢ b ⊗ (u ⊗ p ⊖ v ⊗ p') ⊕ m ⊗ (u ⊗ x ⊖ v ⊗ x') ⊕ a ⊗ (u ⊗ q ⊖ v ⊗ q') ≗ s with u ∷ ⊝ v ∷ # 1 ∷ []) tt
    (pos w.before) (pos w.middle) (pos w.after) u v p x q p' x' q' r r' s e f g)

-- the arithmetic of a row at the largest size y; p, q are the sizes at its neighbours: (k - 1) × middle × y is at most k × r
largest_bounded : (k : ℕ) (w : Row) (p y q r B : ℕ) → 2 ≤ k → 1 ≤ w.middle → k * (w.before + w.after) ≤ w.middle
    → w.middle * y ≤ w.before * p + w.after * q + r → k * r ≤ (k - 1) * w.middle * B → p ≤ y → q ≤ y → y ≤ B
largest_bounded zero w p y q r B two some outer row small hp hq = absurd (omega arith)
largest_bounded (suc j) w p y q r B two some outer row small hp hq =
    let e : suc j - 1 ≡ j = omega arith in
    let small' : suc j * r ≤ j * w.middle * B = rw e at small in
    le_of_mul-le-mul_left {k = j * w.middle}
    (omega (arith, mul-le-mul_left (suc j) row, mul-le-mul_left (suc j * w.before) hp, mul-le-mul_left (suc j * w.after) hq, mul-le-mul_right y outer))
    (mul-pos (omega arith) some)

-- the size lemma: v are the sizes of the unknowns, r those of the right sides. It is enough to look at an index where v is largest.
pub sizes_bounded : (k : ℕ) (R : Rows) → Dominant k R → (v r : ℕ → ℕ) (B : ℕ)
    → ((i : ℕ) → i < R.size → (R.row i).middle * v i ≤ (R.row i).before * v (R.prev i) + (R.row i).after * v (R.next i) + r i)
    → ((i : ℕ) → i < R.size → k * r i ≤ (k - 1) * (R.row i).middle * B)
    → (i : ℕ) → i < R.size → v i ≤ B
sizes_bounded k R d v r B rows small i h = go R.size refl
  where
    from : (n : ℕ) → R.size ≡ suc n → Extreme (λ a b. a ≤ b) v (suc n) → v i ≤ B
    from n e m =
        let j : ℕ = m.index in
        let f : j < R.size = omega (arith, m.fits) in
        omega (
          arith,
          m.bounds i (omega arith),
          largest_bounded k (R.row j) (v (R.prev j)) (v j) (v (R.next j)) (r j) B d.two (d.some j f) (d.outer j f) (rows j f) (small j f)
              (m.bounds (R.prev j) (omega (arith, d.prev_fits j f))) (m.bounds (R.next j) (omega (arith, d.next_fits j f))),
        )

    go : (n : ℕ) → R.size ≡ n → v i ≤ B
    go zero e = absurd (omega arith)
    go (suc n) e = from n e (largest v n)

-- the size lemma at a solution's own rows
pub solution_bounded : SolutionBounded
solution_bounded k R d D x B s small = sizes_bounded k R d (λ i. nat_abs (x i)) (λ i. D * nat_abs (R.row i).right) B
    (λ i h. omega (
      arith,
      row_sizes (R.row i) (x (R.prev i)) (x i) (x (R.next i)) (pos D *ℤ (R.row i).right) (s i h),
      abs_mul (pos D) (R.row i).right,
    ))
    small

-- the difference of two solutions, multiplied so that their right sides agree, solves the rows with right sides 0: the size lemma with B = 0
module _ (k : ℕ) (R : Rows) (d : Dominant k R) (D E : ℕ) (x y : ℕ → ℤ) (s : Solves R D x) (t : Solves R E y) where
  cross : (a b : ℕ) → a * D ≡ b * E → (i : ℕ) → i < R.size → pos a *ℤ x i ≡ pos b *ℤ y i
  cross a b e i h = eq_of_sub (pos a *ℤ x i) (pos b *ℤ y i) (abs_zero (pos a *ℤ x i -ℤ pos b *ℤ y i) (none i h))
    where
      none : (j : ℕ) → j < R.size → nat_abs (pos a *ℤ x j -ℤ pos b *ℤ y j) ≤ 0
      none = sizes_bounded k R d (λ j. nat_abs (pos a *ℤ x j -ℤ pos b *ℤ y j)) (λ j. 0) 0
          (λ j g. difference_sizes (R.row j) (pos a) (pos b) (x (R.prev j)) (x j) (x (R.next j)) (y (R.prev j)) (y j) (y (R.next j))
          (pos D *ℤ (R.row j).right) (pos E *ℤ (R.row j).right) (pos 0) (s j g) (t j g)
          (lin 5 (λ a b D E r. a ⊗ D ≐ b ⊗ E ∷ [] ⊢ a ⊗ (D ⊗ r) ⊖ b ⊗ (E ⊗ r) ≗ # 0 with r ∷ []) tt
          (pos a) (pos b) (pos D) (pos E) (R.row j).right (ap pos e)))
          (λ j g. omega arith)

pub unique : Unique
unique k R d D E x y s t i h = cross k R d D E x y s t _ _ (omega arith) i h
