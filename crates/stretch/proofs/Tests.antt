-- The test of a stretch: the places at its two ends are on the stroke, so that only those between need be tested.
use mathlib.Core.Path.{◌≡◌, sym, ap, ◌∙◌}
use mathlib.Core.Bool.{Bool, true, false, ◌||◌, or-true, or-false}
use Prim.Native.Nat.{ℕ, ◌+◌, ◌-◌, ◌*◌, ◌≤◌}
use native.Mathlib.Nat.{add-zero}
use native.Mathlib.Omega.{arith}
use borrow.Author.Tests.{le-ltb}
use lib.IntN.{ℤ, pos}
use Rattle.integers.proofs.Ring.{solve, ◌≋◌, ◌⊖◌, ◌⊗◌, #◌}
use Rattle.sheet.specs.Bytes.{any_below}
use Rattle.sheet.proofs.Below.{any_append}
use Rattle.stretch.specs.Stretches.{off, off_at, strays_on}

module _ (t m : ℕ) (x z : ℤ) where
  start_on : off t m 0 x x z ≡ false
  start_on = rw (solve 3 (λ m x z. m ⊗ (x ⊖ x) ⊖ # 0 ⊗ (z ⊖ x) ≋ # 0) tt (pos m) x z) (le-ltb (t * m) 0 (omega arith))

  pub end_on : off t m m x z z ≡ false
  end_on = rw (solve 3 (λ m x z. m ⊗ (z ⊖ x) ⊖ m ⊗ (z ⊖ x) ≋ # 0) tt (pos m) x z) (le-ltb (t * m) 0 (omega arith))

module _ (t : ℕ) (x : ℕ → ℤ) (a m : ℕ) where
  pub none_yet : any_below (off_at t x a m) 1 ≡ false
  unfolding any_below
  none_yet = rw (add-zero a) (start_on t m (x a) (x (a + m)))

  pub none_at_all : any_below (off_at t x a m) m ≡ false → strays_on t x a m ≡ false
  unfolding any_below strays_on
  none_at_all e = rw e (end_on t m (x a) (x (a + m)))

  -- asked in two runs, the second one first
  module _ (middle : ℕ) (low : 1 ≤ middle) (high : middle ≤ m) where
    abbrev second : Bool
    second = any_below (λ k. off_at t x a m (middle + k)) (m - middle)

    halves : strays_on t x a m ≡ (any_below (λ k. off_at t x a m (1 + k)) (middle - 1) || second)
    unfolding strays_on any_below
    halves =
        let p = off_at t x a m in
        let e : middle + (m - middle) ≡ m = omega arith in let f : 1 + (middle - 1) ≡ middle = omega arith in
        (λ i. any_below p m || end_on t m (x a) (x (a + m)) i)
        ∙ or-false (any_below p m)
        ∙ ap (any_below p) (sym e)
        ∙ any_append p middle (m - middle)
        ∙ ap (λ (b : Bool). b || second) (ap (any_below p) (sym f) ∙ any_append p 1 (middle - 1) ∙ ap (λ (b : Bool). b || any_below (λ k. p (1 + k)) (middle - 1)) none_yet)

    pub in_second : second ≡ true → true ≡ strays_on t x a m
    in_second e = sym (halves ∙ ap (λ (b : Bool). any_below (λ k. off_at t x a m (1 + k)) (middle - 1) || b) e ∙ or-true (any_below (λ k. off_at t x a m (1 + k)) (middle - 1)))

    pub in_first : second ≡ false → any_below (λ k. off_at t x a m (1 + k)) (middle - 1) ≡ strays_on t x a m
    in_first e = sym (halves ∙ ap (λ (b : Bool). any_below (λ k. off_at t x a m (1 + k)) (middle - 1) || b) e ∙ or-false (any_below (λ k. off_at t x a m (1 + k)) (middle - 1)))
