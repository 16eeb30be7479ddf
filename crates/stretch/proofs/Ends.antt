-- The stroke ends of a stretch (`ends_by`), whatever `keep` says of stretches of two ticks or more: as many cuts as ticks are enough, and the ends are a chain from the start to the end.
use mathlib.Core.Path.{◌≡◌, refl, sym, ap, ◌∙◌}
use mathlib.Core.Bool.{Bool, true, false, false≢true}
use mathlib.Core.List.{[], ◌∷◌, ◌++◌}
use Prim.Native.Nat.{ℕ, zero, suc, ◌+◌, ◌-◌, ◌/◌, ◌^◌, ◌≤◌, ◌<◌}
use native.Mathlib.Omega.{arith}
use borrow.Table.Steps.{cases}
use lib.ListN.{length}
use Rattle.integers.proofs.Order.{le_or_lt}
use Rattle.stretch.specs.Stretches.{ends_by}
use Rattle.stretch.specs.Chains.{Chain, Each}
use Rattle.stretch.proofs.Chains.{join, at_most, each_join}
pub use Rattle.stretch.proofs.Worked as worked

module _ (keep : ℕ → ℕ → Bool) (from : ℕ) where
  pub ends_kept : (d a m : ℕ) → keep a m ≡ true → ends_by keep from d a m ≡ (from + (a + m)) ∷ []
  unfolding ends_by
  ends_kept zero a m e = refl
  ends_kept (suc d) a m e = rw e

  ends_cut : (d a m : ℕ) → keep a m ≡ false → ends_by keep from (suc d) a m ≡ ends_by keep from d a (m / 2) ++ ends_by keep from d (a + m / 2) (m - m / 2)
  unfolding ends_by
  ends_cut d a m e = rw e

  -- H2: one tick is kept
  module _ (short : (a m : ℕ) → m < 2 → keep a m ≡ true) where
    pub long : (a m : ℕ) → keep a m ≡ false → 2 ≤ m
    long a m e = le_or_lt 2 m (2 ≤ m) (λ h. h) (λ h. absurd (false≢true (sym e ∙ short a m h)))

    enough : (d e a m : ℕ) → m ≤ d → m ≤ e → ends_by keep from d a m ≡ ends_by keep from e a m
    enough zero e a m h k = let q = short a m (omega arith) in ends_kept zero a m q ∙ sym (ends_kept e a m q)
    enough (suc d) zero a m h k = let q = short a m (omega arith) in ends_kept (suc d) a m q ∙ sym (ends_kept zero a m q)
    enough (suc d) (suc e) a m h k =
        cases (keep a m)
        (λ q. ends_kept (suc d) a m q ∙ sym (ends_kept (suc e) a m q))
        (λ q.
        let l = long a m q in
        ends_cut d a m q
        ∙ (λ i. enough d e a (m / 2) (omega arith) (omega arith) i ++ enough d e (a + m / 2) (m - m / 2) (omega arith) (omega arith) i)
        ∙ sym (ends_cut e a m q))

    -- a stretch that is not kept: the ends of its two halves, each by its own number of ticks
    pub halves : (a m : ℕ) → keep a m ≡ false
        → ends_by keep from m a m ≡ ends_by keep from (m / 2) a (m / 2) ++ ends_by keep from (m - m / 2) (a + m / 2) (m - m / 2)
    halves a zero q = absurd (omega (arith, long a zero q))
    halves a (suc d) q =
        let l = long a (suc d) q in
        ends_cut d a (suc d) q
        ∙ (λ i. enough d (suc d / 2) a (suc d / 2) (omega arith) (omega arith) i
        ++ enough d (suc d - suc d / 2) (a + suc d / 2) (suc d - suc d / 2) (omega arith) (omega arith) i)

    -- two ticks that are not kept: two ends
    pub pair : (a m : ℕ) → m ≡ 2 → keep a m ≡ false → ends_by keep from m a m ≡ (from + (a + 1)) ∷ (from + (a + 2)) ∷ []
    pair a m e q =
        let last : from + (a + 1 + 1) ≡ from + (a + 2) = omega arith in
        ap (λ n. ends_by keep from n a n) e
        ∙ halves a 2 (sym (ap (keep a) e) ∙ q)
        ∙ (λ i. ends_kept 1 a 1 (short a 1 (omega arith)) i ++ ends_kept 1 (a + 1) 1 (short (a + 1) 1 (omega arith)) i)
        ∙ ap (λ n. (from + (a + 1)) ∷ n ∷ []) last

    -- cuts inside each other halve the stretch: d of them are enough for 2^d ticks
    pub deep : (d a m : ℕ) → m ≤ 2 ^ d → ends_by keep from d a m ≡ ends_by keep from m a m
    deep zero a m h = let q = short a m (omega arith) in ends_kept zero a m q ∙ sym (ends_kept m a m q)
    deep (suc d) a m h =
        cases (keep a m)
        (λ q. ends_kept (suc d) a m q ∙ sym (ends_kept m a m q))
        (λ q. ends_cut d a m q ∙ (λ i. deep d a (m / 2) (omega arith) i ++ deep d (a + m / 2) (m - m / 2) (omega arith) i) ∙ sym (halves a m q))

    -- what holds of every stretch that is kept holds from end to end
    pub chain : (K : ℕ → ℕ → Type 0) (n : ℕ) → ((a m : ℕ) → 1 ≤ m → a + m ≤ n → keep a m ≡ true → K (from + a) (from + (a + m)))
        → (d a m : ℕ) → m ≤ d → 1 ≤ m → a + m ≤ n → Chain K (from + a) (ends_by keep from d a m) (from + (a + m))
    chain K n stroke zero a m h some fits = absurd (omega arith)
    chain K n stroke (suc d) a m h some fits =
        cases (keep a m)
        (λ q. rw (ends_kept (suc d) a m q) (stroke a m some fits q, refl))
        (λ q.
        let l = long a m q in
        let e : from + (a + m / 2 + (m - m / 2)) ≡ from + (a + m) = omega arith in
        rw (ends_cut d a m q)
        (join K (from + a) (from + (a + m / 2)) (from + (a + m)) (ends_by keep from d a (m / 2)) (ends_by keep from d (a + m / 2) (m - m / 2))
        (chain K n stroke d a (m / 2) (omega arith) (omega arith) (omega arith))
        (rw e at (chain K n stroke d (a + m / 2) (m - m / 2) (omega arith) (omega arith) (omega arith)))))

    -- what holds of the end, and of the middle of every stretch that is cut, holds of each end
    pub each_end : (P : ℕ → Type 0) (n : ℕ) → ((a m : ℕ) → a + m ≤ n → keep a m ≡ false → P (from + (a + m / 2)))
        → (d a m : ℕ) → a + m ≤ n → P (from + (a + m)) → Each P (ends_by keep from d a m)
    unfolding ends_by
    each_end P n middle zero a m fits end = (end, tt)
    each_end P n middle (suc d) a m fits end =
        cases (keep a m)
        (λ q. rw (ends_kept (suc d) a m q) (end, tt))
        (λ q.
        let e : from + (a + m / 2 + (m - m / 2)) ≡ from + (a + m) = omega arith in
        rw (ends_cut d a m q)
        (each_join P (ends_by keep from d a (m / 2)) (ends_by keep from d (a + m / 2) (m - m / 2))
        (each_end P n middle d a (m / 2) (omega arith) (middle a m fits q))
        (each_end P n middle d (a + m / 2) (m - m / 2) (omega arith) (rw e end))))

    pub few_ends : (a m : ℕ) → 1 ≤ m → length (ends_by keep from m a m) ≤ m
    few_ends a m some =
        omega (
          arith,
          at_most ◌<◌ (λ a b h. h) (from + a) (from + (a + m)) (ends_by keep from m a m)
              (chain ◌<◌ (a + m) (λ b k h f q. omega arith) m a m (omega arith) some (omega arith)),
        )
