-- The walk along the legs, over a leg function alone: what it finds, and that nothing else fits, laps aside. Both go by the count of legs that are left:
-- a tick below the leg's length stays on it, any other goes on to the next leg with that length taken off.
use mathlib.Core.Path.{◌≡◌, refl, ap}
use mathlib.Core.Bool.{cond}
use mathlib.Core.Logic.{◌⊎◌, inl, inr, ⊎_elim}
use Prim.Native.Nat.{ℕ, zero, suc, ◌+◌, ◌-◌, ◌≤◌, ◌<◌}
use native.Mathlib.Omega.{arith}
use lib.Dec.{ltb, ltb→lt, nltb→le}
use Rattle.integers.proofs.Order.{by_test, le_or_lt}
use Rattle.sheet.proofs.Below.{sum_step, sum_monotone}
use Rattle.sheet.specs.Bytes.{sum_below}
use Rattle.runner.specs.Ticks.{runner, at_lap, walk}
use Rattle.runner.specs.declared.Runner.{Runner}

-- a choice by the order of two numbers, as the tests of walk and step make it
pub by_order : (a b : ℕ) {A : Type 0} (x y : A) (P : A → Type 0) → (a < b → P x) → (b ≤ a → P y) → P (cond (ltb a b) x y)
by_order a b x y P below above = by_test (ltb a b) x y P (λ t. below (ltb→lt a b t)) (λ t. above (nltb→le a b t))

-- r has the tick t, counted from the start of leg i: on a leg from i to i + k, and below that leg's length or else on leg i + k
pub record Found (h : ℕ → ℕ) (k i t : ℕ) (r : Runner) : Type 0 where
  pub first : i ≤ r.leg
  pub last : r.leg ≤ i + k
  pub within : (r.offset < h r.leg) ⊎ (r.leg ≡ i + k)
  pub tick : sum_below h r.leg + r.offset ≡ sum_below h i + t

-- what is found from the next leg on is found from leg i on
from_next : (h : ℕ → ℕ) (k i t : ℕ) (r : Runner) → h i ≤ t → Found h k (suc i) (t - h i) r → Found h (suc k) i t r
unfolding sum_below
from_next h k i t r q f =
    record {
      first = omega arith;
      last = omega arith;
      within = ⊎_elim inl (λ e. inr (omega arith)) f.within;
      tick = omega arith;
    }

pub walk_finds : (h : ℕ → ℕ) (k i t : ℕ) → Found h k i t (walk h k i t)
unfolding walk
walk_finds h zero i t = record { first = omega arith; last = omega arith; within = inr (omega arith); tick = refl }
walk_finds h (suc k) i t =
    by_order t (h i) (runner i t) (walk h k (suc i) (t - h i)) (Found h (suc k) i t)
    (λ q. record { first = omega arith; last = omega arith; within = inl q; tick = refl })
    (λ q. from_next h k i t _ q (walk_finds h k (suc i) (t - h i)))

-- on the leg i itself the offset is the tick
same_leg : (h : ℕ → ℕ) (k i t : ℕ) (r : Runner) → Found h k i t r → r.leg ≡ i → at_lap 0 r ≡ runner i t
same_leg h k i t r f p = λ j. runner (p j) (q j)
  where
    q : r.offset ≡ t
    q = omega (arith, ap (sum_below h) p)

-- a tick below the length of leg i is on leg i: every later leg starts after it
stays : (h : ℕ → ℕ) (k i t : ℕ) (r : Runner) → t < h i → Found h k i t r → r.leg ≡ i
unfolding sum_below
stays h k i t r q f = le_or_lt r.leg i (r.leg ≡ i) (λ p. omega arith) (λ p. absurd (omega (arith, sum_monotone h (suc i) r.leg p)))

-- a later tick is not on leg i, so it is found from the next leg on
to_next : (h : ℕ → ℕ) (k i t : ℕ) (r : Runner) → h i ≤ t → Found h (suc k) i t r → Found h k (suc i) (t - h i) r
unfolding sum_below
to_next h k i t r q f =
    record {
      first = le_or_lt r.leg i (i < r.leg) (λ p. absurd (not_here (omega arith))) (λ p. p);
      last = omega arith;
      within = ⊎_elim inl (λ e. inr (omega arith)) f.within;
      tick = omega arith;
    }
  where
    not_here : r.leg ≡ i → ⊥
    not_here p = ⊎_elim (λ o. omega (arith, ap (sum_below h) p, ap h p)) (λ e. omega arith) f.within

pub walk_only : (h : ℕ → ℕ) (k i t : ℕ) (r : Runner) → Found h k i t r → at_lap 0 r ≡ walk h k i t
unfolding walk
walk_only h zero i t r f = same_leg h zero i t r f (omega arith)
walk_only h (suc k) i t r f =
    by_order t (h i) (runner i t) (walk h k (suc i) (t - h i)) (λ w. at_lap 0 r ≡ w)
    (λ q. same_leg h (suc k) i t r f (stays h (suc k) i t r q f))
    (λ q. walk_only h k (suc i) (t - h i) r (to_next h k i t r q f))

-- P7: told by the sums alone: leg i starts at the tick or before it, and ends after it or is the last of the n legs
pub walk_by_sums : (h : ℕ → ℕ) (n i t : ℕ) → i < n → sum_below h i ≤ t → (t < sum_below h (i + 1)) ⊎ (i + 1 ≡ n) → runner i (t - sum_below h i) ≡ walk h (n - 1) 0 t
unfolding sum_below
walk_by_sums h n i t p from till =
    walk_only h (n - 1) 0 t (runner i (t - sum_below h i)) (record {
      first = omega arith;
      last = omega arith;
      within = ⊎_elim (λ q. inl (omega (arith, sum_step h i))) (λ e. inr (omega arith)) till;
      tick = omega arith;
    })

-- and so is the leg that the walk finds
pub walk_sums : (h : ℕ → ℕ) (n t : ℕ) → 1 ≤ n → let r = walk h (n - 1) 0 t in
    (r.leg < n) × (sum_below h r.leg ≤ t) × ((t < sum_below h (r.leg + 1)) ⊎ (r.leg + 1 ≡ n))
unfolding sum_below
walk_sums h n t some =
    let f = walk_finds h (n - 1) 0 t in let i = (walk h (n - 1) 0 t).leg in
    (omega arith, omega arith, ⊎_elim (λ q. inl (omega (arith, sum_step h i))) (λ e. inr (omega arith)) f.within)
