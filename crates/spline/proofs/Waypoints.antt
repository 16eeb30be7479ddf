-- How the numbers of waypoints and legs go together: `prev` and `next` are each other's inverses, round the course.
use mathlib.Core.Path.{◌≡◌, refl, ap}
use mathlib.Core.Bool.{cond}
use Prim.Native.Nat.{ℕ, zero, suc, ◌-◌, ◌≤◌, ◌<◌}
use native.Mathlib.Omega.{arith}
use lib.Dec.{eqb, eqb→eq, eqb_refl, T_not}
use Rattle.integers.proofs.Order.{by_test}
use Rattle.ends.specs.Ends.{leg_count, least_points}
use Rattle.ends.specs.declared.EndKind.{EndKind}
use Rattle.ends.specs.declared.EndKind.TheVariants.{Free, Held, Closed}
use Rattle.spline.specs.Spline.{Course, InBounds, legs, next, prev}
pub use Rattle.spline.proofs.Tried as tried

-- by a test of equality
pub by_equal : (m n : ℕ) {A : Type 0} (x y : A) (P : A → Type 0) → (m ≡ n → P x) → (¬ (m ≡ n) → P y) → P (cond (eqb m n) x y)
by_equal m n x y P f g = by_test (eqb m n) x y P (λ t. f (eqb→eq m n t)) (λ t. g (λ e. T_not (eqb m n) t (rw e (eqb_refl n))))

module _ (c : Course) where
  pub next_cases : (i : ℕ) (P : ℕ → Type 0) → (suc i ≡ c.points → P 0) → (¬ (suc i ≡ c.points) → P (suc i)) → P (next c i)
  unfolding next
  next_cases i P = by_equal (suc i) c.points 0 (suc i) P

  pub next_lt : (i : ℕ) → i < c.points → next c i < c.points
  next_lt i l = next_cases i (λ j. j < c.points) (λ e. omega arith) (λ e. omega arith)

  pub prev_lt : (i : ℕ) → i < c.points → prev c i < c.points
  unfolding prev
  prev_lt zero l = omega arith
  prev_lt (suc i) l = omega arith

  pub prev_next : (i : ℕ) → i < c.points → prev c (next c i) ≡ i
  unfolding prev
  prev_next i l = next_cases i (λ j. prev c j ≡ i) (λ e. omega arith) (λ e. refl)

  pub next_prev : (i : ℕ) → i < c.points → next c (prev c i) ≡ i
  unfolding prev
  next_prev zero l = next_cases (c.points - 1) (λ j. j ≡ 0) (λ e. refl) (λ e. absurd (e (omega arith)))
  next_prev (suc i) l = next_cases i (λ j. j ≡ suc i) (λ e. absurd (omega arith)) (λ e. refl)

-- how many waypoints and legs an accepted course has
pub record Counts (points legs : ℕ) : Type 0 where
  pub two_points : 2 ≤ points
  pub some_leg : 1 ≤ legs
  pub legs_within : legs ≤ points

counts_by : (e : EndKind) (n : ℕ) → least_points e ≤ n → Counts n (leg_count e n)
counts_by Free n l = omega arith
counts_by Held n l = omega arith
counts_by Closed n l = omega arith

module _ {c : Course} (bounds : InBounds c) where
  pub counts : Counts c.points (legs c)
  unfolding legs
  counts = omega (arith, counts_by c.ends c.points bounds.enough)

  -- an open course has one leg less than waypoints
  pub open_legs : (e : EndKind) → c.ends ≡ e → leg_count e c.points ≡ c.points - 1 → suc (legs c) ≡ c.points
  unfolding legs
  open_legs e q r = omega (arith, ap (λ (k : EndKind). leg_count k c.points) q, counts)
