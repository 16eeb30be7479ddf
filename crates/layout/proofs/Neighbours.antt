-- The neighbours of a waypoint as the code counts them: one less, one more, and round the ends.
use mathlib.Core.Path.{◌≡◌, ap}
use mathlib.Core.Bool.{cond}
use Prim.Native.Nat.{ℕ, zero, suc, ◌+◌, ◌-◌, ◌≤◌, ◌<◌}
use native.Mathlib.Numerals.{add-one}
use native.Mathlib.Omega.{arith}
use borrow.Author.Tests.{ne_eqb}
use lib.Dec.{eqb}
use Rattle.spline.specs.Spline.{Course, next, prev}

pub prev_first : (c : Course) (i : ℕ) → i ≡ 0 → c.points - 1 ≡ prev c i
unfolding prev
prev_first c zero h = omega arith
prev_first c (suc i) h = absurd (omega arith)

pub prev_later : (c : Course) (i : ℕ) → 1 ≤ i → i - 1 ≡ prev c i
unfolding prev
prev_later c zero h = absurd (omega arith)
prev_later c (suc i) h = omega arith

pub next_inner : (c : Course) (i : ℕ) → i + 1 < c.points → i + 1 ≡ next c i
unfolding next
next_inner c i h = rw (ne_eqb (suc i) c.points (λ e. omega arith)) (add-one i)

pub next_is : (c : Course) (n i : ℕ) → n ≡ c.points → cond (eqb (suc i) n) 0 (suc i) ≡ next c i
unfolding next
next_is c n i e = ap (λ m. cond (eqb (suc i) m) 0 (suc i)) e
