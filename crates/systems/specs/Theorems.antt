-- What is proved of row systems, each theorem as a statement that can be read without its proof; proofs/ has it under the same name in lower case.
-- k >= 2 is the dominance factor (2 for the cubic), c the scale of the passes (65,536), Q a bound on c times the exact solution.
use Rattle.std.specs.Prelude.{◌≡◌, List, ℕ, ◌+◌, ◌*◌, ◌-◌, ◌^◌, ◌≤◌, ◌<◌, length, ℤ, pos, nat_abs, ◌-ℤ◌, ◌*ℤ◌}
use Rattle.systems.specs.Rows.{Rows, Dominant, Solves, Solution}
use Rattle.systems.specs.Passes.{at, sweep, pass, passes}

-- a dominant system has a solution in whole numbers over a denominator
abbrev pub Solvable : Type 0
Solvable = (k : ℕ) (R : Rows) → Dominant k R → Solution R

-- two solutions, over whatever denominators, are the same numbers (cross multiplied)
abbrev pub Unique : Type 0
Unique = (k : ℕ) (R : Rows) → Dominant k R → (D E : ℕ) (x y : ℕ → ℤ) → Solves R D x → Solves R E y → (i : ℕ) → i < R.size → pos E *ℤ x i ≡ pos D *ℤ y i

-- the bound on a solution: where k times a right side is at most k - 1 times the middle factor times B, no unknown is larger than B
abbrev pub SolutionBounded : Type 0
SolutionBounded = (k : ℕ) (R : Rows) → Dominant k R → (D : ℕ) (x : ℕ → ℤ) (B : ℕ) → Solves R D x
    → ((i : ℕ) → i < R.size → k * (D * nat_abs (R.row i).right) ≤ (k - 1) * (R.row i).middle * B)
    → (i : ℕ) → i < R.size → nat_abs (x i) ≤ B

-- what the theorems about passes take for granted: dominant rows whose right sides, times c, are small enough for values up to Q, and a list of zeros
pub record Passing (k : ℕ) (R : Rows) (c Q : ℕ) (zs : List ℤ) : Type 0 where
  pub dominant : Dominant k R
  pub small : (i : ℕ) → i < R.size → k * (c * nat_abs (R.row i).right) ≤ (k - 1) * (R.row i).middle * Q
  pub room : R.size ≤ length zs
  pub zeros : (i : ℕ) → i < R.size → at zs i ≡ pos 0

-- after m passes from zeros a number Z is at most 1 + Q / 2^m from c times any exact solution x over D
abbrev pub PassesNear : Type 0
PassesNear = (k : ℕ) (R : Rows) (c Q : ℕ) (zs : List ℤ) → Passing k R c Q zs → (D : ℕ) (x : ℕ → ℤ) → Solves R D x
    → (m i : ℕ) → i < R.size → 2 ^ m * nat_abs (pos D *ℤ at (passes R c m zs) i -ℤ pos c *ℤ x i) ≤ D * (2 ^ m + Q)

-- L6, for every dominant system: nine eighths after 40 passes, where 8 × Q is at most 2^40
abbrev pub FortyPassesNear : Type 0
FortyPassesNear = (k : ℕ) (R : Rows) (c Q : ℕ) (zs : List ℤ) → Passing k R c Q zs → 8 * Q ≤ 2 ^ 40 → (D : ℕ) (x : ℕ → ℤ) → Solves R D x
    → (i : ℕ) → i < R.size → 8 * nat_abs (pos D *ℤ at (passes R c 40 zs) i -ℤ pos c *ℤ x i) ≤ 9 * D

-- sizes: every number in every pass, also half way through one (as far as i), is at most Q
abbrev pub PassesBounded : Type 0
PassesBounded = (k : ℕ) (R : Rows) (c Q : ℕ) (zs : List ℤ) → Passing k R c Q zs
    → (m i j : ℕ) → i ≤ R.size → j < R.size → nat_abs (at (sweep R c i (passes R c m zs)) j) ≤ Q

-- a pass that changes nothing is followed by passes that change nothing: to end early gives the same numbers as going on to m
abbrev pub EarlyEnd : Type 0
EarlyEnd = (R : Rows) (c : ℕ) (zs : List ℤ) (a m : ℕ) → a ≤ m → pass R c (passes R c a zs) ≡ passes R c a zs → passes R c m zs ≡ passes R c a zs
