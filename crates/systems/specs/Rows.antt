-- Row systems: each row names an unknown and its two neighbours. The rows of a course (R2 to R5) are such rows, for all kinds of ends.
use Rattle.std.specs.Prelude.{◌≡◌, Bool, false, ℕ, ◌+◌, ◌*◌, ◌/◌, ◌≤◌, ◌<◌, ℤ, pos, ◌+ℤ◌, ◌*ℤ◌}

-- before × x(prev) + middle × x(i) + after × x(next) = right. `before` and `after` are the outer factors.
-- An unknown without a row (R3, a free end) has `present` false and stands as the row x(i) = 0.
pub record Row : Type 0 where
  pub present : Bool
  pub before : ℕ
  pub middle : ℕ
  pub after : ℕ
  pub right : ℤ

-- the left side of a row, at the values a, b, z of the neighbour before, the unknown itself and the neighbour after
abbrev pub row_sum : Row → ℤ → ℤ → ℤ → ℤ
row_sum r a b z = pos r.before *ℤ a +ℤ pos r.middle *ℤ b +ℤ pos r.after *ℤ z

-- R6: half the middle factor. That a course's outer factors add up to it is proved (RowGap, crate spline).
abbrev pub gap : Row → ℕ
gap r = r.middle / 2

-- `size` unknowns, each with its neighbours and its row
pub record Rows : Type 0 where
  pub size : ℕ
  pub prev : ℕ → ℕ
  pub next : ℕ → ℕ
  pub row : ℕ → Row

-- every row is dominant by k: the middle factor is at least k times the outer ones together
pub record Dominant (k : ℕ) (R : Rows) : Type 0 where
  pub two : 2 ≤ k
  pub prev_fits : (i : ℕ) → i < R.size → R.prev i < R.size
  pub next_fits : (i : ℕ) → i < R.size → R.next i < R.size
  pub outer : (i : ℕ) → i < R.size → k * ((R.row i).before + (R.row i).after) ≤ (R.row i).middle
  pub some : (i : ℕ) → i < R.size → 1 ≤ (R.row i).middle
  pub absent : (i : ℕ) → i < R.size → (R.row i).present ≡ false → ((R.row i).before ≡ 0) × ((R.row i).after ≡ 0) × ((R.row i).right ≡ pos 0)

-- x over the denominator D solves the rows
abbrev pub Solves : Rows → ℕ → (ℕ → ℤ) → Type 0
Solves R D x = (i : ℕ) → i < R.size → row_sum (R.row i) (x (R.prev i)) (x i) (x (R.next i)) ≡ pos D *ℤ (R.row i).right

-- a solution over some positive denominator
pub record Solution (R : Rows) : Type 0 where
  pub denominator : ℕ
  pub positive : 1 ≤ denominator
  pub unknown : ℕ → ℤ
  pub solves : Solves R denominator unknown
