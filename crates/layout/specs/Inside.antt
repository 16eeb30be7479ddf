-- What the functions inside laying out ask and promise of each other. The promise of `lay_out` names none of these words.
use Rattle.std.specs.Prelude.{◌≡◌, true, false, List, ℕ, ◌+◌, ◌≤◌, ◌<◌, ℤ, pos, nat_abs, length, replicate, ◌≤ℤ◌, Option, None, Some}
use Rattle.ends.specs.declared.EndKind.{EndKind}
use Rattle.ends.specs.declared.EndKind.TheVariants.{Free, Held, Closed}
use Rattle.sheet.specs.Fields.{points}
use Rattle.systems.specs.Rows as systems
use Rattle.systems.specs.Passes.{at, passes}
use Rattle.spline.specs.Spline.{Course, rows}
use Rattle.layout.specs.Course.{course}
use Rattle.layout.specs.declared.axis.Axis.{Axis}
use Rattle.layout.specs.declared.row.Row.{Row}

-- the course on the axis that the code is at
abbrev pub along : Axis → Course
along x = course x.sheet.bytes.now x.axis

-- of n waypoints i is the first, or else the last
abbrev pub AtEnd : ℕ → ℕ → Type 0
AtEnd n i = 1 ≤ i → i + 1 ≡ n

-- R2: i lies between two legs
abbrev pub Inner : EndKind → ℕ → ℕ → Type 0
Inner Free n i = (1 ≤ i) × (i + 1 < n)
Inner Held n i = (1 ≤ i) × (i + 1 < n)
Inner Closed n i = i < n

-- the code's row of a row that is present
abbrev pub code_row : systems.Row → Row
code_row r = record { before = pos r.before; middle = pos r.middle; after = pos r.after; right = r.right }

-- a leg: 1 to 256
pub record Leg (h : ℤ) : Type 0 where
  pub some : pos 1 ≤ℤ h
  pub few : nat_abs h ≤ 256

-- how large a row's numbers are: 256 × 256 × 256, four times that, and 256 × 2,000,000 twice
pub record Sized (r : Row) : Type 0 where
  pub some : pos 1 ≤ℤ r.middle
  pub before : nat_abs r.before ≤ 16_777_216
  pub middle : nat_abs r.middle ≤ 67_108_864
  pub after : nat_abs r.after ≤ 16_777_216
  pub right : nat_abs r.right ≤ 1_024_000_000

-- the code's answer for an end: no row, or the code's row of one that is present
abbrev pub RowOfEnd : Option Row → systems.Row → Type 0
RowOfEnd None r = r.present ≡ false
RowOfEnd (Some w) r = (r.present ≡ true) × (w ≡ code_row r) × Sized w

-- the bound on every bend number in every pass: 65,536 × 2,005,000
abbrev pub Small : ℤ → Type 0
Small z = nat_abs z ≤ 131_399_680_000

-- n numbers, all of them small
pub record AllSmall (n : ℕ) (z : List ℤ) : Type 0 where
  pub size : length z ≡ n
  pub small : (j : ℕ) → j < n → Small (at z j)

-- the numbers on an axis after m passes from zeros
abbrev pub after_passes : List ℕ → ℕ → ℕ → List ℤ
after_passes s axis m = passes (rows (course s axis)) 65536 m (replicate (points s) (pos 0))

-- the numbers of some count of passes
pub record Reached (x : Axis) (z : List ℤ) : Type 0 where
  pub count : ℕ
  pub numbers : z ≡ after_passes x.sheet.bytes.now x.axis count
