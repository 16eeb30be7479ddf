-- What the functions inside ask for: the numbers of one test, a leg's places in a table or in one list, and counts that stay small.
use Rattle.std.specs.Prelude.{List, [], ℕ, ◌+◌, ◌*◌, ◌^◌, ◌≤◌, ◌<◌, ℤ, nat_abs, get_or, length}
use Rattle.systems.specs.Passes.{at}

-- a leg's places in a table, a list for each axis
abbrev pub tabled : List (List ℤ) → ℕ → ℕ → ℤ
tabled places axis u = at (get_or places axis []) u

-- a leg's places in one list, 257 for each axis
abbrev pub flat : List ℤ → ℕ → ℕ → ℤ
flat places axis u = at places (257 * axis + u)

-- no place is larger; with it nothing overflows 64 bits
abbrev pub Small : ℤ → Type 0
Small z = nat_abs z ≤ 2 ^ 47

-- the numbers of one test: x and z stand at the stroke's two ends, y between them
pub record OnStroke (tolerance m u : ℕ) (x y z : ℤ) : Type 0 where
  pub fine : tolerance ≤ 1_000
  pub few : m ≤ 256
  pub on : u ≤ m
  pub first : Small x
  pub here : Small y
  pub last : Small z

-- no place of the table is larger up to offset m
abbrev pub SmallUpTo : List (List ℤ) → ℕ → Type 0
SmallUpTo places m = (axis u : ℕ) → axis < 3 → u ≤ m → Small (tabled places axis u)

-- m ticks from offset a on of a leg whose places stand in one list
pub record FlatStretch (places : List ℤ) (tolerance a m : ℕ) : Type 0 where
  pub table : 771 ≤ length places
  pub fine : tolerance ≤ 1_000
  pub some : 1 ≤ m
  pub within : a + m ≤ 256
  pub small : (axis u : ℕ) → axis < 3 → u ≤ a + m → Small (flat places axis u)

-- the tick at its end, and the count with all ends that it may add
pub record Counted (from a m n : ℕ) : Type 0 where
  pub tick : from + (a + m) ≤ 131_072
  pub count : n + m ≤ 131_073
