-- What the functions inside ask for and promise: a table of a leg's places, and where a leg's ends begin.
use Rattle.std.specs.Prelude.{◌≡◌, List, ℕ, ◌+◌, ◌≤◌, ◌<◌, ℤ}
use Rattle.sheet.specs.Bytes.{sum_below}
use Rattle.sheet.specs.Fields.{legs, leg}
use Rattle.systems.specs.Passes.{at}
use Rattle.stretch.specs.Asked.{tabled}

-- the numbers of x up to h are those of f
pub record Filled (x : List ℤ) (h : ℕ) (f : ℕ → ℤ) : Type 0 where
  pub at_offset : (u : ℕ) → u ≤ h → at x u ≡ f u

-- the table holds the places f of a leg of h ticks
pub record Table (places : List (List ℤ)) (h : ℕ) (f : ℕ → ℕ → ℤ) : Type 0 where
  pub at_offset : (axis u : ℕ) → axis < 3 → u ≤ h → tabled places axis u ≡ f axis u

-- the leg i starts at tick `from`, up to which n ends are counted
pub record OnLegOf (s : List ℕ) (i from n : ℕ) : Type 0 where
  pub leg_fits : i < legs s
  pub starts : from ≡ sum_below (leg s) i
  pub counted : n ≤ from + 1
