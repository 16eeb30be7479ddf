-- The records as plain numbers, leg, offset and laps of each seat in turn; one or two numbers left over at the end are no seat's.
use Rattle.std.specs.Prelude.{List, [], ◌∷◌, ◌++◌, ℕ, ◌*◌, ℤ, length, drop}
use Rattle.runner.specs.Ticks.{runner, at_lap}
use Rattle.runner.specs.declared.Runner.{Runner}
use Rattle.fleet.specs.Round.{fleet_after}

unfoldable pub records : List ℕ → List Runner
records [] = []
records (x ∷ []) = []
records (x ∷ y ∷ []) = []
records (x ∷ y ∷ z ∷ rest) = at_lap z (runner x y) ∷ records rest

unfoldable pub numbers : List Runner → List ℕ
numbers [] = []
numbers (r ∷ rs) = r.leg ∷ r.offset ∷ r.laps ∷ numbers rs

-- other records in the seats, and what stands beyond them as it was
unfoldable pub with_records : List ℕ → List Runner → List ℕ
with_records lent rs = numbers rs ++ drop (3 * length (records lent)) lent

-- the numbers after a round: those of the records that it leaves
unfoldable pub numbers_after : List ℕ → List ℤ → List ℕ → ℕ → List ℕ
numbers_after s list lent t = with_records lent (fleet_after s list (records lent) t)
