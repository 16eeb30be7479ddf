-- `sixteenth_at`: the first sum is 0.
use Rattle.std.proofs.Common.{◌≡◌, List, ℕ, get_or, arith}
use Rattle.sheet.specs.Bytes.{sum_below}
use Rattle.sheet.specs.Carried.{Carried}
use Rattle.runner.proofs.ticks.sixteenth_at.Goals as goal

from_start : (s : List ℕ) (l : ℕ) (sums : List ℕ) → Carried s l sums → get_or sums 0 0 ≡ 0
unfolding sum_below
from_start s l sums kept = kept 0 (omega arith)

pub loop-b-init : goal.loop-b-init
loop-b-init c = omega (arith, from_start _ _ _ c.requires)
