-- Passes in place over a list of whole numbers (L2). They compute: a course's bend numbers are `passes` over its rows, crate spline.
use Rattle.std.specs.Prelude.{cond, List, ℕ, zero, suc, get_or, set, ℤ, pos, ◌-ℤ◌, ◌*ℤ◌}
use Rattle.rounding.specs.Rounded.{rounded}
use Rattle.systems.specs.Rows.{Rows}

-- the number at i, and 0 past the end
abbrev pub at : List ℤ → ℕ → ℤ
at zs i = get_or zs i (pos 0)

-- L2, what is divided: c (65,536 at the station) times the right side, less the two neighbours' present numbers times their factors
unfoldable pub target : Rows → ℕ → List ℤ → ℕ → ℤ
target R c zs i = pos c *ℤ (R.row i).right -ℤ pos (R.row i).before *ℤ at zs (R.prev i) -ℤ pos (R.row i).after *ℤ at zs (R.next i)

-- L2, L4: the new number at i, by the middle factor
unfoldable pub renewed : Rows → ℕ → List ℤ → ℕ → ℤ
renewed R c zs i = rounded (target R c zs i) (R.row i).middle

-- a turn: the new number is put at i, where there is a row
unfoldable pub turn : Rows → ℕ → List ℤ → ℕ → List ℤ
turn R c zs i = cond (R.row i).present (set zs i (renewed R c zs i)) zs

-- a pass as far as i: the turns at 0, .., i - 1
unfoldable pub sweep : Rows → ℕ → ℕ → List ℤ → List ℤ
sweep R c zero zs = zs
sweep R c (suc i) zs = turn R c (sweep R c i zs) i

-- L2: a whole pass
unfoldable pub pass : Rows → ℕ → List ℤ → List ℤ
pass R c zs = sweep R c R.size zs

unfoldable pub passes : Rows → ℕ → ℕ → List ℤ → List ℤ
passes R c zero zs = zs
passes R c (suc m) zs = pass R c (passes R c m zs)
