-- Laying out (A3, L5): answer and list, of refused calls too. It computes: the worked courses' bend numbers follow by evaluation.
use Rattle.std.specs.Prelude.{Bool, cond, List, ◌++◌, ℕ, ◌*◌, eqb, ltb, ℤ, length, drop}
use Rattle.sheet.specs.Answers.{Told}
use Rattle.sheet.specs.Fields.{points}
use Rattle.sheet.specs.Reading.{most_points, read_by}
use Rattle.sheet.specs.declared.Refusal.TheVariants.{Shelf}
use Rattle.answers.specs.Answers.{done, pass_on, guard}
use Rattle.spline.specs.Spline.{bends}
use Rattle.layout.specs.Course.{course}

-- L3, L5: N bend numbers of each axis, north first
unfoldable pub all_bends : List ℕ → List ℤ
all_bends s = bends (course s 0) ++ bends (course s 1) ++ bends (course s 2)

-- N9, asked of the length `room` of a lent list
abbrev pub short : List ℕ → ℕ → Bool
short s room = ltb room (3 * points s)

-- A3: the answer, of a reader with a limit
unfoldable pub lay_out_by : ℕ → List ℕ → ℕ → Told
lay_out_by limit s room = pass_on (read_by limit s) (guard (short s room) Shelf done)

-- L5, A9: the list afterwards; a refused call leaves it whole
unfoldable pub laid_out_by : ℕ → List ℕ → List ℤ → List ℤ
laid_out_by limit s list = cond (eqb (lay_out_by limit s (length list)).number 0) (all_bends s ++ drop (3 * points s) list) list

-- the station's
abbrev pub lay_out : List ℕ → ℕ → Told
lay_out = lay_out_by most_points

abbrev pub laid_out : List ℕ → List ℤ → List ℤ
laid_out = laid_out_by most_points
