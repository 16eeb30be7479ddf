-- The stand's whole output, byte for byte, for any input (T1 to T4). For the stand's program.
use Rattle.std.specs.Prelude.{cond, List, [], ◌++◌, ℕ, zero, suc, eqb, ltb, ℤ, pos, length, replicate, Ok, Err}
use Rattle.systems.specs.Passes.{at}
use Rattle.sheet.specs.Reading.{longest_sheet, read_sheet}
use Rattle.sheet.specs.declared.Refusal.TheVariants.{Torn}
use Rattle.sheet.specs.Answers.{Reading}
use Rattle.layout.specs.Layout.{laid_out}
use Rattle.lines.specs.Ascii.{ascii}
use Rattle.lines.specs.Lines.{line}
use Rattle.place.specs.Places.{place_at_tick}
use Rattle.words.specs.Words.{refusal_line}

-- T2, the first line
abbrev pub header : List ℕ
header = ascii "tick north east up\n"

-- a tick and the three numbers of its place
abbrev pub line_of : ℕ → List ℤ → List ℕ
line_of tick place = line tick (at place 0) (at place 1) (at place 2)

-- the line of a tick is that of its place; a refused tick has none
unfoldable pub line_at : List ℕ → List ℤ → ℕ → List ℕ
line_at s list tick = cond (eqb (place_at_tick s list tick).number 0) (line_of tick (place_at_tick s list tick).values) []

-- the lines of so many ticks, from one on
unfoldable pub lines_from : List ℕ → List ℤ → ℕ → ℕ → List ℕ
lines_from s list tick zero = []
lines_from s list tick (suc count) = line_at s list tick ++ lines_from s list (suc tick) count

-- the list that the stand lends: 3N zeros, for the largest N
abbrev pub lent_list : List ℤ
lent_list = replicate 1536 (pos 0)

-- T2 or T4, by what reading answers: for a course the header and the lines of the ticks 0 to P, from the bend numbers that laying out leaves
abbrev pub output_by : Reading → List ℕ → List ℕ
output_by (Ok c) s = header ++ lines_from s (laid_out s lent_list) 0 (suc c.ticks)
output_by (Err r) s = refusal_line r

-- T1: an input longer than any accepted sheet is torn
unfoldable pub output : List ℕ → List ℕ
output input = cond (ltb longest_sheet (length input)) (refusal_line Torn) (output_by (read_sheet input) input)
