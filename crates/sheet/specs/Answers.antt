-- Number and values of each case of an answer (F8), which every promise about an answer goes through.
use Rattle.std.specs.Prelude.{List, [], ◌∷◌, ℕ, ℤ, pos, Result, Ok, Err}
use Rattle.ends.specs.Ends.{kind_number}
use Rattle.sheet.specs.declared.Refusal.{Refusal}
use Rattle.sheet.specs.declared.Refusal.TheVariants.{Torn, Edition, Ends, Points, Size, Leg, Reach, Slope, Shelf, Past, Adrift, Bend, Landed, Page, Start, Shut, Apart, Crowded, Seats, Turn, Grain, Ink, Board}
use Rattle.ends.specs.declared.EndKind.{EndKind}
use Rattle.sheet.specs.declared.Course.{Course}

-- N1 to N23
abbrev pub number_of : Refusal → ℕ
number_of Torn = 1
number_of Edition = 2
number_of Ends = 3
number_of Points = 4
number_of Size = 5
number_of Leg = 6
number_of Reach = 7
number_of Slope = 8
number_of Shelf = 9
number_of Past = 10
number_of Adrift = 11
number_of Bend = 12
number_of Landed = 13
number_of Page = 14
number_of Start = 15
number_of Shut = 16
number_of Apart = 17
number_of Crowded = 18
number_of Seats = 19
number_of Turn = 20
number_of Grain = 21
number_of Ink = 22
number_of Board = 23

-- what a call tells: its number, or 0 where it is not refused, and its values
pub record Told : Type 0 where
  pub number : ℕ
  pub values : List ℤ

-- A9: a number and no values
abbrev pub refused : Refusal → Told
refused r = record { number = number_of r; values = [] }

-- what reading answers; and its answer where it reads a course
abbrev pub Reading : Type 0
Reading = Result Course Refusal

abbrev pub read_course : EndKind → ℕ → ℕ → Reading
read_course k n p = Ok (record { kind = k; points = n; ticks = p })

-- A2: kind, N and P
abbrev pub told : Reading → Told
told (Ok c) = record { number = 0; values = pos (kind_number c.kind) ∷ pos c.points ∷ pos c.ticks ∷ [] }
told (Err r) = refused r
