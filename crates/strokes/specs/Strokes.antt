-- Strokes for the tablet (A15, H4): the stroke ends of a course, what the call answers, and what it leaves in the list, after refused calls too. For strokes, exports
-- and crate drawn.
use Rattle.std.specs.Prelude.{Bool, cond, List, [], ◌∷◌, ◌++◌, ℕ, zero, suc, ltb, eqb, ℤ, nat_abs, length, drop, Ok}
use Rattle.sheet.specs.Answers.{Told}
use Rattle.sheet.specs.Bytes.{any_below, sum_below}
use Rattle.sheet.specs.Fields.{legs, leg}
use Rattle.sheet.specs.Reading.{outside, read_sheet}
use Rattle.sheet.specs.declared.Refusal.TheVariants.{Shelf, Bend, Grain, Ink}
use Rattle.answers.specs.Answers.{pass_on, guard, told_count}
use Rattle.layout.specs.Layout.{short}
use Rattle.runner.specs.Ticks.{runner}
use Rattle.place.specs.Places.{bend_outside, place_on}
use Rattle.stretch.specs.Stretches.{ends_of}

-- H1: the places of a leg, by axis and offset
abbrev pub places_on : List ℕ → List ℤ → ℕ → ℕ → ℕ → ℤ
places_on s list i axis u = place_on s list (runner i u) axis

-- H3: a leg begins as one stretch
abbrev pub leg_ends : List ℕ → List ℤ → ℕ → ℕ → List ℕ
leg_ends s list tolerance i = ends_of tolerance (places_on s list i) (sum_below (leg s) i) 0 (leg s i)

-- H4: 0, and the ends on the first n legs
unfoldable pub ends_below : List ℕ → List ℤ → ℕ → ℕ → List ℕ
ends_below s list tolerance zero = 0 ∷ []
ends_below s list tolerance (suc n) = ends_below s list tolerance n ++ leg_ends s list tolerance n

-- H4
abbrev pub stroke_ends : List ℕ → List ℤ → ℕ → List ℕ
stroke_ends s list tolerance = ends_below s list tolerance (legs s)

-- N21
abbrev pub grain_outside : ℤ → Bool
grain_outside tolerance = outside 0 1_000 tolerance

-- N12, of some leg
unfoldable pub any_bend : List ℕ → List ℤ → Bool
any_bend s list = any_below (bend_outside s list) (legs s)

-- N22, where the list has so much room; otherwise how many ends there are
abbrev pub ink_or_ends : List ℕ → List ℤ → ℕ → ℕ → Told
ink_or_ends s list tolerance room = guard (ltb room (length (stroke_ends s list tolerance))) Ink (told_count (Ok (length (stroke_ends s list tolerance))))

-- A15
unfoldable pub strokes_answer : List ℕ → List ℤ → ℤ → ℕ → Told
strokes_answer s list tolerance room =
    pass_on (read_sheet s)
    (guard (short s (length list)) Shelf
    (guard (grain_outside tolerance) Grain
    (guard (any_bend s list) Bend (ink_or_ends s list (nat_abs tolerance) room))))

-- H4, A9: the list afterwards: the ends, then what stood behind them; a refused call leaves it whole
abbrev pub left_by : Told → List ℕ → List ℕ → List ℕ
left_by told ends list = cond (eqb told.number 0) (ends ++ drop (length ends) list) list

unfoldable pub drawn_into : List ℕ → List ℤ → ℤ → List ℕ → List ℕ
drawn_into s list tolerance out = left_by (strokes_answer s list tolerance (length out)) (stroke_ends s list (nat_abs tolerance)) out
