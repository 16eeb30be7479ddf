-- One seat's turn in a round of k seats (A14, group Q). All that a turn depends on are the sheet, the list, k, the turn and the seat's own runner. For seat and fleet.
use Rattle.std.specs.Prelude.{Bool, cond, ◌||◌, List, [], ◌∷◌, ℕ, suc, eqb, ltb, leb, ℤ, length, Option, Some, None}
use Rattle.sheet.specs.Answers.{Told}
use Rattle.sheet.specs.Reading.{read_sheet}
use Rattle.sheet.specs.declared.Refusal.TheVariants.{Shelf, Adrift, Landed, Seats, Turn}
use Rattle.answers.specs.Answers.{done, pass_on, guard}
use Rattle.layout.specs.Layout.{short}
use Rattle.runner.specs.Ticks.{runner}
use Rattle.runner.specs.Steps.{adrift, landed, moved}
use Rattle.runner.specs.declared.Runner.{Runner}
use Rattle.place.specs.Places.{bend_or_place}

-- N19: no seats, or over 32
abbrev pub most_seats : ℕ
most_seats = 32

abbrev pub seats_outside : ℕ → Bool
seats_outside k = eqb k 0 || ltb most_seats k

-- N20: not below k
abbrev pub turn_outside : ℕ → ℕ → Bool
turn_outside k t = leb k t

-- A14: what is asked before any seat: 1 to 9, 19, 20
abbrev pub admitted : List ℕ → List ℤ → ℕ → ℕ → Told → Told
admitted s list k t rest =
    pass_on (read_sheet s) (guard (short s (length list)) Shelf (guard (seats_outside k) Seats (guard (turn_outside k t) Turn rest)))

-- A14: what is asked of the seat: 11, 13, and 12 of where it is one tick later, whose place is the answer (Q2)
unfoldable pub flown : List ℕ → List ℤ → Runner → Told
flown s list r = guard (adrift s r) Adrift (guard (landed s r) Landed (bend_or_place s list (moved s r)))

-- A14: the answer to the seat whose runner is r and whose turn t is
unfoldable pub served : List ℕ → List ℤ → ℕ → ℕ → Runner → Told
served s list k t r = admitted s list k t (flown s list r)

-- Q2: the seat after this one, the first after the last
abbrev pub next_turn : ℕ → ℕ → ℕ
next_turn k t = cond (eqb (suc t) k) 0 (suc t)

-- Q3: the turn that comes back beside the answer, a seat's own refusal too; none beside the other refusals
unfoldable pub turn_after : List ℕ → List ℤ → ℕ → ℕ → List ℕ
turn_after s list k t = cond (eqb (admitted s list k t done).number 0) (next_turn k t ∷ []) []

-- F8: the turn of each case
abbrev pub told_next : Option ℕ → List ℕ
told_next (Some t) = t ∷ []
told_next None = []

-- Q2, Q3, A9: the seat's runner afterwards, moved on or, where the turn is refused, as it was
unfoldable pub seat_after : List ℕ → List ℤ → ℕ → ℕ → Runner → Runner
seat_after s list k t r = cond (eqb (served s list k t r).number 0) (moved s r) r

-- a runner that no seat has, for a turn that is no seat's
abbrev pub nobody : Runner
nobody = runner 0 0
