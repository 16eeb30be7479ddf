-- A fleet's round (A14, group Q), of the records in the order of their seats and of the turn.
use Rattle.std.specs.Prelude.{List, ℕ, ℤ, length, get_or, set}
use Rattle.sheet.specs.Answers.{Told}
use Rattle.runner.specs.declared.Runner.{Runner}
use Rattle.seat.specs.Serving.{served, turn_after, seat_after, nobody}

-- Q1: the record of a seat; there is none past the last
abbrev pub seat_of : List Runner → ℕ → Runner
seat_of fleet i = get_or fleet i nobody

-- A14: the answer, which is that of the seat whose turn it is
abbrev pub round_answer : List ℕ → List ℤ → List Runner → ℕ → Told
round_answer s list fleet t = served s list (length fleet) t (seat_of fleet t)

-- Q3: the turn beside it
abbrev pub turn_given : List ℕ → List ℤ → List Runner → ℕ → List ℕ
turn_given s list fleet t = turn_after s list (length fleet) t

-- Q2, Q4, A9: the records afterwards, of which one at most is another
unfoldable pub fleet_after : List ℕ → List ℤ → List Runner → ℕ → List Runner
fleet_after s list fleet t = set fleet t (seat_after s list (length fleet) t (seat_of fleet t))
