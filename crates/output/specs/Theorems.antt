-- What is proved of the output: every tick has its line, and the outputs of two sheets as they are spelled. Proved in output/proofs/Answered.antt and output/proofs/Worked.antt.
use Rattle.std.specs.Prelude.{◌≡◌, List, [], ◌∷◌, ◌++◌, ℕ, suc, ◌≤◌, ℤ}
use Rattle.sheet.specs.Fields.{ticks}
use Rattle.sheet.specs.Reading.{Accepted}
use Rattle.layout.specs.Layout.{laid_out}
use Rattle.runner.specs.Ticks.{spot_at}
use Rattle.place.specs.Places.{placed}
use Rattle.station.specs.Claim.{Own}
use Rattle.lines.specs.Ascii.{ascii}
use Rattle.output.specs.Output.{header, line_of, line_at, lines_from, lent_list, output}

-- T2 by C6: with the station's own bend numbers every tick 0 to P of an accepted sheet has its line, which is that of its place
abbrev pub EveryTick : Type 0
EveryTick = (s : List ℕ) → Accepted s → (list : List ℤ) → Own s list → (t : ℕ) → t ≤ ticks s → line_at s list t ≡ line_of t (placed s list (spot_at s t)).values

-- T2: the output of an accepted sheet is the header and the lines of the ticks 0 to P, and the bend numbers behind them are the station's own
abbrev pub AcceptedOutput : Type 0
AcceptedOutput = (s : List ℕ) → Accepted s
    → (output s ≡ header ++ lines_from s (laid_out s lent_list) 0 (suc (ticks s))) × Own s (laid_out s lent_list)

-- a free course of three waypoints: length 48, version 1, kind 0, N = 3, two legs, and the waypoints (0, 10, 20), (8, 10, 22), (0, 10, 24)
abbrev pub free_of_three : ℕ → ℕ → List ℕ
free_of_three first second =
    0 ∷ 0 ∷ 0 ∷ 48 ∷ 1 ∷ 0 ∷ 0 ∷ 3 ∷ 0 ∷ first ∷ 0 ∷ second
    ∷ 0 ∷ 0 ∷ 0 ∷ 0 ∷ 0 ∷ 0 ∷ 0 ∷ 10 ∷ 0 ∷ 0 ∷ 0 ∷ 20
    ∷ 0 ∷ 0 ∷ 0 ∷ 8 ∷ 0 ∷ 0 ∷ 0 ∷ 10 ∷ 0 ∷ 0 ∷ 0 ∷ 22
    ∷ 0 ∷ 0 ∷ 0 ∷ 0 ∷ 0 ∷ 0 ∷ 0 ∷ 10 ∷ 0 ∷ 0 ∷ 0 ∷ 24 ∷ []

-- T5: course A, its whole output
abbrev pub CourseA : Type 0
CourseA = output (free_of_three 2 2) ≡ ascii "tick north east up\n0 0 10 20\n1 6 10 21\n2 8 10 22\n3 6 10 23\n4 0 10 24\n"

-- T4: A with a leg of 0
abbrev pub LegRefused : Type 0
LegRefused = output (free_of_three 2 0) ≡ ascii "refused 6 leg\n"
