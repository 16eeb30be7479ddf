-- The worked sheet (W12): course A from its lists.
use Rattle.std.specs.Prelude.{◌≡◌, List, [], ◌∷◌, ◌++◌, ℕ, replicate}
use Rattle.lists.specs.Worked.{lists_a}
use Rattle.writer.specs.Writing.{written_into}

abbrev pub sheet_a : List ℕ
sheet_a =
    0 ∷ 0 ∷ 0 ∷ 48 ∷ 1 ∷ 0 ∷ 0 ∷ 3 ∷ 0 ∷ 2 ∷ 0 ∷ 2
    ∷ 0 ∷ 0 ∷ 0 ∷ 0 ∷ 0 ∷ 0 ∷ 0 ∷ 10 ∷ 0 ∷ 0 ∷ 0 ∷ 20
    ∷ 0 ∷ 0 ∷ 0 ∷ 8 ∷ 0 ∷ 0 ∷ 0 ∷ 10 ∷ 0 ∷ 0 ∷ 0 ∷ 22
    ∷ 0 ∷ 0 ∷ 0 ∷ 0 ∷ 0 ∷ 0 ∷ 0 ∷ 10 ∷ 0 ∷ 0 ∷ 0 ∷ 24 ∷ []

-- into 50 bytes of 7: its 48, and the two behind them as they were
abbrev pub SheetTried : Type 0
SheetTried = written_into lists_a (replicate 50 7) ≡ sheet_a ++ (7 ∷ 7 ∷ [])
