-- Waypoints at the limits of reach (W14): what writing answers of lists, and what reading answers of their sheet.
use Rattle.std.specs.Prelude.{◌≡◌, List, [], ◌∷◌, ℕ, ◌+◌, ℤ, pos, neg_ℤ}
use Rattle.sheet.specs.Answers.{told}
use Rattle.sheet.specs.Reading.{read_sheet}
use Rattle.lists.specs.Lists.{Lists, lists}
use Rattle.lists.specs.Answer.{write_sheet}
use Rattle.writer.specs.Sheets.{written_sheet}

-- both answer this number, 0 where they do not refuse
abbrev pub BothAnswer : ℕ → Lists → Type 0
BothAnswer n c = ((write_sheet c 64).number ≡ n) × ((told (read_sheet (written_sheet c))).number ≡ n)

-- two waypoints, the home post and one with these numbers
abbrev pub toward : ℤ → ℤ → ℤ → List ℤ
toward north east up = pos 0 ∷ pos 0 ∷ pos 0 ∷ north ∷ east ∷ up ∷ []

-- flown in 2 ticks, with free ends
abbrev pub flown : List ℤ → Lists
flown waypoints = lists 0 (2 ∷ []) waypoints []

-- N7 on one axis: -low and high are within it, one beyond either is 7
pub record LimitsAt (put : ℤ → List ℤ) (low high : ℕ) : Type 0 where
  pub lowest : BothAnswer 0 (flown (put (neg_ℤ (pos low))))
  pub below : BothAnswer 7 (flown (put (neg_ℤ (pos (low + 1)))))
  pub highest : BothAnswer 0 (flown (put (pos high)))
  pub above : BothAnswer 7 (flown (put (pos (high + 1))))

pub record ReachTried : Type 0 where
  pub north : LimitsAt (λ z. toward z (pos 0) (pos 0)) 1_000_000 1_000_000
  pub east : LimitsAt (λ z. toward (pos 0) z (pos 0)) 1_000_000 1_000_000
  pub up : LimitsAt (λ z. toward (pos 0) (pos 0) z) 50_000 120_000
  -- above the ceiling, on a leg of 0 ticks: 6 goes before 7
  pub leg_first : BothAnswer 6 (lists 0 (0 ∷ []) (toward (pos 0) (pos 0) (pos 120_001)) [])
  -- and held from a slope of 5,001: 8 comes after it
  pub slope_after : BothAnswer 7 (lists 1 (2 ∷ []) (toward (pos 0) (pos 0) (pos 120_001)) (pos 5_001 ∷ pos 0 ∷ pos 0 ∷ pos 0 ∷ pos 0 ∷ pos 0 ∷ []))
