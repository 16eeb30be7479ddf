-- Worked lists (W12): course A, and refusals in their order.
use Rattle.std.specs.Prelude.{◌≡◌, List, [], ◌∷◌, ◌++◌, ℕ, ℤ, pos, Ok}
use Rattle.sheet.specs.Answers.{refused}
use Rattle.sheet.specs.declared.Refusal.TheVariants.{Ends, Points, Size, Leg, Reach, Slope, Page}
use Rattle.answers.specs.Answers.{told_count}
use Rattle.lists.specs.Lists.{Lists, lists}
use Rattle.lists.specs.Answer.{write_sheet}

-- the waypoint numbers of course A (T5), and a free course with these or others
abbrev pub numbers_a : List ℤ
numbers_a = pos 0 ∷ pos 10 ∷ pos 20 ∷ pos 8 ∷ pos 10 ∷ pos 22 ∷ pos 0 ∷ pos 10 ∷ pos 24 ∷ []

abbrev pub free : List ℕ → List ℤ → Lists
free hs ws = lists 0 hs ws []

abbrev pub lists_a : Lists
lists_a = free (2 ∷ 2 ∷ []) numbers_a

-- A held from a slope of 5,001
abbrev pub steep : Lists
steep = lists 1 (2 ∷ 2 ∷ []) numbers_a (pos 5_001 ∷ pos 0 ∷ pos 0 ∷ pos 0 ∷ pos 0 ∷ pos 0 ∷ [])

pub record AnswersTried : Type 0 where
  pub length_a : write_sheet lists_a 48 ≡ told_count (Ok 48)
  -- into 47 bytes
  pub page : write_sheet lists_a 47 ≡ refused Page
  -- a tenth number behind the nine
  pub tenth_number : write_sheet (free (2 ∷ 2 ∷ []) (numbers_a ++ (pos 0 ∷ []))) 48 ≡ refused Size
  -- five numbers are N = 1: 4 goes before 5
  pub five_numbers : write_sheet (free [] (pos 0 ∷ pos 0 ∷ pos 0 ∷ pos 0 ∷ pos 0 ∷ [])) 48 ≡ refused Points
  -- 6 and 8 go before 14
  pub leg_before_page : write_sheet (free (2 ∷ 0 ∷ []) numbers_a) 0 ≡ refused Leg
  pub slope_before_page : write_sheet steep 0 ≡ refused Slope
  -- G4: nothing is cut to its field first
  pub far_kind : write_sheet (lists 256 (2 ∷ 2 ∷ []) numbers_a []) 48 ≡ refused Ends
  pub far_leg : write_sheet (free (65_537 ∷ 2 ∷ []) numbers_a) 48 ≡ refused Leg
  pub far_number : write_sheet (free (2 ∷ []) (pos 4_294_967_296 ∷ pos 0 ∷ pos 0 ∷ pos 0 ∷ pos 0 ∷ pos 0 ∷ [])) 48 ≡ refused Reach
