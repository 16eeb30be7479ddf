-- Worked strokes (W19): course A, the held leg of W5 and an arch, with own bend numbers, and the refusals in their order.
use Rattle.std.specs.Prelude.{◌≡◌, List, [], ◌∷◌, ℕ, ℤ, pos, negsuc, replicate}
use Rattle.ends.specs.declared.EndKind.TheVariants.{Free, Held}
use Rattle.sheet.specs.Answers.{Told, refused}
use Rattle.sheet.specs.declared.Refusal.TheVariants.{Torn, Shelf, Bend, Grain, Ink}
use Rattle.courses.specs.Sheets.{sheet, northward}
use Rattle.courses.specs.Starred.{laid}
use Rattle.strokes.specs.Strokes.{strokes_answer, drawn_into}

abbrev pub course_a : List ℕ
course_a = sheet Free (2 ∷ 2 ∷ []) (pos 0 ∷ pos 10 ∷ pos 20 ∷ pos 8 ∷ pos 10 ∷ pos 22 ∷ pos 0 ∷ pos 10 ∷ pos 24 ∷ []) []

abbrev pub course5 : List ℕ
course5 = sheet Held (4 ∷ []) (northward (pos 0 ∷ pos 16 ∷ [])) (replicate 6 (pos 0))

abbrev pub arch : List ℕ
arch = sheet Free (16 ∷ 16 ∷ []) (northward (pos 0 ∷ pos 800 ∷ pos 0 ∷ [])) []

-- the arch's own bend numbers
abbrev pub arch_bends : List ℤ
arch_bends = pos 0 ∷ negsuc 102_399 ∷ replicate 7 (pos 0)

-- one over 2^37 at the last waypoint
abbrev pub bent : List ℤ
bent = pos 0 ∷ negsuc 65_535 ∷ pos 137_438_953_473 ∷ replicate 6 (pos 0)

-- what a list of so many sevens holds afterwards
abbrev pub drawn : List ℕ → List ℤ → ℤ → ℕ → List ℕ
drawn s list tolerance room = drawn_into s list tolerance (replicate room 7)

abbrev pub many : ℤ → Told
many n = record { number = 0; values = n ∷ [] }

pub record StrokesTried : Type 0 where
  pub a_one : drawn course_a (laid course_a) (pos 1) 6 ≡ 0 ∷ 1 ∷ 2 ∷ 3 ∷ 4 ∷ 7 ∷ []
  pub a_two : drawn course_a (laid course_a) (pos 2) 4 ≡ 0 ∷ 2 ∷ 4 ∷ 7 ∷ []
  pub a_count : strokes_answer course_a (laid course_a) (pos 2) 3 ≡ many (pos 3)
  pub held_one : drawn course5 (laid course5) (pos 1) 4 ≡ 0 ∷ 2 ∷ 3 ∷ 4 ∷ []
  pub held_two : drawn course5 (laid course5) (pos 2) 2 ≡ 0 ∷ 4 ∷ []
  pub arch_own : laid arch ≡ arch_bends
  pub arch_20 : drawn arch arch_bends (pos 20) 7 ≡ 0 ∷ 8 ∷ 12 ∷ 16 ∷ 20 ∷ 24 ∷ 32 ∷ []
  pub arch_100 : drawn arch arch_bends (pos 100) 5 ≡ 0 ∷ 8 ∷ 16 ∷ 24 ∷ 32 ∷ []
  pub arch_1000 : drawn arch arch_bends (pos 1_000) 3 ≡ 0 ∷ 16 ∷ 32 ∷ []
  -- 22, and the list stays
  pub ink : strokes_answer course_a (laid course_a) (pos 2) 2 ≡ refused Ink
  pub ink_kept : drawn course_a (laid course_a) (pos 2) 2 ≡ 7 ∷ 7 ∷ []
  -- 21 on both sides; before 12, which is asked of every leg and before 22; 9 before 21; 1 before 9
  pub grain_low : strokes_answer course_a (laid course_a) (negsuc 0) 5 ≡ refused Grain
  pub grain_high : strokes_answer course_a bent (pos 1_001) 5 ≡ refused Grain
  pub bend : strokes_answer course_a bent (pos 1_000) 0 ≡ refused Bend
  pub bend_kept : drawn course_a bent (pos 1_000) 1 ≡ 7 ∷ []
  pub shelf : strokes_answer course_a [] (pos 1_001) 0 ≡ refused Shelf
  pub torn : strokes_answer [] [] (pos 1_001) 0 ≡ refused Torn
