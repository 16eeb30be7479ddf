-- Worked joins (W15): course A flown on by another, and refusals in their order.
use Rattle.std.specs.Prelude.{◌≡◌, List, [], ◌∷◌, ◌++◌, ℕ, ℤ, pos, replicate, Ok}
use Rattle.sheet.specs.Answers.{refused}
use Rattle.sheet.specs.declared.Refusal.TheVariants.{Torn, Leg, Page, Shut, Apart}
use Rattle.answers.specs.Answers.{told_count}
use Rattle.lists.specs.Lists.{lists}
use Rattle.writer.specs.Sheets.{written_sheet}
use Rattle.writer.specs.Worked.{sheet_a}
use Rattle.join.specs.Joining.{join_sheets, joined_into}

-- on from A's end, or from a height beside it, in a leg of so many ticks; free, or held
abbrev pub onward_from : ℤ → ℕ → List ℕ
onward_from up ticks = written_sheet (lists 0 (ticks ∷ []) (pos 0 ∷ pos 10 ∷ up ∷ pos 9 ∷ pos 10 ∷ pos 24 ∷ []) [])

abbrev pub held_from : ℤ → ℕ → List ℕ
held_from up ticks =
    written_sheet (lists 1 (ticks ∷ []) (pos 0 ∷ pos 10 ∷ up ∷ pos 9 ∷ pos 10 ∷ pos 24 ∷ []) (pos 0 ∷ pos 0 ∷ pos 0 ∷ pos 0 ∷ pos 0 ∷ pos 0 ∷ []))

abbrev pub onward : List ℕ
onward = onward_from (pos 24) 3

-- A and the course that goes on from it, as one
abbrev pub sheet_joined : List ℕ
sheet_joined =
    0 ∷ 0 ∷ 0 ∷ 62 ∷ 1 ∷ 0 ∷ 0 ∷ 4 ∷ 0 ∷ 2 ∷ 0 ∷ 2 ∷ 0 ∷ 3
    ∷ 0 ∷ 0 ∷ 0 ∷ 0 ∷ 0 ∷ 0 ∷ 0 ∷ 10 ∷ 0 ∷ 0 ∷ 0 ∷ 20
    ∷ 0 ∷ 0 ∷ 0 ∷ 8 ∷ 0 ∷ 0 ∷ 0 ∷ 10 ∷ 0 ∷ 0 ∷ 0 ∷ 22
    ∷ 0 ∷ 0 ∷ 0 ∷ 0 ∷ 0 ∷ 0 ∷ 0 ∷ 10 ∷ 0 ∷ 0 ∷ 0 ∷ 24
    ∷ 0 ∷ 0 ∷ 0 ∷ 9 ∷ 0 ∷ 0 ∷ 0 ∷ 10 ∷ 0 ∷ 0 ∷ 0 ∷ 24 ∷ []

pub record JoinsTried : Type 0 where
  pub length_joined : join_sheets sheet_a onward 62 ≡ told_count (Ok 62)
  -- into 64 bytes of 7: its 62, and the two behind them as they were
  pub slice_joined : joined_into sheet_a onward (replicate 64 7) ≡ sheet_joined ++ (7 ∷ 7 ∷ [])
  -- into 61 bytes, which stay
  pub page : join_sheets sheet_a onward 61 ≡ refused Page
  pub page_kept : joined_into sheet_a onward (replicate 61 7) ≡ replicate 61 7
  -- the two turned about, and a height one off
  pub turned : join_sheets onward sheet_a 62 ≡ refused Apart
  pub height : join_sheets sheet_a (onward_from (pos 25) 3) 62 ≡ refused Apart
  -- a held second, which is apart as well: 16 goes before 17
  pub shut_before_apart : join_sheets sheet_a (held_from (pos 25) 3) 62 ≡ refused Shut
  -- and a held first
  pub held_first : join_sheets (held_from (pos 24) 3) onward 62 ≡ refused Shut
  -- 17 goes before 14
  pub apart_before_page : join_sheets onward sheet_a 0 ≡ refused Apart
  -- reading's numbers go before 16, the first sheet's before the second's
  pub second_before_shut : join_sheets (held_from (pos 24) 3) (onward_from (pos 24) 0) 62 ≡ refused Leg
  pub first_before_second : join_sheets (onward_from (pos 24) 0) [] 62 ≡ refused Leg
  pub no_second : join_sheets sheet_a [] 62 ≡ refused Torn
