-- What a refused call leaves behind, said of the definitions that the entry points' promises cite (A8, A9). For Claims.
use Rattle.std.specs.Prelude.{◌≡◌, List, [], ℕ, ℤ, length, Err}
use Rattle.sheet.specs.Answers.{refused}
use Rattle.sheet.specs.Reading.{Accepted, read_by, read_sheet}
use Rattle.sheet.specs.declared.Refusal.{Refusal}
use Rattle.lists.specs.Lists.{Lists}
use Rattle.lists.specs.Answer.{write_sheet}
use Rattle.writer.specs.Writing.{written_into}
use Rattle.join.specs.Joining.{join_sheets, joined_into}
use Rattle.layout.specs.Layout.{lay_out_by, laid_out_by}
use Rattle.runner.specs.Ticks.{runner_at_tick_by}
use Rattle.runner.specs.Steps.{stepped_by, onward_by}
use Rattle.runner.specs.Backs.{backed, backward}
use Rattle.runner.specs.declared.Runner.{Runner}
use Rattle.place.specs.Places.{place_at_tick_by, place_of_runner_by}
use Rattle.fleet.specs.Round.{round_answer, turn_given, fleet_after}
use Rattle.fleet.specs.Numbers.{records, numbers_after}
use Rattle.strokes.specs.Strokes.{strokes_answer, drawn_into}

-- A8: where reading refuses the sheet, each call answers that refusal and nothing else: those of a reader with any limit ..
pub record PassedOnBy (limit : ℕ) (s : List ℕ) (q : Refusal) : Type 0 where
  pub laying : (room : ℕ) → lay_out_by limit s room ≡ refused q
  pub by_tick : (list : List ℤ) (t : ℕ) → place_at_tick_by limit s list t ≡ refused q
  pub by_runner : (list : List ℤ) (r : Runner) → place_of_runner_by limit s list r ≡ refused q
  pub from_tick : (t : ℕ) → runner_at_tick_by limit s t ≡ refused q
  pub step : (r : Runner) → stepped_by limit s r ≡ refused q

-- .. and those that the station alone has
pub record PassedOn (s : List ℕ) (q : Refusal) : Type 0 where
  pub back : (r : Runner) → backed s r ≡ refused q
  pub round : (list : List ℤ) (fleet : List Runner) (t : ℕ) → (round_answer s list fleet t ≡ refused q) × (turn_given s list fleet t ≡ [])
  pub strokes : (list : List ℤ) (tolerance : ℤ) (room : ℕ) → strokes_answer s list tolerance room ≡ refused q
  -- as the first of two sheets to be joined, and as the second behind an accepted one
  pub join_first : (t : List ℕ) (room : ℕ) → join_sheets s t room ≡ refused q
  pub join_second : (t : List ℕ) (room : ℕ) → Accepted t → join_sheets t s room ≡ refused q

abbrev pub RefusalPassedOn : Type 0
RefusalPassedOn = (s : List ℕ) (q : Refusal) → ((limit : ℕ) → read_by limit s ≡ Err q → PassedOnBy limit s q) × (read_sheet s ≡ Err q → PassedOn s q)

-- A9: a refused laying out leaves the list as it was ..
abbrev pub RefusedKeepsList : Type 0
RefusedKeepsList = (limit : ℕ) (s : List ℕ) (list : List ℤ) → ¬ ((lay_out_by limit s (length list)).number ≡ 0) → laid_out_by limit s list ≡ list

-- .. a refused step and a refused back the record ..
abbrev pub RefusedKeepsRecord : Type 0
RefusedKeepsRecord = (s : List ℕ) (r : Runner)
    → ((limit : ℕ) → ¬ ((stepped_by limit s r).number ≡ 0) → onward_by limit s r ≡ r) × (¬ ((backed s r).number ≡ 0) → backward s r ≡ r)

-- .. a refused round all records, and at the C boundary all numbers ..
abbrev pub RefusedKeepsFleet : Type 0
RefusedKeepsFleet = (s : List ℕ) (list : List ℤ) (t : ℕ)
    → ((fleet : List Runner) → ¬ ((round_answer s list fleet t).number ≡ 0) → fleet_after s list fleet t ≡ fleet)
    × ((lent : List ℕ) → ¬ ((round_answer s list (records lent) t).number ≡ 0) → numbers_after s list lent t ≡ lent)

-- .. refused strokes the list lent for their ends ..
abbrev pub RefusedKeepsEnds : Type 0
RefusedKeepsEnds = (s : List ℕ) (list : List ℤ) (tolerance : ℤ) (out : List ℕ) → ¬ ((strokes_answer s list tolerance (length out)).number ≡ 0)
    → drawn_into s list tolerance out ≡ out

-- .. and a refused writing or joining the slice
abbrev pub RefusedKeepsSlice : Type 0
RefusedKeepsSlice =
    ((c : Lists) (out : List ℕ) → ¬ ((write_sheet c (length out)).number ≡ 0) → written_into c out ≡ out)
    × ((s t out : List ℕ) → ¬ ((join_sheets s t (length out)).number ≡ 0) → joined_into s t out ≡ out)
