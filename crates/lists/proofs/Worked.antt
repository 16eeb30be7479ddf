-- The worked lists (W12), by computing the definitions.
use mathlib.Core.Path.{refl}
use Rattle.sheet.specs.Bytes.{any_below}
use Rattle.lists.specs.Answer.{write_sheet}
use Rattle.lists.specs.Worked.{AnswersTried}

pub answers_tried : AnswersTried
unfolding any_below write_sheet
answers_tried = record {
  length_a = refl;
  page = refl;
  tenth_number = refl;
  five_numbers = refl;
  leg_before_page = refl;
  slope_before_page = refl;
  far_kind = refl;
  far_leg = refl;
  far_number = refl;
}
