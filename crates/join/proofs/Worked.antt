-- The worked joins (W15), by computing the definitions.
use mathlib.Core.Path.{refl}
use mathlib.Core.List.{flat_map}
use Rattle.sheet.specs.Bytes.{be16, be32, signed32, any_below, sum_below}
use Rattle.sheet.specs.Reading.{read_by}
use Rattle.lists.specs.Lists.{list_below, lists_of}
use Rattle.writer.specs.Sheets.{written_sheet}
use Rattle.join.specs.Joining.{join_sheets, joined_into}
use Rattle.join.specs.Worked.{JoinsTried}

pub joins_tried : JoinsTried
unfolding flat_map be16 be32 signed32 any_below sum_below read_by list_below lists_of written_sheet join_sheets joined_into
joins_tried = record {
  length_joined = refl;
  slice_joined = refl;
  page = refl;
  page_kept = refl;
  turned = refl;
  height = refl;
  shut_before_apart = refl;
  held_first = refl;
  apart_before_page = refl;
  second_before_shut = refl;
  first_before_second = refl;
  no_second = refl;
}
