-- The waypoints at the limits of reach (W14), by computing the definitions.
use mathlib.Core.Path.{refl}
use mathlib.Core.List.{flat_map}
use Rattle.sheet.specs.Bytes.{be16, be32, signed32, any_below, sum_below}
use Rattle.sheet.specs.Reading.{read_by}
use Rattle.lists.specs.Answer.{write_sheet}
use Rattle.writer.specs.Sheets.{written_sheet}
use Rattle.written.specs.Worked.{ReachTried}

pub reach_tried : ReachTried
unfolding flat_map be16 be32 signed32 any_below sum_below read_by write_sheet written_sheet
reach_tried = record {
  north = record { lowest = (refl, refl); below = (refl, refl); highest = (refl, refl); above = (refl, refl) };
  east = record { lowest = (refl, refl); below = (refl, refl); highest = (refl, refl); above = (refl, refl) };
  up = record { lowest = (refl, refl); below = (refl, refl); highest = (refl, refl); above = (refl, refl) };
  leg_first = (refl, refl);
  slope_after = (refl, refl);
}
