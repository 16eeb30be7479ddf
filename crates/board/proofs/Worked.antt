-- The worked sheets of specs/Worked, by computing.
use mathlib.Core.Path.{refl}
use Rattle.sheet.specs.Bytes.{be16, be32, signed32, any_below, sum_below}
use Rattle.sheet.specs.Reading.{read_by}
use Rattle.board.specs.Worked.{BoardTried}

pub board_tried : BoardTried
unfolding be16 be32 signed32 any_below sum_below read_by
board_tried = record {
  one = (refl, refl);
  most = (refl, refl);
  over = (refl, refl);
  stations_most = (refl, refl);
  over_both = (refl, refl);
  edition_first = (refl, refl);
  ends_first = (refl, refl);
  torn_first = (refl, refl);
}
