-- The worked sheet (W12), by computing the definitions.
use mathlib.Core.Path.{refl}
use mathlib.Core.List.{flat_map}
use Rattle.sheet.specs.Bytes.{any_below}
use Rattle.lists.specs.Answer.{write_sheet}
use Rattle.writer.specs.Sheets.{written_sheet}
use Rattle.writer.specs.Writing.{written_into}
use Rattle.writer.specs.Worked.{SheetTried}

pub sheet_tried : SheetTried
unfolding flat_map any_below written_sheet write_sheet written_into
sheet_tried = refl
