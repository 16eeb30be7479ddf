-- Writing a sheet (A11, G1): what it leaves in the slice, after refused calls too.
use Rattle.std.specs.Prelude.{cond, List, ◌++◌, ℕ, eqb, length, drop}
use Rattle.lists.specs.Lists.{Lists, size_of}
use Rattle.lists.specs.Answer.{write_sheet}
use Rattle.writer.specs.Sheets.{written_sheet}

-- G1, A9: the slice afterwards: the sheet, then what stood behind it; a refused call leaves it whole
unfoldable pub written_into : Lists → List ℕ → List ℕ
written_into c out = cond (eqb (write_sheet c (length out)).number 0) (written_sheet c ++ drop (size_of c) out) out
