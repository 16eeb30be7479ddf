-- `held_start`: no product leaves 64 bits, so each number is R4's.
use Rattle.std.proofs.Common.{nat_abs, refl}
use Rattle.spline.specs.Spline.{held_start_row}
use Rattle.integers.proofs.Made.{given, minus}
use Rattle.layout.proofs.RowMade.{square, twice, rise, twice_some, zero, once, row_made}
use Rattle.layout.proofs.row.held_start.Goals as goal

pub returns : goal.returns
unfolding held_start_row
returns c =
    let l = c.requires.0 in let a = c.args in
    row_made (held_start_row 2 1 (nat_abs a.h) a.d a.p) zero (twice l) (square l)
    (once (minus (given {y = a.d} refl c.requires.1 tt) (rise l a.p c.requires.2) tt))
    (twice_some l) tt tt tt tt
