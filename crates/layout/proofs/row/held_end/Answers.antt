-- `held_end`: no product leaves 64 bits, so each number is R5's.
use Rattle.std.proofs.Common.{nat_abs, refl}
use Rattle.spline.specs.Spline.{held_end_row}
use Rattle.integers.proofs.Made.{given, minus}
use Rattle.layout.proofs.RowMade.{square, twice, rise, twice_some, zero, once, row_made}
use Rattle.layout.proofs.row.held_end.Goals as goal

pub returns : goal.returns
unfolding held_end_row
returns c =
    let l = c.requires.0 in let a = c.args in
    row_made (held_end_row 2 1 (nat_abs a.g) a.e a.p) (square l) (twice l) zero
    (once (minus (rise l a.p c.requires.2) (given {y = a.e} refl c.requires.1 tt) tt))
    (twice_some l) tt tt tt tt
