-- `renewed`: the row's numbers and the bend numbers are small enough that the numerator stays below 2^63.
use Rattle.std.proofs.Common.{◌∙◌, ◌*ℤ◌, ◌-ℤ◌, ℤ, pos, nat_abs, refl, arith}
use Rattle.rounding.specs.Rounded.{rounded}
use Rattle.integers.proofs.Made.{Made, read, fits, read_back, given, passed, times, minus}
use Rattle.layout.specs.Inside.{Sized, Small}
use Rattle.layout.specs.declared.row.Row.{Row}
use Rattle.layout.proofs.pass.renewed.Goals as goal

-- a row, and the numbers of its neighbours
module _ (row : Row) (x y : ℤ) (s : Sized row) (left : Small x) (next : Small y) where
  scaled : Made (read (pos 65536) *ℤ read row.right) (pos 65536 *ℤ row.right) 67_108_864_000_000
  scaled = times (given {y = pos 65536} {B = 65536} refl (omega arith) tt) (given {y = row.right} refl s.right tt) tt

  before : Made (read row.before *ℤ read x) (row.before *ℤ x) 2_204_520_813_690_880_000
  before = times (given {y = row.before} refl s.before tt) (given {y = x} refl left tt) tt

  after : Made (read row.after *ℤ read y) (row.after *ℤ y) 2_204_520_813_690_880_000
  after = times (given {y = row.after} refl s.after tt) (given {y = y} refl next tt) tt

  first : Made (read (read (pos 65536) *ℤ read row.right) -ℤ read (read row.before *ℤ read x)) (pos 65536 *ℤ row.right -ℤ row.before *ℤ x) 2_204_587_922_554_880_000
  first = minus scaled before tt

  numerator : Made (read (read (read (pos 65536) *ℤ read row.right) -ℤ read (read row.before *ℤ read x)) -ℤ read (read row.after *ℤ read y))
      (pos 65536 *ℤ row.right -ℤ row.before *ℤ x -ℤ row.after *ℤ y) 4_409_108_736_245_760_000
  numerator = minus first after tt

pub overflow_sub-row : goal.overflow_sub-row
overflow_sub-row c = fits (first c.args.row c.args.left c.args.next c.requires.0 c.requires.1 c.requires.2)

pub overflow_mul-row-3 : goal.overflow_mul-row-3
overflow_mul-row-3 c = fits (after c.args.row c.args.left c.args.next c.requires.0 c.requires.1 c.requires.2)

pub overflow_sub-row-2 : goal.overflow_sub-row-2
overflow_sub-row-2 c = fits (numerator c.args.row c.args.left c.args.next c.requires.0 c.requires.1 c.requires.2)

pub returns : goal.returns
returns c =
    passed c.rounded.ensures c.rounded.type_inv
    ∙ (λ i. rounded (read_back (numerator c.args.row c.args.left c.args.next c.requires.0 c.requires.1 c.requires.2) i) (nat_abs (read_back (given {y = c.args.row.middle} refl c.requires.0.middle tt) i)))
