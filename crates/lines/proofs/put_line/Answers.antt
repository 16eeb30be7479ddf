-- The tick, the three numbers and the line feed, each put after the one before.
use Rattle.std.proofs.Common.{refl, rules}
use Rattle.lines.specs.Lines.{line}
use Rattle.lines.proofs.Decimal.{column}
use Rattle.lines.proofs.Grow.{grown_twice}
use Rattle.lines.proofs.put_line.Goals as goal

pub returns-clause-grown : goal.returns-clause-grown
unfolding line
returns-clause-grown c =
    grown_twice
    (grown_twice
    (grown_twice
    (grown_twice c.put_decimal.ensures.grown c.put_column.ensures.grown (column _ (search rules)))
    c.put_column-2.ensures.grown (column _ (search rules)))
    c.put_column-3.ensures.grown (column _ (search rules)))
    c.push.ensures refl
