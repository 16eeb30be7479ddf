-- The worked lines, by computing the definition.
use mathlib.Core.Path.{refl}
use Rattle.lines.specs.Lines.{decimal, signed, line}
use Rattle.lines.specs.Theorems.{LineOne, LineMinus}

pub line_one : LineOne
unfolding decimal signed line
line_one = refl

pub line_minus : LineMinus
unfolding decimal signed line
line_minus = refl
