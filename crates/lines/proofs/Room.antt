-- A line has at most 87 bytes: its numbers have at most twenty digits each.
use mathlib.Core.Bool.{Bool, true, false, cond}
use mathlib.Core.List.{List, [], ◌∷◌}
use Prim.Native.Nat.{ℕ, zero, suc, ◌+◌, ◌/◌, ◌%◌, ◌≤◌}
use native.Mathlib.Omega.{arith}
use lib.Dec.{ltb}
use lib.IntN.{ℤ, pos, negsuc}
use lib.ListN.{length, length-append}
use Rattle.lines.specs.Lines.{digits_within, decimal, signed, line}
use Rattle.lines.specs.Theorems.{LineShort}

short_cond : (b : Bool) (l : List ℕ) (most : ℕ) → length l ≤ most → length (cond b [] l) ≤ most
short_cond true l most h = omega arith
short_cond false l most h = h

short_digits : (most n : ℕ) → length (digits_within most n) ≤ most
short_digits zero n = omega arith
short_digits (suc most) n = omega (
  arith,
  length-append (cond (ltb n 10) [] (digits_within most (n / 10))) ((48 + n % 10) ∷ []),
  short_cond (ltb n 10) (digits_within most (n / 10)) most (short_digits most (n / 10)),
)

short_decimal : (n : ℕ) → length (decimal n) ≤ 20
unfolding decimal
short_decimal n = short_digits 20 n

short_signed : (z : ℤ) → length (signed z) ≤ 21
unfolding signed
short_signed (pos n) = omega (arith, short_decimal n)
short_signed (negsuc n) = omega (arith, short_decimal (suc n))

pub line_short : LineShort
unfolding line
line_short tick north east up = simp length-append (omega (arith, short_decimal tick, short_signed north, short_signed east, short_signed up))
