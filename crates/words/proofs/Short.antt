-- A refusal's line has at most 19 bytes, by computing each. For put_refusal and output.
use Prim.Native.Nat.{◌≤◌}
use native.Mathlib.Omega.{arith}
use lib.ListN.{length}
use Rattle.sheet.specs.declared.Refusal.{Refusal}
use Rattle.sheet.specs.declared.Refusal.TheVariants.{Torn, Edition, Ends, Points, Size, Leg, Reach, Slope, Shelf, Past, Adrift, Bend, Landed, Page, Start, Shut, Apart, Crowded, Seats, Turn, Grain, Ink, Board}
use Rattle.words.specs.Words.{refusal_line}

pub refusal_short : (r : Refusal) → length (refusal_line r) ≤ 19
refusal_short Torn = omega arith
refusal_short Edition = omega arith
refusal_short Ends = omega arith
refusal_short Points = omega arith
refusal_short Size = omega arith
refusal_short Leg = omega arith
refusal_short Reach = omega arith
refusal_short Slope = omega arith
refusal_short Shelf = omega arith
refusal_short Past = omega arith
refusal_short Adrift = omega arith
refusal_short Bend = omega arith
refusal_short Landed = omega arith
refusal_short Page = omega arith
refusal_short Start = omega arith
refusal_short Shut = omega arith
refusal_short Apart = omega arith
refusal_short Crowded = omega arith
refusal_short Seats = omega arith
refusal_short Turn = omega arith
refusal_short Grain = omega arith
refusal_short Ink = omega arith
refusal_short Board = omega arith
