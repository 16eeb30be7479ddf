-- The output is never so long that its bytes could not be counted in 64 bits.
use mathlib.Core.Path.{◌≡◌, refl}
use mathlib.Core.Bool.{Bool, true, false, cond}
use mathlib.Core.List.{List, []}
use Prim.Native.Nat.{ℕ, zero, suc, ◌+◌, ◌*◌, ◌≤◌}
use native.Mathlib.Omega.{arith}
use lib.Dec.{eqb, ltb}
use lib.IntN.{ℤ}
use lib.ListN.{length, length-append}
use Rattle.systems.specs.Passes.{at}
use Rattle.sheet.specs.Reading.{longest_sheet, read_sheet}
use Rattle.sheet.specs.declared.Refusal.TheVariants.{Torn}
use Rattle.std.specs.Prelude.{Ok, Err}
use Rattle.sheet.specs.Answers.{Reading}
use Rattle.sheet.proofs.Laws.{read_accepted, accepted_bounds}
use Rattle.layout.specs.Layout.{laid_out}
use Rattle.lines.proofs.Room.{line_short}
use Rattle.place.specs.Places.{place_at_tick}
use Rattle.words.specs.Words.{refusal_line}
use Rattle.words.proofs.Short.{refusal_short}
use Rattle.output.specs.Output.{header, line_of, line_at, lines_from, lent_list, output_by, output}

-- the lines of all ticks, and the header
abbrev most : ℕ
most = 87 * 131_073 + 19

cond_short : (b : Bool) (k : ℕ) (x y : List ℕ) → length x ≤ k → length y ≤ k → length (cond b x y) ≤ k
cond_short true k x y h l = h
cond_short false k x y h l = l

module _ (s : List ℕ) (list : List ℤ) where
  line_at_short : (tick : ℕ) → length (line_at s list tick) ≤ 87
  unfolding line_at
  line_at_short tick =
      let place = (place_at_tick s list tick).values in
      cond_short (eqb (place_at_tick s list tick).number 0) 87 (line_of tick place) [] (line_short tick (at place 0) (at place 1) (at place 2)) (omega arith)

  lines_short : (tick count : ℕ) → length (lines_from s list tick count) ≤ 87 * count
  unfolding lines_from
  lines_short tick zero = omega arith
  lines_short tick (suc count) =
      omega (arith, length-append (line_at s list tick) (lines_from s list (suc tick) count), line_at_short tick, lines_short (suc tick) count)

short_by : (s : List ℕ) (r : Reading) → read_sheet s ≡ r → length (output_by r s) ≤ most
short_by s (Ok c) e =
    let a = read_accepted _ s c.kind c.points c.ticks e in
    omega (
      arith,
      length-append header (lines_from s (laid_out s lent_list) 0 (suc c.ticks)),
      lines_short s (laid_out s lent_list) 0 (suc c.ticks),
      a.3,
      (accepted_bounds s a.0).few_ticks,
    )
short_by s (Err r) e = omega (arith, refusal_short r)

pub output_short : (input : List ℕ) → length (output input) ≤ most
unfolding output
output_short input = cond_short (ltb longest_sheet (length input)) most (refusal_line Torn) (output_by (read_sheet input) input) (omega (arith, refusal_short Torn)) (short_by input (read_sheet input) refl)
