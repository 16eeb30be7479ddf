-- Every tick 0 to P has its line, by demand 3: places by tick are answered with the station's own bend numbers, which the stand's list holds once it is laid out.
use mathlib.Core.Path.{◌≡◌, ap}
use mathlib.Core.Bool.{cond}
use mathlib.Core.List.{List, []}
use Prim.Native.Nat.{ℕ, suc, ◌≤◌}
use native.Mathlib.Omega.{arith}
use borrow.Author.Tests.{le-ltb}
use lib.Dec.{eqb}
use lib.IntN.{ℤ, pos}
use lib.ListN.{length, length-replicate}
use Rattle.ends.specs.declared.EndKind.{EndKind}
use Rattle.ends.specs.declared.EndKind.TheVariants.{Free, Held, Closed}
use Rattle.sheet.specs.Fields.{kind, ticks}
use Rattle.sheet.specs.Reading.{Accepted, longest_sheet}
use Rattle.sheet.proofs.Laws.{accepted_read, accepted_bounds}
use Rattle.layout.specs.Layout.{laid_out}
use Rattle.runner.specs.Ticks.{spot_at}
use Rattle.place.specs.Places.{placed, place_at_tick}
use Rattle.station.specs.Claim.{Own, Answers}
use Rattle.station.proofs.Claim.{claim}
use Rattle.station.proofs.Own.{own_laid}
use Rattle.output.specs.Output.{line_of, line_at, lent_list, output_by, output}
use Rattle.output.specs.Pieces.{AllAnswered}
use Rattle.output.specs.Theorems.{EveryTick, AcceptedOutput}

module _ (s : List ℕ) (accepted : Accepted s) where
  -- the ticks 0 to P are among those of demand 3
  answers : (k : EndKind) (t : ℕ) → t ≤ ticks s → Answers k (ticks s) t
  answers Free t h = h
  answers Held t h = h
  answers Closed t h = omega (arith, (accepted_bounds s accepted).few_ticks)

  answered : (list : List ℤ) → Own s list → (t : ℕ) → t ≤ ticks s → place_at_tick s list t ≡ placed s list (spot_at s t)
  answered list own t h = ((claim s accepted).by_tick list own t (answers (kind s) t h)).place

  pub all_answered : (list : List ℤ) → Own s list → AllAnswered s list (suc (ticks s))
  all_answered list own t h = ap (λ told. told.number) (answered list own t (omega arith))

  pub lent_own : Own s (laid_out s lent_list)
  lent_own = own_laid s accepted lent_list (omega (arith, length-replicate 1536 (pos 0), (accepted_bounds s accepted).few))

pub every_tick : EveryTick
unfolding line_at
every_tick s accepted list own t h = ap (λ told. cond (eqb told.number 0) (line_of t told.values) []) (answered s accepted list own t h)

pub accepted_output : AcceptedOutput
unfolding output
accepted_output s accepted =
    (rw (le-ltb longest_sheet (length s) (accepted_bounds s accepted).longest) (ap (λ r. output_by r s) (accepted_read s accepted)), lent_own s accepted)
