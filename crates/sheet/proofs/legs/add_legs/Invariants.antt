-- `add_legs`: no leg of the first b sixteens is outside, their sum is carried, and the sum before each of them is kept.
use Rattle.std.proofs.Common.{◌≡◌, ◌*◌, ◌≤◌, false, length}
use Rattle.sheet.specs.Bytes.{any_below, sum_below}
use Rattle.sheet.specs.Fields.{leg}
use Rattle.sheet.specs.Reading.{leg_outside}
use Rattle.sheet.specs.Carried.{most_sums, stride}
use Rattle.sheet.proofs.Carried.{Kept}
use Rattle.sheet.proofs.legs.add_legs.Given as goal

abbrev pub invariant-loop-b : goal.invariant-loop-b
invariant-loop-b l = record {
  small : l.ticks ≤ 65535 * (stride * l.b);
  room : length l.sums ≡ most_sums;
  inside : any_below (λ i. leg_outside (leg l.s i)) (stride * l.b) ≡ false;
  sum : l.ticks ≡ sum_below (leg l.s) (stride * l.b);
  kept : Kept l.s l.b l.sums;
}
