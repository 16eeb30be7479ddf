-- What an accepted sheet and a list with room for its bend numbers give the code: indices within them, and numbers within the limits that a position asks for.
use mathlib.Core.Path.{◌≡◌}
use mathlib.Core.Bool.{false, cond, ◌||◌}
use mathlib.Core.List.{List}
use Prim.Native.Nat.{ℕ, suc, ◌+◌, ◌*◌, ◌^◌, ◌≤◌, ◌<◌}
use native.Mathlib.Omega.{arith}
use lib.Dec.{eqb}
use lib.IntN.{ℤ}
use lib.ListN.{length}
use Rattle.sheet.specs.Fields.{kind, points, legs, leg, waypoint}
use Rattle.sheet.specs.Reading.{Accepted}
use Rattle.sheet.specs.Theorems.{Bounds}
use Rattle.sheet.proofs.Below.{or_left, or_right, any_none}
use Rattle.sheet.proofs.ByKind.{legs_at_most}
use Rattle.sheet.proofs.Laws.{accepted_bounds}
use Rattle.sheet.proofs.Numbers.{within_size}
use Rattle.layout.specs.Course.{course}
use Rattle.layout.proofs.Neighbours.{next_is}
use Rattle.runner.specs.Steps.{adrift}
use Rattle.runner.specs.declared.Runner.{Runner}
use Rattle.runner.proofs.Standing.{Standing, on_leg, at_end, standing, leg_below}
use Rattle.place.specs.Places.{end_of, bend_of, beyond, bend_outside}
use Rattle.place.specs.Asked.{OnLeg}

pub end_is : (s : List ℕ) (n i : ℕ) → n ≡ points s → cond (eqb (suc i) n) 0 (suc i) ≡ end_of s i
unfolding course
end_is s n i e = next_is (course s 0) n i e

-- a runner that is not adrift
pub leg_fits : (s : List ℕ) (r : Runner) → adrift s r ≡ false → r.leg < legs s
leg_fits s r e = leg_below s r (standing s r e)

pub offset_fits : (s : List ℕ) (r : Runner) → adrift s r ≡ false → r.offset ≤ leg s r.leg
offset_fits s r e = by_place (standing s r e)
  where
    by_place : Standing s r → r.offset ≤ leg s r.leg
    by_place (on_leg p q w) = omega arith
    by_place (at_end o e q z) = omega arith

module _ (s : List ℕ) (a : Accepted s) where
  bounds : Bounds s
  bounds = accepted_bounds s a

  -- indices
  pub few_points : points s ≤ 512
  few_points = bounds.few

  pub few_legs : legs s ≤ points s
  few_legs = legs_at_most (kind s) (points s)

  pub room : 8 + 2 * legs s + 12 * points s ≤ length s
  room = omega (arith, bounds.size)

  -- sizes
  module _ (list : List ℤ) (i : ℕ) (fits : i < legs s) (inside : bend_outside s list i ≡ false) (axis : ℕ) (on : axis < 3) where
    within : (beyond (bend_of s list axis i) || beyond (bend_of s list axis (end_of s i))) ≡ false
    unfolding bend_outside
    within = any_none (λ x. beyond (bend_of s list x i) || beyond (bend_of s list x (end_of s i))) 3 inside axis on

    pub numbers_fit : end_of s i < points s → OnLeg (leg s i) 0 (waypoint s axis i) (waypoint s axis (end_of s i)) (bend_of s list axis i) (bend_of s list axis (end_of s i))
    numbers_fit h = record {
      leg_low = bounds.leg_low i fits;
      leg_high = bounds.leg_high i fits;
      offset = omega arith;
      start = bounds.reach axis i on (omega (arith, few_legs));
      end = bounds.reach axis (end_of s i) on h;
      start_bend = within_size (2 ^ 37) (bend_of s list axis i) (or_left _ _ within);
      end_bend = within_size (2 ^ 37) (bend_of s list axis (end_of s i)) (or_right (beyond (bend_of s list axis i)) _ within);
    }
